-- Splitting that is accepted and the slices, and a text and its tokens: what is to blame there. Assumes nothing.
use Rattle.lists.proofs.Prelude.{ℕ, zero, suc, ◌≤◌, ◌<◌, ◌≡◌, refl, sym, ap, ◌∙◌, subst, Bool, true, false, false≢true, List, [], ◌∷◌, reverse, arith, length, ltb, ltb-false, lt-ltb, le-ltb, pick}
use Rattle.lists.specs.All.{All}
use Rattle.lists.proofs.Tests.{never}
use Rattle.text_utf8.specs.Trim.{trimmed}
use Rattle.text_utf8.specs.declared.Trimmed.{Trimmed}
use Rattle.lexer.specs.Token.{Tok, End, done, broken, Lexed, lex_at}
use Rattle.tables.specs.Numbers.{text_limit, depth_limit}
use Rattle.tables.specs.declared.Reason.TheVariants.{TooDeep as too_deep}
use Rattle.parser.specs.Split.{Splitting, splitting, over, wrong, split, no, slices, deep, sliced, split_by_gametree}
use Rattle.parser.specs.LocalsSlice.{rest_from, first_slices, Shallow}
use Rattle.parser.proofs.Cuts.{standing, deepest, Right, cut-first, deep-first, split-cut}
use Rattle.parser.proofs.Tokens.{tokens-few}
use Rattle.reader.specs.LocalsSlices.{SlicesReady}
use Rattle.why_blame.specs.Cuts.{deep_at, loose, cut_deep, cutting, cut_tokens, tokens_cut}
use Rattle.why_blame.specs.declared.Fact.{Fact}
use Rattle.why_blame.specs.declared.Fact.TheVariants.{TooDeep, Length}
use Rattle.why.specs.Trees.{slices_blame}
use Rattle.why.specs.Why.{accepted_slices, cut_blame, tokens_blame, trim_blame, text_blame, cut_loose}
use Rattle.why.specs.LocalsSought.{sought_by}
use Rattle.why.specs.declared.Sought.TheVariants.{Sound, Wrong as wrongly}
use Rattle.std.specs.Prelude.{Option, Some, Result, Ok, Err}
use Rattle.tables.specs.Refusals.{refusal}
use Rattle.tables.specs.declared.Refusal.{Refusal}
use Rattle.lists.proofs.Parts.{ok-two}

-- ---- the slices

-- the state after the last token
abbrev Ends : ℕ → Splitting → Type 0
Ends k x = Right x × (deepest x ≤ depth_limit) × (accepted_slices (sliced false x) ≡ reverse (standing x)) × (length (reverse (standing x)) ≡ k)

ends-deep : (n : ℕ) (l : Lexed) (m k q : ℕ) (us : List (List Tok)) → cut_deep false n l m us ≡ Ok (k, q) → (m ≤ depth_limit) × (accepted_slices (deep m us) ≡ us) × (length us ≡ k)
ends-deep n l m k q us e = go (ltb depth_limit m) refl e
  where
    go : (b : Bool) → ltb depth_limit m ≡ b → pick {A = Result (ℕ × ℕ) (Refusal Fact)} b (Err (refusal TooDeep (deep_at false l.toks))) (Ok (length us, loose n us l)) ≡ Ok (k, q)
        → (m ≤ depth_limit) × (accepted_slices (pick b (no too_deep) (slices us)) ≡ us) × (length us ≡ k)
    go true h w = never cc
    go false h w = let c : length us ≡ k = (ok-two w).0 in (ltb-false depth_limit m h, refl, c)

ends-well : (n : ℕ) (l : Lexed) (k q : ℕ) (x : Splitting) → cutting false n l x ≡ Ok (k, q) → Ends k x
ends-well n l k q (splitting zero m cur []) e = never cc
ends-well n l k q (splitting zero m cur (s ∷ ss)) e = let w = ends-deep n l m k q (reverse (s ∷ ss)) e in (tt, w.0, w.1, w.2)
ends-well n l k q (splitting (suc d) m cur ss) e = never cc
ends-well n l k q (over m []) e = never cc
ends-well n l k q (over m (s ∷ ss)) e = let w = ends-deep n l m k q (reverse (s ∷ ss)) e in (tt, w.0, w.1, w.2)
ends-well n l k q (wrong r) e = never cc

cut-length : (j : ℕ) (ts : List Tok) → length (first_slices j ts) ≡ j
unfolding first_slices
cut-length zero ts = refl
cut-length (suc j) ts = ap suc (cut-length j (rest_from 0 ts))

-- what is known of k slices
pub record CutInto (ts : List Tok) (k : ℕ) : Type 0 where
  pub are : accepted_slices (split_by_gametree false ts) ≡ first_slices k ts
  pub shallow : All (Shallow 0) (first_slices k ts)
  pub bound : k ≤ length ts

pub cut-into : (n : ℕ) (l : Lexed) (k q : ℕ) → cut_tokens false n l ≡ Ok (k, q) → CutInto l.toks k
cut-into n l k q e =
    let ts = l.toks in
    let w = ends-well n l k q (split false (splitting 0 0 [] []) l.toks) e in
    let c = split-cut false l.toks 0 0 [] [] (omega arith) w.0 in
    let r : reverse (standing (split false (splitting 0 0 [] []) l.toks)) ≡ first_slices c.more l.toks = c.are ∙ cut-first c.more l.toks in
    let z : c.more ≡ k = sym (cut-length c.more l.toks) ∙ ap length (sym r) ∙ w.3 in
    let f = c.bound in
    record {
      are = w.2 ∙ r ∙ ap (λ (y : ℕ). first_slices y l.toks) z;
      shallow = subst (λ (y : ℕ). All (Shallow 0) (first_slices y l.toks)) z (deep-first c.more l.toks (c.shallow w.1));
      bound = omega arith;
    }

-- ---- the tokens

-- strict splitting that is accepted has met no fault
cut-calm : (n : ℕ) (u : List ℕ) (l : Lexed) (e : End) {k q : ℕ} → tokens_cut false n u l e ≡ Ok (k, q) → (e ≡ done) × (cut_tokens false n l ≡ Ok (k, q))
cut-calm n u l done h = (refl, h)
cut-calm n u l (broken f s) h = never cc

tokens-cut : (len : Bool) (n : ℕ) (u : List ℕ) (l : Lexed) (e : End) → tokens_blame len n u l e ≡ cut_blame len l.toks (tokens_cut len n u l e)
tokens-cut true n u l e = refl
tokens-cut false n u l done = refl
tokens-cut false n u l (broken f s) = refl

-- splitting is refused
pub sought-wrong : (len : Bool) (n : ℕ) (u : List ℕ) (l : Lexed) (e : End) (o : ℕ) {x : Result (ℕ × ℕ) (Refusal Fact)} {f : Fact} {p : ℕ} → x ≡ tokens_cut len n u l e → x ≡ Err (refusal f p) → wrongly f p ≡ sought_by (tokens_blame len n u l e) o
sought-wrong len n u l e o h g = ap (λ (c : Result (ℕ × ℕ) (Refusal Fact)). sought_by (cut_blame len l.toks c) o) (sym g ∙ h) ∙ ap (λ (b : Option (Refusal Fact)). sought_by b o) (sym (tokens-cut len n u l e))

-- it is accepted, leniently
pub sought-lenient : (len : Bool) (n : ℕ) (u : List ℕ) (l : Lexed) (e : End) {x : Result (ℕ × ℕ) (Refusal Fact)} {k q : ℕ} → len ≡ true → x ≡ tokens_cut len n u l e → x ≡ Ok (k, q)
    → Sound q ≡ sought_by (tokens_blame len n u l e) (cut_loose n (cut_tokens len n l))
sought-lenient true n u l e b h g = ap (λ (c : Result (ℕ × ℕ) (Refusal Fact)). sought_by (cut_blame true l.toks c) (cut_loose n c)) (sym g ∙ h)
sought-lenient false n u l e b h g = absurd (false≢true b)

-- it is accepted, strictly
module _ (len : Bool) (u : List ℕ) (from n : ℕ) {x : Result (ℕ × ℕ) (Refusal Fact)} {k q : ℕ} (b : len ≡ false) (h : x ≡ tokens_cut len n u (lex_at u from) (lex_at u from).end) (g : x ≡ Ok (k, q)) where
  abbrev L : Lexed
  L = lex_at u from

  calm : (L.end ≡ done) × (cut_tokens false n L ≡ Ok (k, q))
  calm = cut-calm n u L L.end (ap (λ (z : Bool). tokens_cut z n u L L.end) (sym b) ∙ sym h ∙ g)

  into : CutInto L.toks k
  into = cut-into n L k q calm.1

  pub slices-ready : length u ≤ text_limit → from ≤ length u → SlicesReady false u from k
  slices-ready s i = let c = into.bound in record { short = s; inside = i; bound = omega (arith, tokens-few u from); shallow = into.shallow; faultless = λ z. calm.0 }

  pub sought-slices : {y z : Option (Refusal Fact)} → y ≡ slices_blame 0 0 (first_slices k L.toks) → y ≡ z → sought_by z q ≡ sought_by (tokens_blame len n u L L.end) (cut_loose n (cut_tokens len n L))
  sought-slices e d =
      ap (λ (z : Option (Refusal Fact)). sought_by z q) (sym d ∙ e ∙ ap (slices_blame 0 0) (sym into.are))
      ∙ ap (λ (c : Result (ℕ × ℕ) (Refusal Fact)). sought_by (cut_blame false L.toks c) (cut_loose n c)) (sym calm.1)
      ∙ ap (λ (z : End). sought_by (tokens_blame false n u L z) (cut_loose n (cut_tokens false n L))) (sym calm.0)
      ∙ ap (λ (z : Bool). sought_by (tokens_blame z n u L L.end) (cut_loose n (cut_tokens z n L))) (sym b)

-- ---- the text

module _ (len : Bool) (t : List ℕ) where
  pub text-long : text_limit < length t → text_blame len t ≡ Some (refusal (Length (length t)) 0)
  text-long h = ap (λ (b : Bool). pick b (Some (refusal (Length (length t)) 0)) (trim_blame len t (trimmed t))) (lt-ltb text_limit (length t) h)

  pub text-short : length t ≤ text_limit → {x : Trimmed} → trimmed t ≡ x → text_blame len t ≡ trim_blame len t x
  text-short h e = ap (λ (b : Bool). pick b (Some (refusal (Length (length t)) 0)) (trim_blame len t (trimmed t))) (le-ltb text_limit (length t) h) ∙ ap (trim_blame len t) e
