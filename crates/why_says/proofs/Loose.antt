-- Where reading of an accepted text ended: at the first token behind the slices, or with the text. Assumes nothing.
use Rattle.lists.proofs.Prelude.{ℕ, zero, suc, ◌+◌, ◌≡◌, refl, sym, ap, ◌∙◌, subst, Bool, true, false, List, [], ◌∷◌, ◌++◌, append_assoc, reverse, arith, length, take, drop, drop-append-add, ltb, pick}
use Rattle.lists.proofs.Tests.{never}
use Rattle.text_utf8.specs.Trim.{trimmed}
use Rattle.text_utf8.specs.declared.Trimmed.{Trimmed}
use Rattle.text_utf8.specs.declared.Trimmed.TheVariants.{NotUtf8, Blank, Kept}
use Rattle.lexer.specs.Token.{Tok, start, end, node, prop, End, done, broken, Lexed, lex_at}
use Rattle.tables.specs.Numbers.{text_limit, depth_limit}
use Rattle.tables.specs.Record.{Tree}
use Rattle.tables.specs.Rows.{tables, counts_of}
use Rattle.tables.specs.declared.Counts.{Counts}
use Rattle.parser.specs.Split.{Splitting, splitting, over, wrong, split}
use Rattle.parser.specs.Read.{Answer, refused, accepted, read}
use Rattle.parser.proofs.Cuts.{standing, Right}
use Rattle.reader.specs.Lent.{rows_counted}
use Rattle.reader_exactly.specs.Slicing.{Iff, onto, slices_from}
use Rattle.reader_exactly.specs.When.{tokens_in, tokens_of}
use Rattle.reader_exactly.proofs.Standing.{slices-are}
use Rattle.why_blame.specs.Cuts.{deep_at, sliced_tokens, first_place, loose, cut_deep, cut_slices, cutting, cut_tokens}
use Rattle.why_blame.specs.declared.Fact.TheVariants.{Length, TooDeep}
use Rattle.why.specs.Why.{cut_blame, tokens_blame, trim_blame, text_blame, cut_loose, trim_loose, explained_by, explained}
use Rattle.why.proofs.Trees.{Agree}
use Rattle.why.proofs.Agrees.{text-agrees}
use Rattle.why_grounds.proofs.Agrees.{why-accepted}
use Rattle.why_says.specs.Behind.{SlicesThen, RestAt, LooseAt}
use Rattle.why_says.proofs.Cuts.{token-at, at-token, begun}
use Rattle.std.specs.Prelude.{Option, Some, None, Result, Ok, Err}
use Rattle.tables.specs.Refusals.{refusal}
use Rattle.why_blame.specs.declared.Fact.{Fact}
use Rattle.tables.specs.declared.Refusal.{Refusal}
use Rattle.lists.proofs.Parts.{ok-two}

-- ---- slices are the first tokens, one after the other

abbrev Front : List Tok → List (List Tok) → Type 0
Front ts ss = (rest : List Tok) × (ts ≡ sliced_tokens ss ++ rest)

front-on : (t : Tok) (ts : List Tok) (ss : List (List Tok)) → Front ts ss → Front (t ∷ ts) (onto t ss)
front-on t ts [] h = (t ∷ ts, refl)
front-on t ts (s ∷ ss) h = (h.0, ap (λ (z : List Tok). t ∷ z) h.1)

slices-front : (ts : List Tok) (d : ℕ) → Front ts (slices_from d ts)
unfolding slices_from
slices-front [] zero = ([], refl)
slices-front [] (suc d) = ([], refl)
slices-front (start o ∷ ts) d = front-on (start o) ts (slices_from (suc d) ts) (slices-front ts (suc d))
slices-front (end o ∷ ts) zero = (end o ∷ ts, refl)
slices-front (end o ∷ ts) (suc zero) = let h = slices-front ts 0 in (h.0, ap (λ (z : List Tok). end o ∷ z) h.1)
slices-front (end o ∷ ts) (suc (suc d)) = front-on (end o) ts (slices_from (suc d) ts) (slices-front ts (suc d))
slices-front (node o ∷ ts) d = front-on (node o) ts (slices_from d ts) (slices-front ts d)
slices-front (prop p e ∷ ts) d = front-on (prop p e) ts (slices_from d ts) (slices-front ts d)

-- the same, slice by slice
then-sliced : (ss : List (List Tok)) (rest ts : List Tok) → SlicesThen ss rest ts → ts ≡ sliced_tokens ss ++ rest
then-sliced [] rest ts e = e
then-sliced (s ∷ ss) rest ts (more, e, h) = e ∙ ap (λ (z : List Tok). s ++ z) (then-sliced ss rest more h) ∙ sym (append_assoc s (sliced_tokens ss) rest)

sliced-then : (ss : List (List Tok)) (rest ts : List Tok) → ts ≡ sliced_tokens ss ++ rest → SlicesThen ss rest ts
sliced-then [] rest ts e = e
sliced-then (s ∷ ss) rest ts e = (sliced_tokens ss ++ rest, e ∙ append_assoc s (sliced_tokens ss) rest, sliced-then ss rest (sliced_tokens ss ++ rest) refl)

rest-place : (n : ℕ) (rest : List Tok) (e : End) {q : ℕ} → RestAt n rest e q → q ≡ first_place n rest e
rest-place n (t ∷ ts) e h = at-token t h
rest-place n [] (broken f s) h = h
rest-place n [] done h = h

place_rest : (n : ℕ) (rest : List Tok) (e : End) {q : ℕ} → q ≡ first_place n rest e → RestAt n rest e q
place_rest n (t ∷ ts) e h = token-at t h
place_rest n [] (broken f s) h = h
place_rest n [] done h = h

drop-front : (xs ys : List Tok) → drop (length xs) (xs ++ ys) ≡ ys
drop-front xs ys = let e : length xs ≡ length xs + 0 = omega arith in ap (λ (k : ℕ). drop k (xs ++ ys)) e ∙ drop-append-add xs ys 0

module _ (n : ℕ) (l : Lexed) where
  -- ---- splitting that gives slices

  abbrev Stands : Splitting → ℕ → Type 0
  Stands x q = Right x × (q ≡ loose n (reverse (standing x)) l)

  deep-stands : (len : Bool) (m : ℕ) (us : List (List Tok)) {k q : ℕ} → cut_deep len n l m us ≡ Ok (k, q) → q ≡ loose n us l
  deep-stands len m us {k} {q} e = go (ltb depth_limit m) e
    where
      go : (b : Bool) → pick {A = Result (ℕ × ℕ) (Refusal Fact)} b (Err (refusal TooDeep (deep_at len l.toks))) (Ok (length us, loose n us l)) ≡ Ok (k, q)
          → q ≡ loose n us l
      go true e = never cc
      go false e = sym (ok-two e).1

  slices-stand : (len : Bool) (m : ℕ) (ss : List (List Tok)) {k q : ℕ} → cut_slices len n l m ss ≡ Ok (k, q) → q ≡ loose n (reverse ss) l
  slices-stand true m [] e = sym (ok-two e).1
  slices-stand false m [] e = never cc
  slices-stand len m (s ∷ ss) e = deep-stands len m (reverse (s ∷ ss)) e

  cut_stands : (len : Bool) (x : Splitting) {k q : ℕ} → cutting len n l x ≡ Ok (k, q) → Stands x q
  cut_stands len (splitting zero m cur ss) e = (tt, slices-stand len m ss e)
  cut_stands true (splitting (suc d) m cur ss) e = (tt, deep-stands true m (reverse (reverse cur ∷ ss)) e)
  cut_stands false (splitting (suc d) m cur ss) e = never cc
  cut_stands len (over m ss) e = (tt, slices-stand len m ss e)
  cut_stands len (wrong r) e = never cc

  -- the rest behind the slices begins there
  cut-rest : (len : Bool) {k q : ℕ} → cut_tokens len n l ≡ Ok (k, q)
      → (rest : List Tok) × (l.toks ≡ sliced_tokens (slices_from 0 l.toks) ++ rest) × (q ≡ first_place n rest l.end)
  cut-rest len {k} {q} e =
      let x = cut_stands len (split len begun l.toks) e in
      let y = slices-front l.toks 0 in
      let ss = slices_from 0 l.toks in (
        y.0,
        y.1,
        x.1 ∙ ap (λ (z : List (List Tok)). loose n z l) (slices-are len l.toks x.0)
            ∙ ap (λ (z : List Tok). first_place n (drop (length (sliced_tokens ss)) z) l.end) y.1
            ∙ ap (λ (z : List Tok). first_place n z l.end) (drop-front (sliced_tokens ss) y.0),
      )

  -- ---- where nothing is blamed there are slices

  cut-unblamed : (len : Bool) (c : Result (ℕ × ℕ) (Refusal Fact)) → cut_blame len l.toks c ≡ None → (k : ℕ) × (c ≡ Ok (k, cut_loose n c))
  cut-unblamed len (Err r) e = never cc
  cut-unblamed len (Ok (k, q)) e = (k, refl)

  tokens-unblamed : (len : Bool) (u : List ℕ) (e : End) → tokens_blame len n u l e ≡ None
      → (k : ℕ) × (cut_tokens len n l ≡ Ok (k, cut_loose n (cut_tokens len n l)))
  tokens-unblamed true u e h = cut-unblamed true (cut_tokens true n l) h
  tokens-unblamed false u done h = cut-unblamed false (cut_tokens false n l) h
  tokens-unblamed false u (broken f s) h = never cc

module _ (len : Bool) (t : List ℕ) where
  trim-loose : (x : Trimmed) → trimmed t ≡ x → trim_blame len t x ≡ None → LooseAt t (trim_loose len t x)
  unfolding slices_from
  trim-loose (NotUtf8 p) k h = never cc
  trim-loose Blank k h =
      record {
        rest = [];
        are = sliced-then (slices_from 0 (tokens_of t).toks) [] (tokens_of t).toks
            (ap (λ (z : Trimmed). (tokens_in t z).toks) k ∙ sym (ap (λ (z : Trimmed). sliced_tokens (slices_from 0 (tokens_in t z).toks) ++ []) k));
        place = place_rest (length t) [] (tokens_of t).end (sym (ap (λ (z : Trimmed). first_place (length t) [] (tokens_in t z).end) k));
      }
  trim-loose (Kept a l) k h =
      let x = lex_at (take l t) a in
      let y = tokens-unblamed (length t) x len (take l t) x.end h in
      let z = cut-rest (length t) x len y.1 in
      let e : x ≡ tokens_of t = sym (ap (tokens_in t) k) in
      record {
        rest = z.0;
        are = sliced-then (slices_from 0 (tokens_of t).toks) z.0 (tokens_of t).toks (subst (λ (w : Lexed). w.toks ≡ sliced_tokens (slices_from 0 w.toks) ++ z.0) e z.1);
        place = place_rest (length t) z.0 (tokens_of t).end (z.2 ∙ ap (λ (w : Lexed). first_place (length t) z.0 w.end) e);
      }

  text-loose : text_blame len t ≡ None → LooseAt t (trim_loose len t (trimmed t))
  text-loose h = go (ltb text_limit (length t)) h
    where
      go : (b : Bool) → pick b (Some (refusal (Length (length t)) 0)) (trim_blame len t (trimmed t)) ≡ None → LooseAt t (trim_loose len t (trimmed t))
      go true e = never cc
      go false e = trim-loose (trimmed t) refl e

  -- the place of an accepted text is that of the first token in no slice
  pub why-loose : (c : Counts) (q : ℕ) → explained len t ≡ Ok (c, q) → LooseAt t q
  why-loose c q e = go (read len t) (text_blame len t) refl (text-agrees len t) e
    where
      go : (a : Answer) (b : Option (Refusal Fact)) → text_blame len t ≡ b → Agree a b
          → explained_by (rows_counted a) b (trim_loose len t (trimmed t)) ≡ Ok (c, q) → LooseAt t q
      go (refused r o) None w h x = absurd h
      go (refused r o) (Some e) w h x = never cc
      go (accepted ts) None w h x = let z : trim_loose len t (trimmed t) ≡ q = (ok-two x).1 in subst (LooseAt t) z (text-loose w)
      go (accepted ts) (Some e) w h x = absurd h

-- and there is no second such place
pub loose-once : (t : List ℕ) (p q : ℕ) → LooseAt t p → LooseAt t q → p ≡ q
loose-once t p q x y = place_is x ∙ ap (λ (z : List Tok). first_place (length t) z (tokens_of t).end) (rest-is x ∙ sym (rest-is y)) ∙ sym (place_is y)
  where
    place_is : {r : ℕ} (z : LooseAt t r) → r ≡ first_place (length t) z.rest (tokens_of t).end
    place_is z = rest-place (length t) z.rest (tokens_of t).end z.place

    rest-is : {r : ℕ} (z : LooseAt t r) → z.rest ≡ drop (length (sliced_tokens (slices_from 0 (tokens_of t).toks))) (tokens_of t).toks
    rest-is z =
        sym (ap (λ (w : List Tok). drop (length (sliced_tokens (slices_from 0 (tokens_of t).toks))) w)
        (then-sliced (slices_from 0 (tokens_of t).toks) z.rest (tokens_of t).toks z.are) ∙ drop-front (sliced_tokens (slices_from 0 (tokens_of t).toks)) z.rest)

-- a text is explained by counts and a place exactly when it is accepted with them, and that is the place
pub accepted-exactly : (len : Bool) (t : List ℕ) (c : Counts) (q : ℕ)
    → Iff (explained len t ≡ Ok (c, q)) ((ts : List Tree) × (read len t ≡ accepted ts) × (c ≡ counts_of (tables ts)) × LooseAt t q)
accepted-exactly len t c q = ((λ e. let x = why-accepted len t e in (x.0, x.1, x.2, why-loose len t c q e)), λ h. back h.0 h.1 h.2 h.3)
  where
    back : (ts : List Tree) → read len t ≡ accepted ts → c ≡ counts_of (tables ts) → LooseAt t q → explained len t ≡ Ok (c, q)
    back ts r k l =
        let y = trim_loose len t (trimmed t) in
        let e : explained len t ≡ Ok (counts_of (tables ts), y) = ap (λ (a : Answer). explained_by (rows_counted a) (text_blame len t) y) r in
        e ∙ ap (λ (z : Counts). Ok (z, y)) (sym k) ∙ ap (λ (z : ℕ). Ok (c, z)) (loose-once t y q (why-loose len t (counts_of (tables ts)) y e) l)
