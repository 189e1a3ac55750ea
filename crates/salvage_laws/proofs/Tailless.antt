-- Nothing stands behind the last tree of a writing. Assumes nothing.
use Rattle.lists.proofs.Prelude.{◌≡◌, refl, sym, ap, ◌∙◌, subst, subst⁻¹, ℕ, zero, suc, arith, Bool, true, false, List, [], ◌∷◌, map, reverse, length, take-length, drop, drop-length, ltb, pick}
use Rattle.lists.proofs.Tests.{never}
use Rattle.text_utf8.specs.Text.{Ink, inked, Utf, whole, blank, utfs}
use Rattle.lexer.specs.Token.{Tok, start, end, node, prop, lex_from}
use Rattle.tables.specs.Numbers.{depth_limit}
use Rattle.tables.specs.Record.{Tree}
use Rattle.tables.specs.declared.Reason.TheVariants.{TooDeep, UnexpectedGameTreeEnd}
use Rattle.parser.specs.Split.{Splitting, splitting, over, wrong, split, Slices, no, slices, filled, sliced, split_by_gametree}
use Rattle.parser.specs.Read.{accepted, read_strict, tokenize}
use Rattle.parser.proofs.Surveys.{wrong_stays}
use Rattle.reader_laws.proofs.Accepted.{Reading, reading-is}
use Rattle.serialize.specs.Branch.{trees_text}
use Rattle.serialize.specs.LocalsWrite.{write_trees}
use Rattle.serialize_laws.specs.Back.{placeless_tok, toks_of}
use Rattle.serialize_laws.proofs.Inked.{written-ink}
use Rattle.serialize_laws.proofs.ReadBack.{Form, walk-writes}
use Rattle.serialize_laws.proofs.Resplit.{split-trees}
use Rattle.serialize_laws.proofs.Written.{lex-written}
use Rattle.why_blame.specs.Cuts.{sliced_tokens}
use Rattle.why_blame.proofs.Held.{Held, held, sliced-reverse}
use Rattle.salvage_laws.specs.Tail.{AllSliced, NoTail}

-- ---- splitting sees no places

-- as deep, with as long a slice begun
abbrev Like : Splitting → Splitting → Type 0
Like (splitting d m cur ss) (splitting e n cur' ss') = (d ≡ e) × (length cur ≡ length cur')
Like (splitting d m cur ss) (over n ss') = ⊥
Like (splitting d m cur ss) (wrong r) = ⊥
Like (over m ss) y = ⊥
Like (wrong r) (splitting e n cur' ss') = ⊥
Like (wrong r) (over n ss') = ⊥
Like (wrong r) (wrong q) = Unit {0}

like-split : (ts : List Tok) (d m n : ℕ) (cur cur' : List Tok) (ss ss' : List (List Tok)) → length cur ≡ length cur'
    → Like (split false (splitting d m cur ss) ts) (split false (splitting d n cur' ss') (map placeless_tok ts))
like-split [] d m n cur cur' ss ss' e = (refl, e)
like-split (start o ∷ ts) d m n cur cur' ss ss' e = like-split ts (suc d) _ _ (start o ∷ cur) (placeless_tok (start o) ∷ cur') ss ss' (ap suc e)
like-split (end o ∷ ts) zero m n cur cur' ss ss' e =
    subst⁻¹ (λ (x : Splitting). Like x (split false (wrong UnexpectedGameTreeEnd) (map placeless_tok ts))) (wrong_stays false UnexpectedGameTreeEnd ts)
    (subst⁻¹ (λ (y : Splitting). Like (wrong UnexpectedGameTreeEnd) y) (wrong_stays false UnexpectedGameTreeEnd (map placeless_tok ts)) tt)
like-split (end o ∷ ts) (suc zero) m n cur cur' ss ss' e = like-split ts zero m n [] [] (reverse (end o ∷ cur) ∷ ss) (reverse (placeless_tok (end o) ∷ cur') ∷ ss') refl
like-split (end o ∷ ts) (suc (suc d)) m n cur cur' ss ss' e = like-split ts (suc d) m n (end o ∷ cur) (placeless_tok (end o) ∷ cur') ss ss' (ap suc e)
like-split (node o ∷ ts) d m n cur cur' ss ss' e = like-split ts d m n (node o ∷ cur) (placeless_tok (node o) ∷ cur') ss ss' (ap suc e)
like-split (prop p q ∷ ts) d m n cur cur' ss ss' e = like-split ts d m n (prop p q ∷ cur) (placeless_tok (prop p q) ∷ cur') ss ss' (ap suc e)

-- ---- nothing is left

filled-are : (m : ℕ) (us ss : List (List Tok)) → filled false m us ≡ slices ss → ss ≡ reverse us
filled-are m [] ss e = never cc
filled-are m (u ∷ us) ss e = go (ltb depth_limit m) e
  where
    go : (b : Bool) → pick b (no TooDeep) (slices (reverse (u ∷ us))) ≡ slices ss → ss ≡ reverse (u ∷ us)
    go true e = never cc
    go false e = let q : reverse (u ∷ us) ≡ ss = cc in sym q

all-sliced : (ts : List Tok) (x : Splitting) (ss : List (List Tok)) (m : ℕ) (us : List (List Tok)) → Held (length ts) x → Like x (splitting 0 m [] us) → sliced false x ≡ slices ss → drop (length (sliced_tokens ss)) ts ≡ []
all-sliced ts (splitting zero n cur vs) ss m us h l e =
    let c = l.1 in
    let q : length (sliced_tokens ss) ≡ length ts = ap (λ (z : List (List Tok)). length (sliced_tokens z)) (filled-are n vs ss e) ∙ sliced-reverse vs ∙ omega arith in
    ap (λ (k : ℕ). drop k ts) q ∙ drop-length ts
all-sliced ts (splitting (suc d) n cur vs) ss m us h l e = absurd (omega (arith, l.0))
all-sliced ts (over n vs) ss m us h l e = absurd l
all-sliced ts (wrong r) ss m us h l e = absurd l

no-tail : (t : List ℕ) (us : List Tree) → read_strict t ≡ accepted us → (k : Ink) → utfs (whole blank) 0 t ≡ whole k
    → {m : ℕ} {vs : List (List Tok)} → split false (splitting 0 0 [] []) (map placeless_tok (tokenize k t).toks) ≡ splitting 0 m [] vs → NoTail t
no-tail t us h k v {m} {vs} s =
    let r : Reading false t us = reading-is false t us h in
    let T : List Tok = (tokenize k t).toks in
    let i : whole r.ink ≡ whole k = sym r.valid ∙ v in
    let j : r.ink ≡ k = cc in
    let c = ap (λ (z : Ink). split_by_gametree false (tokenize z t).toks) (sym j) ∙ r.cuts in
    subst⁻¹ (λ (u : Utf). AllSliced (split_by_gametree false (toks_of u t)) (toks_of u t)) v
    (subst⁻¹ (λ (z : Slices). AllSliced z T) c
    (all-sliced T (split false (splitting 0 0 [] []) T) _ m vs (held false T 0 0 [] [] (length T) (omega arith))
    (subst (λ (y : Splitting). Like (split false (splitting 0 0 [] []) T) y) s (like-split T 0 0 0 [] [] [] [] refl)) c))

-- trees that can be written: their writing has no tail
pub written-no-tail : (ts us : List Tree) → Form ts → read_strict (trees_text ts) ≡ accepted us → NoTail (trees_text ts)
written-no-tail ts us f h =
    let W : List ℕ = write_trees ts in
    let w : W ≡ trees_text ts = walk-writes ts f in
    let l = lex-written (length W) ts f.plain in
    let x = split-trees ts 0 [] f.few in
    subst NoTail w
    (no-tail W us (ap read_strict w ∙ h) (inked 0 (length W)) (written-ink ts f.some f.plain f.valid)
    (ap (λ (z : List ℕ). split false (splitting 0 0 [] []) (map placeless_tok (lex_from 0 (length W) z).toks)) (take-length W)
    ∙ ap (split false (splitting 0 0 [] [])) l.1 ∙ x.1))
