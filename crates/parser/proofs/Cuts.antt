-- Splitting against slices cut off from the front, one token at a time, strict and lenient alike. Assumes nothing.
use Rattle.lists.proofs.Prelude.{ℕ, zero, suc, ◌+◌, ◌≤◌, max, ◌≡◌, refl, sym, ap, ◌∙◌, subst, Bool, true, false, List, [], ◌∷◌, ◌++◌, append_assoc, append-nil, reverse, reverse-cons, arith, length, pick}
use Rattle.lists.specs.All.{All}
use Rattle.lexer.specs.Token.{Tok, start, end, node, prop}
use Rattle.tables.specs.Numbers.{depth_limit}
use Rattle.tables.specs.declared.Reason.TheVariants.{UnexpectedGameTreeEnd}
use Rattle.parser.specs.Split.{Splitting, splitting, over, wrong, split}
use Rattle.parser.specs.LocalsSlice.{slice_from, rest_from, first_slices, Shallow}
use Rattle.parser.proofs.Surveys.{wrong_stays, over-stays}

-- the slices of a state, an open one with them (last first)
abbrev pub standing : Splitting → List (List Tok)
standing (splitting zero m cur ss) = ss
standing (splitting (suc d) m cur ss) = reverse cur ∷ ss
standing (over m ss) = ss
standing (wrong r) = []

abbrev pub deepest : Splitting → ℕ
deepest (splitting d m cur ss) = m
deepest (over m ss) = m
deepest (wrong r) = 0

abbrev pub Right : Splitting → Type 0
Right (splitting d m cur ss) = Unit {0}
Right (over m ss) = Unit {0}
Right (wrong r) = ⊥

-- the slices that the tokens complete, the first of which has begun with cur (last first) and is at depth d
abbrev pub cut_from : List Tok → ℕ → ℕ → List Tok → List (List Tok)
cut_from cur d zero ts = []
cut_from cur d (suc j) ts = (reverse cur ++ slice_from d ts) ∷ first_slices j (rest_from d ts)

abbrev pub ShallowFrom : ℕ → ℕ → List Tok → Type 0
ShallowFrom d zero ts = Unit {0}
ShallowFrom d (suc j) ts = Shallow d (slice_from d ts) × All (Shallow 0) (first_slices j (rest_from d ts))

pub record Cut (d m : ℕ) (cur : List Tok) (ss : List (List Tok)) (x : Splitting) (ts : List Tok) : Type 0 where
  pub more : ℕ
  pub are : reverse (standing x) ≡ reverse ss ++ cut_from cur d more ts
  pub bound : more ≤ length cur + length ts
  pub low : m ≤ deepest x
  pub shallow : deepest x ≤ depth_limit → ShallowFrom d more ts

pub shift : (t : Tok) (cur xs : List Tok) → reverse (t ∷ cur) ++ xs ≡ reverse cur ++ (t ∷ xs)
shift t cur xs = ap (λ (z : List Tok). z ++ xs) (reverse-cons t cur) ∙ append_assoc (reverse cur) (t ∷ []) xs

-- a token that ends no slice
cut_on : (t : Tok) (d m d' m' : ℕ) (cur : List Tok) (ss : List (List Tok)) (x : Splitting) (ts : List Tok)
    → slice_from d (t ∷ ts) ≡ t ∷ slice_from d' ts → rest_from d (t ∷ ts) ≡ rest_from d' ts → m ≤ m'
    → (m' ≤ depth_limit → Shallow d' (slice_from d' ts) → Shallow d (t ∷ slice_from d' ts))
    → Cut d' m' (t ∷ cur) ss x ts → Cut d m cur ss x (t ∷ ts)
cut_on t d m d' m' cur ss x ts es er le sh c =
    let f = c.bound in
    let l = c.low in
    record {
      more = c.more;
      are = c.are ∙ ap (λ (z : List (List Tok)). reverse ss ++ z) (go c.more);
      bound = omega arith;
      low = omega arith;
      shallow = λ h. deep-on c.more (omega arith) (c.shallow h);
    }
  where
    go : (j : ℕ) → cut_from (t ∷ cur) d' j ts ≡ cut_from cur d j (t ∷ ts)
    go zero = refl
    go (suc j) =
        ap (λ (z : List Tok). z ∷ first_slices j (rest_from d' ts)) (shift t cur (slice_from d' ts) ∙ ap (λ (z : List Tok). reverse cur ++ z) (sym es))
        ∙ ap (λ (z : List Tok). (reverse cur ++ slice_from d (t ∷ ts)) ∷ first_slices j z) (sym er)

    deep-on : (j : ℕ) → m' ≤ depth_limit → ShallowFrom d' j ts → ShallowFrom d j (t ∷ ts)
    deep-on zero h s = tt
    deep-on (suc j) h s =
        (subst (Shallow d) (sym es) (sh h s.0), subst (λ (z : List Tok). All (Shallow 0) (first_slices j z)) (sym er) s.1)

-- from depth 0 on, before the first token of a slice
pub cut-first : (j : ℕ) (ts : List Tok) → cut_from [] 0 j ts ≡ first_slices j ts
unfolding first_slices
cut-first zero ts = refl
cut-first (suc j) ts = refl

pub deep-first : (j : ℕ) (ts : List Tok) → ShallowFrom 0 j ts → All (Shallow 0) (first_slices j ts)
unfolding first_slices
deep-first zero ts h = tt
deep-first (suc j) ts h = h

-- an end that closes a slice
cut-slice : (o m : ℕ) (cur : List Tok) (ss : List (List Tok)) (x : Splitting) (ts : List Tok) → Cut 0 m [] (reverse (end o ∷ cur) ∷ ss) x ts → Cut 1 m cur ss x (end o ∷ ts)
unfolding slice_from rest_from Shallow
cut-slice o m cur ss x ts c =
    let f = c.bound in
    record {
      more = suc c.more;
      are = c.are ∙ go c.more;
      bound = omega arith;
      low = c.low;
      shallow = λ h. (tt, deep-first c.more ts (c.shallow h));
    }
  where
    go : (j : ℕ) → reverse (reverse (end o ∷ cur) ∷ ss) ++ cut_from [] 0 j ts ≡ reverse ss ++ cut_from cur 1 (suc j) (end o ∷ ts)
    go j =
        ap (λ (z : List (List Tok)). reverse (reverse (end o ∷ cur) ∷ ss) ++ z) (cut-first j ts)
        ∙ ap (λ (z : List (List Tok)). z ++ first_slices j ts) (reverse-cons (reverse (end o ∷ cur)) ss)
        ∙ append_assoc (reverse ss) (reverse (end o ∷ cur) ∷ []) (first_slices j ts)
        ∙ ap (λ (z : List Tok). reverse ss ++ (z ∷ first_slices j ts)) (reverse-cons (end o) cur)

-- no more slices come
cut-none : (d m : ℕ) (cur : List Tok) (ss : List (List Tok)) (x : Splitting) (ts : List Tok) → standing x ≡ ss → deepest x ≡ m → Cut d m cur ss x ts
cut-none d m cur ss x ts e q =
    record { more = 0; are = ap reverse e ∙ sym (append-nil (reverse ss)); bound = omega arith; low = omega arith; shallow = λ h. tt }

-- the last slice stays open
cut-open : (d m : ℕ) (cur : List Tok) (ss : List (List Tok)) → suc d ≤ length cur → Cut (suc d) m cur ss (splitting (suc d) m cur ss) []
unfolding slice_from rest_from first_slices Shallow
cut-open d m cur ss h =
    record {
      more = 1;
      are = reverse-cons (reverse cur) ss ∙ ap (λ (z : List Tok). reverse ss ++ (z ∷ [])) (sym (append-nil (reverse cur)));
      bound = omega arith;
      low = omega arith;
      shallow = λ h. (tt, tt);
    }

cut-over : (len : Bool) (o m : ℕ) (cur : List Tok) (ss : List (List Tok)) (ts : List Tok)
    → Right (split len (pick len (over m ss) (wrong UnexpectedGameTreeEnd)) ts) → Cut 0 m cur ss (split len (pick len (over m ss) (wrong UnexpectedGameTreeEnd)) ts) (end o ∷ ts)
cut-over true o m cur ss ts h =
    subst (λ (x : Splitting). Cut 0 m cur ss x (end o ∷ ts)) (sym (over-stays true m ss ts)) (cut-none 0 m cur ss (over m ss) (end o ∷ ts) refl refl)
cut-over false o m cur ss ts h = absurd (subst Right (wrong_stays false UnexpectedGameTreeEnd ts) h)

pub split-cut : (len : Bool) (ts : List Tok) (d m : ℕ) (cur : List Tok) (ss : List (List Tok)) → d ≤ length cur
    → Right (split len (splitting d m cur ss) ts) → Cut d m cur ss (split len (splitting d m cur ss) ts) ts
unfolding slice_from rest_from first_slices Shallow
split-cut len [] zero m cur ss b h = cut-none 0 m cur ss (splitting 0 m cur ss) [] refl refl
split-cut len [] (suc d) m cur ss b h = cut-open d m cur ss b
split-cut len (start o ∷ ts) d m cur ss b h =
    cut_on (start o) d m (suc d) (max m (suc d)) cur ss (split len (splitting (suc d) (max m (suc d)) (start o ∷ cur) ss) ts) ts refl refl (omega arith)
    (λ l s. (omega arith, s)) (split-cut len ts (suc d) (max m (suc d)) (start o ∷ cur) ss (omega arith) h)
split-cut len (end o ∷ ts) zero m cur ss b h = cut-over len o m cur ss ts h
split-cut len (end o ∷ ts) (suc zero) m cur ss b h =
    cut-slice o m cur ss (split len (splitting 0 m [] (reverse (end o ∷ cur) ∷ ss)) ts) ts (split-cut len ts 0 m [] (reverse (end o ∷ cur) ∷ ss) (omega arith) h)
split-cut len (end o ∷ ts) (suc (suc d)) m cur ss b h =
    cut_on (end o) (suc (suc d)) m (suc d) m cur ss (split len (splitting (suc d) m (end o ∷ cur) ss) ts) ts refl refl (omega arith)
    (λ l s. s) (split-cut len ts (suc d) m (end o ∷ cur) ss (omega arith) h)
split-cut len (node o ∷ ts) d m cur ss b h =
    cut_on (node o) d m d m cur ss (split len (splitting d m (node o ∷ cur) ss) ts) ts refl refl (omega arith)
    (λ l s. s) (split-cut len ts d m (node o ∷ cur) ss (omega arith) h)
split-cut len (prop p q ∷ ts) d m cur ss b h =
    cut_on (prop p q) d m d m cur ss (split len (splitting d m (prop p q ∷ cur) ss) ts) ts refl refl (omega arith)
    (λ l s. s) (split-cut len ts d m (prop p q ∷ cur) ss (omega arith) h)
