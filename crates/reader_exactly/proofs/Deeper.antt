-- Splitting's greatest depth is that of a token of a slice: tokens behind the last slice go no deeper. Strict and lenient alike. Assumes nothing.
use Rattle.lists.proofs.Prelude.{ℕ, zero, suc, ◌≤◌, ◌<◌, max, ◌≡◌, refl, ap, subst, Bool, true, false, ◌⊎◌, inl, inr, ⊎_elim, List, [], ◌∷◌, reverse, arith, lt_of_not-le}
use native.Mathlib.Decide.{dec_le}
use Rattle.lists.proofs.Tests.{never}
use Rattle.lexer.specs.Token.{Prop, Tok, start, end, node, prop}
use Rattle.tables.specs.Numbers.{depth_limit}
use Rattle.tables.specs.declared.Reason.TheVariants.{UnexpectedGameTreeEnd}
use Rattle.parser.specs.Split.{splitting, split}
use Rattle.parser.proofs.Surveys.{wrong_stays, over-stays}
use Rattle.parser.proofs.Cuts.{deepest, Right}
use Rattle.reader_exactly.specs.Slicing.{Iff, Any, onto, slices_from, Deep}

-- of slices, the first of which is at depth d
abbrev DeepFrom : ℕ → List (List Tok) → Type 0
DeepFrom d [] = ⊥
DeepFrom d (s ∷ ss) = Deep d s ⊎ Any (Deep 0) ss

any-from : (ss : List (List Tok)) → (DeepFrom 0 ss → Any (Deep 0) ss) × (Any (Deep 0) ss → DeepFrom 0 ss)
any-from [] = ((λ h. h), λ h. h)
any-from (s ∷ ss) = ((λ h. h), λ h. h)

-- a token more: a deep prefix behind it, or the depth before it is too great
module _ (t : Tok) (d e : ℕ) (on : (s : List Tok) → Deep e s → Deep d (t ∷ s)) (off : (s : List Tok) → Deep d (t ∷ s) → Deep e s ⊎ (depth_limit < d)) where
  from_on : (ss : List (List Tok)) → DeepFrom e ss → DeepFrom d (onto t ss)
  from_on [] h = h
  from_on (s ∷ ss) h = ⊎_elim (λ x. inl (on s x)) (λ x. inr x) h

  from-off : (ss : List (List Tok)) → DeepFrom d (onto t ss) → DeepFrom e ss ⊎ (depth_limit < d)
  from-off [] h = absurd h
  from-off (s ∷ ss) h = ⊎_elim (λ x. ⊎_elim (λ y. inl (inl y)) (λ y. inr y) (off s x)) (λ x. inl (inr x)) h

start-on : (o d : ℕ) (s : List Tok) → Deep (suc d) s → Deep d (start o ∷ s)
start-on o d s (k, h) = (suc k, omega (arith, h))

start-off : (o d : ℕ) (s : List Tok) → Deep d (start o ∷ s) → Deep (suc d) s ⊎ (depth_limit < d)
start-off o d s (zero, h) = inr (omega (arith, h))
start-off o d s (suc k, h) = inl (k, omega (arith, h))

end_on : (o d : ℕ) (s : List Tok) → Deep (suc d) s → Deep (suc (suc d)) (end o ∷ s)
end_on o d s (k, h) = (suc k, omega (arith, h))

end-off : (o d : ℕ) (s : List Tok) → Deep (suc (suc d)) (end o ∷ s) → Deep (suc d) s ⊎ (depth_limit < suc (suc d))
end-off o d s (zero, h) = inr (omega (arith, h))
end-off o d s (suc k, h) = inl (k, omega (arith, h))

node-off : (o d : ℕ) (s : List Tok) → Deep d (node o ∷ s) → Deep d s ⊎ (depth_limit < d)
node-off o d s (zero, h) = inr (omega (arith, h))
node-off o d s (suc k, h) = inl (k, h)

prop-off : (p : Prop) (e d : ℕ) (s : List Tok) → Deep d (prop p e ∷ s) → Deep d s ⊎ (depth_limit < d)
prop-off p e d s (zero, h) = inr (omega (arith, h))
prop-off p e d s (suc k, h) = inl (k, h)

onto-some : (t : Tok) (ss : List (List Tok)) → (ss ≡ [] → ⊥) → onto t ss ≡ [] → ⊥
onto-some t [] n e = n refl
onto-some t (s ∷ ss) n e = never cc

-- an open slice is a slice
slice-open : (ts : List Tok) (d : ℕ) → slices_from (suc d) ts ≡ [] → ⊥
unfolding slices_from
slice-open [] d e = never cc
slice-open (start o ∷ ts) d e = onto-some (start o) (slices_from (suc (suc d)) ts) (slice-open ts (suc d)) e
slice-open (end o ∷ ts) zero e = never cc
slice-open (end o ∷ ts) (suc d) e = onto-some (end o) (slices_from (suc d) ts) (slice-open ts d) e
slice-open (node o ∷ ts) d e = onto-some (node o) (slices_from (suc d) ts) (slice-open ts d) e
slice-open (prop p q ∷ ts) d e = onto-some (prop p q) (slices_from (suc d) ts) (slice-open ts d) e

-- a start that goes too deep, in its slice
start-deep : (o d : ℕ) (ss : List (List Tok)) → (ss ≡ [] → ⊥) → depth_limit < suc d → DeepFrom d (onto (start o) ss)
start-deep o d [] n h = absurd (n refl)
start-deep o d (s ∷ ss) n h = inl (1, omega (arith, h))

-- too deep at last: a token of a slice is
over-deep : (len : Bool) (ts : List Tok) (d m : ℕ) (cur : List Tok) (ss : List (List Tok)) → Right (split len (splitting d m cur ss) ts) → m ≤ depth_limit
    → depth_limit < deepest (split len (splitting d m cur ss) ts) → DeepFrom d (slices_from d ts)
unfolding slices_from
over-deep len [] zero m cur ss r l h = absurd (omega arith)
over-deep len [] (suc d) m cur ss r l h = absurd (omega arith)
over-deep len (start o ∷ ts) d m cur ss r l h =
    elim (dec_le (suc d) depth_limit) [
      | yes q ↦ from_on (start o) d (suc d) (start-on o d) (start-off o d) (slices_from (suc d) ts) (over-deep len ts (suc d) (max m (suc d)) (start o ∷ cur) ss r (omega arith) h)
      | no q ↦ start-deep o d (slices_from (suc d) ts) (slice-open ts d) (lt_of_not-le q)
    ]
over-deep true (end o ∷ ts) zero m cur ss r l h = let e = ap deepest (over-stays true m ss ts) in absurd (omega arith)
over-deep false (end o ∷ ts) zero m cur ss r l h = absurd (subst Right (wrong_stays false UnexpectedGameTreeEnd ts) r)
over-deep len (end o ∷ ts) (suc zero) m cur ss r l h = inr ((any-from (slices_from 0 ts)).0 (over-deep len ts 0 m [] (reverse (end o ∷ cur) ∷ ss) r l h))
over-deep len (end o ∷ ts) (suc (suc d)) m cur ss r l h =
    from_on (end o) (suc (suc d)) (suc d) (end_on o d) (end-off o d) (slices_from (suc d) ts) (over-deep len ts (suc d) m (end o ∷ cur) ss r l h)
over-deep len (node o ∷ ts) d m cur ss r l h =
    from_on (node o) d d (λ s x. (suc x.0, x.1)) (node-off o d) (slices_from d ts) (over-deep len ts d m (node o ∷ cur) ss r l h)
over-deep len (prop p e ∷ ts) d m cur ss r l h =
    from_on (prop p e) d d (λ s x. (suc x.0, x.1)) (prop-off p e d) (slices_from d ts) (over-deep len ts d m (prop p e ∷ cur) ss r l h)

-- the greatest depth does not fall
low : (len : Bool) (ts : List Tok) (d m : ℕ) (cur : List Tok) (ss : List (List Tok)) → Right (split len (splitting d m cur ss) ts) → m ≤ deepest (split len (splitting d m cur ss) ts)
low len [] d m cur ss r = omega arith
low len (start o ∷ ts) d m cur ss r = omega (arith, low len ts (suc d) (max m (suc d)) (start o ∷ cur) ss r)
low true (end o ∷ ts) zero m cur ss r = omega (arith, ap deepest (over-stays true m ss ts))
low false (end o ∷ ts) zero m cur ss r = absurd (subst Right (wrong_stays false UnexpectedGameTreeEnd ts) r)
low len (end o ∷ ts) (suc zero) m cur ss r = low len ts 0 m [] (reverse (end o ∷ cur) ∷ ss) r
low len (end o ∷ ts) (suc (suc d)) m cur ss r = low len ts (suc d) m (end o ∷ cur) ss r
low len (node o ∷ ts) d m cur ss r = low len ts d m (node o ∷ cur) ss r
low len (prop p e ∷ ts) d m cur ss r = low len ts d m (prop p e ∷ cur) ss r

bare-deep : (d m : ℕ) → suc d ≤ m → Deep (suc d) [] → depth_limit < m
bare-deep d m l (zero, h) = omega (arith, h)
bare-deep d m l (suc k, h) = omega (arith, h)

end-deep : (o : ℕ) → Deep 1 (end o ∷ []) → ⊥
end-deep o (zero, h) = omega (arith, h)
end-deep o (suc zero, h) = omega (arith, h)
end-deep o (suc (suc k), h) = omega (arith, h)

-- a token of a slice is too deep: so it is at last
deep-over : (len : Bool) (ts : List Tok) (d m : ℕ) (cur : List Tok) (ss : List (List Tok)) → d ≤ m → Right (split len (splitting d m cur ss) ts)
    → DeepFrom d (slices_from d ts) → depth_limit < deepest (split len (splitting d m cur ss) ts)
unfolding slices_from
deep-over len [] zero m cur ss l r h = absurd h
deep-over len [] (suc d) m cur ss l r h = ⊎_elim (λ x. bare-deep d m l x) (λ x. absurd x) h
deep-over len (start o ∷ ts) d m cur ss l r h =
    ⊎_elim (λ x. deep-over len ts (suc d) (max m (suc d)) (start o ∷ cur) ss (omega arith) r x)
    (λ x. omega (arith, x, low len ts (suc d) (max m (suc d)) (start o ∷ cur) ss r))
    (from-off (start o) d (suc d) (start-on o d) (start-off o d) (slices_from (suc d) ts) h)
deep-over len (end o ∷ ts) zero m cur ss l r h = absurd h
deep-over len (end o ∷ ts) (suc zero) m cur ss l r h =
    ⊎_elim (λ x. absurd (end-deep o x)) (λ x. deep-over len ts 0 m [] (reverse (end o ∷ cur) ∷ ss) (omega arith) r ((any-from (slices_from 0 ts)).1 x)) h
deep-over len (end o ∷ ts) (suc (suc d)) m cur ss l r h =
    ⊎_elim (λ x. deep-over len ts (suc d) m (end o ∷ cur) ss (omega arith) r x) (λ x. omega (arith, x, low len ts (suc d) m (end o ∷ cur) ss r))
    (from-off (end o) (suc (suc d)) (suc d) (end_on o d) (end-off o d) (slices_from (suc d) ts) h)
deep-over len (node o ∷ ts) d m cur ss l r h =
    ⊎_elim (λ x. deep-over len ts d m (node o ∷ cur) ss l r x) (λ x. omega (arith, x, low len ts d m (node o ∷ cur) ss r))
    (from-off (node o) d d (λ s x. (suc x.0, x.1)) (node-off o d) (slices_from d ts) h)
deep-over len (prop p e ∷ ts) d m cur ss l r h =
    ⊎_elim (λ x. deep-over len ts d m (prop p e ∷ cur) ss l r x) (λ x. omega (arith, x, low len ts d m (prop p e ∷ cur) ss r))
    (from-off (prop p e) d d (λ s x. (suc x.0, x.1)) (prop-off p e d) (slices_from d ts) h)

-- the greatest depth of all tokens is too great exactly when some token of a slice is too deep
pub deep-exactly : (len : Bool) (ts : List Tok) → Right (split len (splitting 0 0 [] []) ts)
    → Iff (depth_limit < deepest (split len (splitting 0 0 [] []) ts)) (Any (Deep 0) (slices_from 0 ts))
deep-exactly len ts r =
    ((λ h. (any-from (slices_from 0 ts)).0 (over-deep len ts 0 0 [] [] r (omega arith) h)), λ h. deep-over len ts 0 0 [] [] (omega arith) r ((any-from (slices_from 0 ts)).1 h))
