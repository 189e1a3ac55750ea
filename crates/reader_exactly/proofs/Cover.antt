-- Splitting refuses with 6, 7 and 8 as the numbers of starts and ends say. Assumes nothing.
use Rattle.lists.proofs.Prelude.{ℕ, zero, suc, ◌+◌, ◌≤◌, ◌<◌, max, ◌≡◌, refl, ap, false, ◌⊎◌, inl, inr, ⊎_elim, List, [], ◌∷◌, reverse, arith, take}
use Rattle.lexer.specs.Token.{Tok, start, end, node, prop}
use Rattle.tables.specs.declared.Reason.TheVariants.{UnexpectedGameTreeEnd, UnexpectedEndOfData, NoGameTrees}
use Rattle.parser.specs.Split.{Splitting, splitting, over, wrong, split, no, deep, sliced, split_by_gametree}
use Rattle.parser.proofs.Surveys.{wrong_stays}
use Rattle.parser.specs.Balance.{starts, ends, Covered, Balanced}
use Rattle.parser.proofs.Balanced.{Comes, comes}
use Rattle.parser.proofs.Cuts.{standing, deepest, Right}
use Rattle.reader_exactly.specs.Slicing.{Uncovered}
use Rattle.reader_exactly.specs.When.{Unclosed, Bare}

-- some prefix has more ends than starts, or none has
pub cover-or : (ts : List Tok) (d : ℕ) → Uncovered d ts ⊎ Covered d ts
cover-or [] d = inr (λ k. bare k)
  where
    bare : (k : ℕ) → ends (take k []) ≤ d + starts (take k [])
    bare zero = omega arith
    bare (suc k) = omega arith
cover-or (start o ∷ ts) d = ⊎_elim (λ u. inl (suc u.0, omega (arith, u.1))) (λ c. inr (more c)) (cover-or ts (suc d))
  where
    more : Covered (suc d) ts → Covered d (start o ∷ ts)
    more c zero = omega arith
    more c (suc k) = omega (arith, c k)
cover-or (end o ∷ ts) zero = inl (1, omega arith)
cover-or (end o ∷ ts) (suc d) = ⊎_elim (λ u. inl (suc u.0, omega (arith, u.1))) (λ c. inr (more c)) (cover-or ts d)
  where
    more : Covered d ts → Covered (suc d) (end o ∷ ts)
    more c zero = omega arith
    more c (suc k) = omega (arith, c k)
cover-or (node o ∷ ts) d = ⊎_elim (λ u. inl (suc u.0, u.1)) (λ c. inr (more c)) (cover-or ts d)
  where
    more : Covered d ts → Covered d (node o ∷ ts)
    more c zero = omega arith
    more c (suc k) = c k
cover-or (prop p e ∷ ts) d = ⊎_elim (λ u. inl (suc u.0, u.1)) (λ c. inr (more c)) (cover-or ts d)
  where
    more : Covered d ts → Covered d (prop p e ∷ ts)
    more c zero = omega arith
    more c (suc k) = c k

-- ---- 6

six : (ts : List Tok) (d m : ℕ) (cur : List Tok) (ss : List (List Tok)) (k : ℕ) → d + starts (take k ts) < ends (take k ts)
    → split false (splitting d m cur ss) ts ≡ wrong UnexpectedGameTreeEnd
six ts d m cur ss zero h = absurd (omega arith)
six [] d m cur ss (suc k) h = absurd (omega arith)
six (start o ∷ ts) d m cur ss (suc k) h = six ts (suc d) (max m (suc d)) (start o ∷ cur) ss k (omega arith)
six (end o ∷ ts) zero m cur ss (suc k) h = wrong_stays false UnexpectedGameTreeEnd ts
six (end o ∷ ts) (suc zero) m cur ss (suc k) h = six ts 0 m [] (reverse (end o ∷ cur) ∷ ss) k (omega arith)
six (end o ∷ ts) (suc (suc d)) m cur ss (suc k) h = six ts (suc d) m (end o ∷ cur) ss k (omega arith)
six (node o ∷ ts) d m cur ss (suc k) h = six ts d m (node o ∷ cur) ss k h
six (prop p e ∷ ts) d m cur ss (suc k) h = six ts d m (prop p e ∷ cur) ss k h

pub uncovered-six : (ts : List Tok) → Uncovered 0 ts → split_by_gametree false ts ≡ no UnexpectedGameTreeEnd
uncovered-six ts u = ap (sliced false) (six ts 0 0 [] [] u.0 u.1)

-- ---- 7

seven : (e s : ℕ) (x : Splitting) → Comes e s 0 0 x → (s ≡ e → ⊥) → sliced false x ≡ no UnexpectedEndOfData
seven e s (splitting zero m cur ss) (a, b, c, h) n = absurd (n (omega (arith, a)))
seven e s (splitting (suc d) m cur ss) c n = refl
seven e s (over m ss) c n = absurd c
seven e s (wrong r) c n = absurd c

pub unclosed-seven : (ts : List Tok) → Unclosed ts → split_by_gametree false ts ≡ no UnexpectedEndOfData
unclosed-seven ts u = seven (ends ts) (starts ts) (split false (splitting 0 0 [] []) ts) (comes ts 0 0 [] [] u.covered) u.differ

-- ---- 8

ends-take : (ts : List Tok) (k : ℕ) → ends (take k ts) ≤ ends ts
ends-take ts zero = omega arith
ends-take [] (suc k) = omega arith
ends-take (start o ∷ ts) (suc k) = ends-take ts k
ends-take (end o ∷ ts) (suc k) = omega (arith, ends-take ts k)
ends-take (node o ∷ ts) (suc k) = ends-take ts k
ends-take (prop p e ∷ ts) (suc k) = ends-take ts k

eight : (e s : ℕ) (x : Splitting) → Comes e s 0 0 x → s ≡ 0 → e ≡ 0 → sliced false x ≡ no NoGameTrees
eight e s (splitting zero m cur []) c p q = refl
eight e s (splitting zero m cur (u ∷ us)) (a, b, c, h) p q = absurd (omega (arith, c, q))
eight e s (splitting (suc d) m cur ss) (a, b, c, h) p q = absurd (omega (arith, a, p))
eight e s (over m ss) c p q = absurd c
eight e s (wrong r) c p q = absurd c

pub bare-eight : (ts : List Tok) → Bare ts → split_by_gametree false ts ≡ no NoGameTrees
bare-eight ts b =
    eight (ends ts) (starts ts) (split false (splitting 0 0 [] []) ts)
    (comes ts 0 0 [] [] (λ k. omega (arith, ends-take ts k, b.no_end))) b.no_start b.no_end

-- ---- and otherwise none of the three

fill : (e s : ℕ) (x : Splitting) → Comes e s 0 0 x → s ≡ e → 0 < e → Right x × (sliced false x ≡ deep (deepest x) (reverse (standing x)))
fill e s (splitting zero m cur []) (a, b, c, h) q p = absurd (omega (arith, h refl (omega (arith, q, p))))
fill e s (splitting zero m cur (u ∷ us)) c q p = (tt, refl)
fill e s (splitting (suc d) m cur ss) (a, b, c, h) q p = absurd (omega (arith, a, q))
fill e s (over m ss) c q p = absurd c
fill e s (wrong r) c q p = absurd c

pub balanced-filled : (ts : List Tok) → Balanced ts
    → Right (split false (splitting 0 0 [] []) ts)
    × (split_by_gametree false ts ≡ deep (deepest (split false (splitting 0 0 [] []) ts)) (reverse (standing (split false (splitting 0 0 [] []) ts))))
balanced-filled ts b = fill (ends ts) (starts ts) (split false (splitting 0 0 [] []) ts) (comes ts 0 0 [] [] b.covered) b.equal b.some
