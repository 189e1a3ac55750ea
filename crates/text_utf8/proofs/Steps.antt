-- The machine over joined texts and after a bad byte; and the first byte of a character, all its ranges in one law. Assumes nothing.
use Rattle.lists.proofs.Prelude.{◌≡◌, refl, ℕ, suc, ◌+◌, arith, Bool, true, false, List, [], ◌∷◌, ◌++◌, leb, eqb, length}
use Rattle.lists.proofs.Tests.{never}
use Rattle.text_chars.specs.White.{within, white}
use Rattle.text_utf8.specs.Text.{Ink, mark, Range, Utf, whole, part, bad, first, utf, utfs}

-- the place after the bytes
abbrev pub place : ℕ → List ℕ → ℕ
place o [] = o
place o (b ∷ bs) = place (suc o) bs

pub place_is : (o : ℕ) (bs : List ℕ) → place o bs ≡ o + length bs
place_is o [] = omega arith
place_is o (b ∷ bs) = let h = place_is (suc o) bs in omega arith

pub place-append : (o : ℕ) (xs ys : List ℕ) → place o (xs ++ ys) ≡ place (place o xs) ys
place-append o [] ys = refl
place-append o (b ∷ xs) ys = place-append (suc o) xs ys

pub utfs-append : (u : Utf) (o : ℕ) (xs ys : List ℕ) → utfs u o (xs ++ ys) ≡ utfs (utfs u o xs) (place o xs) ys
utfs-append u o [] ys = refl
utfs-append u o (b ∷ xs) ys = utfs-append (utf u o b) (suc o) xs ys

pub utfs-bad : (p o : ℕ) (bs : List ℕ) → utfs (bad p) o bs ≡ bad p
utfs-bad p o [] = refl
utfs-bad p o (b ∷ bs) = utfs-bad p (suc o) bs

pub bad-whole : (p : ℕ) (k : Ink) {A : Type 0} → bad p ≡ whole k → A
bad-whole p k e = never cc

-- what holds of two machines between characters after a whole character, within one, and bad, holds of them after the same byte
module _ (P : Utf → Utf → Type 0) (k k' : Ink) (o o' b : ℕ)
    (one : P (whole (mark (white b) k o (suc o))) (whole (mark (white b) k' o' (suc o'))))
    (more : (n : ℕ) (r : Range) (c : ℕ) → P (part k o n r c) (part k' o' n r c))
    (none : P (bad o) (bad o')) where
  first-both : (b1 b2 b3 b4 b5 b6 b7 b8 : Bool) → P (first b1 b2 b3 b4 b5 b6 b7 b8 k o b) (first b1 b2 b3 b4 b5 b6 b7 b8 k' o' b)
  first-both true b2 b3 b4 b5 b6 b7 b8 = one
  first-both false true b3 b4 b5 b6 b7 b8 = more _ _ _
  first-both false false true b4 b5 b6 b7 b8 = more _ _ _
  first-both false false false true b5 b6 b7 b8 = more _ _ _
  first-both false false false false true b6 b7 b8 = more _ _ _
  first-both false false false false false true b7 b8 = more _ _ _
  first-both false false false false false false true b8 = more _ _ _
  first-both false false false false false false false true = more _ _ _
  first-both false false false false false false false false = none

  pub utf-both : P (utf (whole k) o b) (utf (whole k') o' b)
  utf-both = first-both (leb b 0x7f) (within 0xc2 0xdf b) (eqb b 0xe0) (eqb b 0xed) (within 0xe1 0xef b) (eqb b 0xf0) (within 0xf1 0xf3 b) (eqb b 0xf4)
