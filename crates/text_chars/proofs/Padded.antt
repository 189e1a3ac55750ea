-- The bytes at a place of a text, 0 past its end: no sequence of more than one byte goes on with 0. Assumes nothing.
use Rattle.lists.proofs.Prelude.{◌≡◌, refl, ap, ◌∙◌, ℕ, zero, suc, ◌+◌, ◌≤◌, ◌<◌, arith, lt_of_not-le, Bool, true, not, ◌&&◌, List, [], ◌∷◌, length, take, drop, get_or, drop_of_length-le, get_or-eq_default, drop-cons, not-true}
use native.Mathlib.Decide.{dec_le}
use Rattle.text_chars.specs.White.{within}
use Rattle.text_chars.specs.Table.{Bytes, table37, fits, listed}
use Rattle.lists.proofs.All.{all-every}
use Rattle.text_chars.proofs.Rows.{listed_same}
use Rattle.lists.proofs.Tests.{and_both}

-- the n bytes from i on
abbrev pub bytes_at : List ℕ → ℕ → ℕ → List ℕ
bytes_at s i zero = []
bytes_at s i (suc n) = get_or s i 0 ∷ bytes_at s (suc i) n

pub take-bytes : (s : List ℕ) (i n : ℕ) → i + n ≤ length s → take n (drop i s) ≡ bytes_at s i n
take-bytes s i zero h = refl
take-bytes s i (suc n) h = rw (drop-cons s i 0 (omega arith)) (ap (λ (l : List ℕ). get_or s i 0 ∷ l) (take-bytes s (suc i) n (omega arith)))

-- no range of the row has 0
abbrev firm : List Bytes → Bool
firm [] = true
firm (r ∷ rs) = not (within r.low r.high 0) && firm rs

fits-bytes : (row : List Bytes) (s : List ℕ) (i : ℕ) → firm row ≡ true → fits row (drop i s) ≡ fits row (bytes_at s i (length row))
fits-bytes [] s i f = refl
fits-bytes (r ∷ rs) s i f =
    let p = and_both (not (within r.low r.high 0)) (firm rs) f in
    elim (dec_le (length s) i) [
      | yes h ↦ rw (drop_of_length-le s h, get_or-eq_default s 0 h, not-true (within r.low r.high 0) p.0)
      | no h ↦ rw (drop-cons s i 0 (lt_of_not-le h), fits-bytes rs s (suc i) p.1)
    ]

-- no range but the first of a row has 0
abbrev firm_tail : List Bytes → Bool
firm_tail [] = true
firm_tail (r ∷ rs) = firm rs

row-bytes : (row : List Bytes) (s : List ℕ) (i : ℕ) → i < length s → firm_tail row ≡ true → fits row (drop i s) ≡ fits row (bytes_at s i (length row))
row-bytes [] s i h f = refl
row-bytes (r ∷ rs) s i h f = rw (drop-cons s i 0 h, fits-bytes rs s (suc i) f)

pub listed-bytes : (n : ℕ) (s : List ℕ) (i : ℕ) → i < length s → listed n (drop i s) ≡ listed n (bytes_at s i n)
unfolding listed table37
listed-bytes n s i h =
    listed_same table37 n (drop i s) (bytes_at s i n)
    (all-every firm_tail (λ row. length row ≡ n → fits row (drop i s) ≡ fits row (bytes_at s i n)) (λ row f e. row-bytes row s i h f ∙ ap (λ (m : ℕ). fits row (bytes_at s i m)) e) table37 refl)
