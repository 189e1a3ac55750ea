-- Stores side by side are a row put, of any width. Assumes nothing.
use Rattle.lists.proofs.Prelude.{ℕ, suc, ◌+◌, ◌*◌, ◌^◌, ◌≤◌, ◌<◌, ◌≡◌, refl, ap, ◌∙◌, true, List, [], ◌∷◌, append_assoc, arith, leb, length, take, drop, set, sets, sets-eq, length-sets, leb-true}
use mir.Syntax.{w64}
use mir.Val.{Fits}
use Rattle.lists.specs.Put.{PutWhole}

-- the numbers of `row` stored from the place `at + k` on
abbrev pub stores : List ℕ → (at k : ℕ) → List ℕ → List ℕ
stores t at k [] = t
stores t at k (x ∷ row) = stores (set t (at + k) x) at (suc k) row

stores-sets : (t : List ℕ) (at k : ℕ) (row : List ℕ) → stores t at k row ≡ sets t (at + k) row
stores-sets t at k [] = refl
stores-sets t at k (x ∷ row) =
    let e : at + suc k ≡ suc (at + k) = omega arith in
    stores-sets (set t (at + k) x) at (suc k) row ∙ ap (λ (n : ℕ). sets (set t (at + k) x) n row) e

module _ (t : List ℕ) (at x : ℕ) (row : List ℕ) where
  row-sets : stores (set t at x) at 1 row ≡ sets t at (x ∷ row)
  row-sets = let e : at + 1 ≡ suc at = omega arith in stores-sets (set t at x) at 1 row ∙ ap (λ (n : ℕ). sets (set t at x) n row) e

  pub row-length : length (stores (set t at x) at 1 row) ≡ length t
  row-length = ap length row-sets ∙ length-sets t at (x ∷ row)

  -- a place of the table is one of it after the stores
  pub row_room : {n : ℕ} → n < length t → n < length (stores (set t at x) at 1 row)
  row_room h = let e = row-length in omega arith

  -- a row that has room
  pub row_put : at + suc (length row) ≤ length t → PutWhole t at (x ∷ row) (stores (set t at x) at 1 row)
  row_put h =
      record {
        is = record {
          len = row-length;
          put = λ g. row-sets ∙ sets-eq (x ∷ row) t at g ∙ append_assoc (take at t) (x ∷ row) (drop (at + suc (length row)) t);
        };
        stays = λ g. absurd (omega arith);
      }

-- from `at` on there are places up to the mth, and their bytes can be counted
pub record Room (t : List ℕ) (at m : ℕ) : Type 0 where
  pub there : at + suc m ≤ length t
  pub bytes : (at + m) * 4 < 2 ^ 64

module _ {t : List ℕ} {at m : ℕ} (r : Room t at m) (k : ℕ) (e : leb k m ≡ true) where
  pub place-fits : Fits w64 (at + k)
  place-fits = let l = leb-true k m e in let h = r.bytes in omega arith

  pub bytes_fit : Fits w64 ((at + k) * 4)
  bytes_fit = let l = leb-true k m e in let h = r.bytes in omega arith

  pub place-there : at + k < length t
  place-there = let l = leb-true k m e in let h = r.there in omega arith

-- a row that has none
pub row-none : (t : List ℕ) (at : ℕ) (row : List ℕ) → length t < at + length row → PutWhole t at row t
row-none t at row h = record { is = record { len = refl; put = λ g. absurd (omega arith) }; stays = λ g. refl }
