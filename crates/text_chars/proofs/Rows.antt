-- The rows of table 3-7 that bytes begin with. Assumes nothing.
use Rattle.lists.proofs.Prelude.{◌≡◌, refl, ap, ap₂, subst, ℕ, zero, suc, ◌≤◌, ◌<◌, arith, Bool, true, false, ◌&&◌, ◌||◌, false≢true, List, [], ◌∷◌, leb, eqb, length, take, leb-true, eqb-true, eq-eqb}
use Rattle.lists.specs.All.{All}
use Rattle.lists.proofs.All.{all_map}
use Rattle.text_chars.specs.White.{within}
use Rattle.text_chars.specs.Table.{Bytes, table37, fits, listed_in, listed}
use Rattle.lists.proofs.All.{all-each, all-every}
use Rattle.lists.proofs.Tests.{and_both, and_second, or-neither}

-- what each row that fits shows of its width holds of the width of the sequence
pub listed-elim : (P : ℕ → Type 0) (rows : List (List Bytes)) (n : ℕ) (t : List ℕ) → listed_in rows n t ≡ true → All (λ row. fits row t ≡ true → P (length row)) rows → P n
listed-elim P [] n t h a = absurd (false≢true h)
listed-elim P (row ∷ rows) n t h a = go (eqb (length row) n) refl (fits row t) refl h (λ k. listed-elim P rows n t k a.1)
  where
    go : (x : Bool) → eqb (length row) n ≡ x → (y : Bool) → fits row t ≡ y → x && y || listed_in rows n t ≡ true → (listed_in rows n t ≡ true → P n) → P n
    go true e true f h r = subst P (eqb-true (length row) n e) (a.0 f)
    go true e false f h r = r h
    go false e y f h r = r h

-- bytes that fit the same rows of a width begin with the same sequences of that width
pub listed_same : (rows : List (List Bytes)) (n : ℕ) (t u : List ℕ) → All (λ row. length row ≡ n → fits row t ≡ fits row u) rows → listed_in rows n t ≡ listed_in rows n u
listed_same [] n t u a = refl
listed_same (row ∷ rows) n t u a = ap₂ (λ (x y : Bool). x || y) (go (eqb (length row) n) refl) (listed_same rows n t u a.1)
  where
    go : (x : Bool) → eqb (length row) n ≡ x → x && fits row t ≡ x && fits row u
    go true e = a.0 (eqb-true (length row) n e)
    go false e = refl

-- bytes that begin with no sequence of at most m bytes fit no row, where no row is longer
pub unlisted-all : (m : ℕ) (rows : List (List Bytes)) (t : List ℕ) → ((n : ℕ) → n ≤ m → listed_in rows n t ≡ false) → All (λ row. length row ≤ m) rows → All (λ row. fits row t ≡ false) rows
unlisted-all m [] t h a = tt
unlisted-all m (row ∷ rows) t h a =
    let n = length row in (
      and_second (eqb n n) (fits row t) (or-neither (eqb n n && fits row t) (listed_in rows n t) (h n a.0)).0 (eq-eqb n n refl),
      unlisted-all m rows t (λ n l. (or-neither (eqb (length row) n && fits row t) (listed_in rows n t) (h n l)).1) a.1,
    )

-- no row has more than four bytes
pub rows_short : All (λ row. length row ≤ 4) table37
unfolding table37
rows_short = all-every (λ row. leb (length row) 4) (λ row. length row ≤ 4) (λ row. leb-true (length row) 4) table37 refl

pub listed-short : (n : ℕ) (t : List ℕ) → listed n t ≡ true → n ≤ 4
unfolding listed
listed-short n t h = listed-elim (λ m. m ≤ 4) table37 n t h (all_map (λ row. length row ≤ 4) (λ row. fits row t ≡ true → length row ≤ 4) (λ row l f. l) table37 rows_short)

pub fits_both : (r : Bytes) (rs : List Bytes) (b : ℕ) (t : List ℕ) → fits (r ∷ rs) (b ∷ t) ≡ true → (within r.low r.high b ≡ true) × (fits rs t ≡ true)
fits_both r rs b t h = and_both (within r.low r.high b) (fits rs t) h

pub fits-long : (row : List Bytes) (t : List ℕ) → fits row t ≡ true → length row ≤ length t
fits-long [] t h = omega arith
fits-long (r ∷ rs) [] h = absurd (false≢true h)
fits-long (r ∷ rs) (b ∷ t) h = let k = fits-long rs t (fits_both r rs b t h).1 in omega arith

-- a sequence has at least one byte, and lies in the text
pub listed-long : (n : ℕ) (t : List ℕ) → listed n t ≡ true → (0 < n) × (n ≤ length t)
unfolding listed table37
listed-long zero t h = absurd (false≢true h)
listed-long (suc n) t h =
    (omega arith, listed-elim (λ m. m ≤ length t) table37 (suc n) t h (all-each (λ row. fits row t ≡ true → length row ≤ length t) (λ row. fits-long row t) table37))

fits-take : (row : List Bytes) (m : ℕ) (t : List ℕ) → length row ≤ m → fits row (take m t) ≡ fits row t
fits-take [] m t h = refl
fits-take (r ∷ rs) zero t h = absurd (omega arith)
fits-take (r ∷ rs) (suc m) [] h = refl
fits-take (r ∷ rs) (suc m) (b ∷ t) h = ap (λ (x : Bool). within r.low r.high b && x) (fits-take rs m t (omega arith))

-- a sequence of n bytes is seen in the first n bytes
pub listed-take : (n m : ℕ) (t : List ℕ) → n ≤ m → listed n (take m t) ≡ listed n t
unfolding listed
listed-take n m t h =
    listed_same table37 n (take m t) t (all-each (λ row. length row ≡ n → fits row (take m t) ≡ fits row t) (λ row e. fits-take row m t (omega arith)) table37)
