-- A run of numbered elements: its length, and what stands at a place. Assumes nothing.
use Rattle.lists.proofs.Prelude.{ℕ, zero, suc, ◌+◌, ◌<◌, ◌≡◌, refl, ap, arith, length, get_or}
use Rattle.tables.specs.Each.{tabulate}

module _ {A : Type 0} (f : ℕ → A) where
  pub tabulate-length : (k n : ℕ) → length (tabulate f k n) ≡ n
  unfolding tabulate
  tabulate-length k zero = refl
  tabulate-length k (suc n) = ap suc (tabulate-length (suc k) n)

  pub tabulate-at : (k n i : ℕ) (d : A) → i < n → get_or (tabulate f k n) i d ≡ f (k + i)
  unfolding tabulate
  tabulate-at k zero i d h = absurd (omega arith)
  tabulate-at k (suc n) zero d h = let e : k + 0 ≡ k = omega arith in rw e
  tabulate-at k (suc n) (suc i) d h = let e : k + suc i ≡ suc k + i = omega arith in rw e (tabulate-at (suc k) n i d (omega arith))
