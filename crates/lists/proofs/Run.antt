-- `run`: with fuel above a measure that falls at each step, its amount does not matter. Assumes nothing.
use Rattle.lists.proofs.Prelude.{ℕ, zero, suc, ◌<◌, ◌≡◌, refl, arith}
use Rattle.lists.specs.Run.{Next, more, done, onward, run}

module _ {S A : Type 0} (f : S → Next S A) (d : A) (m : S → ℕ) (falls : (x y : S) → f x ≡ more y → m y < m x) where
  pub run-fuel : (k l : ℕ) (x : S) → m x < k → m x < l → run f d k x ≡ run f d l x
  unfolding run
  run-fuel zero l x p q = absurd (omega arith)
  run-fuel (suc k) zero x p q = absurd (omega arith)
  run-fuel (suc k) (suc l) x p q = go (f x) refl (λ y h. run-fuel k l y h)
    where
      go : (n : Next S A) → f x ≡ n → ((y : S) → m y < k → m y < l → run f d k y ≡ run f d l y) → onward (run f d k) n ≡ onward (run f d l) n
      go (more y) e r = let h = falls x y e in r y (omega arith) (omega arith)
      go (done a) e r = refl

  pub run_more : (k : ℕ) (x y : S) → m x < k → f x ≡ more y → run f d k x ≡ run f d k y
  unfolding run
  run_more zero x y p e = absurd (omega arith)
  run_more (suc k) x y p e = let h = falls x y e in rw e (run-fuel k (suc k) y (omega arith) (omega arith))

pub run-done : {S A : Type 0} (f : S → Next S A) (d : A) (k : ℕ) (x : S) (a : A) → 0 < k → f x ≡ done a → run f d k x ≡ a
unfolding run
run-done f d zero x a p e = absurd (omega arith)
run-done f d (suc k) x a p e = rw e
