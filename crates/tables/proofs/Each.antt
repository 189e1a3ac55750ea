-- `each`: a loop that goes on, that stops, that ends. Assumes nothing.
use Rattle.lists.proofs.Prelude.{ℕ, zero, suc, ◌+◌, ◌≤◌, ◌<◌, Bool, true, false, ◌&&◌, and-false, ◌≡◌, refl, sym, ap, ◌∙◌, subst, add-one, arith}
use Rattle.tables.specs.Each.{each}
use Rattle.tables.proofs.Cases.{and_left, and_right}
use Rattle.lists.proofs.Tests.{same_or}

pub each_none : (f : ℕ → Bool) → each 0 f ≡ true
unfolding each
each_none f = refl

pub each_more : (f : ℕ → Bool) (k : ℕ) → each k f ≡ true → f k ≡ true → each (k + 1) f ≡ true
unfolding each
each_more f k h e = rw (add-one, h) e

pub each-end : (f : ℕ → Bool) (k n : ℕ) → k ≤ n → n ≤ k → each k f ≡ true → true ≡ each n f
each-end f k n a b h = let e : k ≡ n = omega arith in sym (subst (λ (m : ℕ). each m f ≡ true) e h)

fails : (f : ℕ → Bool) (k n : ℕ) → k < n → f k ≡ false → each n f ≡ false
unfolding each
fails f k zero h e = absurd (omega arith)
fails f k (suc n) h e =
    same_or k n
    (λ z. ap (λ (b : Bool). each n f && b) (subst (λ (m : ℕ). f m ≡ false) z e) ∙ and-false (each n f))
    (λ z. rw (fails f k n (omega arith) e))

pub each-fails : (f : ℕ → Bool) (k n : ℕ) → k < n → f k ≡ false → false ≡ each n f
each-fails f k n h e = sym (fails f k n h e)

pub each_at : (f : ℕ → Bool) (n k : ℕ) → each n f ≡ true → k < n → f k ≡ true
unfolding each
each_at f zero k h l = absurd (omega arith)
each_at f (suc n) k h l =
    same_or k n (λ z. subst (λ (m : ℕ). f m ≡ true) (sym z) (and_right (each n f) (f n) h))
    (λ z. each_at f n k (and_left (each n f) (f n) h) (omega arith))

pub each_all : (f : ℕ → Bool) (n : ℕ) → ((i : ℕ) → i < n → f i ≡ true) → each n f ≡ true
unfolding each
each_all f zero h = refl
each_all f (suc n) h = rw (each_all f n (λ i l. h i (omega arith))) (h n (omega arith))
