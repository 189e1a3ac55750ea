-- Other bytes for one value: places by number move as the edit moves them by place. Assumes nothing.
use Rattle.lists.proofs.Prelude.{◌≡◌, refl, sym, ap, ap₂, ◌∙◌, ℕ, zero, suc, ◌+◌, ◌-◌, ◌<◌, ◌≤◌, arith, List, length, eq-eqb, ne_eqb}
use Rattle.lists.proofs.Tests.{same_or}
use Rattle.lexer.specs.Move.{starts_at, ends_at}
use Rattle.lexer_laws.proofs.Replace.{starts-low, starts-high, ends_low, ends-high}
use Rattle.tables.specs.Each.{sum}
use Rattle.feed_laid.specs.Laid.{with, shift}

pub sum_more : (f : ℕ → ℕ) (k : ℕ) → sum f (suc k) ≡ sum f k + f k
unfolding sum
sum_more f k = refl

pub sum-none : (f : ℕ → ℕ) → sum f 0 ≡ 0
unfolding sum
sum-none f = refl

abbrev size : (ℕ → List ℕ) → ℕ → ℕ
size f j = length (f j)

module _ (f : ℕ → List ℕ) (k : ℕ) (new : List ℕ) where
  size-other : (j : ℕ) → (j ≡ k → ⊥) → size (with f k new) j ≡ size f j
  size-other j h = rw (ne_eqb j k h)

  size-own : size (with f k new) k ≡ length new
  size-own = rw (eq-eqb k k refl)

  sums-low : (i : ℕ) → i ≤ k → sum (size (with f k new)) i ≡ sum (size f) i
  sums-low zero h = sum-none (size (with f k new)) ∙ sym (sum-none (size f))
  sums-low (suc i) h =
      sum_more (size (with f k new)) i ∙ ap₂ (λ (x y : ℕ). x + y) (sums-low i (omega arith)) (size-other i (λ z. absurd (omega arith))) ∙ sym (sum_more (size f) i)

  sums-high : (i : ℕ) → k < i → sum (size (with f k new)) i + length (f k) ≡ sum (size f) i + length new
  sums-high zero h = absurd (omega arith)
  sums-high (suc i) h =
      same_or i k
      (λ z. let s = sums-low i (omega arith) in
      let a = sum_more (size (with f k new)) i in
      let b = sum_more (size f) i in
      let c : size (with f k new) i ≡ length new = ap (size (with f k new)) z ∙ size-own in
      let d : size f i ≡ length (f k) = ap (size f) z in
      omega (arith, s, a, b, c, d))
      (λ z. let s = sums-high i (omega arith) in
      let a = sum_more (size (with f k new)) i in
      let b = sum_more (size f) i in
      let c = size-other i z in
      omega (arith, s, a, b, c))

-- n values, one behind the other
module _ (a e : ℕ → ℕ) (n : ℕ) (order : (j : ℕ) → j < n → a j ≤ e j) (apart : (j : ℕ) → suc j < n → e j < a (suc j)) where
  abbrev Old : ℕ → ℕ
  Old k = sum (λ j. e j - a j) k

  pub old-low : (k : ℕ) → k < n → Old k ≤ a k
  old-low zero h = omega (arith, sum-none (λ j. e j - a j))
  old-low (suc k) h = omega (arith, old-low k (omega arith), sum_more (λ j. e j - a j) k, order k (omega arith), apart k h)

  pub old-in : (k : ℕ) → k < n → Old (suc k) ≤ e k
  old-in k h = omega (arith, old-low k h, sum_more (λ j. e j - a j) k, order k h)

  module _ (f : ℕ → List ℕ) where
    -- a value is as long as its bytes
    pub value-size : (k : ℕ) → k < n → shift a e f (suc k) (e k) ≡ shift a e f k (a k) + length (f k)
    unfolding shift
    value-size k h = omega (arith, old-low k h, old-in k h, sum_more (λ j. e j - a j) k, sum_more (size f) k, order k h)

    shift-up : (k p r : ℕ) → p ≤ r → shift a e f k p ≤ shift a e f k r
    unfolding shift
    shift-up k p r h = omega arith

    shift-above : (k p r : ℕ) → Old k ≤ p → p < r → shift a e f k p < shift a e f k r
    unfolding shift
    shift-above k p r l h = omega arith

    ends-before : (k j : ℕ) → j < k → k < n → shift a e f (suc j) (e j) < shift a e f k (a k)
    ends-before zero j h l = absurd (omega arith)
    ends-before (suc k) j h l =
        let x = shift-above (suc k) (e k) (a (suc k)) (old-in k (omega arith)) (apart k l) in
        same_or j k (λ z. rw z x)
        (λ z. omega (arith, x, ends-before k j (omega arith) (omega arith), value-size k (omega arith)))

    ends-up : (i k : ℕ) → k ≤ i → i < n → shift a e f (suc k) (e k) ≤ shift a e f (suc i) (e i)
    ends-up i k h l = same_or k i (λ z. rw z (omega arith)) (λ z. omega (arith, ends-before i k (omega arith) l, value-size i l))

    -- value k gets other bytes: the edit's q and e, and the length
    module _ (k : ℕ) (below : k < n) (new : List ℕ) where
      abbrev q : ℕ
      q = shift a e f k (a k)

      abbrev E : ℕ
      E = shift a e f (suc k) (e k)

      abbrev g : ℕ → List ℕ
      g = with f k new

      low_same : (i p : ℕ) → i ≤ k → shift a e g i p ≡ shift a e f i p
      unfolding shift
      low_same i p h = ap (λ (z : ℕ). p - Old i + z) (sums-low f k new i h)

      high_same : (i p : ℕ) → k < i → E ≤ shift a e f i p → shift a e g i p ≡ q + length new + (shift a e f i p - E)
      unfolding shift
      high_same i p h l = let s = sums-high f k new i h in let v = value-size k below in omega (arith, s, v, l)

      -- a place that stands at or before value i, which is k or one before it
      low-place : (i p : ℕ) → i ≤ k → p ≤ a i → shift a e f i p ≤ q
      low-place i p h l =
          let x = shift-up i p (a i) l in
          same_or i k (λ z. omega (arith, x, ap (λ (j : ℕ). shift a e f j (a j)) z))
          (λ z. omega (arith, x, value-size i (omega arith), ends-before k i (omega arith) below))

      -- one behind value i, which is k or one after it
      high-place : (i p : ℕ) → k ≤ i → i < n → e i ≤ p → E ≤ shift a e f (suc i) p
      high-place i p h l m = omega (arith, ends-up i k h l, shift-up (suc i) (e i) p m)

      -- starts: of values, and of identifiers, before the value i and behind the one before it
      pub start-low : (i p : ℕ) → i ≤ k → p ≤ a i → starts_at q E (length new) (shift a e f i p) ≡ shift a e g i p
      start-low i p h l = starts-low q E (length new) (shift a e f i p) (low-place i p h l) ∙ sym (low_same i p h)

      pub start-high : (i p : ℕ) → k ≤ i → i < n → e i < p → starts_at q E (length new) (shift a e f (suc i) p) ≡ shift a e g (suc i) p
      start-high i p h l m =
          let x = high-place i p h l (omega arith) in
          let y = shift-above (suc i) (e i) p (old-in i l) m in
          let z = ends-up i k h l in
          let v = value-size k below in
          starts-high q E (length new) (shift a e f (suc i) p) (omega (arith, x, y, z, v)) ∙ sym (high_same (suc i) p (omega arith) x)

      -- ends
      pub end_low : (i p : ℕ) → i ≤ k → Old i ≤ p → p < a i → ends_at q E (length new) (shift a e f i p) ≡ shift a e g i p
      end_low i p h o l =
          let x = shift-above i p (a i) o l in
          let y = low-place i (a i) h (omega arith) in
          let v = value-size k below in
          ends_low q E (length new) (shift a e f i p) (omega (arith, x, y, v)) ∙ sym (low_same i p h)

      pub end-high : (i p : ℕ) → k ≤ i → i < n → e i ≤ p → ends_at q E (length new) (shift a e f (suc i) p) ≡ shift a e g (suc i) p
      end-high i p h l m =
          let x = high-place i p h l m in
          ends-high q E (length new) (shift a e f (suc i) p) x ∙ sym (high_same (suc i) p (omega arith) x)
