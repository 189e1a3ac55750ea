-- No second answer: two answers that meet the contract of a public function are equal, and so is what they leave. Assumes nothing.
use Rattle.lists.proofs.Prelude.{ℕ, ◌+◌, ◌-◌, ◌/◌, ◌%◌, ◌^◌, ◌<◌, min, length, List, ◌≡◌, sym, ap, ◌∙◌, arith}
use Rattle.lists.proofs.Once.{once_is}
use Rattle.lists.specs.Once.{Once}
use Rattle.edit_rows.specs.LocalsShift.{names_before, names_shifted, values_shifted}

pub change-once : (up down r r' : ℕ) → r < 2 ^ 32 → r' < 2 ^ 32 → (r + down) % 2 ^ 32 ≡ up % 2 ^ 32 → (r' + down) % 2 ^ 32 ≡ up % 2 ^ 32 → r ≡ r'
change-once up down r r' a b f g = omega arith

pub shift-names-once : (pr x y : List ℕ) (k m v by r r' : ℕ)
    → (r ≡ names_before pr v k (min m (length pr / 4 - k))) × (x ≡ names_shifted by k r pr)
    → (r' ≡ names_before pr v k (min m (length pr / 4 - k))) × (y ≡ names_shifted by k r' pr)
    → (x ≡ y) × (r ≡ r')
shift-names-once pr x y k m v by r r' f g =
    let e : r ≡ r' = f.0 ∙ sym g.0 in
    (f.1 ∙ ap (λ (z : ℕ). names_shifted by k z pr) e ∙ sym g.1, e)

pub shift-all-names-once : (pr x y : List ℕ) (k m by r r' : ℕ)
    → (r ≡ min m (length pr / 4 - k)) × (x ≡ names_shifted by k r pr) → (r' ≡ min m (length pr / 4 - k)) × (y ≡ names_shifted by k r' pr)
    → (x ≡ y) × (r ≡ r')
shift-all-names-once pr x y k m by r r' f g =
    let e : r ≡ r' = f.0 ∙ sym g.0 in
    (f.1 ∙ ap (λ (z : ℕ). names_shifted by k z pr) e ∙ sym g.1, e)

pub shift-values-once : (vl : List ℕ) (k m by : ℕ) → Once (λ (x : List ℕ). x ≡ values_shifted by k m vl)
shift-values-once vl k m by = once_is (values_shifted by k m vl)
