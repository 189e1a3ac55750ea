-- Cases: equal numbers or not, truth values, tests that a negation passes. Assumes nothing.
use Rattle.lists.proofs.Prelude.{ℕ, ◌≤◌, ◌<◌, Bool, true, false, not, ◌&&◌, false≢true, ◌≡◌, refl, sym, ◌∙◌, ltb, not-true, not-false, ltb-true, ltb-false}
use Rattle.lists.proofs.Tests.{and_both}

pub either-bool {ℓ} : {X : Type ℓ} (b : Bool) → (b ≡ true → X) → (b ≡ false → X) → X
either-bool true f g = f refl
either-bool false f g = g refl

pub below_or {ℓ} : {X : Type ℓ} (a b : ℕ) → (a < b → X) → (b ≤ a → X) → X
below_or a b f g = either-bool (ltb a b) (λ e. f (ltb-true a b e)) (λ e. g (ltb-false a b e))

pub true-false {ℓ} : {X : Type ℓ} (b : Bool) → b ≡ true → b ≡ false → X
true-false b h k = absurd (false≢true (sym k ∙ h))

-- a call's answer, where `!` of it was tested
pub refused : {r a : Bool} → r ≡ a → not r ≡ true → a ≡ false
refused {r} e h = sym e ∙ not-true r h

pub passed : {r a : Bool} → r ≡ a → not r ≡ false → a ≡ true
passed {r} e h = sym e ∙ not-false r h

pub and_left : (a b : Bool) → (a && b) ≡ true → a ≡ true
and_left a b h = (and_both a b h).0

pub and_right : (a b : Bool) → (a && b) ≡ true → b ≡ true
and_right a b h = (and_both a b h).1
