-- Tests that are Booleans: what a conjunction and a disjunction say; what cannot be; and numbers that are equal or not. Assumes nothing.
use Rattle.lists.proofs.Prelude.{ℕ, ◌≡◌, refl, sym, ◌∙◌, Bool, true, false, ◌&&◌, ◌||◌, false≢true, true≢false, arith, eqb, eq-eqb, ne_eqb}
use native.Mathlib.Decide.{ℕ_discrete}

pub and_both : (x y : Bool) → x && y ≡ true → (x ≡ true) × (y ≡ true)
and_both true y h = (refl, h)
and_both false y h = absurd (false≢true h)

pub and_second : (x y : Bool) → x && y ≡ false → x ≡ true → y ≡ false
and_second true y h e = h
and_second false y h e = absurd (false≢true e)

pub or-neither : (x y : Bool) → x || y ≡ false → (x ≡ false) × (y ≡ false)
or-neither true y h = absurd (true≢false h)
or-neither false y h = (refl, h)

-- two constructors are never equal: from such an equation (`cc` makes it), anything
pub never {ℓ} : {X : Type ℓ} → ◌≡◌ {A = ℕ} 0 1 → X
never e = absurd (omega (arith, e))

-- two numbers are equal or not
pub same_or {ℓ} : {X : Type ℓ} (a b : ℕ) → (a ≡ b → X) → ((a ≡ b → ⊥) → X) → X
same_or a b f g = elim (ℕ_discrete a b) [ yes h ↦ f h | no h ↦ g h ]

pub eqb-sym : (a b : ℕ) → eqb a b ≡ eqb b a
eqb-sym a b = same_or a b (λ e. eq-eqb a b e ∙ sym (eq-eqb b a (sym e))) (λ e. ne_eqb a b e ∙ sym (ne_eqb b a (λ z. e (sym z))))
