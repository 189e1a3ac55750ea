-- Points and areas by their letters. Assumes nothing.
use Rattle.lists.proofs.Prelude.{ℕ, ◌≡◌, refl, sym, ap, List, [], ◌∷◌, ne_eqb}
use Rattle.go_points.specs.Area.{letter_of, move_to, move_of, area_of}
use Rattle.go_points.specs.declared.Area.TheVariants.{Bad}
use Rattle.go_points.specs.declared.Value.{Value}

pub move-point : (a b : ℕ) {x y : ℕ} {r : Value} → x ≡ letter_of a → y ≡ letter_of b → r ≡ move_to x y → r ≡ move_of (a ∷ b ∷ [])
unfolding move_of
move-point a b e f g = rw (← e, ← f) g

pub area-colonless : (a b c : ℕ) (r : List ℕ) → (c ≡ 0x3a → ⊥) → Bad ≡ area_of (a ∷ b ∷ c ∷ r)
unfolding area_of
area-colonless a b c [] h = refl
area-colonless a b c (d ∷ []) h = refl
area-colonless a b c (d ∷ e ∷ []) h = rw (ne_eqb c 0x3a h)
area-colonless a b c (d ∷ e ∷ f ∷ r) h = refl

pub area-colon : (a b : ℕ) {c : ℕ} (r : List ℕ) → c ≡ 0x3a → area_of (a ∷ b ∷ 0x3a ∷ r) ≡ area_of (a ∷ b ∷ c ∷ r)
area-colon a b r h = ap (λ (n : ℕ). area_of (a ∷ b ∷ n ∷ r)) (sym h)
