-- What one value adds to a set. Assumes nothing.
use Rattle.lists.proofs.Prelude.{ℕ, ◌+◌, ◌≤◌, ◌≡◌, refl, sym, ◌∙◌, subst, Bool, true, false, ◌&&◌, List, [], ◌∷◌, leb, eqb, leb-true, pick}
use Rattle.lists.proofs.Pick.{pick-elim}
use Rattle.go_points.specs.Area.{letter_of, cornered, area_of}
use Rattle.go.specs.Marks.{Adds, in_rect, good, in_area}
use Rattle.go_points.specs.declared.Area.{Area}
use Rattle.go_points.specs.declared.Area.TheVariants.{Bad, Rect}
use Rattle.go.proofs.Adding.{adds_none}

-- the corners of an area lie on the board, the first nowhere greater
abbrev pub Cornered : Area → Type 0
Cornered Bad = Unit {0}
Cornered (Rect x y x2 y2) = (x ≤ x2) × (x2 ≤ 51) × (y ≤ y2) × (y2 ≤ 51)

cornered-holds : (x y x2 y2 : ℕ) → Cornered (cornered x y x2 y2)
unfolding cornered
cornered-holds x y x2 y2 = go (leb x x2) (leb y y2) (leb x2 51) (leb y2 51) refl refl refl refl
  where
    go : (p q r s : Bool) → leb x x2 ≡ p → leb y y2 ≡ q → leb x2 51 ≡ r → leb y2 51 ≡ s → Cornered (pick ((p && q) && (r && s)) (Rect x y x2 y2) Bad)
    go false q r s a b c d = tt
    go true false r s a b c d = tt
    go true true false s a b c d = tt
    go true true true false a b c d = tt
    go true true true true a b c d = (leb-true x x2 a, leb-true x2 51 c, leb-true y y2 b, leb-true y2 51 d)

pub area-cornered : (l : List ℕ) → Cornered (area_of l)
unfolding area_of
area-cornered [] = tt
area-cornered (a ∷ []) = tt
area-cornered (a ∷ b ∷ []) = cornered-holds (letter_of a) (letter_of b) (letter_of a) (letter_of b)
area-cornered (a ∷ b ∷ c ∷ []) = tt
area-cornered (a ∷ b ∷ c ∷ d ∷ []) = tt
area-cornered (a ∷ b ∷ c ∷ d ∷ e ∷ []) = pick-elim Cornered (eqb c 0x3a) (λ h. cornered-holds (letter_of a) (letter_of b) (letter_of d) (letter_of e)) (λ h. tt)
area-cornered (a ∷ b ∷ c ∷ d ∷ e ∷ f ∷ r) = tt

-- what a call of `read_area` gave
pub area-corners : (l : List ℕ) {r q : Area} → r ≡ area_of l → r ≡ q → Cornered q
area-corners l e f = subst Cornered (sym e ∙ f) (area-cornered l)

pub adds-bad : {a r : Area} (l : List Bool) → r ≡ a → r ≡ Bad → (false ≡ good a) × Adds (in_area a) l l
adds-bad l e f = subst (λ v. (false ≡ good v) × Adds (in_area v) l l) (sym f ∙ e) (refl, adds_none l (λ i. refl))

pub adds-rect : {a r : Area} {x y x2 y2 : ℕ} {old new : List Bool} → r ≡ a → r ≡ Rect x y x2 y2 → Adds (in_rect x (x2 + 1) y (y2 + 1)) old new
    → (true ≡ good a) × Adds (in_area a) old new
adds-rect {old = old} {new} e f h = subst (λ v. (true ≡ good v) × Adds (in_area v) old new) (sym f ∙ e) (refl, h)
