-- What holds of the case that a test picks. Assumes nothing.
use Rattle.lists.proofs.Prelude.{◌≡◌, refl, Bool, true, false, pick}

-- what holds of both cases, each under its test, holds of the case that is picked
pub pick-elim : {A : Type 0} (P : A → Type 0) (t : Bool) {a b : A} → (t ≡ true → P a) → (t ≡ false → P b) → P (pick t a b)
pick-elim P true f g = f refl
pick-elim P false f g = g refl
