-- Numbers of a list, found by a computed test. Assumes nothing.
use Rattle.lists.proofs.Prelude.{ℕ, Bool, true, false, ◌||◌, false≢true, List, [], ◌∷◌, inl, inr, ◌≡◌, sym, ap, ◌∙◌, eqb, eqb-true}
use Rattle.tables.proofs.Cases.{either-bool}
use Rattle.demands.specs.Lists.{OneOf}

abbrev pub listed : List ℕ → ℕ → Bool
listed [] n = false
listed (x ∷ xs) n = eqb n x || listed xs n

pub one_of : (xs : List ℕ) (n : ℕ) → listed xs n ≡ true → OneOf xs n
one_of [] n h = absurd (false≢true h)
one_of (x ∷ xs) n h = either-bool (eqb n x) (λ e. inl (eqb-true n x e)) (λ e. inr (one_of xs n (ap (λ (b : Bool). b || listed xs n) (sym e) ∙ h)))
