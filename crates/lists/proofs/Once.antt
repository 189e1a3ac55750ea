-- No second answer: a contract that says what the result is, and what all lent memory holds, leaves one answer. Assumes nothing.
use Rattle.lists.proofs.Prelude.{◌≡◌, sym, ◌∙◌}

pub once_is {ℓ} : {A : Type ℓ} (x : A) → (a b : A) → a ≡ x → b ≡ x → a ≡ b
once_is x a b p q = p ∙ sym q
