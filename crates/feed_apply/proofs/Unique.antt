-- No second answer: two answers that meet the contract of a public function are equal, and so is what they leave. Assumes nothing.
use Rattle.lists.proofs.Prelude.{ℕ, List, ◌≡◌, sym, ◌∙◌}
use Rattle.tables.specs.Memory.{Memory}
use Rattle.feed_apply.specs.Lent.{ApplyIs}
use Rattle.std.specs.Prelude.{Result}
use Rattle.feed_check.specs.declared.FeedRefusal.{FeedRefusal}
use Rattle.tables.specs.declared.Refusal.{Refusal}

pub apply-once : (m x y : Memory) (w : List ℕ) (r r' : Result ℕ (Refusal FeedRefusal)) → ApplyIs m x w r → ApplyIs m y w r' → (x ≡ y) × (r ≡ r')
apply-once m x y w r r' f g = (f.memory ∙ sym g.memory, f.answer ∙ sym g.answer)
