use Rattle.lists.proofs.Prelude.{◌≡◌, false, ℕ, ◌<◌, get_or}
use Rattle.serialize_values.proofs.any_marked.Given as goal

abbrev pub invariant-loop-mark : goal.invariant-loop-mark
invariant-loop-mark l = l.any ≡ false → (m : ℕ) → m < l.mark-index → get_or l.mark-items m false ≡ false
