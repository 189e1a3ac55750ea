use Rattle.blocks.specs.LocalsSteady.{PlainByte}
use Rattle.lists.proofs.Prelude.{◌≡◌, true, ℕ, ◌<◌, get_or}
use Rattle.blocks.proofs.all_plain.Given as goal

abbrev pub invariant-loop-b : goal.invariant-loop-b
invariant-loop-b l = l.plain ≡ true → (m : ℕ) → m < l.b-index → PlainByte (get_or l.b-items m 0)
