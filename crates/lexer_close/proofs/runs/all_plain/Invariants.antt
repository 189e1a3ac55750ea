use Rattle.lists.proofs.Prelude.{◌≡◌, true, ℕ, ◌<◌, get_or}
use Rattle.lexer_close.specs.LocalsRun.{closes_nothing}
use Rattle.lexer_close.proofs.runs.all_plain.Given as goal

abbrev pub invariant-loop-b : goal.invariant-loop-b
invariant-loop-b l = l.all ≡ true → (m : ℕ) → m < l.b-index → closes_nothing (get_or l.block m 0) ≡ true
