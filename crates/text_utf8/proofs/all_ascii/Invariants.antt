use Rattle.lists.proofs.Prelude.{◌≡◌, true, ℕ, ◌<◌, get_or}
use Rattle.text_utf8.proofs.all_ascii.Given as goal

abbrev pub invariant-loop-b : goal.invariant-loop-b
invariant-loop-b l = l.low ≡ true → (m : ℕ) → m < l.b-index → get_or l.block m 0 < 128
