-- No second answer of a public function. Assumes nothing.
use Rattle.lists.proofs.Prelude.{ℕ, ◌≡◌}
use Rattle.lists.specs.Once.{Once}
use Rattle.lists.proofs.Once.{once_is}
use Rattle.tables.specs.Memory.{Memory}
use Rattle.ask_simple.specs.AskSimple.{simple_answer}
use Rattle.std.specs.Prelude.{Result}
use Rattle.tables.specs.declared.Reason.{Reason}
use Rattle.ff4_values.specs.declared.Simple.{Simple}

pub simple-answer-once : (m : Memory) (p : ℕ) → Once (λ (r : Result Simple Reason). r ≡ simple_answer m p)
simple-answer-once m p = once_is (simple_answer m p)
