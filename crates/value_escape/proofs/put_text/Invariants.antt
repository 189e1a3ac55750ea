use Rattle.lists.proofs.Prelude.{◌≤◌, length, take}
use Rattle.store_bytes.specs.LocalsWrote.{Wrote}
use Rattle.value_escape.specs.Escape.{escaped_text}
use Rattle.value_escape.proofs.put_text.Given as goal

abbrev pub invariant-loop-b : goal.invariant-loop-b
invariant-loop-b l = (l.b-index ≤ length l.text) × Wrote (escaped_text (take l.b-index l.text)) l.initial.out 0 l.out l.to
