use Rattle.lists.proofs.Prelude.{◌-◌, length}
use Rattle.text_utf8.proofs.Turns.{Onward}
use Rattle.text_utf8.proofs.trim.Given as goal

abbrev pub invariant-loop-i : goal.invariant-loop-i
invariant-loop-i l = Onward l.text l.seen l.i

abbrev pub decreases-loop-i : goal.decreases-loop-i
decreases-loop-i l = length l.text - l.i
