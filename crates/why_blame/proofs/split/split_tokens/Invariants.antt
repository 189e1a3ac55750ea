use Rattle.lists.proofs.Prelude.{◌-◌, length}
use Rattle.why_blame.specs.LocalsCuts.{Seen}
use Rattle.why_blame.proofs.split.split_tokens.Given as goal

abbrev pub invariant-loop-i : goal.invariant-loop-i
invariant-loop-i l = Seen l.s l.from l.at l.depth l.deepest l.n l.behind l.deep

abbrev pub decreases-loop-i : goal.decreases-loop-i
decreases-loop-i l = length l.s - l.at
