use Rattle.lists.proofs.Prelude.{◌-◌}
use Rattle.edit_rows.proofs.Rows.{ValsPut}
use Rattle.feed_apply.specs.LocalsSizes.{moved_val}
use Rattle.feed_apply.proofs.Sizes.{Beside}
use Rattle.feed_apply.proofs.rows.move_values.Given as goal

abbrev pub invariant-loop-s : goal.invariant-loop-s
invariant-loop-s l = ValsPut (moved_val l.initial.values l.feed) l.initial.values l.n l.values l.k × Beside l.initial.values l.feed l.n l.k l.s

abbrev pub decreases-loop-s : goal.decreases-loop-s
decreases-loop-s l = l.n - l.s.due
