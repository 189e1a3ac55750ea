use Rattle.lists.proofs.Prelude.{ℕ, ◌-◌, ◌≤◌, ◌<◌, ◌≡◌}
use Rattle.tables.specs.Columns.{first_val_at}
use Rattle.feed.specs.Feed.{listing}
use Rattle.feed.specs.Find.{found_in}
use Rattle.edit_rows.proofs.Rows.{PropsPut}
use Rattle.feed_apply.specs.LocalsSizes.{moved_prop, Tallied}
use Rattle.feed_apply.proofs.rows.move_properties.Given as goal
use Rattle.std.specs.Prelude.{None}

abbrev pub invariant-loop-k : goal.invariant-loop-k
invariant-loop-k l = PropsPut (moved_prop l.initial.properties l.values l.feed) l.initial.properties l.p l.properties l.k × Tallied l.values l.feed l.n l.s
    × ((j : ℕ) → l.k < l.p → first_val_at l.initial.properties l.k ≤ j → j < l.s.due → found_in (listing l.feed).entries j ≡ None)

abbrev pub decreases-loop-k : goal.decreases-loop-k
decreases-loop-k l = l.p - l.k
