use Rattle.lists.proofs.Prelude.{arith}
use Rattle.tables.proofs.Cells.{whole-rows}
use Rattle.tables.proofs.Levels.{level-next, level-child, level-root}
use Rattle.tables.proofs.level_nodes.Goals.{then-parent-row, else-parent-row+then-parent-row-2, else-parent-row+else-parent-row-2}
use Rattle.tables.proofs.level_nodes.Goals as goal

pub loop-row-preserved : goal.loop-row-preserved
loop-row-preserved c = let p = c.loop-row.invariant in
    let k = c.loop-row-test.true in
    let r = whole-rows _ _ p.1.0 in (
      omega arith,
      p.1,
      elim c.if-parent-row.branch [
        | then-parent-row w ↦ rw w.last-is (level-next p.2 k r w.if-parent-row.true)
        | else-parent-row+then-parent-row-2 w ↦ rw w.last-is (level-child p.2 k r w.if-parent-row-2.true)
        | else-parent-row+else-parent-row-2 w ↦ rw w.last-is (level-root p.2 k r w.if-parent-row-2.false)
      ],
    )
