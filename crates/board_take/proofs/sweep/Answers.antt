use Rattle.lists.proofs.Prelude.{◌∙◌, arith, sym}
use Rattle.board_take.proofs.Sweeping.{sweep-go, sweep-stay}
use Rattle.board_take.proofs.sweep.Goals.{then-goes, else-goes}
use Rattle.board_take.proofs.sweep.Goals as goal

pub loop-p-preserved : goal.loop-p-preserved
loop-p-preserved c = let a = c.args in
    let l = c.loop-p in
    elim c.if-goes.branch [
      | then-goes w ↦ rw (w.stones-is, w.n-is) (
        sweep-go a.columns a.rows a.colour a.stones.now l.stones a.marks.now l.n l.p l.invariant.0 c.requires (sym c.goes.ensures ∙ w.if-goes.true),
        omega arith,
      )
      | else-goes w ↦ rw (w.stones-is, w.n-is) (
        sweep-stay a.columns a.rows a.colour a.stones.now l.stones a.marks.now l.n l.p l.invariant.0 (sym c.goes.ensures ∙ w.if-goes.false),
        omega arith,
      )
    ]
