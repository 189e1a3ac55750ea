use Rattle.lists.proofs.Prelude.{arith}
use Rattle.board_take.proofs.Sweeping.{clear-go, clear-stay}
use Rattle.board_take.proofs.clear.Goals.{then-stones-p, else-stones-p}
use Rattle.board_take.proofs.clear.Goals as goal

pub loop-place-preserved : goal.loop-place-preserved
loop-place-preserved c = let a = c.args in
    let l = c.loop-place in
    let i = l.place-index in
    elim c.if-stones-p.branch [
      | then-stones-p w ↦ rw (w.stones-is, w.taken-is) (
        clear-go a.colour a.stones.now l.stones a.queue.now l.taken i l.invariant.0 c.requires.0 w.if-stones-p.true,
        omega arith,
      )
      | else-stones-p w ↦ rw (w.stones-is, w.taken-is) (
        clear-stay a.colour a.stones.now l.stones a.queue.now l.taken i l.invariant.0 (c.requires.2 i c.loop-place-test.true).1 w.if-stones-p.false,
        omega arith,
      )
    ]
