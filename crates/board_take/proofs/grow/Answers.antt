use Rattle.lists.proofs.Prelude.{arith, get_or}
use Rattle.board_groups.proofs.Beside.{board-on}
use Rattle.board_take.proofs.Growing.{flood-start, flood-on, flood-more, flood-lives, flood-end}
use Rattle.board_take.proofs.grow.Goals as goal

pub loop-i-init : goal.loop-i-init
loop-i-init c = let a = c.args in flood-start a.columns a.rows a.stones.now a.colour a.stop a.marks.now a.queue.now a.from c.requires.0 c.requires.1

pub offset_bounds-queue-i : goal.offset_bounds-queue-i
offset_bounds-queue-i c = omega (arith, c.loop-i.invariant.most)

pub bounds-queue-i : goal.bounds-queue-i
bounds-queue-i c = omega (arith, c.loop-i.invariant.most, c.loop-i.invariant.held.q-long)

pub overflow_cast-p : goal.overflow_cast-p
overflow_cast-p c = let a = c.args in let l = c.loop-i in let x = (board-on a.columns a.rows (get_or l.queue l.i 0) (flood-on a.columns a.rows a.stones.now a.colour a.stop a.marks.now l.marks l.queue l.n l.i l.invariant c.loop-i-test.true)).place in omega arith

pub stops-requires : goal.stops-requires
stops-requires c = let a = c.args in let l = c.loop-i in flood-on a.columns a.rows a.stones.now a.colour a.stop a.marks.now l.marks l.queue l.n l.i l.invariant c.loop-i-test.true

pub returns-then-stops : goal.returns-then-stops
returns-then-stops c = let a = c.args in
    let l = c.loop-i in
    record {
      ended = λ z. absurd (omega arith);
      stopped = λ z. (c.stops.ensures.asked c.if-stops.true, flood-lives a.columns a.rows a.stones.now a.colour a.stop a.marks.now l.marks l.queue l.n l.i l.invariant c.loop-i-test.true (c.stops.ensures.yes-free c.if-stops.true));
    }

pub overflow_add-i : goal.overflow_add-i
overflow_add-i c = omega (arith, c.loop-i.invariant.most)

pub visit-n-requires : goal.visit-n-requires
visit-n-requires c = let a = c.args in let l = c.loop-i in (l.invariant.held, flood-on a.columns a.rows a.stones.now a.colour a.stop a.marks.now l.marks l.queue l.n l.i l.invariant c.loop-i-test.true)

pub loop-i-smaller : goal.loop-i-smaller
loop-i-smaller c = omega (arith, c.loop-i.invariant.most)

pub loop-i-preserved : goal.loop-i-preserved
loop-i-preserved c = let a = c.args in
    let l = c.loop-i in
    flood-more a.columns a.rows a.stones.now a.colour a.stop a.marks.now l.marks l.queue l.n l.i l.invariant c.loop-i-test.true
    (λ t. c.stops.ensures.no-free t c.if-stops.false) c.visit-n.ensures

pub returns : goal.returns
returns c = let a = c.args in
    let l = c.loop-i in
    record { ended = λ z. flood-end a.columns a.rows a.stones.now a.colour a.stop a.marks.now l.marks l.queue l.n l.i l.invariant c.loop-i-test.false; stopped = λ z. absurd (omega (arith, l.invariant.most)) }
