use Rattle.lists.proofs.Prelude.{◌+◌, drop, arith}
use Rattle.board_node.specs.Node.{sets_from}
use Rattle.board_node.proofs.Rows.{sets_end, sets-pass, sets-here}
use Rattle.board_node.proofs.Turning.{leads-same, leads-then, leads-stop, leads-end}
use Rattle.board_node.proofs.set_places.Goals as goal

pub loop-p-preserved-then-not-marks-p : goal.loop-p-preserved-then-not-marks-p
loop-p-preserved-then-not-marks-p c = let a = c.args in
    let l = c.loop-p in
    leads-same a.columns a.rows (sets-pass a.colour a.marks.now l.p (omega (arith, c.requires.1, c.loop-p-test.true)) c.if-not-marks-p.true) l.invariant

pub returns-then-turn : goal.returns-then-turn
returns-then-turn c = let a = c.args in
    let l = c.loop-p in
    let rest = sets_from a.colour (l.p + 1) (drop (l.p + 1) a.marks.now) in
    let here = sets-here a.colour a.marks.now l.p (omega (arith, c.requires.1, c.loop-p-test.true)) c.if-not-marks-p.false in
    leads-stop a.columns a.rows rest here l.invariant c.set_place-turn.ensures c.if-turn.true

pub loop-p-preserved : goal.loop-p-preserved
loop-p-preserved c = let a = c.args in
    let l = c.loop-p in
    let rest = sets_from a.colour (l.p + 1) (drop (l.p + 1) a.marks.now) in
    let here = sets-here a.colour a.marks.now l.p (omega (arith, c.requires.1, c.loop-p-test.true)) c.if-not-marks-p.false in
    leads-then a.columns a.rows rest here l.invariant c.set_place-turn.ensures c.if-turn.false

pub returns : goal.returns
returns c = let a = c.args in
    let l = c.loop-p in
    leads-end a.columns a.rows (sets_end a.colour a.marks.now l.p (omega (arith, c.requires.1, c.loop-p-test.false))) l.invariant
