use Rattle.lists.proofs.Prelude.{sym, ap, ◌∙◌}
use Rattle.values.proofs.Steps.{stepped, read-cons}
use Rattle.go_points.specs.Area.{move_of}
use Rattle.go_points.proofs.Areas.{move-point}
use Rattle.go_points.proofs.read_move.Goals as goal

pub returns-in_default : goal.returns-in_default
unfolding move_of
returns-in_default c = let args = c.args in
    ap move_of (sym (stepped args.s.now _ c.next_read.ensures c.in_default.is))

pub returns-in_default-next_read : goal.returns-in_default-next_read
unfolding move_of
returns-in_default-next_read c = let args = c.args in
    let next-read = c.next_read in
    ap move_of (sym (read-cons args.s.now (stepped args.s.now _ next-read.ensures c.in-Some.is) (stepped args.s.now _ c.next_read-2.ensures c.in_default-next_read.is)))

pub returns-in_default-next_read-2 : goal.returns-in_default-next_read-2
returns-in_default-next_read-2 c = let args = c.args in
    let next-read = c.next_read in
    let next-read2 = c.next_read-2 in
    let next-read3 = c.next_read-3 in
    move-point c.in-Some.a c.in-Some-next_read.b c.letter_of.ensures c.letter_of-in_default-next_read-2.ensures c.move_to.ensures ∙ ap move_of (sym (read-cons args.s.now (stepped args.s.now _ next-read.ensures c.in-Some.is) (read-cons args.s.now (stepped args.s.now _ next-read2.ensures c.in-Some-next_read.is) (stepped args.s.now _ next-read3.ensures c.in_default-next_read-2.is))))

pub returns : goal.returns
unfolding move_of
returns c = let args = c.args in
    let next-read = c.next_read in
    let next-read2 = c.next_read-2 in
    ap move_of (sym (read-cons args.s.now (stepped args.s.now _ next-read.ensures c.in-Some.is) (read-cons args.s.now (stepped args.s.now _ next-read2.ensures c.in-Some-next_read.is) (stepped args.s.now _ c.next_read-3.ensures c.in-Some-next_read-2.is).0)))
