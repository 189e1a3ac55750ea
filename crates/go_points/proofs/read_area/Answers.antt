use Rattle.lists.proofs.Prelude.{sym, ap, ◌∙◌, drop}
use Rattle.values.specs.Read.{read_value}
use Rattle.values.proofs.Steps.{stepped, read-cons}
use Rattle.go_points.specs.Area.{area_of}
use Rattle.go_points.proofs.Areas.{area-colonless, area-colon}
use Rattle.go_points.proofs.read_area.Goals as goal

pub returns-in_default : goal.returns-in_default
unfolding area_of
returns-in_default c = let s = c.args.s.now in
    ap area_of (sym (stepped s _ c.next_read.ensures c.in_default.is))

pub returns-in_default-next_read : goal.returns-in_default-next_read
unfolding area_of
returns-in_default-next_read c = let s = c.args.s.now in
    ap area_of (sym (read-cons s (stepped s _ c.next_read.ensures c.in-Some.is) (stepped s _ c.next_read-2.ensures c.in_default-next_read.is)))

pub returns-in_default-next_read-2 : goal.returns-in_default-next_read-2
unfolding area_of
returns-in_default-next_read-2 c = let s = c.args.s.now in
    c.area_of.ensures ∙ ap area_of (sym (read-cons s (stepped s _ c.next_read.ensures c.in-Some.is) (read-cons s (stepped s _ c.next_read-2.ensures c.in-Some-next_read.is) (stepped s _ c.next_read-3.ensures c.in_default-next_read-2.is))))

pub returns-then-colon-ne58 : goal.returns-then-colon-ne58
returns-then-colon-ne58 c = let s = c.args.s.now in
    area-colonless c.in-Some.a c.in-Some-next_read.b c.in-Some-next_read-2.colon _ c.if-colon-ne58.true ∙ ap area_of (sym (read-cons s (stepped s _ c.next_read.ensures c.in-Some.is) (read-cons s (stepped s _ c.next_read-2.ensures c.in-Some-next_read.is) (stepped s _ c.next_read-3.ensures c.in-Some-next_read-2.is).0)))

pub returns : goal.returns
returns c = let s = c.args.s.now in
    c.area_to.ensures ∙ area-colon c.in-Some.a c.in-Some-next_read.b (read_value (drop c.in-Some-next_read-2.at3 s)) c.if-colon-ne58.false ∙ ap area_of (sym (read-cons s (stepped s _ c.next_read.ensures c.in-Some.is) (read-cons s (stepped s _ c.next_read-2.ensures c.in-Some-next_read.is) (stepped s _ c.next_read-3.ensures c.in-Some-next_read-2.is).0)))
