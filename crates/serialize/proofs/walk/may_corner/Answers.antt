use Rattle.serialize.proofs.Corners.{corner-other, corner-seen}
use Rattle.serialize.proofs.walk.may_corner.Goals as goal

pub returns-then-last : goal.returns-then-last
returns-then-last c = let args = c.args in
    corner-seen args.text.now args.values.now args.v c.wide-start.ensures c.wide-end.ensures c.if-last.true

pub returns : goal.returns
returns c = let args = c.args in
    corner-other args.text.now args.values.now args.v c.wide-end.ensures c.if-last.false
