use Rattle.lists.proofs.Prelude.{◌+◌, arith}
use Rattle.parts.proofs.Valued.{value_none, value-part}
use Rattle.parts.proofs.value_at.Goals as goal

pub returns-then-left-i : goal.returns-then-left-i
returns-then-left-i c = let args = c.args in
    value_none args.text.now args.vals.now (args.first + args.i) (omega arith)

pub returns : goal.returns
returns c = let args = c.args in
    value-part args.text.now args.vals.now (args.first + args.i) (omega arith) c.wide-2.ensures c.wide.ensures c.min-end.ensures c.min-start.ensures
