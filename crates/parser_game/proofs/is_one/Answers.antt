use Rattle.values.proofs.Steps.{stepped}
use Rattle.parser_game.proofs.GameValues.{one_none, one-other, one_more, one-yes}
use Rattle.parser_game.proofs.is_one.Goals as goal

pub returns-then-b-ne49 : goal.returns-then-b-ne49
returns-then-b-ne49 c = one-other c.args.v.now _ _ (stepped c.args.v.now 0 c.next_read.ensures c.in-Some.is).0 c.if-b-ne49.true

pub returns-in-None : goal.returns-in-None
returns-in-None c = one_none c.args.v.now (stepped c.args.v.now 0 c.next_read.ensures c.in-None.is)

pub returns-in-None-next_read : goal.returns-in-None-next_read
returns-in-None-next_read c = one-yes c.args.v.now _ _ (stepped c.args.v.now 0 c.next_read.ensures c.in-Some.is).0 c.if-b-ne49.false (stepped c.args.v.now _ c.next_read-in-Some.ensures c.in-None-next_read.is)

pub returns-in-Some-next_read : goal.returns-in-Some-next_read
returns-in-Some-next_read c = one_more c.args.v.now _ _ _ _ (stepped c.args.v.now 0 c.next_read.ensures c.in-Some.is).0 (stepped c.args.v.now _ c.next_read-in-Some.ensures c.in-Some-next_read.is).0
