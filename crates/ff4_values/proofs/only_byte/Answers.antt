use Rattle.values.proofs.Steps.{stepped}
use Rattle.ff4_values.proofs.Readings.{only_none, only_one, only-more}
use Rattle.ff4_values.proofs.only_byte.Goals as goal

pub returns-in_default : goal.returns-in_default
returns-in_default c = let s = c.args.raw.now in only_none s (stepped s 0 c.next_read.ensures c.in_default.is)

pub returns-in_default-next_read : goal.returns-in_default-next_read
returns-in_default-next_read c = let s = c.args.raw.now in
    only_one s (stepped s 0 c.next_read.ensures c.in-Some.is) (stepped s c.in-Some.at c.next_read-2.ensures c.in_default-next_read.is)

pub returns : goal.returns
returns c = let s = c.args.raw.now in
    only-more s (stepped s 0 c.next_read.ensures c.in-Some.is) (stepped s c.in-Some.at c.next_read-2.ensures c.in-Some-next_read.is)
