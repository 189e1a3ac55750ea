use Rattle.feed_numerals.proofs.Spelling.{size-1, size-2, size-3, size-4}
use Rattle.lists.proofs.Prelude.{arith}
use Rattle.feed_numerals.proofs.numeral_size.Goals as goal

pub returns-in-0-to-127 : goal.returns-in-0-to-127
returns-in-0-to-127 c = size-1 c.args.n (omega arith)

pub returns-in-128-to-16383 : goal.returns-in-128-to-16383
returns-in-128-to-16383 c = size-2 c.args.n (omega arith) (omega arith)

pub returns-in-16384-to-2097151 : goal.returns-in-16384-to-2097151
returns-in-16384-to-2097151 c = size-3 c.args.n (omega arith) (omega arith)

pub returns-in_default : goal.returns-in_default
returns-in_default c = size-4 c.args.n (omega arith)
