use Rattle.values.proofs.Steps.{stepped}
use Rattle.ff4_values.proofs.Readings.{none_end, none-byte}
use Rattle.ff4_values.proofs.read_none.Goals as goal

pub returns-in-None : goal.returns-in-None
returns-in-None c = let s = c.args.raw.now in none_end s (stepped s 0 c.next_read.ensures c.in-None.is)

pub returns-in-Some : goal.returns-in-Some
returns-in-Some c = let s = c.args.raw.now in none-byte s (stepped s 0 c.next_read.ensures c.in-Some.is)
