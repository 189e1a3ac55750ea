use Rattle.reader.proofs.Whole.{count-as, count-accepted}
use Rattle.reader.proofs.Simple.{known_is, known-plan, known-ready}
use Rattle.reader.proofs.count.Goals as goal

pub returns-in-Some : goal.returns-in-Some
returns-in-Some c = let k = known_is c.args.text.now c.known_text.ensures c.in-Some.is in count-as (known-plan k c.args.lenient).0 (count-accepted (known-ready k c.args.lenient).counted)
