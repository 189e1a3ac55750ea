use Rattle.value_display.proofs.Shown.{peek-byte, peek-end}
use Rattle.values.proofs.Steps.{stepped}
use Rattle.value_display.proofs.peek.Goals as goal

pub returns-in_default : goal.returns-in_default
returns-in_default c = let args = c.args in
    peek-end (λ z. z) args.s.now args.at (stepped args.s.now args.at c.next_read.ensures c.in_default.is)

pub returns : goal.returns
returns c = let args = c.args in
    let next-read = c.next_read in
    peek-byte (λ z. z) args.s.now args.at (stepped args.s.now args.at next-read.ensures c.in-Some.is)
