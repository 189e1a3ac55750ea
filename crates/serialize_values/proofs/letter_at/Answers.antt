use Rattle.serialize_values.proofs.Boxed.{letter-low, letter-high}
use Rattle.serialize_values.proofs.letter_at.Goals as goal

pub returns-then-n-lt26 : goal.returns-then-n-lt26
returns-then-n-lt26 c = letter-low c.args.n c.if-n-lt26.true

pub returns : goal.returns
returns c = letter-high c.args.n c.if-n-lt26.false
