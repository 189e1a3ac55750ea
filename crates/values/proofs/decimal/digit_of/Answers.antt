use Rattle.lists.proofs.Prelude.{le-leb, lt-leb}
use Rattle.values.specs.Decimal.{digit_of}
use Rattle.values.proofs.decimal.digit_of.Goals as goal

pub returns-then-b-lt48 : goal.returns-then-b-lt48
unfolding digit_of
returns-then-b-lt48 c = simp (lt-leb 48 _ c.if-b-lt48.true)

pub returns-then-b-gt57 : goal.returns-then-b-gt57
unfolding digit_of
returns-then-b-gt57 c = simp (le-leb 48 _ c.if-b-lt48.false, lt-leb _ 57 c.if-b-gt57.true)

pub returns : goal.returns
unfolding digit_of
returns c = simp (le-leb 48 _ c.if-b-lt48.false, le-leb _ 57 c.if-b-gt57.false)
