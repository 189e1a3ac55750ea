use Rattle.lists.proofs.Prelude.{◌%◌, lt-ltb, le-ltb}
use Rattle.season_tag.specs.Hex.{hex_digit}
use Rattle.season_tag.proofs.letter.Goals as goal

pub returns-then-d-lt10 : goal.returns-then-d-lt10
unfolding hex_digit
returns-then-d-lt10 c = rw (lt-ltb (c.args.n % 16) 10 c.if-d-lt10.true)

pub returns : goal.returns
unfolding hex_digit
returns c = rw (le-ltb (c.args.n % 16) 10 c.if-d-lt10.false)
