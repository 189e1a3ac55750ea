use Rattle.lists.proofs.Prelude.{ap, sym}
use Rattle.season_tally.specs.Locals.{one_played}
use Rattle.season_tally.proofs.add.Goals as goal

pub returns-in-Black : goal.returns-in-Black
returns-in-Black c = sym (ap (one_played c.args.moves) c.in-Black.is)

pub returns-in-White : goal.returns-in-White
returns-in-White c = sym (ap (one_played c.args.moves) c.in-White.is)

pub returns-in-Passed : goal.returns-in-Passed
returns-in-Passed c = sym (ap (one_played c.args.moves) c.in-Passed.is)

pub returns-in-Nothing : goal.returns-in-Nothing
returns-in-Nothing c = sym (ap (one_played c.args.moves) c.in-Nothing.is)
