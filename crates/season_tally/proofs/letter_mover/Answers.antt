use Rattle.lists.proofs.Prelude.{ne_eqb}
use Rattle.season_tally.proofs.Playing.{letter-black, letter-white, letter-none}
use Rattle.season_tally.proofs.letter_mover.Goals as goal

pub returns-then-b-eq66 : goal.returns-then-b-eq66
returns-then-b-eq66 c = letter-black _ c.if-b-eq66.true

pub returns-then-b-eq87 : goal.returns-then-b-eq87
returns-then-b-eq87 c = letter-white _ c.if-b-eq87.true

pub returns : goal.returns
returns c = letter-none _ (ne_eqb _ _ c.if-b-eq66.false) (ne_eqb _ _ c.if-b-eq87.false)
