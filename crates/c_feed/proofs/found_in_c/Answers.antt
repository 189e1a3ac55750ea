use Rattle.lists.proofs.Prelude.{sym, ap}
use Rattle.c_feed.specs.Parts.{found_in_c}
use Rattle.c_feed.proofs.found_in_c.Goals as goal

pub returns-in-Some : goal.returns-in-Some
returns-in-Some c = ap found_in_c (sym c.in-Some.is)

pub returns-in-None : goal.returns-in-None
returns-in-None c = ap found_in_c (sym c.in-None.is)
