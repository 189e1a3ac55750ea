use Rattle.sgf.proofs.Asking.{display-shown}
use Rattle.sgf.proofs.sgf_display.Goals as goal

pub returns : goal.returns
returns c = display-shown c.kind_of.ensures c.display.ensures c.display_in_c.ensures
