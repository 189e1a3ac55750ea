use Rattle.sgf.proofs.Asking.{raw-shown}
use Rattle.sgf.proofs.sgf_display_value.Goals as goal

pub returns : goal.returns
returns c = let display = c.display in
    raw-shown c.kind_of.ensures display.ensures.value display.ensures.out_after c.value_in_c.ensures
