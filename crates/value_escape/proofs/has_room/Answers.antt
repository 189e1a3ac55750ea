use Rattle.lists.proofs.Prelude.{arith}
use Rattle.value_display.proofs.Displays.{room-measured}
use Rattle.value_escape.specs.Escape.{escaped_text}
use Rattle.value_escape.proofs.has_room.Goals as goal

pub returns : goal.returns
returns c = let args = c.args in
    let good = c.well_formed in
    let it = room-measured (escaped_text args.text.now) args.out.now (omega (arith, good)) c.put_text-need.ensures in
    record { value = it.0; out_unchanged = it.1 }
