use Rattle.lists.proofs.Prelude.{arith}
use Rattle.value_escape.specs.Escape.{escaped_text}
use Rattle.value_display.proofs.Displays.{display-refused, display-done}
use Rattle.value_escape.proofs.escape.Goals as goal

pub returns-then-not-has_room : goal.returns-then-not-has_room
returns-then-not-has_room c = let args = c.args in
    let good = c.well_formed in
    let has_room = c.has_room in
    let it = display-refused (escaped_text args.text.now) args.out.now (omega (arith, good)) has_room.ensures.value has_room.ensures.out_unchanged c.if-not-has_room.true in
    record { value = it.0; out_after = it.1 }

pub returns : goal.returns
returns c = let args = c.args in
    let good = c.well_formed in
    let has_room = c.has_room in
    let if1 = c.if-not-has_room in
    let it = display-done (escaped_text args.text.now) args.out.now (omega (arith, good)) has_room.ensures.value has_room.ensures.out_unchanged if1.false c.put_text-length.ensures in
    record { value = it.0; out_after = it.1 }
