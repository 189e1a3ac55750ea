use Rattle.lists.proofs.Prelude.{arith}
use Rattle.value_display.specs.Display.{display_text}
use Rattle.values.specs.Read.{read_value}
use Rattle.value_display.proofs.Displays.{display-refused, display-done}
use Rattle.value_display.proofs.display.Goals as goal

pub returns-then-not-has_room : goal.returns-then-not-has_room
returns-then-not-has_room c = let args = c.args in
    let good = c.well_formed in
    let has_room = c.has_room in
    let p = display-refused (display_text args.kind (read_value args.raw.now)) args.out.now (omega (arith, good)) has_room.ensures.value has_room.ensures.out_unchanged c.if-not-has_room.true in
    record { value = p.0; out_after = p.1 }

pub returns : goal.returns
returns c = let args = c.args in
    let good = c.well_formed in
    let has_room = c.has_room in
    let if1 = c.if-not-has_room in
    let p = display-done (display_text args.kind (read_value args.raw.now)) args.out.now (omega (arith, good)) has_room.ensures.value has_room.ensures.out_unchanged if1.false c.put_shown-length.ensures in
    record { value = p.0; out_after = p.1 }
