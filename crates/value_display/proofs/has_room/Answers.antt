use Rattle.lists.proofs.Prelude.{refl, sym, arith, le-leb, length}
use Rattle.value_display.specs.Display.{display_text}
use Rattle.values.specs.Read.{read_value}
use Rattle.value_display.proofs.Displays.{room-measured}
use Rattle.value_display.proofs.Sizes.{shown-length}
use Rattle.value_display.proofs.has_room.Goals as goal

pub returns-then-raw-out : goal.returns-then-raw-out
returns-then-raw-out c = let args = c.args in
    record { value = sym (le-leb (length (display_text args.kind (read_value args.raw.now))) (length args.out.now) (omega (arith, shown-length args.kind args.raw.now, c.if-raw-out.true))); out_unchanged = refl }

pub returns : goal.returns
returns c = let args = c.args in
    let good = c.well_formed in
    let p = room-measured (display_text args.kind (read_value args.raw.now)) args.out.now (omega (arith, good)) c.put_shown-need.ensures in
    record { value = p.0; out_unchanged = p.1 }
