use Rattle.lists.proofs.Prelude.{subst, arith}
use Rattle.value_display.specs.Display.{display_text}
use Rattle.value_display.specs.LocalsShowing.{DisplaysAt}
use Rattle.value_display.proofs.Displays.{display-first, display-next, display-end}
use Rattle.store_bytes.proofs.Written.{wrote-length}
use Rattle.value_display.proofs.put_shown.Goals as goal

pub loop-b-init : goal.loop-b-init
loop-b-init c = let args = c.args in
    display-first args.kind args.raw.now args.out.now

pub shape_of-out-in_default : goal.shape_of-out-in_default
shape_of-out-in_default c = let loop = c.loop-b in
    wrote-length loop.invariant.wrote

pub returns-in_default : goal.returns-in_default
returns-in_default c = let args = c.args in
    let loop = c.loop-b in
    display-end args.kind args.raw.now loop.invariant (subst (DisplaysAt (display_text args.kind) args.raw.now loop.at) c.in_default.is c.next_shown.ensures)

pub loop-b-smaller : goal.loop-b-smaller
loop-b-smaller c = let args = c.args in
    let loop = c.loop-b in
    let next-shown = c.next_shown in
    omega (arith, (subst (DisplaysAt (display_text args.kind) args.raw.now loop.at) c.in-Some.is next-shown.ensures))

pub loop-b-preserved : goal.loop-b-preserved
loop-b-preserved c = let args = c.args in
    let good = c.well_formed in
    let loop = c.loop-b in
    let next-shown = c.next_shown in
    display-next args.kind args.raw.now loop.invariant (omega (arith, good)) (subst (DisplaysAt (display_text args.kind) args.raw.now loop.at) c.in-Some.is next-shown.ensures) c.put_byte-to.ensures
