use Rattle.lists.proofs.Prelude.{subst}
use Rattle.value_display.specs.Display.{format_text}
use Rattle.value_display.specs.LocalsShowing.{DisplaysAt}
use Rattle.value_display.proofs.Shown.{peek-byte, peek-end}
use Rattle.value_display.proofs.peek_text.Goals as goal

pub returns-in_default : goal.returns-in_default
returns-in_default c = let args = c.args in
    peek-end format_text args.s.now args.at (subst (DisplaysAt format_text args.s.now args.at) c.in_default.is c.next_text.ensures)

pub returns : goal.returns
returns c = let args = c.args in
    let next-text = c.next_text in
    peek-byte format_text args.s.now args.at (subst (DisplaysAt format_text args.s.now args.at) c.in-Some.is next-text.ensures)
