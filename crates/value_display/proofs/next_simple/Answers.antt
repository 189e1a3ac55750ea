use Rattle.lists.proofs.Prelude.{subst}
use Rattle.value_display.specs.Display.{format_text}
use Rattle.value_display.specs.LocalsShowing.{DisplaysAt}
use Rattle.value_display.proofs.Lines.{simple-end, simple-other, simple-cr-lf, simple-cr, simple-lf, simple-lf-cr-lf, simple-lf-cr}
use Rattle.value_display.proofs.next_simple.Goals as goal

pub returns-in_default : goal.returns-in_default
returns-in_default c = let args = c.args in
    simple-end args.s.now args.at (subst (DisplaysAt format_text args.s.now args.at) c.in_default.is c.next_text.ensures)

pub returns-then-other_break-eq0 : goal.returns-then-other_break-eq0
returns-then-other_break-eq0 c = let args = c.args in
    let next-text = c.next_text in
    simple-other args.s.now args.at (subst (DisplaysAt format_text args.s.now args.at) c.in-Some.is next-text.ensures) c.other_break.ensures c.if-other_break-eq0.true

pub returns-then-second-eq10 : goal.returns-then-second-eq10
returns-then-second-eq10 c = let args = c.args in
    let next-text = c.next_text in
    let other-break = c.other_break in
    let peek-text = c.peek_text-second in
    simple-cr-lf args.s.now args.at (subst (DisplaysAt format_text args.s.now args.at) c.in-Some.is next-text.ensures) other-break.ensures peek-text.ensures c.if-b-eq13.true c.if-second-eq10.true

pub returns-then-b-eq13 : goal.returns-then-b-eq13
returns-then-b-eq13 c = let args = c.args in
    let next-text = c.next_text in
    let other-break = c.other_break in
    let peek-text = c.peek_text-second in
    simple-cr args.s.now args.at (subst (DisplaysAt format_text args.s.now args.at) c.in-Some.is next-text.ensures) other-break.ensures peek-text.ensures c.if-b-eq13.true c.if-second-eq10.false

pub returns-then-second-ne13 : goal.returns-then-second-ne13
returns-then-second-ne13 c = let args = c.args in
    let next-text = c.next_text in
    let other-break = c.other_break in
    let if1 = c.if-other_break-eq0 in
    let peek-text = c.peek_text-second in
    simple-lf args.s.now args.at (subst (DisplaysAt format_text args.s.now args.at) c.in-Some.is next-text.ensures) other-break.ensures peek-text.ensures if1.false c.if-b-eq13.false c.if-second-ne13.true

pub returns-then-third-eq10 : goal.returns-then-third-eq10
returns-then-third-eq10 c = let args = c.args in
    let next-text = c.next_text in
    let other-break = c.other_break in
    let if1 = c.if-other_break-eq0 in
    let peek-text = c.peek_text-second in
    let if2 = c.if-b-eq13 in
    let if4 = c.if-second-ne13 in
    simple-lf-cr-lf args.s.now args.at (subst (DisplaysAt format_text args.s.now args.at) c.in-Some.is next-text.ensures) other-break.ensures peek-text.ensures if1.false if2.false if4.false c.peek_text-third.ensures c.if-third-eq10.true

pub returns : goal.returns
returns c = let args = c.args in
    let next-text = c.next_text in
    let other-break = c.other_break in
    let if1 = c.if-other_break-eq0 in
    let peek-text = c.peek_text-second in
    let if2 = c.if-b-eq13 in
    let if4 = c.if-second-ne13 in
    simple-lf-cr args.s.now args.at (subst (DisplaysAt format_text args.s.now args.at) c.in-Some.is next-text.ensures) other-break.ensures peek-text.ensures if1.false if2.false if4.false c.peek_text-third.ensures c.if-third-eq10.false
