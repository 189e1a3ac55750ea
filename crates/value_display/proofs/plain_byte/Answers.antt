use Rattle.value_display.proofs.Shown.{begins-blank1, begins-outside, begins-blank2, begins-blank3, begins-plain}
use Rattle.value_display.proofs.plain_byte.Goals as goal

pub returns-then-is_blank1 : goal.returns-then-is_blank1
returns-then-is_blank1 c = let args = c.args in
    let pre = c.requires in
    begins-blank1 args.b args.s.now args.at (pre) c.is_blank1.ensures c.if-is_blank1.true

pub returns-then-b : goal.returns-then-b
returns-then-b c = let args = c.args in
    let pre = c.requires in
    begins-outside args.b args.s.now args.at (pre) c.is_blank1.ensures c.if-is_blank1.false c.if-b.true

pub returns-then-is_blank2 : goal.returns-then-is_blank2
returns-then-is_blank2 c = let args = c.args in
    let pre = c.requires in
    let is-blank1 = c.is_blank1 in
    let if1 = c.if-is_blank1 in
    begins-blank2 args.b args.s.now args.at (pre) is-blank1.ensures if1.false c.peek-second.ensures c.is_blank2.ensures c.if-is_blank2.true

pub returns-then-is_blank3 : goal.returns-then-is_blank3
returns-then-is_blank3 c = let args = c.args in
    let pre = c.requires in
    let is-blank1 = c.is_blank1 in
    let if1 = c.if-is_blank1 in
    let peek = c.peek-second in
    let is-blank2 = c.is_blank2 in
    let if3 = c.if-is_blank2 in
    begins-blank3 args.b args.s.now args.at (pre) is-blank1.ensures if1.false peek.ensures is-blank2.ensures if3.false c.peek-third.ensures c.is_blank3.ensures c.if-is_blank3.true

pub returns : goal.returns
returns c = let args = c.args in
    let pre = c.requires in
    let is-blank1 = c.is_blank1 in
    let if1 = c.if-is_blank1 in
    let peek = c.peek-second in
    let is-blank2 = c.is_blank2 in
    let if3 = c.if-is_blank2 in
    begins-plain args.b args.s.now args.at (pre) is-blank1.ensures if1.false peek.ensures is-blank2.ensures if3.false c.peek-third.ensures c.is_blank3.ensures c.if-is_blank3.false
