use Rattle.lists.proofs.Prelude.{sym, ◌∙◌, arith, leb, ltb, ltb-true}
use Rattle.text_utf8.proofs.Decoding.{decoded-within}
use Rattle.lists.proofs.Tests.{and_both}
use Rattle.text_utf8.proofs.Turns.{onward-start, turn, turn-ascii, turn-plain, stop-bad, end-blank, end_kept}
use Rattle.text_utf8.proofs.trim.Goals as goal

pub loop-i-init : goal.loop-i-init
loop-i-init c = onward-start c.args.text.now

pub overflow_add-i : goal.overflow_add-i
overflow_add-i c = let p = (c.plain_at-n.ensures c.if-n-gt0.true).room in omega arith

pub loop-i-smaller-then-n-gt0 : goal.loop-i-smaller-then-n-gt0
loop-i-smaller-then-n-gt0 c = let p = (c.plain_at-n.ensures c.if-n-gt0.true).room in omega arith

pub loop-i-preserved-then-n-gt0 : goal.loop-i-preserved-then-n-gt0
loop-i-preserved-then-n-gt0 c = let k = c.loop-i.seen in
    let t = and_both (ltb 0 k.last) (leb c.loop-i.again c.loop-i.i) c.if-seen-again.true in
    turn-plain c.args.text.now k c.loop-i.i c.loop-i.invariant c.plain_at-n.result (ltb-true 0 k.last t.0) c.if-n-gt0.true
    (c.plain_at-n.ensures c.if-n-gt0.true)

pub loop-i-preserved-then-b-lt128 : goal.loop-i-preserved-then-b-lt128
loop-i-preserved-then-b-lt128 c = turn-ascii c.args.text.now c.loop-i.seen c.loop-i.i c.loop-i.invariant c.is_white.result c.marked-seen.result
    c.loop-i-test.true c.if-b-lt128.true c.is_white.ensures c.marked-seen.ensures

pub returns-in_default : goal.returns-in_default
returns-in_default c = stop-bad c.args.text.now c.loop-i.seen c.loop-i.i c.loop-i.invariant c.loop-i-test.true (sym c.char_at.ensures ∙ c.in_default.is)

pub overflow_add-i-in-loop-i : goal.overflow_add-i-in-loop-i
overflow_add-i-in-loop-i c = let d = decoded-within c.args.text.now c.loop-i.i c.in-Some.width c.in-Some.white (sym c.char_at.ensures ∙ c.in-Some.is) in omega arith

pub marked-seen-requires-in-loop-i : goal.marked-seen-requires-in-loop-i
marked-seen-requires-in-loop-i c = let d = decoded-within c.args.text.now c.loop-i.i c.in-Some.width c.in-Some.white (sym c.char_at.ensures ∙ c.in-Some.is) in omega arith

pub overflow_add-i-in-loop-i-2 : goal.overflow_add-i-in-loop-i-2
overflow_add-i-in-loop-i-2 c = let d = decoded-within c.args.text.now c.loop-i.i c.in-Some.width c.in-Some.white (sym c.char_at.ensures ∙ c.in-Some.is) in omega arith

pub loop-i-smaller : goal.loop-i-smaller
loop-i-smaller c = let d = decoded-within c.args.text.now c.loop-i.i c.in-Some.width c.in-Some.white (sym c.char_at.ensures ∙ c.in-Some.is) in omega arith

pub loop-i-preserved : goal.loop-i-preserved
loop-i-preserved c =
    turn c.args.text.now c.loop-i.seen c.loop-i.i c.loop-i.invariant c.in-Some.width c.in-Some.white c.marked-seen-in-loop-i.result
    (sym c.char_at.ensures ∙ c.in-Some.is) c.marked-seen-in-loop-i.ensures

pub returns-then-seen-eq0 : goal.returns-then-seen-eq0
returns-then-seen-eq0 c = end-blank c.args.text.now c.loop-i.seen c.loop-i.i c.loop-i.invariant c.loop-i-test.false c.if-seen-eq0.true

pub returns : goal.returns
returns c = end_kept c.args.text.now c.loop-i.seen c.loop-i.i c.loop-i.invariant c.loop-i-test.false c.if-seen-eq0.false
