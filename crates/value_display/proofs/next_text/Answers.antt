use Rattle.lists.proofs.Prelude.{refl, le_refl, arith}
use Rattle.values.proofs.Steps.{stepped}
use Rattle.value_display.proofs.Texts.{text-end, text-plain, text-last, text-shown, text-removed}
use Rattle.value_display.proofs.next_text.Goals as goal

pub loop-b-init : goal.loop-b-init
loop-b-init c = (refl, le_refl c.args.from)

pub returns-in_default : goal.returns-in_default
returns-in_default c = let args = c.args in
    let loop = c.loop-b in
    text-end args.s.now loop.invariant (stepped args.s.now loop.at c.next_read.ensures c.in_default.is)

pub plain_byte-p-requires : goal.plain_byte-p-requires
plain_byte-p-requires c = c.if-b-ne92.true

pub returns-then-b-ne92 : goal.returns-then-b-ne92
returns-then-b-ne92 c = let args = c.args in
    let loop = c.loop-b in
    let next-read = c.next_read in
    text-plain args.s.now loop.invariant (stepped args.s.now loop.at next-read.ensures c.in-Some.is) c.plain_byte-p.ensures

pub returns-in_default-next_read : goal.returns-in_default-next_read
returns-in_default-next_read c = let args = c.args in
    let loop = c.loop-b in
    let next-read = c.next_read in
    let if1 = c.if-b-ne92 in
    text-last args.s.now loop.invariant (stepped args.s.now loop.at next-read.ensures c.in-Some.is) if1.false (stepped args.s.now c.in-Some.n c.next_read-in-loop-b.ensures c.in_default-next_read.is)

pub returns-then-other-eq0 : goal.returns-then-other-eq0
returns-then-other-eq0 c = let args = c.args in
    let loop = c.loop-b in
    let next-read = c.next_read in
    let if1 = c.if-b-ne92 in
    let next-read2 = c.next_read-in-loop-b in
    text-shown args.s.now loop.invariant (stepped args.s.now loop.at next-read.ensures c.in-Some.is) if1.false (stepped args.s.now c.in-Some.n next-read2.ensures c.in-Some-next_read.is) c.other_break-other.ensures c.if-other-eq0.true

pub loop-b-smaller : goal.loop-b-smaller
loop-b-smaller c = let args = c.args in
    let loop = c.loop-b in
    let next-read = c.next_read in
    let next-read2 = c.next_read-in-loop-b in
    omega (arith, (stepped args.s.now loop.at next-read.ensures c.in-Some.is), (stepped args.s.now c.in-Some.n next-read2.ensures c.in-Some-next_read.is), c.past-at.ensures.onward)

pub loop-b-preserved : goal.loop-b-preserved
loop-b-preserved c = let args = c.args in
    let loop = c.loop-b in
    let next-read = c.next_read in
    let if1 = c.if-b-ne92 in
    let next-read2 = c.next_read-in-loop-b in
    text-removed args.s.now loop.invariant (stepped args.s.now loop.at next-read.ensures c.in-Some.is) if1.false (stepped args.s.now c.in-Some.n next-read2.ensures c.in-Some-next_read.is) c.other_break-other.ensures c.if-other-eq0.false c.past-at.ensures
