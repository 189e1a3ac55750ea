use Rattle.lists.proofs.Prelude.{sym, ◌∙◌, arith, rules}
use Rattle.store_bytes.proofs.Written.{wrote_none, wrote-is, wrote-length}
use Rattle.serialize.proofs.Climbs.{ends-none, ends-self, ends-first, ends-placed, ends-before, ends-done, ends_more}
use Rattle.serialize.proofs.brackets.put_ends.Goals as goal

pub returns-then-k-eq0 : goal.returns-then-k-eq0
returns-then-k-eq0 c = let args = c.args in
    wrote-is (ends-none args.nodes.now args.k args.p c.if-k-eq0.true) (wrote_none args.out.now args.at (omega (arith, c.well_formed)))

pub returns-then-j-top : goal.returns-then-j-top
returns-then-j-top c = let args = c.args in
    wrote-is (ends-self args.nodes.now args.k args.p c.if-k-eq0.false (c.if-j-top.true ∙ c.wide-top.ensures)) (wrote_none args.out.now args.at (omega (arith, c.well_formed)))

pub loop-at-init : goal.loop-at-init
loop-at-init c = let wide = c.wide-top in
    let pre = c.requires in
    let args = c.args in
    let good = c.well_formed in
    (wide.ensures, pre, ends-first pre c.if-k-eq0.false (λ z. c.if-j-top.false (z ∙ sym wide.ensures)) args.out.now args.at (omega (arith, good)) (omega (arith, good)))

pub put_end-to-requires : goal.put_end-to-requires
put_end-to-requires c = let loop = c.loop-at in
    ends-placed loop.invariant.1 loop.invariant.2

pub overflow_mul-j : goal.overflow_mul-j
overflow_mul-j c = let loop = c.loop-at in
    let h = (ends-placed loop.invariant.1 loop.invariant.2).row in search rules

pub offset_bounds-nodes-j : goal.offset_bounds-nodes-j
offset_bounds-nodes-j c = let loop = c.loop-at in
    let h = (ends-placed loop.invariant.1 loop.invariant.2).row in search rules

pub bounds-nodes-j : goal.bounds-nodes-j
bounds-nodes-j c = let loop = c.loop-at in
    let h = (ends-placed loop.invariant.1 loop.invariant.2).row in search rules

pub shape_of-out-then-up-top : goal.shape_of-out-then-up-top
shape_of-out-then-up-top c = let loop = c.loop-at in
    wrote-length (ends-done loop.invariant.1 loop.invariant.2 c.put_end-to.ensures (sym c.wide-up.ensures ∙ c.if-up-top.true ∙ loop.invariant.0))

pub returns-then-up-top : goal.returns-then-up-top
returns-then-up-top c = let loop = c.loop-at in
    ends-done loop.invariant.1 loop.invariant.2 c.put_end-to.ensures (sym c.wide-up.ensures ∙ c.if-up-top.true ∙ loop.invariant.0)

pub loop-at-smaller : goal.loop-at-smaller
loop-at-smaller c = let loop = c.loop-at in
    let wide2 = c.wide-up in
    omega (arith, ends-before loop.invariant.1 loop.invariant.2 (λ z. c.if-up-top.false (wide2.ensures ∙ z ∙ sym loop.invariant.0)), wide2.ensures)

pub loop-at-preserved : goal.loop-at-preserved
loop-at-preserved c = let loop = c.loop-at in
    let wide2 = c.wide-up in
    (loop.invariant.0, loop.invariant.1, ends_more loop.invariant.1 loop.invariant.2 c.put_end-to.ensures (λ z. c.if-up-top.false (wide2.ensures ∙ z ∙ sym loop.invariant.0)) wide2.ensures)
