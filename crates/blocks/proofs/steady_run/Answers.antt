use Rattle.blocks.proofs.Steadies.{block-part, block-part-by, steady-white, steady-ink, steady-values, steady-pair}
use Rattle.blocks.proofs.Taking.{block_more}
use Rattle.blocks.specs.LocalsSteady.{PairIs, steady_at}
use Rattle.blocks.specs.Room.{room}
use Rattle.tables.specs.Numbers.{text_limit}
use Rattle.lists.proofs.Tests.{and_both}
use Rattle.lists.proofs.Prelude.{arith, ◌+◌, ◌<◌, refl, sym, ◌∙◌, subst, get_or}
use Rattle.blocks.proofs.steady_run.Goals as goal
use Rattle.std.specs.Prelude.{Option}
use Rattle.blocks_step.specs.declared.Phase.{Phase}

pub loop-i-init : goal.loop-i-init
loop-i-init c = (refl, omega arith, c.requires.0, c.requires.1, refl)

pub pair_run-requires : goal.pair_run-requires
pair_run-requires c = c.loop-i-test.true

pub overflow_add-i : goal.overflow_add-i
overflow_add-i c = (let x = (subst (λ (z : Option Phase). PairIs c.loop-i.p c.args.bytes.now c.loop-i.i z) c.in-Some.is c.pair_run.ensures).pair.room in omega arith)

pub overflow_add-place : goal.overflow_add-place
overflow_add-place c = omega (arith, c.if-place.false)

pub loop-i-smaller-in-Some : goal.loop-i-smaller-in-Some
loop-i-smaller-in-Some c = (let x = (subst (λ (z : Option Phase). PairIs c.loop-i.p c.args.bytes.now c.loop-i.i z) c.in-Some.is c.pair_run.ensures).pair.room in omega arith)

pub loop-i-preserved-in-Some : goal.loop-i-preserved-in-Some
loop-i-preserved-in-Some c = (let x = (subst (λ (z : Option Phase). PairIs c.loop-i.p c.args.bytes.now c.loop-i.i z) c.in-Some.is c.pair_run.ensures).pair.room in (c.loop-i.invariant.0, omega (arith, c.loop-i.invariant.1), x, omega arith, block-part c.args.bytes.now c.loop-i.i 4 (room (steady_at c.loop-i.place c.loop-i.ink c.loop-i.p c.loop-i.n) c.loop-i.rows) (room (steady_at (c.loop-i.place + 4) (c.loop-i.place + 4) c.in-Some.q c.loop-i.n) c.loop-i.rows) _ (steady-pair c.loop-i.place c.loop-i.ink c.loop-i.p c.loop-i.n c.loop-i.rows c.args.bytes.now c.loop-i.i c.in-Some.q (omega (arith, c.if-place.false)) (subst (λ (z : Option Phase). PairIs c.loop-i.p c.args.bytes.now c.loop-i.i z) c.in-Some.is c.pair_run.ensures) c.if-b-eq91.true) c.loop-i.invariant.4))

pub value_run-run-requires : goal.value_run-run-requires
value_run-run-requires c = c.loop-i.invariant.2

pub overflow_add-i-then-run-gt0 : goal.overflow_add-i-then-run-gt0
overflow_add-i-then-run-gt0 c = (let x = (c.value_run-run.ensures.1 c.if-run-gt0.true).run.room in omega (arith, c.wide-i.ensures))

pub overflow_add-place-then-run-gt0 : goal.overflow_add-place-then-run-gt0
overflow_add-place-then-run-gt0 c = omega (arith, c.if-place.false, c.value_run-run.ensures.0)

pub loop-i-smaller-then-run-gt0 : goal.loop-i-smaller-then-run-gt0
loop-i-smaller-then-run-gt0 c = (let x = (c.value_run-run.ensures.1 c.if-run-gt0.true).run.room in omega (arith, c.wide-i.ensures, c.if-run-gt0.true))

pub loop-i-preserved-then-run-gt0 : goal.loop-i-preserved-then-run-gt0
loop-i-preserved-then-run-gt0 c = (let x = (c.value_run-run.ensures.1 c.if-run-gt0.true).run.room in (c.loop-i.invariant.0, omega (arith, c.loop-i.invariant.1), omega (arith, c.wide-i.ensures), omega (arith, c.if-run-gt0.true), block-part-by c.args.bytes.now c.loop-i.i c.value_run-run.result c.wide-i.result (room (steady_at c.loop-i.place c.loop-i.ink c.loop-i.p c.loop-i.n) c.loop-i.rows) (room (steady_at (c.loop-i.place + c.value_run-run.result) (c.loop-i.place + c.value_run-run.result) c.loop-i.p c.loop-i.n) c.loop-i.rows) _ c.wide-i.ensures (steady-values c.loop-i.place c.loop-i.ink c.loop-i.p c.loop-i.n c.loop-i.rows c.args.bytes.now c.loop-i.i c.value_run-run.result c.loop-i.invariant.3 (omega (arith, c.if-place.false, c.value_run-run.ensures.0)) (c.value_run-run.ensures.1 c.if-run-gt0.true)) c.loop-i.invariant.4))

pub overflow_add-place-then-is_space-holds_white : goal.overflow_add-place-then-is_space-holds_white
overflow_add-place-then-is_space-holds_white c = omega (arith, c.if-place.false)

pub loop-i-preserved-then-is_space-holds_white : goal.loop-i-preserved-then-is_space-holds_white
loop-i-preserved-then-is_space-holds_white c = (let w = and_both c.is_space.result c.holds_white.result c.if-is_space-holds_white.true in (c.loop-i.invariant.0, omega (arith, c.loop-i.invariant.1), omega (arith, c.loop-i-test.true), c.loop-i.invariant.3, block_more c.args.bytes.now c.loop-i.i (room (steady_at c.loop-i.place c.loop-i.ink c.loop-i.p c.loop-i.n) c.loop-i.rows) (room (steady_at (c.loop-i.place + 1) c.loop-i.ink c.loop-i.p c.loop-i.n) c.loop-i.rows) _ c.loop-i-test.true (sym (steady-white c.loop-i.place c.loop-i.ink c.loop-i.p c.loop-i.n c.loop-i.rows (omega (arith, c.if-place.false)) (get_or c.args.bytes.now c.loop-i.i 0) c.loop-i.invariant.3 (sym c.is_space.ensures ∙ w.0) (c.holds_white.ensures w.1))) c.loop-i.invariant.4))

pub ink_rows-n-requires : goal.ink_rows-n-requires
ink_rows-n-requires c = (c.if-b-le32.false, c.if-b-ge128.false, omega (arith, c.if-place.false))

pub ink_next-p-requires : goal.ink_next-p-requires
ink_next-p-requires c = (c.if-b-le32.false, c.if-b-ge128.false)

pub overflow_add-place-in-loop-i : goal.overflow_add-place-in-loop-i
overflow_add-place-in-loop-i c = omega (arith, c.if-place.false)

pub loop-i-preserved : goal.loop-i-preserved
loop-i-preserved c =
    let l = c.loop-i in
    let bs = c.args.bytes.now in
    let b = get_or bs l.i 0 in
    let h : l.place < text_limit = omega (arith, c.if-place.false) in
    let s = sym (steady-ink l.place l.ink l.p l.n l.rows h b c.if-b-le32.false c.if-b-ge128.false _ _ _ c.ink_rows-n.ensures c.ink_next-p.ensures) in (
      omega arith,
      omega (arith, l.invariant.1),
      omega (arith, c.loop-i-test.true),
      omega arith,
      block_more bs l.i (room (steady_at l.place l.ink l.p l.n) l.rows) _ _ c.loop-i-test.true s l.invariant.4,
    )

pub returns-after-loop-i : goal.returns-after-loop-i
returns-after-loop-i c = record { low = c.loop-i.invariant.1; high = c.loop-i.invariant.2; rest = c.loop-i.invariant.4 }

pub returns-then-place : goal.returns-then-place
returns-then-place c = record { low = c.loop-i.invariant.1; high = c.loop-i.invariant.2; rest = c.loop-i.invariant.4 }

pub returns-then-b-ge128 : goal.returns-then-b-ge128
returns-then-b-ge128 c = record { low = c.loop-i.invariant.1; high = c.loop-i.invariant.2; rest = c.loop-i.invariant.4 }

pub returns-else-is_space-holds_white : goal.returns-else-is_space-holds_white
returns-else-is_space-holds_white c = record { low = c.loop-i.invariant.1; high = c.loop-i.invariant.2; rest = c.loop-i.invariant.4 }
