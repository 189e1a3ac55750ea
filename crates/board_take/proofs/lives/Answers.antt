use Rattle.lists.proofs.Prelude.{ℕ, length-replicate, true≢false, sym, arith}
use Rattle.board_take.proofs.Short.{short-start, short-stone, short-place, short-lives, short-more}
use Rattle.board_take.proofs.lives.Goals as goal

pub push_short-n-requires : goal.push_short-n-requires
push_short-n-requires c = (length-replicate {A = ℕ} 32 0, omega arith)

pub loop-i-init : goal.loop-i-init
loop-i-init c = let a = c.args in (short-start a.columns a.rows a.stones.now a.colour a.p c.requires c.push_short-n.ensures, omega arith)

pub offset_bounds-queue-i : goal.offset_bounds-queue-i
offset_bounds-queue-i c = omega (arith, c.loop-i.invariant.0.most)

pub bounds-queue-i : goal.bounds-queue-i
bounds-queue-i c = omega (arith, c.loop-i.invariant.0.most, c.loop-i.invariant.0.long)

pub overflow_cast-q : goal.overflow_cast-q
overflow_cast-q c = let a = c.args in let l = c.loop-i in let x = short-place a.columns a.rows a.stones.now a.colour a.p l.invariant.0 l.i c.loop-i-test.true in omega arith

pub free-requires : goal.free-requires
free-requires c = let a = c.args in let l = c.loop-i in (short-stone a.columns a.rows a.stones.now a.colour a.p l.invariant.0 l.i c.loop-i-test.true).on

pub returns-then-free : goal.returns-then-free
returns-then-free c = λ e. let a = c.args in let l = c.loop-i in short-lives a.columns a.rows a.stones.now a.colour a.p l.invariant.0 l.i c.loop-i-test.true (c.free.ensures.yes-free c.if-free.true)

pub overflow_add-i : goal.overflow_add-i
overflow_add-i c = omega (arith, c.loop-i.invariant.0.most)

pub visit_short-n-requires : goal.visit_short-n-requires
visit_short-n-requires c = let a = c.args in let l = c.loop-i in (l.invariant.0.long, l.invariant.0.most, (short-stone a.columns a.rows a.stones.now a.colour a.p l.invariant.0 l.i c.loop-i-test.true).on)

pub loop-i-smaller : goal.loop-i-smaller
loop-i-smaller c = omega (arith, c.loop-i.invariant.0.most)

pub loop-i-preserved : goal.loop-i-preserved
loop-i-preserved c = let a = c.args in let l = c.loop-i in (short-more a.columns a.rows a.stones.now a.colour a.p l.invariant.0 l.i c.loop-i-test.true c.visit_short-n.ensures, omega (arith, c.visit_short-n.ensures.grows))

pub returns : goal.returns
returns c = λ e. absurd (true≢false (sym e))
