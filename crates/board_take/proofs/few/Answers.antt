use Rattle.board_take.proofs.Listing.{few-unsaid, few-alive}
use Rattle.lists.proofs.Prelude.{arith}
use Rattle.board_take.proofs.Short.{short-stone, short-place, short-lives}
use Rattle.board_take.proofs.Listing.{listing_start, listing-more, listing-end}
use Rattle.board_take.proofs.few.Goals as goal

pub push_few-n-requires : goal.push_few-n-requires
push_few-n-requires c = (c.requires.1, omega arith)

pub loop-i-init : goal.loop-i-init
loop-i-init c = let a = c.args in listing_start a.columns a.rows a.stones.now a.colour a.p c.requires.0 c.push_few-n.ensures

pub returns-then-n-gt12 : goal.returns-then-n-gt12
returns-then-n-gt12 c = let a = c.args in few-unsaid a.columns a.rows a.stones.now a.colour a.p c.loop-i.invariant.short.long

pub offset_bounds-queue-i : goal.offset_bounds-queue-i
offset_bounds-queue-i c = omega (arith, c.loop-i.invariant.short.most)

pub bounds-queue-i : goal.bounds-queue-i
bounds-queue-i c = omega (arith, c.loop-i-test.true, c.loop-i.invariant.short.most, c.loop-i.invariant.short.long)

pub overflow_cast-q : goal.overflow_cast-q
overflow_cast-q c = let a = c.args in let l = c.loop-i in let x = short-place a.columns a.rows a.stones.now a.colour a.p l.invariant.short l.i c.loop-i-test.true in omega arith

pub free-requires : goal.free-requires
free-requires c = let a = c.args in let l = c.loop-i in (short-stone a.columns a.rows a.stones.now a.colour a.p l.invariant.short l.i c.loop-i-test.true).on

pub returns-then-free : goal.returns-then-free
returns-then-free c = let a = c.args in let l = c.loop-i in few-alive a.columns a.rows a.stones.now a.colour a.p l.invariant.short.long (short-lives a.columns a.rows a.stones.now a.colour a.p l.invariant.short l.i c.loop-i-test.true (c.free.ensures.yes-free c.if-free.true))

pub overflow_add-i : goal.overflow_add-i
overflow_add-i c = omega (arith, c.loop-i-test.true, c.loop-i.invariant.short.most)

pub visit_few-n-requires : goal.visit_few-n-requires
visit_few-n-requires c = let a = c.args in let l = c.loop-i in (l.invariant.short.long, l.invariant.short.most, (short-stone a.columns a.rows a.stones.now a.colour a.p l.invariant.short l.i c.loop-i-test.true).on)

pub loop-i-smaller : goal.loop-i-smaller
loop-i-smaller c = omega (arith, c.loop-i-test.true, c.loop-i.invariant.short.most)

pub loop-i-preserved : goal.loop-i-preserved
loop-i-preserved c = let a = c.args in let l = c.loop-i in listing-more a.columns a.rows a.stones.now a.colour a.p l.invariant c.loop-i-test.true (c.free.ensures.no-free c.if-free.false) c.visit_few-n.ensures

pub returns : goal.returns
returns c = let a = c.args in listing-end a.columns a.rows a.stones.now a.colour a.p c.loop-i.invariant c.loop-i-test.false
