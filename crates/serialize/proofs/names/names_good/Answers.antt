use Rattle.lists.proofs.Prelude.{arith, rules}
use Rattle.tables.proofs.Cases.{passed, refused}
use Rattle.tables.proofs.Each.{each_none, each_more, each-end, each-fails}
use Rattle.serialize.specs.LocalsWalk.{has_name, names_good}
use Rattle.serialize.proofs.Walked.{name-tested}
use Rattle.serialize.proofs.names.names_good.Goals as goal

pub loop-k-init : goal.loop-k-init
loop-k-init c = let args = c.args in
    (search rules, each_none (has_name args.text.now args.properties.now))

pub overflow_mul-k : goal.overflow_mul-k
overflow_mul-k c = let h = (c.requires c.loop-k.k c.loop-k-test.true).row in search rules

pub offset_bounds-properties-k : goal.offset_bounds-properties-k
offset_bounds-properties-k c = let h = (c.requires c.loop-k.k c.loop-k-test.true).row in search rules

pub bounds-properties-k : goal.bounds-properties-k
bounds-properties-k c = let h = (c.requires c.loop-k.k c.loop-k-test.true).row in search rules

pub overflow_mul-k-in-loop-k : goal.overflow_mul-k-in-loop-k
overflow_mul-k-in-loop-k c = let h = (c.requires c.loop-k.k c.loop-k-test.true).row in search rules

pub overflow_add-k : goal.overflow_add-k
overflow_add-k c = let h = (c.requires c.loop-k.k c.loop-k-test.true).row in search rules

pub offset_bounds-properties-k-in-loop-k : goal.offset_bounds-properties-k-in-loop-k
offset_bounds-properties-k-in-loop-k c = let h = (c.requires c.loop-k.k c.loop-k-test.true).row in search rules

pub bounds-properties-k-in-loop-k : goal.bounds-properties-k-in-loop-k
bounds-properties-k-in-loop-k c = let h = (c.requires c.loop-k.k c.loop-k-test.true).row in search rules

pub slice_bounds-is_named-count : goal.slice_bounds-is_named-count
slice_bounds-is_named-count c = omega (arith, (c.requires c.loop-k.k c.loop-k-test.true).rises, c.wide-start.ensures, c.wide-end.ensures)

pub slice_bounds-is_named-start : goal.slice_bounds-is_named-start
slice_bounds-is_named-start c = let pre = c.requires in
    let loop = c.loop-k in
    let loop-test = c.loop-k-test in
    omega (arith, (pre loop.k loop-test.true).rises, (pre loop.k loop-test.true).inside, c.wide-start.ensures, c.wide-end.ensures)

pub slice_bounds-is_named-end : goal.slice_bounds-is_named-end
slice_bounds-is_named-end c = let pre = c.requires in
    let loop = c.loop-k in
    let loop-test = c.loop-k-test in
    omega (arith, (pre loop.k loop-test.true).rises, (pre loop.k loop-test.true).inside, c.wide-start.ensures, c.wide-end.ensures)

pub returns-then-not-is_named : goal.returns-then-not-is_named
unfolding names_good
returns-then-not-is_named c = let args = c.args in
    let loop = c.loop-k in
    each-fails (has_name args.text.now args.properties.now) loop.k args.n c.loop-k-test.true (refused (name-tested args.text.now args.properties.now loop.k c.wide-start.ensures c.wide-end.ensures c.is_named.ensures) c.if-not-is_named.true-raw)

pub loop-k-preserved : goal.loop-k-preserved
loop-k-preserved c = let args = c.args in
    let loop = c.loop-k in
    (search rules, each_more (has_name args.text.now args.properties.now) loop.k loop.invariant.1 (passed (name-tested args.text.now args.properties.now loop.k c.wide-start.ensures c.wide-end.ensures c.is_named.ensures) c.if-not-is_named.false-raw))

pub returns : goal.returns
unfolding names_good
returns c = let args = c.args in
    let loop = c.loop-k in
    each-end (has_name args.text.now args.properties.now) loop.k args.n loop.invariant.0 c.loop-k-test.false loop.invariant.1
