use Rattle.salvage_measure.proofs.Measuring.{measuring-first, measuring-ready, measuring-few, measuring-more, measuring-end}
use Rattle.salvage_measure.proofs.Counting.{counting-first, counting-few, counting_more, counting-end, shape-few}
use Rattle.lists.proofs.Prelude.{arith, ◌+◌, sym, ap, ◌∙◌, subst, ℕ, refl}
use Rattle.salvage_list.specs.LocalsWalk.{ListReady}
use Rattle.salvage_measure.proofs.weigh_slices.Goals as goal

pub loop-k-init : goal.loop-k-init
loop-k-init c = (measuring-first c.requires, record { stack = refl; marks = refl; cells = refl }, counting-first c.requires)

pub shape_of-x-requires-in-loop-k : goal.shape_of-x-requires-in-loop-k
shape_of-x-requires-in-loop-k c = (measuring-ready c.loop-k.invariant.0 c.loop-k-test.true, c.loop-k.invariant.1)

pub overflow_add-base : goal.overflow_add-base
overflow_add-base c = let f = measuring-few c.loop-k.invariant.0 c.loop-k-test.true c.shape_of-x.ensures.0 in let f0 = f.0 in let f1 = f.1 in let g = c.greater-nodes.ensures in let n = c.loop-k.invariant.0.nodes in let i = c.loop-k.invariant.0.inside in let s = c.requires.short in let b = c.requires.bound in let t = c.loop-k-test.true in omega (arith, f0, f1, g, n, i, s, b, t)

pub tree_length-bytes-requires : goal.tree_length-bytes-requires
tree_length-bytes-requires c = let f = measuring-few c.loop-k.invariant.0 c.loop-k-test.true c.shape_of-x.ensures.0 in let f0 = f.0 in let f1 = f.1 in let f2 = f.2 in let f3 = f.3 in let g = c.greater-nodes.ensures in let s = c.requires.short in (omega (arith, f0, f1, g, s), omega (arith, f0, f1, f2, s), omega (arith, f1, f3, s))

pub overflow_add-bytes : goal.overflow_add-bytes
overflow_add-bytes c = let f = measuring-few c.loop-k.invariant.0 c.loop-k-test.true c.shape_of-x.ensures.0 in let f0 = f.0 in let f1 = f.1 in let f2 = f.2 in let f3 = f.3 in let g = c.greater-nodes.ensures in let s = c.requires.short in let e = c.tree_length-bytes.ensures in let b = c.loop-k.invariant.0.bound in let i = c.loop-k.invariant.0.inside in let o = c.requires.bound in let t = c.loop-k-test.true in omega (arith, f0, f1, f2, f3, g, s, e, b, i, o, t)

pub overflow_sub-listed : goal.overflow_sub-listed
overflow_sub-listed c = let h = c.greater-nodes.ensures in omega (arith, h)

pub overflow_add-listed : goal.overflow_add-listed
overflow_add-listed c = let f = counting-few c.loop-k.invariant.2 in let g = shape-few c.shape_of-x.ensures.0 in let h = c.greater-nodes.ensures in let s = c.requires.short in omega (arith, f, g, h, s)

pub overflow_add-listed-in-loop-k : goal.overflow_add-listed-in-loop-k
overflow_add-listed-in-loop-k c = let f = counting-few c.loop-k.invariant.2 in let g = shape-few c.shape_of-x.ensures.0 in let h = c.greater-nodes.ensures in let s = c.requires.short in omega (arith, f, g, h, s)

pub overflow_add-k : goal.overflow_add-k
overflow_add-k c = let t = c.loop-k-test.true in omega (arith, t)

pub loop-k-smaller : goal.loop-k-smaller
loop-k-smaller c = let t = c.loop-k-test.true in omega (arith, t)

pub loop-k-preserved : goal.loop-k-preserved
loop-k-preserved c = (measuring-more c.loop-k.invariant.0 c.loop-k-test.true c.shape_of-x.ensures.0 c.greater-nodes.ensures (ap (λ (z : ℕ). c.loop-k.bytes + z) c.tree_length-bytes.ensures) c.greater-depth.ensures, c.shape_of-x.ensures.1, counting_more c.loop-k.invariant.2 c.loop-k-test.true c.shape_of-x.ensures.0 c.greater-nodes.ensures refl)

pub overflow_add-listed-2 : goal.overflow_add-listed-2
overflow_add-listed-2 c = let f = counting-few c.loop-k.invariant.2 in let t = c.count_tail.ensures.1 in omega (arith, f, t)

pub returns : goal.returns
returns c = (record { result = c.together.ensures.0 ∙ measuring-end c.loop-k.invariant.0 c.loop-k-test.false; changes = c.together.ensures.1 ∙ counting-end c.loop-k.invariant.2 c.loop-k-test.false (ap (λ (z : ℕ). c.loop-k.listed + z) c.count_tail.ensures.0) }, λ h. (c.together.ensures.2, c.together.ensures.3, subst (ListReady c.args.s.now c.args.from) (sym c.together.ensures.4) c.requires))
