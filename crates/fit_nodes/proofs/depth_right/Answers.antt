use Rattle.lists.proofs.Prelude.{◌+◌, ◌*◌, eq-eqb, arith}
use Rattle.fit_nodes.proofs.Depths.{depth-right}
use Rattle.fit_nodes.proofs.Rule.{right-before}
use Rattle.tables.specs.Columns.{node_stride}
use Rattle.fit_nodes.proofs.depth_right.Goals as goal

pub returns-then-parent : goal.returns-then-parent
returns-then-parent c = rw (eq-eqb _ _ c.if-parent.true)

pub overflow_mul-up : goal.overflow_mul-up
overflow_mul-up c = omega (arith, right-before c.args.nodes.now c.args.k c.requires.1 c.if-parent.false, c.wide-up.ensures)

pub overflow_add-up : goal.overflow_add-up
overflow_add-up c = omega (arith, right-before c.args.nodes.now c.args.k c.requires.1 c.if-parent.false, c.wide-up.ensures)

pub offset_bounds-nodes-up : goal.offset_bounds-nodes-up
offset_bounds-nodes-up c = omega (arith, right-before c.args.nodes.now c.args.k c.requires.1 c.if-parent.false, c.wide-up.ensures)

pub bounds-nodes-up : goal.bounds-nodes-up
bounds-nodes-up c = omega (arith, right-before c.args.nodes.now c.args.k c.requires.1 c.if-parent.false, c.wide-up.ensures)

pub overflow_add-result : goal.overflow_add-result
overflow_add-result c = omega (arith, c.wide-2.ensures, c.shared_slice_known-4-1.given (c.wide-up.result * node_stride + 5))

pub returns : goal.returns
returns c = depth-right c.args.nodes.now c.args.k c.if-parent.false c.wide-up.ensures c.wide.ensures c.wide-2.ensures
