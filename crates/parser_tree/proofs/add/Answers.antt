use Rattle.lists.proofs.Prelude.{ℕ, ◌*◌, [], ◌∷◌, subst, arith}
use Rattle.parser_tree.proofs.Takings.{taken-count, taken-long}
use Rattle.lists.specs.Put.{PutWhole}
use Rattle.parser_tree.proofs.add.Goals as goal

pub overflow_cast-count : goal.overflow_cast-count
overflow_cast-count c = let t = c.take_values-taken.ensures in
    let p = c.requires in
    omega (arith, t.low, t.inside, p.1)

pub overflow_add-w : goal.overflow_add-w
overflow_add-w c = omega (arith, c.requires.0.props)

pub overflow_mul-cell : goal.overflow_mul-cell
overflow_mul-cell c = omega (arith, c.requires.0.nodes)

pub overflow_sub-cell : goal.overflow_sub-cell
overflow_sub-cell c = omega (arith, c.requires.4)

pub overflow_sub-w : goal.overflow_sub-w
overflow_sub-w c = omega (arith, c.requires.5)

pub overflow_cast-w-2 : goal.overflow_cast-w-2
overflow_cast-w-2 c = omega (arith, c.requires.0.props)

pub shape_of-vals : goal.shape_of-vals
shape_of-vals c = taken-long c.take_values-taken.ensures

pub returns : goal.returns
returns c = let t = c.take_values-taken.ensures in
    record {
      ends = t.ends;
      is = rw t.next;
      vals = t.rows;
      props = subst (λ (z : ℕ). PutWhole c.args.props.now (c.args.w.props * 4) (c.args.i ∷ c.args.k ∷ c.args.w.vals ∷ z ∷ []) c.put.new.t) (taken-count t) c.put.ensures;
      nodes = c.put-2.ensures;
      low = t.low;
      inside = t.inside;
    }
