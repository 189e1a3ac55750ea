use Rattle.lists.proofs.Prelude.{◌≡◌, sym, ◌∙◌, arith}
use Rattle.lexer_scan.proofs.Bounds.{value-is}
use Rattle.lexer_scan.specs.declared.ValueStep.TheVariants.{Value}
use Rattle.lexer_scan.specs.Scan.{value_step_at}
use Rattle.parser_tree.proofs.Takings.{taking-first, taking-more, taking-long, taking-end, taking-unclosed}
use Rattle.parser_tree.proofs.take_values.Goals as goal

pub loop-a-init : goal.loop-a-init
loop-a-init c = taking-first _ _ _ _ c.requires.1

pub overflow_mul-v : goal.overflow_mul-v
overflow_mul-v c = let x = c.loop-a.invariant in let p = c.requires in omega (arith, x.low, x.inside)

pub overflow_cast-a : goal.overflow_cast-a
overflow_cast-a c = let b = value-is _ _ _ _ _ (let found : value_step_at c.args.s.now c.loop-a.i ≡ Value c.in-Value.a c.in-Value.e c.in-Value.next = sym c.next_value.ensures ∙ c.in-Value.is in found) in omega (arith, b.from, b.forward, b.inside, c.requires.0)

pub overflow_cast-e : goal.overflow_cast-e
overflow_cast-e c = let b = value-is _ _ _ _ _ (let found : value_step_at c.args.s.now c.loop-a.i ≡ Value c.in-Value.a c.in-Value.e c.in-Value.next = sym c.next_value.ensures ∙ c.in-Value.is in found) in omega (arith, b.inside, c.requires.0)

pub overflow_add-v : goal.overflow_add-v
overflow_add-v c = let x = c.loop-a.invariant in let p = c.requires in omega (arith, x.low, x.inside)

pub loop-a-smaller : goal.loop-a-smaller
loop-a-smaller c = let b = value-is _ _ _ _ _ (let found : value_step_at c.args.s.now c.loop-a.i ≡ Value c.in-Value.a c.in-Value.e c.in-Value.next = sym c.next_value.ensures ∙ c.in-Value.is in found) in omega (arith, b.on, b.from, b.forward, b.still)

pub loop-a-preserved : goal.loop-a-preserved
loop-a-preserved c = taking-more c.loop-a.invariant _ _ _ (let found : value_step_at c.args.s.now c.loop-a.i ≡ Value c.in-Value.a c.in-Value.e c.in-Value.next = sym c.next_value.ensures ∙ c.in-Value.is in found) c.put.ensures

pub shape_of-vals-in-NoMore : goal.shape_of-vals-in-NoMore
shape_of-vals-in-NoMore c = taking-long c.loop-a.invariant

pub returns-in-NoMore : goal.returns-in-NoMore
returns-in-NoMore c = taking-end c.loop-a.invariant (sym c.next_value.ensures ∙ c.in-NoMore.is)

pub shape_of-vals-in-Unclosed : goal.shape_of-vals-in-Unclosed
shape_of-vals-in-Unclosed c = taking-long c.loop-a.invariant

pub returns-in-Unclosed : goal.returns-in-Unclosed
returns-in-Unclosed c = taking-unclosed c.loop-a.invariant (sym c.next_value.ensures ∙ c.in-Unclosed.is)
