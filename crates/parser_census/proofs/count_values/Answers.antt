use Rattle.lists.proofs.Prelude.{sym, ◌∙◌, arith}
use Rattle.parser_census.proofs.Counting.{counting-first, counting_more, counting-end, counting-open}
use Rattle.lexer_scan.proofs.Bounds.{value-is}
use Rattle.parser_census.proofs.count_values.Goals as goal

pub loop-next-init : goal.loop-next-init
loop-next-init c = counting-first _ _ c.requires.0 c.requires.1

pub overflow_add-n : goal.overflow_add-n
overflow_add-n c = let x = c.loop-next.invariant in let l = x.low in let u = x.inside in omega arith

pub loop-next-smaller : goal.loop-next-smaller
loop-next-smaller c = let b = value-is c.args.s.now _ _ _ _ (sym c.next_value.ensures ∙ c.in-Value.is) in omega arith

pub loop-next-preserved : goal.loop-next-preserved
loop-next-preserved c = counting_more c.loop-next.invariant _ _ _ (sym c.next_value.ensures ∙ c.in-Value.is)

pub returns-in-NoMore : goal.returns-in-NoMore
returns-in-NoMore c = counting-end c.loop-next.invariant (sym c.next_value.ensures ∙ c.in-NoMore.is)

pub returns-in-Unclosed : goal.returns-in-Unclosed
returns-in-Unclosed c = counting-open c.loop-next.invariant (sym c.next_value.ensures ∙ c.in-Unclosed.is)
