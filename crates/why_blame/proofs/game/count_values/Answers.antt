use Rattle.lists.proofs.Prelude.{sym, ap, ◌∙◌, length, arith}
use Rattle.lexer_scan.proofs.Bounds.{value-is}
use Rattle.lexer.specs.Step.{vals_on, vals_at, vals_by}
use Rattle.parser_game.proofs.Variants.{not-value}
use Rattle.why_blame.proofs.Games.{counted-first, counted-more, counted-end}
use borrow.Enum.Refused.{opened}
use Rattle.why_blame.proofs.game.count_values.Goals as goal

pub loop-next-init : goal.loop-next-init
loop-next-init c = counted-first _ _

pub overflow_add-n : goal.overflow_add-n
overflow_add-n c = let b = (value-is c.args.s.now _ _ _ _ (sym c.next_value.ensures ∙ c.in-Value.is)) in let x = c.loop-next.invariant.bound in omega arith

pub loop-next-smaller : goal.loop-next-smaller
loop-next-smaller c = let b = (value-is c.args.s.now _ _ _ _ (sym c.next_value.ensures ∙ c.in-Value.is)) in omega arith

pub loop-next-preserved : goal.loop-next-preserved
loop-next-preserved c = let b = (value-is c.args.s.now _ _ _ _ (sym c.next_value.ensures ∙ c.in-Value.is)) in counted-more c.loop-next.invariant _ _ _ (omega arith) (sym c.next_value.ensures ∙ c.in-Value.is)

pub returns : goal.returns
unfolding vals_at vals_by
returns c = counted-end c.loop-next.invariant (ap (vals_on (vals_by (length c.args.s.now) c.args.s.now) c.args.s.now) (sym c.next_value.ensures) ∙ not-value (vals_by (length c.args.s.now) c.args.s.now) c.args.s.now c.next_value.result (opened c.in_default.in_default-own.keys2))
