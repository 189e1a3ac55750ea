use Rattle.lists.proofs.Prelude.{sym, ◌∙◌, arith}
use Rattle.lexer_scan.proofs.Bounds.{value-is}
use Rattle.salvage_form.proofs.Scanned.{summing-first, summing-next, summing-end}
use borrow.Enum.Refused.{opened}
use Rattle.salvage_form.proofs.raw_length.Goals as goal

pub loop-a-init : goal.loop-a-init
loop-a-init c = summing-first _ _

pub overflow_sub-n : goal.overflow_sub-n
overflow_sub-n c = let w = (value-is c.args.s.now _ _ _ _ (sym c.next_value.ensures ∙ c.in-Value.is)) in w.forward

pub overflow_add-n : goal.overflow_add-n
overflow_add-n c = let w = (value-is c.args.s.now _ _ _ _ (sym c.next_value.ensures ∙ c.in-Value.is)) in let f = w.from in let g = w.forward in let i = w.inside in let o = w.on in let t = w.still in let lo = c.loop-a.invariant.low in omega (arith, c.well_formed)

pub overflow_add-n-in-loop-a : goal.overflow_add-n-in-loop-a
overflow_add-n-in-loop-a c = let w = (value-is c.args.s.now _ _ _ _ (sym c.next_value.ensures ∙ c.in-Value.is)) in let f = w.from in let g = w.forward in let i = w.inside in let o = w.on in let t = w.still in let lo = c.loop-a.invariant.low in omega (arith, c.well_formed)

pub loop-a-smaller : goal.loop-a-smaller
loop-a-smaller c = let w = (value-is c.args.s.now _ _ _ _ (sym c.next_value.ensures ∙ c.in-Value.is)) in let f = w.from in let g = w.forward in let i = w.inside in let o = w.on in let t = w.still in let lo = c.loop-a.invariant.low in omega arith

pub loop-a-preserved : goal.loop-a-preserved
loop-a-preserved c = summing-next c.loop-a.invariant c.next_value.ensures _ _ _ c.in-Value.is

pub returns : goal.returns
returns c = (summing-end c.loop-a.invariant c.next_value.ensures (opened c.in_default.in_default-own.keys2), c.loop-a.invariant.fits)
