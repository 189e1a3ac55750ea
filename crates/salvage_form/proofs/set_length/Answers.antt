use Rattle.lists.proofs.Prelude.{refl, sym, ◌∙◌, arith}
use Rattle.lexer_scan.proofs.Bounds.{value-is}
use Rattle.parser_game.proofs.GameValues.{part-is}
use Rattle.go.proofs.Marked.{gather-first, gather-end, gather-bad, gather-next}
use Rattle.salvage_form.specs.Measured.{raws_at}
use Rattle.salvage_form.proofs.Scanned.{raws-more, raws-shut}
use Rattle.salvage_form.proofs.Lengths.{set-bad, set-good}
use borrow.Enum.Refused.{opened}
use Rattle.salvage_form.proofs.set_length.Goals as goal

pub loop-a-init : goal.loop-a-init
loop-a-init c = gather-first refl

pub slice_bounds-mark_value-count : goal.slice_bounds-mark_value-count
slice_bounds-mark_value-count c = let w = (value-is c.args.s.now _ _ _ _ (sym c.next_value.ensures ∙ c.in-Value.is)) in let f = w.from in let g = w.forward in let i = w.inside in let o = w.on in let t = w.still in omega arith

pub slice_bounds-mark_value-start : goal.slice_bounds-mark_value-start
slice_bounds-mark_value-start c = let w = (value-is c.args.s.now _ _ _ _ (sym c.next_value.ensures ∙ c.in-Value.is)) in let f = w.from in let g = w.forward in let i = w.inside in let o = w.on in let t = w.still in omega arith

pub slice_bounds-mark_value-end : goal.slice_bounds-mark_value-end
slice_bounds-mark_value-end c = let w = (value-is c.args.s.now _ _ _ _ (sym c.next_value.ensures ∙ c.in-Value.is)) in let f = w.from in let g = w.forward in let i = w.inside in let o = w.on in let t = w.still in omega arith

pub mark_value-requires : goal.mark_value-requires
mark_value-requires c = c.loop-a.invariant.len

pub returns-then-not-mark_value : goal.returns-then-not-mark_value
returns-then-not-mark_value c = let b = c.raw_length.ensures.1 in let p = c.requires in (set-bad (raws_at c.args.s.now c.args.k) (gather-bad c.loop-a.invariant (raws-more c.args.s.now c.loop-a.at _ _ _ c.next_value.ensures c.in-Value.is) (part-is c.args.s.now _ _ (value-is c.args.s.now _ _ _ _ (sym c.next_value.ensures ∙ c.in-Value.is)).forward (let w = (value-is c.args.s.now _ _ _ _ (sym c.next_value.ensures ∙ c.in-Value.is)) in let f = w.from in let g = w.forward in let i = w.inside in let o = w.on in let t = w.still in omega arith)) (sym c.mark_value.ensures.0 ∙ c.if-not-mark_value.true)) c.raw_length.ensures.0, omega arith)

pub loop-a-smaller : goal.loop-a-smaller
loop-a-smaller c = let w = (value-is c.args.s.now _ _ _ _ (sym c.next_value.ensures ∙ c.in-Value.is)) in let f = w.from in let g = w.forward in let i = w.inside in let o = w.on in let t = w.still in omega arith

pub loop-a-preserved : goal.loop-a-preserved
loop-a-preserved c = gather-next c.loop-a.invariant (raws-more c.args.s.now c.loop-a.at _ _ _ c.next_value.ensures c.in-Value.is) (part-is c.args.s.now _ _ (value-is c.args.s.now _ _ _ _ (sym c.next_value.ensures ∙ c.in-Value.is)).forward (let w = (value-is c.args.s.now _ _ _ _ (sym c.next_value.ensures ∙ c.in-Value.is)) in let f = w.from in let g = w.forward in let i = w.inside in let o = w.on in let t = w.still in omega arith)) (sym c.mark_value.ensures.0 ∙ c.if-not-mark_value.false) c.mark_value.ensures.1

pub count_marks-requires : goal.count_marks-requires
count_marks-requires c = c.loop-a.invariant.len

pub overflow_mul-result : goal.overflow_mul-result
overflow_mul-result c = let b = c.count_marks.ensures.1 in omega arith

pub returns : goal.returns
returns c = let b = c.count_marks.ensures.1 in (set-good (raws_at c.args.s.now c.args.k) (gather-end c.loop-a.invariant (raws-shut c.args.s.now c.loop-a.at c.next_value.ensures (opened c.in_default.in_default-own.keys2))) c.count_marks.ensures.0, omega arith)
