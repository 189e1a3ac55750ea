use Rattle.edit_answer.proofs.Judged.{answer-misfit, answer-beyond, answer-fixed, answer-new-bytes}
use Rattle.fit.proofs.Clauses.{fit-short, fit-names}
use Rattle.fit.proofs.Whole.{fit-lent as fit-held}
use Rattle.edit_answer.proofs.Fitting.{fit-within}
use Rattle.tables.proofs.Cases.{passed, refused}
use Rattle.lists.proofs.Prelude.{length-take-le, arith, sym, ◌∙◌}
use Rattle.tables.specs.Memory.{memory}
use Rattle.edit_answer.proofs.answer.Goals as goal

pub returns-then-not-fits : goal.returns-then-not-fits
returns-then-not-fits c = let a = c.args in answer-misfit (memory a.text.now a.used a.counts a.trees.now a.nodes.now a.properties.now a.values.now) a.k a.new.now (refused c.fits.ensures c.if-not-fits.true-raw)

pub returns-then-counts-k : goal.returns-then-counts-k
returns-then-counts-k c = let a = c.args in answer-beyond (memory a.text.now a.used a.counts a.trees.now a.nodes.now a.properties.now a.values.now) a.k a.new.now (passed c.fits.ensures c.if-not-fits.false-raw) c.if-counts-k.true

pub slice_bounds-is_fixed-end : goal.slice_bounds-is_fixed-end
slice_bounds-is_fixed-end c = let a = c.args in sym (length-take-le _ _ (fit-held (memory a.text.now a.used a.counts a.trees.now a.nodes.now a.properties.now a.values.now) (passed c.fits.ensures c.if-not-fits.false-raw)).0)

pub is_fixed-requires : goal.is_fixed-requires
is_fixed-requires c = let a = c.args in let m = memory a.text.now a.used a.counts a.trees.now a.nodes.now a.properties.now a.values.now in let f = fit-names m (passed c.fits.ensures c.if-not-fits.false-raw) in let e = length-take-le a.used a.text.now (fit-held m (passed c.fits.ensures c.if-not-fits.false-raw)).0 in ((fit-held m (passed c.fits.ensures c.if-not-fits.false-raw)).1.properties, λ p l. ((f p l).0, omega (arith, (f p l).1, e)))

pub returns-then-is_fixed : goal.returns-then-is_fixed
returns-then-is_fixed c = let a = c.args in answer-fixed (memory a.text.now a.used a.counts a.trees.now a.nodes.now a.properties.now a.values.now) a.k a.new.now (passed c.fits.ensures c.if-not-fits.false-raw) c.if-counts-k.false (sym c.if-is_fixed.true ∙ c.is_fixed.ensures)

pub size_of-requires : goal.size_of-requires
size_of-requires c = let a = c.args in let m = memory a.text.now a.used a.counts a.trees.now a.nodes.now a.properties.now a.values.now in let h = (fit-held m (passed c.fits.ensures c.if-not-fits.false-raw)).1.values in let w = fit-within m (passed c.fits.ensures c.if-not-fits.false-raw) _ c.if-counts-k.false in (omega (arith, c.if-counts-k.false), w.order)

pub overflow_sub-used : goal.overflow_sub-used
overflow_sub-used c = let a = c.args in let m = memory a.text.now a.used a.counts a.trees.now a.nodes.now a.properties.now a.values.now in let w = fit-within m (passed c.fits.ensures c.if-not-fits.false-raw) _ c.if-counts-k.false in let o = w.order in let i = w.inside in let s = fit-short m (passed c.fits.ensures c.if-not-fits.false-raw) in omega (arith, c.size_of.ensures)

pub answer_bytes-requires : goal.answer_bytes-requires
answer_bytes-requires c = let a = c.args in let m = memory a.text.now a.used a.counts a.trees.now a.nodes.now a.properties.now a.values.now in let w = fit-within m (passed c.fits.ensures c.if-not-fits.false-raw) _ c.if-counts-k.false in let o = w.order in let i = w.inside in let s = fit-short m (passed c.fits.ensures c.if-not-fits.false-raw) in omega (arith, c.size_of.ensures)

pub returns : goal.returns
returns c = let a = c.args in answer-new-bytes (memory a.text.now a.used a.counts a.trees.now a.nodes.now a.properties.now a.values.now) a.k a.new.now (passed c.fits.ensures c.if-not-fits.false-raw) c.if-counts-k.false (sym c.if-is_fixed.false ∙ c.is_fixed.ensures) c.size_of.ensures c.answer_bytes.ensures
