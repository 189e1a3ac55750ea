use Rattle.lists.proofs.Prelude.{sym, ◌∙◌, arith}
use Rattle.tables.specs.Memory.{memory}
use Rattle.fit.proofs.Clauses.{fit-short}
use Rattle.fit.proofs.Whole.{fit-lent}
use Rattle.feed_apply.proofs.Answered.{fits, apply-refused, apply-long, apply-full, apply-given}
use Rattle.feed_apply.proofs.Applying.{spread-short, spanned-all, corrected-length, names_stand}
use Rattle.feed_apply.proofs.Sizes.{shrunk-spanned}
use Rattle.feed_apply.proofs.apply.Goals as goal

pub measure-change-requires : goal.measure-change-requires
measure-change-requires c = let a = c.args in
    let m = memory a.text.now a.used a.counts a.trees.now a.nodes.now a.properties.now a.values.now in
    let w = a.feed.now in
    let q = sym c.check_feed.ensures ∙ c.in-Ok.is in
    let f = fits m w q in
    ((fit-lent m f).1.values, spread-short m f w)

pub overflow_sub-kept : goal.overflow_sub-kept
overflow_sub-kept c = let a = c.args in
    let m = memory a.text.now a.used a.counts a.trees.now a.nodes.now a.properties.now a.values.now in
    let w = a.feed.now in
    let q = sym c.check_feed.ensures ∙ c.in-Ok.is in
    let f = fits m w q in
    let g = c.measure-change.ensures in
    let b = shrunk-spanned a.values.now w a.counts.values in
    let t = spanned-all m f w in
    let n = corrected-length m f w in
    omega (arith, g.1, b, t)

pub overflow_sub-kept-in-Ok : goal.overflow_sub-kept-in-Ok
overflow_sub-kept-in-Ok c = let a = c.args in
    let m = memory a.text.now a.used a.counts a.trees.now a.nodes.now a.properties.now a.values.now in
    let w = a.feed.now in
    let q = sym c.check_feed.ensures ∙ c.in-Ok.is in
    let f = fits m w q in
    let g = c.measure-change.ensures in
    let b = shrunk-spanned a.values.now w a.counts.values in
    let t = spanned-all m f w in
    let n = corrected-length m f w in
    omega (arith, fit-short m f)

pub returns-then-kept-change : goal.returns-then-kept-change
returns-then-kept-change c = let a = c.args in
    let m = memory a.text.now a.used a.counts a.trees.now a.nodes.now a.properties.now a.values.now in
    let w = a.feed.now in
    let q = sym c.check_feed.ensures ∙ c.in-Ok.is in
    let f = fits m w q in
    let g = c.measure-change.ensures in
    let b = shrunk-spanned a.values.now w a.counts.values in
    let t = spanned-all m f w in
    let n = corrected-length m f w in
    apply-long m w q (omega (arith, n, g.0, g.1, b, t, fit-short m f, c.if-kept-change.true))

pub overflow_sub-text : goal.overflow_sub-text
overflow_sub-text c = let a = c.args in
    let m = memory a.text.now a.used a.counts a.trees.now a.nodes.now a.properties.now a.values.now in
    let w = a.feed.now in
    let q = sym c.check_feed.ensures ∙ c.in-Ok.is in
    let f = fits m w q in
    let g = c.measure-change.ensures in
    let b = shrunk-spanned a.values.now w a.counts.values in
    let t = spanned-all m f w in
    let n = corrected-length m f w in
    omega (arith, (fit-lent m f).0)

pub returns-then-text-kept : goal.returns-then-text-kept
returns-then-text-kept c = let a = c.args in
    let m = memory a.text.now a.used a.counts a.trees.now a.nodes.now a.properties.now a.values.now in
    let w = a.feed.now in
    let q = sym c.check_feed.ensures ∙ c.in-Ok.is in
    let f = fits m w q in
    let g = c.measure-change.ensures in
    let b = shrunk-spanned a.values.now w a.counts.values in
    let t = spanned-all m f w in
    let n = corrected-length m f w in
    apply-full m w q (omega (arith, n, g.0, g.1, b, t, fit-short m f, c.if-kept-change.false)) (omega (arith, n, g.0, g.1, b, t, (fit-lent m f).0, c.if-text-kept.true))

pub rewrite-requires : goal.rewrite-requires
rewrite-requires c = let a = c.args in
    let m = memory a.text.now a.used a.counts a.trees.now a.nodes.now a.properties.now a.values.now in
    let w = a.feed.now in
    let q = sym c.check_feed.ensures ∙ c.in-Ok.is in
    let f = fits m w q in
    let g = c.measure-change.ensures in
    let b = shrunk-spanned a.values.now w a.counts.values in
    let t = spanned-all m f w in
    let n = corrected-length m f w in
    (f, omega (arith, n, g.0, g.1, b, t, (fit-lent m f).0, c.if-text-kept.false))

pub move_properties-requires : goal.move_properties-requires
move_properties-requires c = let a = c.args in
    let m = memory a.text.now a.used a.counts a.trees.now a.nodes.now a.properties.now a.values.now in
    let w = a.feed.now in
    let q = sym c.check_feed.ensures ∙ c.in-Ok.is in
    let f = fits m w q in
    let g = c.measure-change.ensures in
    let b = shrunk-spanned a.values.now w a.counts.values in
    let t = spanned-all m f w in
    let n = corrected-length m f w in
    ((fit-lent m f).1.properties, (fit-lent m f).1.values, spread-short m f w, names_stand m f w, omega (arith, g.0, g.1, b, t, fit-short m f, c.if-kept-change.false))

pub move_values-requires : goal.move_values-requires
move_values-requires c = let a = c.args in
    let m = memory a.text.now a.used a.counts a.trees.now a.nodes.now a.properties.now a.values.now in
    let w = a.feed.now in
    let q = sym c.check_feed.ensures ∙ c.in-Ok.is in
    let f = fits m w q in
    let g = c.measure-change.ensures in
    let b = shrunk-spanned a.values.now w a.counts.values in
    let t = spanned-all m f w in
    let n = corrected-length m f w in
    ((fit-lent m f).1.values, spread-short m f w, omega (arith, g.0, g.1, b, t, fit-short m f, c.if-kept-change.false))

pub overflow_add-result : goal.overflow_add-result
overflow_add-result c = let a = c.args in
    let m = memory a.text.now a.used a.counts a.trees.now a.nodes.now a.properties.now a.values.now in
    let w = a.feed.now in
    let q = sym c.check_feed.ensures ∙ c.in-Ok.is in
    let f = fits m w q in
    let g = c.measure-change.ensures in
    let b = shrunk-spanned a.values.now w a.counts.values in
    let t = spanned-all m f w in
    let n = corrected-length m f w in
    omega (arith, g.0, g.1, b, t, fit-short m f, c.if-kept-change.false)

pub returns-in-Err : goal.returns-in-Err
returns-in-Err c = apply-refused _ _ _ _ (sym c.check_feed.ensures ∙ c.in-Err.is)

pub returns-else-text-kept : goal.returns-else-text-kept
returns-else-text-kept c = let a = c.args in
    let m = memory a.text.now a.used a.counts a.trees.now a.nodes.now a.properties.now a.values.now in
    let w = a.feed.now in
    let q = sym c.check_feed.ensures ∙ c.in-Ok.is in
    let f = fits m w q in
    let g = c.measure-change.ensures in
    let b = shrunk-spanned a.values.now w a.counts.values in
    let t = spanned-all m f w in
    let n = corrected-length m f w in
    apply-given m w q (omega (arith, n, g.0, g.1, b, t, fit-short m f, c.if-kept-change.false)) (omega (arith, n, g.0, g.1, b, t, (fit-lent m f).0, c.if-text-kept.false))
    (omega (arith, n, g.0, g.1)) c.rewrite.ensures c.move_properties.ensures c.move_values.ensures
