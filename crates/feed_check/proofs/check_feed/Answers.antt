use Rattle.lists.proofs.Prelude.{sym, ◌∙◌, arith, length-take-le}
use Rattle.tables.specs.Memory.{memory}
use Rattle.tables.proofs.Cases.{passed, refused}
use Rattle.fit.proofs.Clauses.{fit-names}
use Rattle.fit.proofs.Whole.{fit-lent}
use Rattle.feed_check.proofs.Judging.{checked-misfit, checked-malformed, checked-judged}
use Rattle.feed_check.proofs.check_feed.Goals as goal

pub returns-then-not-fits : goal.returns-then-not-fits
returns-then-not-fits c = let a = c.args in
    let m = memory a.text.now a.used a.counts a.trees.now a.nodes.now a.properties.now a.values.now in
    checked-misfit m a.feed.now (refused c.fits.ensures c.if-not-fits.true-raw)

pub returns-then-not-is_feed : goal.returns-then-not-is_feed
returns-then-not-is_feed c = let a = c.args in
    let m = memory a.text.now a.used a.counts a.trees.now a.nodes.now a.properties.now a.values.now in
    checked-malformed m a.feed.now (passed c.fits.ensures c.if-not-fits.false-raw) (refused c.is_feed.ensures c.if-not-is_feed.true-raw)

pub slice_bounds-judge_all-end : goal.slice_bounds-judge_all-end
slice_bounds-judge_all-end c = let a = c.args in
    let m = memory a.text.now a.used a.counts a.trees.now a.nodes.now a.properties.now a.values.now in
    sym (length-take-le a.used a.text.now (fit-lent m (passed c.fits.ensures c.if-not-fits.false-raw)).0)

pub judge_all-requires : goal.judge_all-requires
judge_all-requires c = let a = c.args in
    let m = memory a.text.now a.used a.counts a.trees.now a.nodes.now a.properties.now a.values.now in
    let fit = (passed c.fits.ensures c.if-not-fits.false-raw) in
    let e = length-take-le a.used a.text.now (fit-lent m fit).0 in
    ((fit-lent m fit).1.properties, λ p l. let f = fit-names m fit p l in (f.0, omega (arith, f.1, e)))

pub returns : goal.returns
returns c = let a = c.args in
    let m = memory a.text.now a.used a.counts a.trees.now a.nodes.now a.properties.now a.values.now in
    c.judge_all.ensures ∙ checked-judged m a.feed.now (passed c.fits.ensures c.if-not-fits.false-raw) (passed c.is_feed.ensures c.if-not-is_feed.false-raw)
