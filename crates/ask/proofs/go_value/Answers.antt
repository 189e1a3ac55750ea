use Rattle.ask.proofs.Answers.{go-unfit, go-no, go-rooted, go_named, go-yes}
use Rattle.fit.proofs.Whole.{fit-lent}
use Rattle.tables.proofs.Cases.{refused, passed}
use Rattle.lists.proofs.Prelude.{length-take-le, sym, ◌∙◌, rules}
use Rattle.tables.specs.Memory.{memory}
use Rattle.ask.proofs.go_value.Goals as goal

pub returns-then-not-fits : goal.returns-then-not-fits
returns-then-not-fits c = let a = c.args in c.refused.ensures ∙ go-unfit (memory a.text.now a.used a.counts a.trees.now a.nodes.now a.properties.now a.values.now) a.p (refused c.fits.ensures c.if-not-fits.true-raw)

pub returns-then-counts-p : goal.returns-then-counts-p
returns-then-counts-p c = let a = c.args in c.refused-then-counts-p.ensures ∙ go-no (memory a.text.now a.used a.counts a.trees.now a.nodes.now a.properties.now a.values.now) a.p (passed c.fits.ensures c.if-not-fits.false-raw) c.if-counts-p.true

pub property_tree-tree-requires : goal.property_tree-tree-requires
property_tree-tree-requires c = let a = c.args in go-rooted (memory a.text.now a.used a.counts a.trees.now a.nodes.now a.properties.now a.values.now) a.p (passed c.fits.ensures c.if-not-fits.false-raw) (search rules)

pub slice_bounds-used_text-end : goal.slice_bounds-used_text-end
slice_bounds-used_text-end c = let a = c.args in sym (length-take-le _ _ (fit-lent (memory a.text.now a.used a.counts a.trees.now a.nodes.now a.properties.now a.values.now) (passed c.fits.ensures c.if-not-fits.false-raw)).0)

pub value_of-go-requires : goal.value_of-go-requires
value_of-go-requires c = let a = c.args in go_named (memory a.text.now a.used a.counts a.trees.now a.nodes.now a.properties.now a.values.now) a.p (passed c.fits.ensures c.if-not-fits.false-raw) (search rules)

pub returns : goal.returns
returns c = let a = c.args in go-yes (memory a.text.now a.used a.counts a.trees.now a.nodes.now a.properties.now a.values.now) a.p (passed c.fits.ensures c.if-not-fits.false-raw) (search rules) c.property_tree-tree.ensures c.rule_at-rule.ensures c.value_of-go.ensures
