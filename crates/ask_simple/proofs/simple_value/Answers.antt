use Rattle.ask.proofs.Answers.{go-rooted, go_named}
use Rattle.ask_simple.proofs.Answers.{simple-unfit, simple-no, simple-yes}
use Rattle.fit.proofs.Whole.{fit-lent}
use Rattle.tables.proofs.Cases.{refused, passed}
use Rattle.lists.proofs.Prelude.{length-take-le, sym, rules}
use Rattle.tables.specs.Memory.{memory}
use Rattle.ask_simple.proofs.simple_value.Goals as goal

pub returns-then-not-fits : goal.returns-then-not-fits
returns-then-not-fits c = let a = c.args in simple-unfit (memory a.text.now a.used a.counts a.trees.now a.nodes.now a.properties.now a.values.now) a.p (refused c.fits.ensures c.if-not-fits.true-raw)

pub returns-then-counts-p : goal.returns-then-counts-p
returns-then-counts-p c = let a = c.args in simple-no (memory a.text.now a.used a.counts a.trees.now a.nodes.now a.properties.now a.values.now) a.p (passed c.fits.ensures c.if-not-fits.false-raw) c.if-counts-p.true

pub game_of-game-requires : goal.game_of-game-requires
game_of-game-requires c = let a = c.args in go-rooted (memory a.text.now a.used a.counts a.trees.now a.nodes.now a.properties.now a.values.now) a.p (passed c.fits.ensures c.if-not-fits.false-raw) (search rules)

pub slice_bounds-value_of-end : goal.slice_bounds-value_of-end
slice_bounds-value_of-end c = let a = c.args in sym (length-take-le _ _ (fit-lent (memory a.text.now a.used a.counts a.trees.now a.nodes.now a.properties.now a.values.now) (passed c.fits.ensures c.if-not-fits.false-raw)).0)

pub value_of-simple-requires : goal.value_of-simple-requires
value_of-simple-requires c = let a = c.args in go_named (memory a.text.now a.used a.counts a.trees.now a.nodes.now a.properties.now a.values.now) a.p (passed c.fits.ensures c.if-not-fits.false-raw) (search rules)

pub returns : goal.returns
returns c = let a = c.args in simple-yes (memory a.text.now a.used a.counts a.trees.now a.nodes.now a.properties.now a.values.now) a.p (passed c.fits.ensures c.if-not-fits.false-raw) (search rules) c.game_of-game.ensures c.value_of-simple.ensures
