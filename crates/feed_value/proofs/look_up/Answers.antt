use Rattle.lists.proofs.Prelude.{sym, ◌∙◌, arith}
use Rattle.tables.specs.Memory.{memory}
use Rattle.fit.proofs.Whole.{fit-lent}
use Rattle.feed_value.proofs.Looking.{passed-fit, looked-refused, looked-beyond, looked-source}
use Rattle.feed_value.proofs.look_up.Goals as goal

pub returns-then-counts-k : goal.returns-then-counts-k
returns-then-counts-k c = let a = c.args in
    let m = memory a.text.now a.used a.counts a.trees.now a.nodes.now a.properties.now a.values.now in
    looked-beyond m a.feed.now a.k (sym c.check_feed.ensures ∙ c.in-Ok.is) c.if-counts-k.true

pub source_of-requires : goal.source_of-requires
source_of-requires c = let a = c.args in
    let m = memory a.text.now a.used a.counts a.trees.now a.nodes.now a.properties.now a.values.now in
    omega (arith, c.if-counts-k.false, (fit-lent m (passed-fit m a.feed.now (sym c.check_feed.ensures ∙ c.in-Ok.is))).1.values)

pub returns-in-Err : goal.returns-in-Err
returns-in-Err c = let a = c.args in
    let m = memory a.text.now a.used a.counts a.trees.now a.nodes.now a.properties.now a.values.now in
    looked-refused m a.feed.now a.k c.in-Err.refused.reason c.in-Err.refused.place (sym c.check_feed.ensures ∙ c.in-Err.is)

pub returns-else-counts-k : goal.returns-else-counts-k
returns-else-counts-k c = let a = c.args in
    let m = memory a.text.now a.used a.counts a.trees.now a.nodes.now a.properties.now a.values.now in
    c.source_of.ensures ∙ looked-source m a.feed.now a.k (sym c.check_feed.ensures ∙ c.in-Ok.is) c.if-counts-k.false
