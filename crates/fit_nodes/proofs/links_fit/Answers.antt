use Rattle.tables.proofs.Cases.{passed, refused}
use Rattle.fit_nodes.specs.Nodes.{links_fit}
use Rattle.fit_nodes.proofs.Lent.{lent_is}
use Rattle.fit_nodes.proofs.links_fit.Goals as goal

pub returns-then-not-is_lent : goal.returns-then-not-is_lent
unfolding links_fit
returns-then-not-is_lent c = rw (refused c.is_lent.ensures c.if-not-is_lent.true-raw)

pub nodes_fit-requires : goal.nodes_fit-requires
nodes_fit-requires c = let a = c.args in lent_is a.counts a.trees.now a.nodes.now (passed c.is_lent.ensures c.if-not-is_lent.false-raw)

pub returns : goal.returns
unfolding links_fit
returns c = rw (passed c.is_lent.ensures c.if-not-is_lent.false-raw) c.nodes_fit.ensures
