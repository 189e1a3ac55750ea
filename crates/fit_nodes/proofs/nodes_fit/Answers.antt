use Rattle.fit_nodes.proofs.Conjoined.{rows-rule, fit-rows, fit-kin, fit_all}
use Rattle.tables.proofs.Cases.{passed, refused}
use Rattle.fit_nodes.proofs.nodes_fit.Goals as goal

pub returns-then-not-rows_right : goal.returns-then-not-rows_right
returns-then-not-rows_right c = fit-rows c.args.counts c.args.trees.now c.args.nodes.now (refused c.rows_right.ensures c.if-not-rows_right.true-raw)

pub kin_right-requires : goal.kin_right-requires
kin_right-requires c = (c.requires.1, record { most = c.requires.2; rule = rows-rule c.args.counts.trees c.args.counts.nodes c.args.trees.now c.args.nodes.now (passed c.rows_right.ensures c.if-not-rows_right.false-raw) })

pub returns-then-not-kin_right : goal.returns-then-not-kin_right
returns-then-not-kin_right c = fit-kin c.args.counts c.args.trees.now c.args.nodes.now (refused c.kin_right.ensures c.if-not-kin_right.true-raw)

pub returns : goal.returns
returns c = fit_all c.args.counts c.args.trees.now c.args.nodes.now (passed c.rows_right.ensures c.if-not-rows_right.false-raw) (passed c.kin_right.ensures c.if-not-kin_right.false-raw) c.games_right.ensures
