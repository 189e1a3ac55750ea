use Rattle.tables.specs.Memory.{memory}
use Rattle.c_tally.proofs.Lined.{line_refused, line-counted}
use Rattle.c_tally.proofs.line.Goals as goal

pub returns-in-Err : goal.returns-in-Err
returns-in-Err c = let args = c.args in
    line_refused (memory args.text.now args.used args.counts args.trees.now args.nodes.now args.properties.now args.values.now) args.out.now _ c.write_tally.ensures c.in-Err.is c.from.ensures

pub returns-in-Ok : goal.returns-in-Ok
returns-in-Ok c = let args = c.args in
    line-counted (memory args.text.now args.used args.counts args.trees.now args.nodes.now args.properties.now args.values.now) args.out.now _ c.write_tally.ensures c.in-Ok.is
