use Rattle.parser.specs.Read.{read_strict}
use Rattle.reader.specs.Lent.{lent}
use Rattle.season.proofs.Lines.{line-unread, line-of-read}
use Rattle.season.proofs.line.Goals as goal

pub returns-in-Err : goal.returns-in-Err
returns-in-Err c = let args = c.args in
    line-unread (read_strict args.text.now) (lent args.trees.now args.nodes.now args.properties.now args.values.now) _ c.read_strict.ensures c.in-Err.is args.out.now c.from.ensures

pub returns-in-Ok : goal.returns-in-Ok
returns-in-Ok c = let args = c.args in
    line-of-read args.text.now (lent args.trees.now args.nodes.now args.properties.now args.values.now) _ c.read_strict.ensures c.in-Ok.is args.out.now _ _ c.record_line.ensures
