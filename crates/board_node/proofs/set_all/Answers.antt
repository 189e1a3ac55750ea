use Rattle.lists.proofs.Prelude.{false, [], replicate, sym, arith}
use Rattle.parts_props.specs.Props.{property_at}
use Rattle.board_node.proofs.Rows.{from_end}
use Rattle.board_node.proofs.Turning.{turn-none, turn-same}
use Rattle.board_node.proofs.set_all.Goals as goal

pub returns-then-to-from : goal.returns-then-to-from
returns-then-to-from c = let a = c.args in
    record {
      marks = replicate 2704 false;
      turn =
          turn-same a.columns a.rows (from_end (property_at a.text.now a.properties.now a.values.now) a.first a.to c.setup_from-from.result (c.setup_from-from.ensures a.values.now) c.if-to-from.true)
          (turn-none a.columns a.rows (replicate 2704 false) a.stones.now a.state);
    }

pub set_rows-requires : goal.set_rows-requires
set_rows-requires c = λ l. let x = (c.setup_from-from.ensures []).behind in c.requires (omega arith)

pub returns : goal.returns
returns c = let a = c.args in
    record { marks = _; turn = turn-same a.columns a.rows (sym (c.setup_from-from.ensures a.values.now).same) c.set_rows.ensures }
