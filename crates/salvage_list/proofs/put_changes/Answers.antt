use Rattle.salvage_list.specs.ListRows.{text_changes}
use Rattle.salvage_list.proofs.Texts.{rows-with, rows_stay}
use Rattle.salvage_list.proofs.put_changes.Goals as goal

pub returns-then-n-rows : goal.returns-then-n-rows
returns-then-n-rows c = (c.count_changes-n.ensures, rows-with (text_changes c.args.text.now) c.count_changes-n.ensures c.if-n-rows.true c.put_all.ensures)

pub returns-else-n-rows : goal.returns-else-n-rows
returns-else-n-rows c = (c.count_changes-n.ensures, rows_stay (text_changes c.args.text.now) c.count_changes-n.ensures c.if-n-rows.false)
