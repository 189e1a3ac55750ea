use Rattle.salvage.specs.LocalsRecord.{whole_text}
use Rattle.salvage.proofs.Records.{record-done, rows-put, rows_none}
use Rattle.salvage_list.specs.ListRows.{text_changes}
use Rattle.salvage_list.proofs.Texts.{rows-with}
use Rattle.salvage.proofs.write_record.Goals as goal

pub put_mended-n-requires : goal.put_mended-n-requires
put_mended-n-requires c = c.requires.0.fits

pub put_list-requires : goal.put_list-requires
put_list-requires c = c.requires.1

pub returns-then-count-gt0 : goal.returns-then-count-gt0
returns-then-count-gt0 c = let args = c.args in
    let d = c.requires.0 in
    let cs = text_changes args.text.now in
    let list = args.changes.now in
    record-done (whole_text args.text.now args.counts args.trees.now args.nodes.now args.properties.now args.values.now) cs list args.out.now d c.put_mended-n.ensures (rows-put cs list (rows-with cs d.count d.rows c.put_list.ensures) d.count d.rows)

pub returns-else-count-gt0 : goal.returns-else-count-gt0
returns-else-count-gt0 c = let args = c.args in
    let d = c.requires.0 in
    let cs = text_changes args.text.now in
    let list = args.changes.now in
    record-done (whole_text args.text.now args.counts args.trees.now args.nodes.now args.properties.now args.values.now) cs list args.out.now d c.put_mended-n.ensures (rows_none cs list d.count c.if-count-gt0.false)
