use Rattle.salvage.proofs.Readings.{salvage-unread, decided, salvage-of-read}
use Rattle.salvage.proofs.Answers.{salvage-long, salvage-deep, salvage-unlisted, salvage-unwritten, planned}
use Rattle.reader.specs.Lent.{lent}
use Rattle.tables.specs.Lenient.{as_reading}
use Rattle.lists.proofs.Prelude.{ap, ◌∙◌}
use Rattle.salvage.proofs.salvage.Goals as goal
use Rattle.std.specs.Prelude.{Err}
use Rattle.tables.specs.declared.LenientRefusal.{LenientRefusal}

pub weigh_known-weighed-requires : goal.weigh_known-weighed-requires
weigh_known-weighed-requires c = c.known_text-known.ensures

pub returns-then-bytes-gt-TEXT_LIMIT : goal.returns-then-bytes-gt-TEXT_LIMIT
returns-then-bytes-gt-TEXT_LIMIT c = salvage-long c.args.text.now (lent c.args.trees.now c.args.nodes.now c.args.properties.now c.args.values.now) c.args.changes.now c.args.out.now c.weigh_known-weighed.ensures.0.result c.if-bytes-gt-TEXT_LIMIT.true

pub returns-then-depth-gt-DEPTH_LIMIT : goal.returns-then-depth-gt-DEPTH_LIMIT
returns-then-depth-gt-DEPTH_LIMIT c = salvage-deep c.args.text.now (lent c.args.trees.now c.args.nodes.now c.args.properties.now c.args.values.now) c.args.changes.now c.args.out.now c.weigh_known-weighed.ensures.0.result c.if-bytes-gt-TEXT_LIMIT.false c.if-depth-gt-DEPTH_LIMIT.true

pub returns-then-changes-count : goal.returns-then-changes-count
returns-then-changes-count c = salvage-unlisted c.args.text.now (lent c.args.trees.now c.args.nodes.now c.args.properties.now c.args.values.now) c.args.changes.now c.args.out.now c.weigh_known-weighed.ensures.0.result c.if-bytes-gt-TEXT_LIMIT.false c.if-depth-gt-DEPTH_LIMIT.false c.weigh_known-weighed.ensures.0.changes c.if-changes-count.true

pub returns-then-out-bytes : goal.returns-then-out-bytes
returns-then-out-bytes c = salvage-unwritten c.args.text.now (lent c.args.trees.now c.args.nodes.now c.args.properties.now c.args.values.now) c.args.changes.now c.args.out.now c.weigh_known-weighed.ensures.0.result c.if-bytes-gt-TEXT_LIMIT.false c.if-depth-gt-DEPTH_LIMIT.false c.weigh_known-weighed.ensures.0.changes c.if-changes-count.false c.if-out-bytes.true

pub read_known-requires : goal.read_known-requires
read_known-requires c = c.known_text-known.ensures

pub write_record-requires : goal.write_record-requires
write_record-requires c = (decided c.args.text.now (lent c.args.trees.now c.args.nodes.now c.args.properties.now c.args.values.now) c.args.changes.now c.args.out.now (planned c.args.text.now (lent c.args.trees.now c.args.nodes.now c.args.properties.now c.args.values.now) c.args.changes.now c.args.out.now c.weigh_known-weighed.ensures.0.result c.if-bytes-gt-TEXT_LIMIT.false c.if-depth-gt-DEPTH_LIMIT.false c.weigh_known-weighed.ensures.0.changes c.if-changes-count.false c.if-out-bytes.false) _ c.read_known.ensures c.in-Ok.is, c.weigh_known-weighed.ensures.1)

pub returns-in-TextTooLong : goal.returns-in-TextTooLong
returns-in-TextTooLong c = salvage-unread c.args.text.now (lent c.args.trees.now c.args.nodes.now c.args.properties.now c.args.values.now) c.args.changes.now c.args.out.now (planned c.args.text.now (lent c.args.trees.now c.args.nodes.now c.args.properties.now c.args.values.now) c.args.changes.now c.args.out.now c.weigh_known-weighed.ensures.0.result c.if-bytes-gt-TEXT_LIMIT.false c.if-depth-gt-DEPTH_LIMIT.false c.weigh_known-weighed.ensures.0.changes c.if-changes-count.false c.if-out-bytes.false) _ c.read_known.ensures (ap as_reading (c.in-Err.is ∙ ap (λ (z : LenientRefusal). Err z) c.in-TextTooLong.is))

pub returns-in-NotUtf8 : goal.returns-in-NotUtf8
returns-in-NotUtf8 c = salvage-unread c.args.text.now (lent c.args.trees.now c.args.nodes.now c.args.properties.now c.args.values.now) c.args.changes.now c.args.out.now (planned c.args.text.now (lent c.args.trees.now c.args.nodes.now c.args.properties.now c.args.values.now) c.args.changes.now c.args.out.now c.weigh_known-weighed.ensures.0.result c.if-bytes-gt-TEXT_LIMIT.false c.if-depth-gt-DEPTH_LIMIT.false c.weigh_known-weighed.ensures.0.changes c.if-changes-count.false c.if-out-bytes.false) _ c.read_known.ensures (ap as_reading (c.in-Err.is ∙ ap (λ (z : LenientRefusal). Err z) c.in-NotUtf8.is))

pub returns-in-TooDeep : goal.returns-in-TooDeep
returns-in-TooDeep c = salvage-unread c.args.text.now (lent c.args.trees.now c.args.nodes.now c.args.properties.now c.args.values.now) c.args.changes.now c.args.out.now (planned c.args.text.now (lent c.args.trees.now c.args.nodes.now c.args.properties.now c.args.values.now) c.args.changes.now c.args.out.now c.weigh_known-weighed.ensures.0.result c.if-bytes-gt-TEXT_LIMIT.false c.if-depth-gt-DEPTH_LIMIT.false c.weigh_known-weighed.ensures.0.changes c.if-changes-count.false c.if-out-bytes.false) _ c.read_known.ensures (ap as_reading (c.in-Err.is ∙ ap (λ (z : LenientRefusal). Err z) c.in-TooDeep.is))

pub returns-in-NoRoom : goal.returns-in-NoRoom
returns-in-NoRoom c = salvage-unread c.args.text.now (lent c.args.trees.now c.args.nodes.now c.args.properties.now c.args.values.now) c.args.changes.now c.args.out.now (planned c.args.text.now (lent c.args.trees.now c.args.nodes.now c.args.properties.now c.args.values.now) c.args.changes.now c.args.out.now c.weigh_known-weighed.ensures.0.result c.if-bytes-gt-TEXT_LIMIT.false c.if-depth-gt-DEPTH_LIMIT.false c.weigh_known-weighed.ensures.0.changes c.if-changes-count.false c.if-out-bytes.false) _ c.read_known.ensures (ap as_reading (c.in-Err.is ∙ ap (λ (z : LenientRefusal). Err z) c.in-NoRoom.is))

pub returns-in-Ok : goal.returns-in-Ok
returns-in-Ok c = salvage-of-read c.args.text.now (lent c.args.trees.now c.args.nodes.now c.args.properties.now c.args.values.now) c.args.changes.now c.args.out.now (planned c.args.text.now (lent c.args.trees.now c.args.nodes.now c.args.properties.now c.args.values.now) c.args.changes.now c.args.out.now c.weigh_known-weighed.ensures.0.result c.if-bytes-gt-TEXT_LIMIT.false c.if-depth-gt-DEPTH_LIMIT.false c.weigh_known-weighed.ensures.0.changes c.if-changes-count.false c.if-out-bytes.false) _ c.read_known.ensures c.in-Ok.is c.write_record.ensures
