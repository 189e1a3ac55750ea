use Rattle.lists.proofs.Prelude.{refl, ap}
use Rattle.store_bytes.proofs.Written.{wrote-is}
use Rattle.parts.specs.Rows.{values_at}
use Rattle.serialize_values.specs.LocalsForm.{raws_text}
use Rattle.serialize_values.proofs.Forms.{set-raw, set-points}
use Rattle.serialize_values.proofs.put_set.Goals as goal

pub returns-in_default : goal.returns-in_default
returns-in_default c = let args = c.args in
    let read-points = c.read_points-set in
    wrote-is (ap raws_text (set-raw (values_at args.text.now args.values.now args.first args.count) read-points.ensures refl c.in_default.not-Points)) c.put_raw.ensures

pub returns : goal.returns
returns c = let args = c.args in
    wrote-is (ap raws_text (set-points (values_at args.text.now args.values.now args.first args.count) c.read_points-set.ensures refl c.in-Points.is)) c.put_points.ensures
