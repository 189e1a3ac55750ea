use Rattle.lists.proofs.Prelude.{ap, arith}
use Rattle.store_bytes.proofs.Written.{wrote-is}
use Rattle.values.specs.Decimal.{decimal}
use Rattle.parts.specs.Rows.{values_at}
use Rattle.go.proofs.Choosing.{by-alone}
use Rattle.serialize_values.specs.LocalsForm.{raws_text}
use Rattle.serialize_values.proofs.Boxed.{box-wrote}
use Rattle.serialize_values.proofs.Forms.{one-pass, one-point, one-stones, one_inside, one-raw}
use Rattle.serialize_values.proofs.put_one.Goals as goal

pub put_point-requires : goal.put_point-requires
put_point-requires c = let args = c.args in
    let h = one_inside args.rule args.shape (values_at args.text.now args.values.now args.first args.count) (by-alone _ _ _ c.requires c.value_by.ensures) c.requires c.in-Move.is in
    (omega (arith, h.0), omega (arith, h.1))

pub returns-in-Pass : goal.returns-in-Pass
returns-in-Pass c = let args = c.args in
    wrote-is (ap raws_text (one-pass args.rule args.shape (values_at args.text.now args.values.now args.first args.count) (by-alone _ _ _ c.requires c.value_by.ensures) c.in-Pass.is)) c.put_box.ensures

pub returns-in-Move : goal.returns-in-Move
returns-in-Move c = let args = c.args in
    wrote-is (ap raws_text (one-point args.rule args.shape (values_at args.text.now args.values.now args.first args.count) (by-alone _ _ _ c.requires c.value_by.ensures) c.in-Move.is)) c.put_point.ensures

pub returns-in-Handicap : goal.returns-in-Handicap
returns-in-Handicap c = let args = c.args in
    let good = c.well_formed in
    wrote-is (ap raws_text (one-stones args.rule args.shape (values_at args.text.now args.values.now args.first args.count) (by-alone _ _ _ c.requires c.value_by.ensures) c.in-Handicap.is)) (box-wrote (decimal c.in-Handicap.n) (omega (arith, good)) (omega (arith, good)) c.put_byte-from.ensures c.put_decimal-to.ensures c.put_byte.ensures)

pub returns-in_default : goal.returns-in_default
returns-in_default c = let args = c.args in
    wrote-is (ap raws_text (one-raw args.rule args.shape (values_at args.text.now args.values.now args.first args.count) (by-alone _ _ _ c.requires c.value_by.ensures) c.requires c.in_default.in_default-own.keys4)) c.put_raw.ensures
