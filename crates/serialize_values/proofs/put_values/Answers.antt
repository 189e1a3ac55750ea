use Rattle.lists.proofs.Prelude.{refl, sym, ap, ◌∙◌}
use Rattle.store_bytes.proofs.Written.{wrote-is}
use Rattle.values.specs.Read.{read_identifier}
use Rattle.go.proofs.ReadBack.{normal-unknown}
use Rattle.parts.specs.Rows.{values_at}
use Rattle.serialize_values.specs.LocalsForm.{form_by, raws_text}
use Rattle.serialize_values.proofs.Forms.{normal-shaped, set-form}
use Rattle.serialize_values.proofs.Plain.{one_value}
use Rattle.serialize_values.proofs.put_values.Goals as goal

pub returns-then-not-is_go : goal.returns-then-not-is_go
returns-then-not-is_go c = let args = c.args in
    wrote-is (ap raws_text (sym (normal-unknown args.rule (read_identifier args.identifier.now) (values_at args.text.now args.values.now args.first args.count) (sym c.is_go.ensures ∙ c.if-not-is_go.true)))) c.put_raw.ensures

pub put_pair-requires : goal.put_pair-requires
put_pair-requires c = (c.is_plain.ensures c.if-is_plain.true).1

pub returns-then-is_plain : goal.returns-then-is_plain
returns-then-is_plain c = let args = c.args in
    let p = c.is_plain.ensures c.if-is_plain.true in
    let v = one_value args.text.now args.values.now args.first args.count p.0 c.value_at-value.ensures in
    let s = c.shape_of-shape in
    wrote-is
    (ap raws_text
    (p.2 args.rule ∙ ap (form_by args.rule s.result) v
    ∙ normal-shaped args.rule (read_identifier args.identifier.now) (values_at args.text.now args.values.now args.first args.count) (sym c.is_go.ensures ∙ c.if-not-is_go.false) s.ensures refl))
    c.put_pair.ensures

pub returns-in-ManyPoints : goal.returns-in-ManyPoints
returns-in-ManyPoints c = let args = c.args in
    wrote-is (ap raws_text (set-form args.rule (values_at args.text.now args.values.now args.first args.count) ∙ normal-shaped args.rule (read_identifier args.identifier.now) (values_at args.text.now args.values.now args.first args.count) (sym c.is_go.ensures ∙ c.if-not-is_go.false) c.shape_of-shape.ensures c.in-ManyPoints.is)) c.put_set.ensures

pub returns : goal.returns
returns c = let args = c.args in
    wrote-is (ap raws_text (normal-shaped args.rule (read_identifier args.identifier.now) (values_at args.text.now args.values.now args.first args.count) (sym c.is_go.ensures ∙ c.if-not-is_go.false) c.shape_of-shape.ensures refl)) c.put_one.ensures
