use Rattle.lists.proofs.Prelude.{◌∙◌}
use Rattle.parts_props.proofs.Reading.{identifier-none, identifier-part}
use Rattle.parts_props.proofs.identifier_at.Goals as goal

pub returns-then-properties-p : goal.returns-then-properties-p
returns-then-properties-p c = let a = c.args in
    identifier-none a.text.now a.properties.now a.p c.if-properties-p.true

pub returns : goal.returns
returns c = let a = c.args in
    c.value_at.ensures ∙ identifier-part a.text.now a.properties.now a.p c.if-properties-p.false
