use Rattle.lists.proofs.Prelude.{◌+◌, ◌-◌}
use Rattle.parts.specs.Rows.{values_at}
use Rattle.serialize_values.specs.LocalsForm.{raws_text}
use Rattle.serialize_values.proofs.Writing.{Writing}
use Rattle.serialize_values.proofs.put_raw.Given as goal

abbrev pub invariant-loop-i : goal.invariant-loop-i
invariant-loop-i l =
    let raws = values_at l.text l.values in
    Writing (raws_text (raws l.first l.count)) (raws_text (raws (l.first + l.i) (l.count - l.i))) l.initial.out l.at l.out l.to
