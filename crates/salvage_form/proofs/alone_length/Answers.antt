use Rattle.lists.proofs.Prelude.{refl, sym, ap, ◌∙◌, [], ◌∷◌, length, arith}
use Rattle.go_shape.specs.declared.Shape.{Shape}
use Rattle.serialize_values.specs.LocalsForm.{form_by, raws_text}
use Rattle.salvage_form.proofs.Lengths.{row-value, alone-pass, alone-point, alone-stones, alone-raw}
use Rattle.salvage_form.proofs.alone_length.Goals as goal

pub move_length-requires : goal.move_length-requires
move_length-requires c = c.requires.0

pub returns-in-OneMove : goal.returns-in-OneMove
returns-in-OneMove c = (c.move_length.ensures.0 ∙ ap (λ (z : Shape). length (raws_text (form_by c.args.rule z (c.args.value.now ∷ [])))) (sym c.in-OneMove.is), c.move_length.ensures.1)

pub returns-in-Pass : goal.returns-in-Pass
returns-in-Pass c = (alone-pass c.args.rule c.args.shape c.args.value.now (row-value c.args.rule c.args.shape c.args.value.now c.requires.1 refl c.value_by.ensures) c.in-Pass.is, omega arith)

pub returns-in-Move : goal.returns-in-Move
returns-in-Move c = (alone-point c.args.rule c.args.shape c.args.value.now (row-value c.args.rule c.args.shape c.args.value.now c.requires.1 refl c.value_by.ensures) c.in-Move.is, omega arith)

pub returns-in-Handicap : goal.returns-in-Handicap
returns-in-Handicap c = let d = c.count_digits.ensures.1 in (alone-stones c.args.rule c.args.shape c.args.value.now (row-value c.args.rule c.args.shape c.args.value.now c.requires.1 refl c.value_by.ensures) c.in-Handicap.is c.count_digits.ensures.0, omega arith)

pub returns-in_default-value_by : goal.returns-in_default-value_by
returns-in_default-value_by c = let p = c.requires.0 in (alone-raw c.args.rule c.args.shape c.args.value.now (row-value c.args.rule c.args.shape c.args.value.now c.requires.1 refl c.value_by.ensures) c.requires.1 c.in_default-value_by.in_default-value_by-own.keys4, omega arith)
