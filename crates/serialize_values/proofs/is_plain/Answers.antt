use Rattle.lists.proofs.Prelude.{not-true}
use Rattle.serialize_values.proofs.Plain.{corner-none, plain-move, plain-set}
use Rattle.serialize_values.proofs.is_plain.Goals as goal

pub returns-in-OneMove : goal.returns-in-OneMove
returns-in-OneMove c = λ e.
    let v = c.args.value.now in
    let l = c.if-value-ne2.false in
    let x = c.letter_of.ensures in
    let y = c.letter_of-2.ensures in
    let p = c.if-letter_of-gt51.false in
    let q = c.if-letter_of-gt51-2.false in
    (c.if-count-ne1.false, l, plain-move v l x y p q c.in-OneMove.is (corner-none v l x y p q (not-true _ e)))

pub returns-in-ManyPoints : goal.returns-in-ManyPoints
returns-in-ManyPoints c = λ e.
    let l = c.if-value-ne2.false in
    (c.if-count-ne1.false, l, plain-set c.args.value.now l c.letter_of.ensures c.letter_of-2.ensures c.if-letter_of-gt51.false c.if-letter_of-gt51-2.false c.in-ManyPoints.is)
