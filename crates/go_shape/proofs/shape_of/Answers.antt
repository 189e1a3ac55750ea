use Rattle.lists.proofs.Prelude.{sym, ap, ◌∙◌, subst}
use Rattle.go_shape.specs.LocalsIdentifier.{Letters}
use Rattle.go_shape.specs.Shape.{shape_of}
use Rattle.go_shape.proofs.Identifiers.{letter-cons}
use Rattle.go_shape.proofs.shape_of.Goals as goal

pub returns-in_default : goal.returns-in_default
unfolding shape_of
returns-in_default c = let args = c.args in
    ap shape_of (sym (subst (Letters args.identifier.now 0) c.in_default.is c.next_letter.ensures))

pub returns-in_default-next_letter : goal.returns-in_default-next_letter
returns-in_default-next_letter c = let args = c.args in
    let next-letter = c.next_letter in
    let next-letter2 = c.next_letter-2 in
    c.shape_of_one.ensures ∙ ap shape_of (sym (letter-cons args.identifier.now 0 c.in-Some.at1 (subst (Letters args.identifier.now 0) c.in-Some.is next-letter.ensures) (subst (Letters args.identifier.now c.in-Some.at1) c.in_default-next_letter.is next-letter2.ensures)))

pub returns-in_default-next_letter-2 : goal.returns-in_default-next_letter-2
returns-in_default-next_letter-2 c = let args = c.args in
    let next-letter = c.next_letter in
    let next-letter2 = c.next_letter-2 in
    let next-letter3 = c.next_letter-3 in
    c.shape_of_two.ensures ∙ ap shape_of (sym (letter-cons args.identifier.now 0 c.in-Some.at1 (subst (Letters args.identifier.now 0) c.in-Some.is next-letter.ensures) (letter-cons args.identifier.now c.in-Some.at1 c.in-Some-next_letter.at2 (subst (Letters args.identifier.now c.in-Some.at1) c.in-Some-next_letter.is next-letter2.ensures) (subst (Letters args.identifier.now c.in-Some-next_letter.at2) c.in_default-next_letter-2.is next-letter3.ensures))))

pub returns : goal.returns
unfolding shape_of
returns c = let args = c.args in
    let next-letter = c.next_letter in
    let next-letter2 = c.next_letter-2 in
    ap shape_of (sym (letter-cons args.identifier.now 0 c.in-Some.at1 (subst (Letters args.identifier.now 0) c.in-Some.is next-letter.ensures) (letter-cons args.identifier.now c.in-Some.at1 c.in-Some-next_letter.at2 (subst (Letters args.identifier.now c.in-Some.at1) c.in-Some-next_letter.is next-letter2.ensures) (subst (Letters args.identifier.now c.in-Some-next_letter.at2) c.in-Some-next_letter-2.is c.next_letter-3.ensures))))
