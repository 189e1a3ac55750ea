use Rattle.lists.proofs.Prelude.{refl, ap, ◌∙◌}
use Rattle.values.specs.Decimal.{decimal_of}
use Rattle.values.specs.Read.{read_value}
use Rattle.values.proofs.Digits.{decimal-empty, decimal-plus, decimal-minus, decimal-plain}
use Rattle.values.proofs.Steps.{stepped}
use Rattle.values.proofs.decimal.decimal_within.Goals as goal

pub returns-then-b-eq43 : goal.returns-then-b-eq43
returns-then-b-eq43 c =
    let bound = c.min-bound in
    c.digits_at.ensures ∙ decimal-plus bound.result c.args.s.now c.in-Some.b c.in-Some.next (stepped _ _ c.in-Some.ensures refl) c.if-b-eq43.true ∙ ap (λ m. decimal_of m (read_value c.args.s.now)) bound.ensures

pub returns-then-b-eq45 : goal.returns-then-b-eq45
returns-then-b-eq45 c =
    let bound = c.min-bound in
    c.digits_at-then-b-eq45.ensures ∙ decimal-minus bound.result c.args.s.now c.in-Some.b c.in-Some.next (stepped _ _ c.in-Some.ensures refl) c.if-b-eq43.false c.if-b-eq45.true ∙ ap (λ m. decimal_of m (read_value c.args.s.now)) bound.ensures

pub returns-in-None : goal.returns-in-None
returns-in-None c = decimal-empty _ c.args.s.now (stepped _ _ c.in-None.ensures refl)

pub returns-else-b-eq45 : goal.returns-else-b-eq45
returns-else-b-eq45 c =
    let bound = c.min-bound in
    c.digits_at-in-Some.ensures ∙ decimal-plain bound.result c.args.s.now c.in-Some.b c.in-Some.next (stepped _ _ c.in-Some.ensures refl) c.if-b-eq43.false c.if-b-eq45.false ∙ ap (λ m. decimal_of m (read_value c.args.s.now)) bound.ensures
