use Rattle.lists.proofs.Prelude.{Bool, true, false, ◌≡◌, sym, ap, ◌∙◌}
use Rattle.parser_step.specs.LocalsActs.{unclosed}
use Rattle.parser_step.proofs.unclosed.Goals as goal
use Rattle.std.specs.Prelude.{Option, ℕ}

skips : (len : Bool) (x : Option ℕ) → len ≡ false → false ≡ unclosed len x
skips len x l = sym (ap (λ (z : Bool). unclosed z x) l)

looks : (len : Bool) → len ≡ true → {x r y : Option ℕ} → r ≡ x → r ≡ y → unclosed true y ≡ unclosed len x
looks len l {x} p q = ap (unclosed true) (sym q ∙ p) ∙ sym (ap (λ (z : Bool). unclosed z x) l)

pub returns-then-not-lenient : goal.returns-then-not-lenient
returns-then-not-lenient c = skips c.args.lenient _ c.if-not-lenient.true

pub returns-in-Some : goal.returns-in-Some
returns-in-Some c = looks c.args.lenient c.if-not-lenient.false c.values_end.ensures c.in-Some.is

pub returns-in-None : goal.returns-in-None
returns-in-None c = looks c.args.lenient c.if-not-lenient.false c.values_end.ensures c.in-None.is
