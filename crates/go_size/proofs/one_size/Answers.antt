use Rattle.lists.proofs.Prelude.{ℕ, List, ap, sym, ◌∙◌}
use Rattle.values.specs.Read.{read_value}
use Rattle.go_size.specs.Size.{size_of}
use Rattle.go_size.specs.Root.{root_size}
use Rattle.go_size.proofs.Sizes.{values-wrong, values_one}
use Rattle.go_size.proofs.one_size.Goals as goal

pub returns-then-count-ne1 : goal.returns-then-count-ne1
returns-then-count-ne1 c = let a = c.args in
    values-wrong a.text.now a.values.now a.first a.count c.if-count-ne1.true

pub returns-in-None : goal.returns-in-None
returns-in-None c = let a = c.args in
    ap root_size (sym c.in-None.is ∙ c.read_size.ensures) ∙ ap (λ (z : List ℕ). root_size (size_of (read_value z))) c.value_at-value.ensures ∙ values_one a.text.now a.values.now a.first a.count c.if-count-ne1.false

pub returns-in-Some : goal.returns-in-Some
returns-in-Some c = let a = c.args in
    ap root_size (sym c.in-Some.is ∙ c.read_size.ensures) ∙ ap (λ (z : List ℕ). root_size (size_of (read_value z))) c.value_at-value.ensures ∙ values_one a.text.now a.values.now a.first a.count c.if-count-ne1.false
