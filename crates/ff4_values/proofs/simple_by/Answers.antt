use Rattle.lists.proofs.Prelude.{ℕ, List, sym, ap, ◌∙◌}
use Rattle.values.specs.Read.{read_value}
use Rattle.ff4_values.specs.Simple.{simple_of}
use Rattle.ff4_values.proofs.Readings.{by-other, by-many, by_one}
use Rattle.ff4_values.proofs.simple_by.Goals as goal

pub returns-then-not-is_simple : goal.returns-then-not-is_simple
returns-then-not-is_simple c = let a = c.args in by-other a.kind a.text.now a.values.now a.first a.count (sym c.is_simple.ensures ∙ c.if-not-is_simple.true)

pub returns-then-count-ne1 : goal.returns-then-count-ne1
returns-then-count-ne1 c = let a = c.args in by-many a.kind a.text.now a.values.now a.first a.count (sym c.is_simple.ensures ∙ c.if-not-is_simple.false) c.if-count-ne1.true

pub returns : goal.returns
returns c = let a = c.args in
    c.simple_of.ensures
    ∙ ap (λ (z : List ℕ). simple_of a.kind (read_value z)) c.value_at-value.ensures
    ∙ by_one a.kind a.text.now a.values.now a.first a.count (sym c.is_simple.ensures ∙ c.if-not-is_simple.false) c.if-count-ne1.false
