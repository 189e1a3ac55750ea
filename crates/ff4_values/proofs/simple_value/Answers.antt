use Rattle.lists.proofs.Prelude.{ℕ, ap, ◌∙◌}
use Rattle.parts.specs.Rows.{values_at}
use Rattle.ff4_values.specs.Simple.{simple_by}
use Rattle.ff4_values.proofs.simple_value.Goals as goal

pub returns : goal.returns
returns c = let a = c.args in c.simple_by.ensures ∙ ap (λ (k : ℕ). simple_by k (values_at a.text.now a.values.now a.first a.count)) c.kind_in.ensures
