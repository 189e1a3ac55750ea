use Rattle.values.specs.Read.{read_identifier}
use Rattle.lists.specs.Same.{same}
use Rattle.lists.proofs.Prelude.{ℕ, List, ap, ◌∙◌}
use Rattle.parts_props.proofs.is_named.Goals as goal

pub returns : goal.returns
returns c = c.reads_as.ensures ∙ ap (λ (z : List ℕ). same (read_identifier z) c.args.name.now) c.identifier_at-identifier.ensures
