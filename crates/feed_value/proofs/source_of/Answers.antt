use Rattle.lists.proofs.Prelude.{sym, ap, ap₂, ◌∙◌}
use Rattle.tables.specs.Columns.{val_from_at, val_to_at}
use Rattle.feed_value.specs.Look.{source_of}
use Rattle.feed_value.specs.declared.Looked.TheVariants.{Record}
use Rattle.feed_value.proofs.source_of.Goals as goal
use Rattle.std.specs.Prelude.{Option, ℕ}

pub returns-in-Some : goal.returns-in-Some
returns-in-Some c = let a = c.args in
    ap (λ (x : Option (ℕ × ℕ)). source_of x (val_from_at a.values.now a.k) (val_to_at a.values.now a.k)) (sym c.in-Some.is ∙ c.find.ensures)

pub returns-in-None : goal.returns-in-None
returns-in-None c = let a = c.args in
    ap₂ Record c.wide-start.ensures c.wide-end.ensures ∙ ap (λ (x : Option (ℕ × ℕ)). source_of x (val_from_at a.values.now a.k) (val_to_at a.values.now a.k)) (sym c.in-None.is ∙ c.find.ensures)
