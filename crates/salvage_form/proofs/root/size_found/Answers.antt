use Rattle.lists.proofs.Prelude.{Bool, sym, ap, ◌∙◌, pick}
use Rattle.go_size.specs.Root.{size_of_values}
use Rattle.go_size.specs.declared.RootSize.TheVariants.{Absent}
use Rattle.salvage_form.specs.Measured.{raws_at}
use Rattle.salvage_form.proofs.root.size_found.Goals as goal

pub returns-then-found : goal.returns-then-found
returns-then-found c = c.size_values.ensures ∙ ap (λ (b : Bool). pick b (size_of_values (raws_at c.args.s.now c.args.k)) Absent) (sym c.if-found.true)

pub returns : goal.returns
returns c = ap (λ (b : Bool). pick b (size_of_values (raws_at c.args.s.now c.args.k)) Absent) (sym c.if-found.false)
