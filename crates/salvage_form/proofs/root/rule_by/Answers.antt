use Rattle.lists.proofs.Prelude.{Bool, ℕ, true, false, sym, ap, ◌∙◌}
use Rattle.salvage_form.specs.LocalsRooted.{ruled_by}
use Rattle.salvage_form.specs.declared.root.RootRule.{RootRule}
use Rattle.salvage_form.proofs.root.rule_by.Goals as goal
use Rattle.std.specs.Prelude.{Result}
use Rattle.tables.specs.declared.Reason.{Reason}

abbrev ruled : ℕ → Bool → RootRule
ruled k b = record { rule = k; bad = b }

pub returns-in-Ok : goal.returns-in-Ok
returns-in-Ok c = ap (λ (n : ℕ). ruled n false) c.rule_of.ensures ∙ ap (λ (g : Result ℕ Reason). ruled_by g c.args.size) (sym c.in-Ok.is)

pub returns-in-Err : goal.returns-in-Err
returns-in-Err c = ap (λ (n : ℕ). ruled n true) c.rule_of-in-Err.ensures ∙ ap (λ (g : Result ℕ Reason). ruled_by g c.args.size) (sym c.in-Err.is)
