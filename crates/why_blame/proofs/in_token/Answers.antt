use Rattle.lists.proofs.Prelude.{sym, ap, ◌∙◌}
use Rattle.lexer.specs.declared.Fault.{Fault}
use Rattle.why_blame.specs.Cuts.{fault_fact}
use Rattle.why_blame.specs.declared.Fact.TheVariants.{Foreign}
use Rattle.why_blame.proofs.in_token.Goals as goal

pub returns-in-MissingPropertyIdentifier : goal.returns-in-MissingPropertyIdentifier
returns-in-MissingPropertyIdentifier c = ap (λ (z : Fault). fault_fact c.args.s.now z c.args.from) (sym c.in-MissingPropertyIdentifier.is)

pub returns-in-UnexpectedEndOfPropertyIdentifier : goal.returns-in-UnexpectedEndOfPropertyIdentifier
returns-in-UnexpectedEndOfPropertyIdentifier c = ap Foreign c.foreign_at.ensures ∙ ap (λ (z : Fault). fault_fact c.args.s.now z c.args.from) (sym c.in-UnexpectedEndOfPropertyIdentifier.is)

pub returns-in-UnexpectedEndOfPropertyValue : goal.returns-in-UnexpectedEndOfPropertyValue
returns-in-UnexpectedEndOfPropertyValue c = ap (λ (z : Fault). fault_fact c.args.s.now z c.args.from) (sym c.in-UnexpectedEndOfPropertyValue.is)
