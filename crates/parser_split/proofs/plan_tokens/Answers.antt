use Rattle.lists.proofs.Prelude.{sym, ap, ◌∙◌, length}
use Rattle.parser_split.specs.LocalsPlans.{plan_found}
use Rattle.parser_split.proofs.plan_tokens.Goals as goal

pub returns-in-Refused : goal.returns-in-Refused
returns-in-Refused c = ap (plan_found c.args.from (length c.args.s.now)) (sym c.in-Refused.is ∙ c.survey.ensures)

pub returns-in-Slices : goal.returns-in-Slices
returns-in-Slices c = ap (plan_found c.args.from (length c.args.s.now)) (sym c.in-Slices.is ∙ c.survey.ensures)

pub returns-in-Empty : goal.returns-in-Empty
returns-in-Empty c = ap (plan_found c.args.from (length c.args.s.now)) (sym c.in-Empty.is ∙ c.survey.ensures)
