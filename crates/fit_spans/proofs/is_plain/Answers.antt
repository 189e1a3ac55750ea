use Rattle.lists.proofs.Prelude.{sym, ap, ◌∙◌}
use Rattle.fit_spans.proofs.Scans.{runs_out, plain-runs-out, plain-one}
use Rattle.fit_spans.proofs.is_plain.Goals as goal

pub returns-then-name-eq1 : goal.returns-then-name-eq1
returns-then-name-eq1 c = plain-one _ c.if-name-eq1.true

pub returns-in-Opens : goal.returns-in-Opens
returns-in-Opens c = ap runs_out (sym c.in-Opens.is ∙ c.ident_end.ensures) ∙ plain-runs-out 0 _

pub returns-in-Missing : goal.returns-in-Missing
returns-in-Missing c = ap runs_out (sym c.in-Missing.is ∙ c.ident_end.ensures) ∙ plain-runs-out 0 _

pub returns-in-Foreign : goal.returns-in-Foreign
returns-in-Foreign c = ap runs_out (sym c.in-Foreign.is ∙ c.ident_end.ensures) ∙ plain-runs-out 0 _
