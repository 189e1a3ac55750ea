use Rattle.lists.proofs.Prelude.{sym, ap, ◌∙◌, arith}
use Rattle.parser.specs.declared.Survey.TheVariants.{Refused}
use Rattle.tables.specs.declared.Reason.{Reason}
use Rattle.parser.proofs.Surveys.{strict-end, strict-fault, strict-open, strict_none, strict-slices}
use Rattle.parser.proofs.Splits.{stop-as}
use Rattle.parser.proofs.survey_strict.Goals as goal

pub overflow_add-i : goal.overflow_add-i
overflow_add-i c = let w = (stop-as c.split_tokens-x.ensures c.in-End.is).stops in omega arith

pub returns-then-x-ne0 : goal.returns-then-x-ne0
returns-then-x-ne0 c = sym (strict-open (stop-as c.split_tokens-x.ensures c.in-Done.is) c.if-x-ne0.true)

pub returns-then-x-eq0 : goal.returns-then-x-eq0
returns-then-x-eq0 c = sym (strict_none (stop-as c.split_tokens-x.ensures c.in-Done.is) c.if-x-ne0.false c.if-x-eq0.true)

pub returns-in-End : goal.returns-in-End
returns-in-End c = strict-end (stop-as c.split_tokens-x.ensures c.in-End.is) c.fault_or_end.ensures

pub returns-in-Fault : goal.returns-in-Fault
returns-in-Fault c = ap (λ (z : Reason). Refused z c.in-Fault.i) c.from.ensures ∙ strict-fault (stop-as c.split_tokens-x.ensures c.in-Fault.is)

pub returns-else-x-eq0 : goal.returns-else-x-eq0
returns-else-x-eq0 c = c.unless_deep.ensures ∙ sym (strict-slices (stop-as c.split_tokens-x.ensures c.in-Done.is) c.if-x-ne0.false c.if-x-eq0.false)
