use Rattle.lists.proofs.Prelude.{sym, ◌∙◌}
use Rattle.parser.proofs.Surveys.{lenient-empty, lenient-slices, lenient-open}
use Rattle.parser.proofs.survey_lenient.Goals as goal

pub returns-then-x-ne0 : goal.returns-then-x-ne0
returns-then-x-ne0 c = c.unless_deep.ensures ∙ sym (lenient-open c.split_tokens-x.ensures c.if-x-ne0.true)

pub returns-then-x-eq0 : goal.returns-then-x-eq0
returns-then-x-eq0 c = sym (lenient-empty c.split_tokens-x.ensures c.if-x-ne0.false c.if-x-eq0.true)

pub returns : goal.returns
returns c = c.unless_deep-2.ensures ∙ sym (lenient-slices c.split_tokens-x.ensures c.if-x-ne0.false c.if-x-eq0.false)
