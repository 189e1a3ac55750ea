use Rattle.lists.proofs.Prelude.{sym, ap, ◌∙◌}
use Rattle.fit.specs.Fit.{sound}
use Rattle.fit.proofs.is_utf8.Goals as goal

pub returns-in-NotUtf8 : goal.returns-in-NotUtf8
returns-in-NotUtf8 c = ap sound (sym c.in-NotUtf8.is ∙ c.trim.ensures)

pub returns-in-Blank : goal.returns-in-Blank
returns-in-Blank c = ap sound (sym c.in-Blank.is ∙ c.trim.ensures)

pub returns-in-Kept : goal.returns-in-Kept
returns-in-Kept c = ap sound (sym c.in-Kept.is ∙ c.trim.ensures)
