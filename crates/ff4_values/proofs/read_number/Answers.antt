use Rattle.lists.proofs.Prelude.{sym, ap, ◌∙◌}
use Rattle.ff4_values.specs.Simple.{number_for}
use Rattle.ff4_values.proofs.read_number.Goals as goal

pub returns-in-Bad : goal.returns-in-Bad
returns-in-Bad c = ap number_for (sym c.in-Bad.is ∙ c.read_i64.ensures)

pub returns-in-Plus : goal.returns-in-Plus
returns-in-Plus c = ap number_for (sym c.in-Plus.is ∙ c.read_i64.ensures)

pub returns-in-Minus : goal.returns-in-Minus
returns-in-Minus c = ap number_for (sym c.in-Minus.is ∙ c.read_i64.ensures)
