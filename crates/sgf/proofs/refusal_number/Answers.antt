use Rattle.ask.specs.Ask.{refusal_number}
use Rattle.lists.proofs.Prelude.{sym, ap, ◌∙◌}
use Rattle.sgf.proofs.refusal_number.Goals as goal

pub returns-in-Some : goal.returns-in-Some
returns-in-Some c = c.from.ensures ∙ ap refusal_number (sym c.in-Some.is)
