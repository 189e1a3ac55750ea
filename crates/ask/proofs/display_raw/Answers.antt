use Rattle.ask.specs.Ask.{display_for}
use Rattle.lists.proofs.Prelude.{sym, ap, ◌∙◌}
use Rattle.ask.proofs.display_raw.Goals as goal

pub returns-in-Some : goal.returns-in-Some
returns-in-Some c = record { value = ap display_for (sym c.in-Some.is ∙ c.display.ensures.value); out_after = c.display.ensures.out_after }

pub returns-in-None : goal.returns-in-None
returns-in-None c = record { value = ap display_for (sym c.in-None.is ∙ c.display.ensures.value); out_after = c.display.ensures.out_after }
