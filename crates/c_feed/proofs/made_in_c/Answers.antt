use Rattle.lists.proofs.Prelude.{sym, ap, ◌∙◌}
use Rattle.c_feed.specs.Parts.{made_in_c}
use Rattle.c_feed.proofs.made_in_c.Goals as goal
use Rattle.std.specs.Prelude.{Err}
use Rattle.feed.specs.declared.make.MakeFault.{MakeFault}

pub returns-in-Ok : goal.returns-in-Ok
returns-in-Ok c = ap made_in_c (sym c.in-Ok.is)

pub returns-in-TooLarge : goal.returns-in-TooLarge
returns-in-TooLarge c = ap made_in_c (sym (c.in-Err.is ∙ ap (λ (z : MakeFault). Err z) c.in-TooLarge.is))

pub returns-in-NoRoom : goal.returns-in-NoRoom
returns-in-NoRoom c = ap made_in_c (sym (c.in-Err.is ∙ ap (λ (z : MakeFault). Err z) c.in-NoRoom.is))
