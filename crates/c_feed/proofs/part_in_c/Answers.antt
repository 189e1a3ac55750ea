use Rattle.lists.proofs.Prelude.{ℕ, sym, ap, ◌∙◌}
use Rattle.c_feed.specs.Parts.{part_of, part_in_c}
use Rattle.c_feed.proofs.part_in_c.Goals as goal

pub returns-in-Record : goal.returns-in-Record
returns-in-Record c = ap part_in_c (sym c.in-Record.is)

pub returns-in-Feed : goal.returns-in-Feed
returns-in-Feed c = ap part_in_c (sym c.in-Feed.is)

pub returns-in-Refused : goal.returns-in-Refused
returns-in-Refused c = ap (λ (n : ℕ). part_of n 0 c.in-Refused.place 0 0) c.from.ensures ∙ ap part_in_c (sym c.in-Refused.is)
