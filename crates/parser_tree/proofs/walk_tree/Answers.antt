use Rattle.parser_tree.proofs.Told.{reached, left-beyond, left-within}
use Rattle.lists.proofs.Prelude.{sym, ◌∙◌}
use Rattle.parser_tree.proofs.walk_tree.Goals as goal

pub returns-then-not-in_reach : goal.returns-then-not-in_reach
returns-then-not-in_reach c = left-beyond _ _ _ _ _ _ _ _ _ (sym c.in_reach.ensures ∙ c.if-not-in_reach.true)

pub walk_slice-requires : goal.walk_slice-requires
walk_slice-requires c = reached _ _ _ _ _ (sym c.in_reach.ensures ∙ c.if-not-in_reach.false)

pub returns : goal.returns
returns c = left-within _ _ _ _ _ _ _ _ _ (sym c.in_reach.ensures ∙ c.if-not-in_reach.false) c.walk_slice.ensures
