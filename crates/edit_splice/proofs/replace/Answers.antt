use Rattle.edit_splice.proofs.May.{may-replace, replaced-may, replaced-not}
use Rattle.lists.proofs.Prelude.{sym, ◌∙◌}
use Rattle.edit_splice.proofs.replace.Goals as goal

pub swap_in-requires : goal.swap_in-requires
swap_in-requires c = may-replace _ _ _ _ _ (sym c.may_replace.ensures ∙ c.if-may_replace.true)

pub returns-then-may_replace : goal.returns-then-may_replace
returns-then-may_replace c = c.swap_in.ensures ∙ sym (replaced-may _ _ _ _ _ (sym c.may_replace.ensures ∙ c.if-may_replace.true))

pub returns-else-may_replace : goal.returns-else-may_replace
returns-else-may_replace c = sym (replaced-not _ _ _ _ _ (sym c.may_replace.ensures ∙ c.if-may_replace.false))
