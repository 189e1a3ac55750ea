use Rattle.lists.proofs.Prelude.{eq-eqb, ne_eqb}
use Rattle.value_display.specs.LocalsShowing.{other_break}
use Rattle.value_display.proofs.other_break.Goals as goal

pub returns-then-b-eq10 : goal.returns-then-b-eq10
unfolding other_break
returns-then-b-eq10 c = simp (eq-eqb _ _ c.if-b-eq10.true)

pub returns-then-b-eq13 : goal.returns-then-b-eq13
unfolding other_break
returns-then-b-eq13 c = simp (ne_eqb _ _ c.if-b-eq10.false, eq-eqb _ _ c.if-b-eq13.true)

pub returns : goal.returns
unfolding other_break
returns c = simp (ne_eqb _ _ c.if-b-eq10.false, ne_eqb _ _ c.if-b-eq13.false)
