use Rattle.lists.proofs.Prelude.{le-ltb, lt-ltb, eq-eqb, ne_eqb}
use Rattle.lexer.specs.Step.{head_from}
use Rattle.lexer.proofs.head_from.Goals as goal

pub returns-then-s-at : goal.returns-then-s-at
unfolding head_from
returns-then-s-at c = rw (le-ltb _ _ c.if-s-at.true)

pub returns-then-b-eq40 : goal.returns-then-b-eq40
unfolding head_from
returns-then-b-eq40 c = rw (lt-ltb _ _ c.if-s-at.false, eq-eqb _ _ c.if-b-eq40.true)

pub returns-then-b-eq41 : goal.returns-then-b-eq41
unfolding head_from
returns-then-b-eq41 c = rw (lt-ltb _ _ c.if-s-at.false, ne_eqb _ _ c.if-b-eq40.false, eq-eqb _ _ c.if-b-eq41.true)

pub returns-then-b-eq59 : goal.returns-then-b-eq59
unfolding head_from
returns-then-b-eq59 c = rw (lt-ltb _ _ c.if-s-at.false, ne_eqb _ _ c.if-b-eq40.false, ne_eqb _ _ c.if-b-eq41.false, eq-eqb _ _ c.if-b-eq59.true)

pub returns-in-Opens : goal.returns-in-Opens
unfolding head_from
returns-in-Opens c = rw (lt-ltb _ _ c.if-s-at.false, ne_eqb _ _ c.if-b-eq40.false, ne_eqb _ _ c.if-b-eq41.false, ne_eqb _ _ c.if-b-eq59.false, ← c.ident_end.ensures, c.in-Opens.is)

pub returns-in-Missing : goal.returns-in-Missing
unfolding head_from
returns-in-Missing c = rw (lt-ltb _ _ c.if-s-at.false, ne_eqb _ _ c.if-b-eq40.false, ne_eqb _ _ c.if-b-eq41.false, ne_eqb _ _ c.if-b-eq59.false, ← c.ident_end.ensures, c.in-Missing.is)

pub returns-in-Foreign : goal.returns-in-Foreign
unfolding head_from
returns-in-Foreign c = rw (lt-ltb _ _ c.if-s-at.false, ne_eqb _ _ c.if-b-eq40.false, ne_eqb _ _ c.if-b-eq41.false, ne_eqb _ _ c.if-b-eq59.false, ← c.ident_end.ensures, c.in-Foreign.is)
