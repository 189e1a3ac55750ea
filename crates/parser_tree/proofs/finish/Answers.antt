use Rattle.lists.proofs.Prelude.{eq-eqb, ne_eqb, refl}
use Rattle.parser_tree.proofs.finish.Goals as goal

pub returns-then-w-base : goal.returns-then-w-base
returns-then-w-base c = rw (ne_eqb _ _ c.if-w-base.true) (refl, refl)

pub returns-then-not-lenient : goal.returns-then-not-lenient
returns-then-not-lenient c = rw (eq-eqb _ _ c.if-w-base.false, c.if-not-lenient.true) (refl, refl)

pub returns : goal.returns
returns c = rw (eq-eqb _ _ c.if-w-base.false, c.if-not-lenient.false) (refl, c.put.ensures)
