use Rattle.lists.proofs.Prelude.{le-ltb, lt-ltb, ne_eqb, eq-eqb}
use Rattle.values.specs.Read.{next_read}
use Rattle.values.proofs.read.next_read.Goals as goal

pub returns-then-s-at : goal.returns-then-s-at
unfolding next_read
returns-then-s-at c = simp (le-ltb _ _ c.if-s-at.true)

pub returns-then-b-ne92 : goal.returns-then-b-ne92
unfolding next_read
returns-then-b-ne92 c = simp (lt-ltb _ _ c.if-s-at.false, ne_eqb _ _ c.if-b-ne92.true)

pub returns-then-s-at-2 : goal.returns-then-s-at-2
unfolding next_read
returns-then-s-at-2 c = simp (lt-ltb _ _ c.if-s-at.false, eq-eqb _ _ c.if-b-ne92.false, le-ltb _ _ c.if-s-at-2.true)

pub returns : goal.returns
unfolding next_read
returns c = simp (lt-ltb _ _ c.if-s-at.false, eq-eqb _ _ c.if-b-ne92.false, lt-ltb _ _ c.if-s-at-2.false)
