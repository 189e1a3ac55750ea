use Rattle.lists.proofs.Prelude.{refl}
use Rattle.parser_tree.proofs.stop.Goals as goal

pub returns-then-not-lenient : goal.returns-then-not-lenient
returns-then-not-lenient c = rw c.if-not-lenient.true (refl, refl)

pub returns : goal.returns
returns c = rw c.if-not-lenient.false (c.skip_slice-at.result, c.skip_slice-at.ensures, c.finish.ensures)
