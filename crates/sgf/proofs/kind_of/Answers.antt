use Rattle.sgf.proofs.Asking.{kind-text, kind-simple}
use Rattle.sgf.proofs.kind_of.Goals as goal

pub returns-then-kind-eq0 : goal.returns-then-kind-eq0
returns-then-kind-eq0 c = kind-text c.if-kind-eq0.true

pub returns : goal.returns
returns c = kind-simple c.if-kind-eq0.false
