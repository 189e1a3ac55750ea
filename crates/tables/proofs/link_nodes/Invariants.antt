use Rattle.lists.proofs.Prelude.{◌≤◌}
use Rattle.tables.specs.LocalsLinks.{LinkedFrom, HasRows}
use Rattle.tables.proofs.link_nodes.Given as goal

abbrev pub invariant-loop-k : goal.invariant-loop-k
invariant-loop-k l = (l.k ≤ l.n) × HasRows l.n l.initial.t × LinkedFrom l.n l.initial.t l.t l.k
