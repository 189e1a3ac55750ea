use Rattle.tables.proofs.Levels.{Levelling}
use Rattle.tables.specs.LocalsLinks.{HasRows}
use Rattle.lists.proofs.Prelude.{◌≤◌}
use Rattle.tables.proofs.level_nodes.Given as goal

abbrev pub invariant-loop-row : goal.invariant-loop-row
invariant-loop-row l = (l.row ≤ l.n) × HasRows l.n l.initial.t × Levelling l.n l.initial.t l.t l.row l.last
