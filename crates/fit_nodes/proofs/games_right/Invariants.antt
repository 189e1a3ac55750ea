use Rattle.lists.proofs.Prelude.{true, ◌≡◌}
use Rattle.tables.specs.Each.{each}
use Rattle.fit_nodes.specs.Nodes.{game_right}
use Rattle.fit_nodes.proofs.games_right.Given as goal

abbrev pub invariant-loop-k : goal.invariant-loop-k
invariant-loop-k l = each l.k (game_right l.trees) ≡ true
