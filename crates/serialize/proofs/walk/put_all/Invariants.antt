use Rattle.lists.proofs.Prelude.{◌-◌, ◌≤◌, ◌<◌, ◌≡◌}
use Rattle.store_bytes.specs.LocalsWrote.{Wrote}
use Rattle.serialize.specs.LocalsWalk.{texts, roots_below, rule_told, node_text}
use Rattle.serialize.proofs.walk.put_all.Given as goal

abbrev pub invariant-loop-k : goal.invariant-loop-k
invariant-loop-k l = (l.k ≤ l.n) × (l.roots ≤ l.k) × (l.roots ≡ roots_below l.nodes l.k) × (0 < l.k → l.rule ≡ rule_told l.corners l.mends l.text l.trees l.nodes l.properties l.values (roots_below l.nodes l.k - 1)) × Wrote (texts (node_text l.mends l.text l.trees l.nodes l.properties l.values) l.k) l.initial.out 0 l.out l.to

abbrev pub decreases-loop-k : goal.decreases-loop-k
decreases-loop-k l = l.n - l.k
