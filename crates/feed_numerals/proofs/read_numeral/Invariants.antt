use Rattle.lists.proofs.Prelude.{◌-◌, ◌≤◌, ◌<◌, ◌≡◌, drop, eqb}
use Rattle.feed_numerals.specs.Numeral.{groups_from, numeral_at}
use Rattle.feed_numerals.proofs.Groups.{weighted, power}
use Rattle.feed_numerals.proofs.read_numeral.Given as goal

abbrev pub invariant-loop-size : goal.invariant-loop-size
invariant-loop-size l = (numeral_at l.s l.at ≡ weighted l.value l.weight l.size (groups_from (4 - l.size) (eqb l.size 0) (drop l.place l.s))) × (l.value < l.weight) × (l.weight ≤ power l.size)
