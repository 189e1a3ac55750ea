use Rattle.lists.proofs.Prelude.{◌-◌, ◌≡◌, length, drop}
use Rattle.values.specs.Read.{read_identifier}
use Rattle.serialize.proofs.names.is_named.Given as goal

abbrev pub invariant-loop-i : goal.invariant-loop-i
invariant-loop-i l = read_identifier (drop l.i l.name) ≡ read_identifier l.name

abbrev pub decreases-loop-i : goal.decreases-loop-i
decreases-loop-i l = length l.name - l.i
