use Rattle.lists.proofs.Prelude.{◌-◌, length, drop}
use Rattle.values.specs.Read.{read_identifier}
use Rattle.serialize_values.proofs.Writing.{Writing}
use Rattle.serialize.proofs.names.put_letters.Given as goal

abbrev pub invariant-loop-i : goal.invariant-loop-i
invariant-loop-i l = Writing (read_identifier l.name) (read_identifier (drop l.i l.name)) l.initial.out l.at l.out l.to

abbrev pub decreases-loop-i : goal.decreases-loop-i
decreases-loop-i l = length l.name - l.i
