use Rattle.lists.proofs.Prelude.{◌≡◌, drop}
use Rattle.values.specs.Read.{read_identifier}
use Rattle.go_shape.proofs.next_letter.Given as goal

abbrev pub invariant-loop-at : goal.invariant-loop-at
invariant-loop-at l = read_identifier (drop l.from l.s) ≡ read_identifier (drop l.at l.s)
