use Rattle.values.specs.Read.{read_identifier}
use Rattle.lists.specs.Same.{same}
use Rattle.lists.proofs.Prelude.{◌≡◌, ◌≤◌, drop, length}
use Rattle.parts_props.proofs.reads_as.Given as goal

abbrev pub invariant-loop-b : goal.invariant-loop-b
invariant-loop-b l =
    (l.n ≤ length l.name)
    × (same (read_identifier (drop l.b-index l.identifier)) (drop l.n l.name) ≡ same (read_identifier l.identifier) l.name)
