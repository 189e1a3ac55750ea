use Rattle.lists.proofs.Prelude.{◌≤◌, ◌≡◌, drop}
use Rattle.values.specs.Read.{read_identifier}
use Rattle.ff4_index.specs.Locals.{place_from}
use Rattle.ff4_index.proofs.place_of.Given as goal

abbrev pub invariant-loop-b : goal.invariant-loop-b
invariant-loop-b l =
    (l.number ≤ 702) × (place_from l.number (read_identifier (drop l.b-index l.identifier)) ≡ place_from 0 (read_identifier l.identifier))
