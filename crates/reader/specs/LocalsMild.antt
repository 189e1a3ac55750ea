-- Readings that are one of the five cases of a lenient reading.
use Rattle.std.specs.Prelude.{◌≡◌, Result}
use Rattle.tables.specs.Lenient.{as_reading}
use Rattle.tables.specs.declared.Counts.{Counts}
use Rattle.tables.specs.declared.LenientRefusal.{LenientRefusal}
use Rattle.tables.specs.declared.Reason.{Reason}
use Rattle.tables.specs.declared.Refusal.{Refusal}

-- there is such a case
abbrev pub Mild : Result Counts (Refusal Reason) → Type 0
Mild r = (l : Result Counts LenientRefusal) × (as_reading l ≡ r)
