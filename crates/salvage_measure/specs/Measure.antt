-- What salvage makes of a text, measured before anything is written.
use Rattle.std.specs.Prelude.{◌≡◌}
use Rattle.lists.specs.Prelude.{ℕ, List, length}
use Rattle.parser.specs.Read.{read_lenient}
use Rattle.serialize_laws.specs.Depth.{depth_of}
use Rattle.salvage_mend.specs.Changes.{Change}
use Rattle.salvage_laws.specs.Result.{salvage_of}
use Rattle.salvage_measure.specs.declared.Measured.{Measured}
use Rattle.salvage_measure.specs.declared.Weighed.{Weighed}

-- of a text: how many bytes it has, and its depth
abbrev pub measure_of : (w : List ℕ) → Measured
measure_of w = record { bytes = length w; depth = depth_of w }

-- of the result of a text (SCOPE 292)
abbrev pub text_measure : List ℕ → Measured
text_measure t = measure_of (salvage_of (read_lenient t))

-- a result that is so long and so deep, and a list of these changes
pub record WeighedIs (m : Measured) (cs : List Change) (r : Weighed) : Type 0 where
  pub result : r.result ≡ m
  pub changes : r.changes ≡ length cs
