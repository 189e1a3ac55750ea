-- The length of a property in the code's own terms. Nothing public is stated by these.
use Rattle.std.specs.Prelude.{◌+◌}
use Rattle.lists.specs.Prelude.{ℕ, List, length, slice}
use Rattle.values.specs.Read.{read_identifier}
use Rattle.go.specs.Normal.{normal}
use Rattle.serialize_values.specs.LocalsForm.{raws_text}
use Rattle.salvage_form.specs.Measured.{raws_at}

-- the values of a property take no more bytes
abbrev pub form_limit : ℕ
form_limit = 2097152

-- identifier and values
unfoldable pub form_length : (s : List ℕ) (rule i k : ℕ) → ℕ
form_length s rule i k = let w = read_identifier (slice i k s) in length w + length (raws_text (normal rule w (raws_at s k)))
