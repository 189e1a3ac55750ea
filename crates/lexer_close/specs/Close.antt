-- Where a value closes, over the list of a text's bytes.
use Rattle.std.specs.Prelude.{◌+◌, ◌∷◌, Option, Some, None}
use Rattle.lists.specs.Prelude.{ℕ, Bool, true, false, List, [], eqb, drop, pick}

-- of the bytes that stand from place i on: the first `]` that no backslash escapes; `true`: the byte before escapes this one (SCOPE 36, 74)
unfoldable pub close_from : Bool → ℕ → List ℕ → Option ℕ
close_from e i [] = None
close_from true i (b ∷ s) = close_from false (i + 1) s
close_from false i (b ∷ s) = pick (eqb b 0x5d) (Some i) (close_from (eqb b 0x5c) (i + 1) s)

-- the same of a text
abbrev pub close_at : List ℕ → ℕ → Option ℕ
close_at s i = close_from false i (drop i s)
