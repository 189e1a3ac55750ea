-- Closed values.
use Rattle.std.specs.Prelude.{◌||◌, ◌&&◌, ◌∷◌}
use Rattle.lists.specs.Prelude.{ℕ, Bool, false, not, List, [], eqb}

-- scanned with an escape pending or not: no unescaped `]`, and at the end no pending escape
abbrev pub closed_from : Bool → List ℕ → Bool
closed_from esc [] = not esc
closed_from esc (b ∷ bs) = (esc || not (eqb b 0x5d)) && closed_from (not esc && eqb b 0x5c) bs

-- scanned from no pending escape (SCOPE 27, 49)
abbrev pub closed : List ℕ → Bool
closed v = closed_from false v
