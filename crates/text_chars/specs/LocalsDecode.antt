-- The character that bytes begin with.
use Rattle.lists.specs.Prelude.{ℕ, List, take, pick}
use Rattle.text_chars.specs.White.{white}
use Rattle.text_chars.specs.Table.{listed, scalar}
use Rattle.std.specs.Prelude.{Option, Some, None, Bool}

-- the character of the first n bytes
abbrev pub of_width : ℕ → List ℕ → Option (ℕ × Bool)
of_width n t = Some (n, white (scalar (take n t)))

-- how many bytes it has and whether it is white space; none that is well formed: Bad
unfoldable pub decoded : List ℕ → Option (ℕ × Bool)
decoded t = pick (listed 1 t) (of_width 1 t) (pick (listed 2 t) (of_width 2 t) (pick (listed 3 t) (of_width 3 t) (pick (listed 4 t) (of_width 4 t) None)))
