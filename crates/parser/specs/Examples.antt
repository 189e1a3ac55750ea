-- Texts and ways of reading for tables of examples.
use Rattle.std.specs.Prelude.{◌∷◌}
use Rattle.lists.specs.Prelude.{ℕ, zero, suc, Bool, true, false, List, []}
use Prim.Native.Char.{code}
use Prim.Native.String.{String, len, char_at}

-- the codes of the n characters from place i on
abbrev from : String → ℕ → ℕ → List ℕ
from s i zero = []
from s i (suc n) = code (char_at s i) ∷ from s (suc i) n

-- the bytes of an ASCII text
abbrev pub bytes : String → List ℕ
bytes s = from s 0 (len s)

-- strict reading, in such a table
abbrev pub strict : Bool
strict = false

-- lenient reading
abbrev pub lenient : Bool
lenient = true
