-- Whether an identifier reads as a name, as the C header says it.
use Rattle.lists.specs.Prelude.{ℕ, Bool, true, false}

-- 1 where it does, else 0
abbrev pub named_in_c : Bool → ℕ
named_in_c true = 1
named_in_c false = 0
