-- Entries of the property index and simple values as the structs of the C header.
use Rattle.lists.specs.Prelude.{ℕ}
use Rattle.tables.specs.Numbers.{number_of}
use Rattle.ff4_index.specs.declared.Entry.{Entry}
use Rattle.ff4_values.specs.declared.Simple.{Simple}
use Rattle.ff4_values.specs.declared.Simple.TheVariants.{Other, Invalid, Nothing, Normal, Emphasized, Black, White, Plus, Minus}
use Rattle.c_simple.specs.declared.SgfEntry.{SgfEntry}
use Rattle.c_simple.specs.declared.SgfSimple.{SgfSimple}
use Rattle.std.specs.Prelude.{Result, Ok, Err}
use Rattle.tables.specs.declared.Reason.{Reason}

-- what FF[4] lists of a property, or all 0
abbrev pub entry_in_c : Entry → SgfEntry
entry_in_c e = record { kind = e.kind; property_type = e.property_type; section = e.section; reserved = 0 }

-- a simple value that is given
abbrev pub simple_struct : (kind negative size : ℕ) → SgfSimple
simple_struct k m n = record { number = 0; kind = k; negative = m; reserved = 0; size = n }

-- other, invalid, none; a Double is 1 or 2, a Color 1 for black and 2 for white; a number its size, and 1 where it has a minus
abbrev pub simple_in_c : Simple → SgfSimple
simple_in_c Other = simple_struct 0 0 0
simple_in_c Invalid = simple_struct 1 0 0
simple_in_c Nothing = simple_struct 2 0 0
simple_in_c Normal = simple_struct 3 0 1
simple_in_c Emphasized = simple_struct 3 0 2
simple_in_c Black = simple_struct 4 0 1
simple_in_c White = simple_struct 4 0 2
simple_in_c (Plus n) = simple_struct 5 0 n
simple_in_c (Minus n) = simple_struct 5 1 n

-- a refusal: its number, all else 0
abbrev pub simple_answer_in_c : Result Simple Reason → SgfSimple
simple_answer_in_c (Ok s) = simple_in_c s
simple_answer_in_c (Err r) = record { number = number_of r; kind = 0; negative = 0; reserved = 0; size = 0 }
