-- Answers shown as numbers, as the C header says them. What is reserved is 0.
use Rattle.lists.specs.Prelude.{ℕ}
use Rattle.tables.specs.Numbers.{number_of}
use Rattle.tables.specs.declared.Counts.{Counts}
use Rattle.go.specs.declared.value.GoValue.{GoValue}
use Rattle.go_points.specs.declared.Value.{Value}
use Rattle.go_points.specs.declared.Value.TheVariants.{Other, Invalid, Pass, Move, Handicap, Points}
use Rattle.c_answers.specs.declared.Figures.{Figures}
use Rattle.c_answers.specs.declared.SgfDisplay.{SgfDisplay}
use Rattle.c_answers.specs.declared.SgfEdit.{SgfEdit}
use Rattle.c_answers.specs.declared.SgfGoValue.{SgfGoValue}
use Rattle.c_answers.specs.declared.SgfReading.{SgfReading}
use Rattle.c_answers.specs.declared.SgfSpan.{SgfSpan}
use Rattle.c_answers.specs.declared.SgfWriting.{SgfWriting}
use Rattle.std.specs.Prelude.{Result, Ok, Err}
use Rattle.tables.specs.declared.Reason.{Reason}
use Rattle.tables.specs.declared.Refusal.{Refusal}

-- no row of any table
abbrev pub no_counts : Counts
no_counts = record { trees = 0; nodes = 0; properties = 0; values = 0 }

-- number, the settings that were ignored, place, and the used rows of each table (SCOPE 55, 95, 160)
abbrev pub reading_in_c : (ignored : ℕ) → Result Counts (Refusal Reason) → SgfReading
reading_in_c i (Ok c) = record { number = 0; ignored = i; place = 0; counts = c }
reading_in_c i (Err e) = record { number = number_of e.reason; ignored = i; place = e.place; counts = no_counts }

-- the span of a value that is accessed; a refusal's number and an empty span
abbrev pub span_in_c : Result (ℕ × ℕ) Reason → SgfSpan
span_in_c (Ok (a, e)) = record { number = 0; reserved = 0; from = a; to = e }
span_in_c (Err r) = record { number = number_of r; reserved = 0; from = 0; to = 0 }

-- the number of bytes displayed; a refusal's number and 0
abbrev pub display_in_c : Result ℕ Reason → SgfDisplay
display_in_c (Ok n) = record { number = 0; reserved = 0; length = n }
display_in_c (Err r) = record { number = number_of r; reserved = 0; length = 0 }

-- kind, x, y and handicap stones of a Go value
abbrev pub figures : (kind x y handicap : ℕ) → Figures
figures k x y h = record { kind = k; x = x; y = y; handicap = h }

-- 0 other, 1 invalid, 2 a pass, 3 a move, 4 handicap stones, 5 points
abbrev pub figures_in_c : Value → Figures
figures_in_c Other = figures 0 0 0 0
figures_in_c Invalid = figures 1 0 0 0
figures_in_c Pass = figures 2 0 0 0
figures_in_c (Move a b) = figures 3 a b 0
figures_in_c (Handicap n) = figures 4 0 0 n
figures_in_c Points = figures 5 0 0 0

-- a Go value, its number beside it
abbrev pub go_in_c : (number : ℕ) → GoValue → SgfGoValue
go_in_c n g = let f = figures_in_c g.value in record { number = n; kind = f.kind; x = f.x; y = f.y; handicap = f.handicap; marks = g.marks }

-- the number of bytes written; a refusal's number and 0
abbrev pub writing_in_c : Result ℕ Reason → SgfWriting
writing_in_c (Ok n) = record { number = 0; reserved = 0; length = n }
writing_in_c (Err r) = record { number = number_of r; reserved = 0; length = 0 }

-- the new used length and the counts; a refusal's number and place, and all else 0 (SCOPE 55)
abbrev pub edit_in_c : Counts → Result ℕ (Refusal Reason) → SgfEdit
edit_in_c c (Ok n) = record { number = 0; reserved = 0; place = 0; used = n; counts = c }
edit_in_c c (Err e) = record { number = number_of e.reason; reserved = 0; place = e.place; used = 0; counts = no_counts }
