-- Damaged texts and what salvage makes of them: one table, one statement.
use Rattle.std.specs.Prelude.{◌≡◌, ◌∷◌}
use Rattle.lists.specs.Prelude.{refl, ℕ, List, []}
use Prim.Native.String.{String}
use Rattle.text_chars.specs.White.{white}
use Rattle.lexer_scan.specs.Scan.{space}
use Rattle.values.specs.Read.{read_from, read_identifier}
use Rattle.values.specs.Decimal.{decimal_of, digits_from, digit_of}
use Rattle.go_points.specs.Area.{area_of, cornered, letter_of, letter, move_of}
use Rattle.go.specs.Marks.{marks_of, marks_from, in_rect}
use Rattle.go.specs.Normal.{normal, normal_by, points_from}
use Rattle.go_shape.specs.Shape.{shape_of}
use Rattle.go.specs.Value.{move_under, value_by, go_value, points_of}
use Rattle.fit_rule.specs.Rule.{tt_passes, rule_by, size_of_tree, rule_of}
use Rattle.go_size.specs.Root.{size_in}
use Rattle.parser.specs.Examples.{bytes}
use Rattle.parser.specs.Read.{read_lenient}
use Rattle.salvage_laws.specs.Result.{salvage_of}

-- a text and its salvage (SCOPE 284)
pub record Salvaged : Type 0 where
  pub text : String
  pub result : String

-- a row of the table
abbrev damaged : String → String → Salvaged
damaged t w = record { text = t; result = w }

-- the game type of the kept GM; GM spelled otherwise; two GMs, and one that is no number, removed; GM below the root kept; cut, tail and empty roots
abbrev pub salvaged : List Salvaged
salvaged =
    damaged "(;GaM[2]B[aa])" "(;GM[2]B[aa])"
    ∷ damaged ";;GM[2](;)" "(;;GM[2];)"
    ∷ damaged "(A[]GM[2])" "(;)"
    ∷ damaged "(;GM[1]GaM[2])" "(;)"
    ∷ damaged "(;GaM[x])" "(;)"
    ∷ damaged "(;GM[\\1])" "(;GM[\\1])"
    ∷ damaged "(;;GM[x])" "(;;GM[x])"
    ∷ damaged "(;" "(;)"
    ∷ damaged "(;[x]b[aa](;A[y" "(;;)"
    ∷ damaged "(;);)" "(;)"
    ∷ damaged "(;(;)A[x];)" "(;;)"
    ∷ damaged "(;Bl[a]" "(;B[a])"
    ∷ damaged ";" "(;)"
    ∷ damaged "x" "(;)"
    ∷ damaged "" "(;)"
    ∷ []

-- what salvage gives, row by row
abbrev salvaged_texts : List Salvaged → List (List ℕ)
salvaged_texts [] = []
salvaged_texts (r ∷ rs) = salvage_of (read_lenient (bytes r.text)) ∷ salvaged_texts rs

-- what is wanted
abbrev salvaged_results : List Salvaged → List (List ℕ)
salvaged_results [] = []
salvaged_results (r ∷ rs) = bytes r.result ∷ salvaged_results rs

-- each text is salvaged as its row says
pub salvaged-right : salvaged_texts salvaged ≡ salvaged_results salvaged
unfolding white space read_from read_identifier decimal_of digits_from digit_of rule_of rule_by tt_passes size_of_tree size_in move_under normal normal_by go_value shape_of value_by points_of points_from marks_of marks_from in_rect area_of cornered letter_of letter move_of
salvaged-right = refl
