-- The inputs that request [4] decides: of each text the Go value of one property, and the writing. One table, one statement.
use Rattle.std.specs.Prelude.{◌≡◌, ◌∷◌}
use Rattle.lists.specs.Prelude.{refl, ℕ, List, []}
use Prim.Native.String.{String}
use Rattle.text_chars.specs.White.{white}
use Rattle.lexer_scan.specs.Scan.{space}
use Rattle.values.specs.Read.{read_from, read_identifier}
use Rattle.values.specs.Decimal.{decimal_of, digits_from, digit_of}
use Rattle.go_points.specs.Area.{letter_of, letter, move_to, move_of, cornered, area_of}
use Rattle.go_points.specs.declared.Value.{Value}
use Rattle.go_points.specs.declared.Value.TheVariants.{Other, Invalid, Pass, Move, Points}
use Rattle.go_shape.specs.Shape.{shape_of}
use Rattle.go.specs.Marks.{in_rect, marks_from, marks_of}
use Rattle.go.specs.Normal.{points_from, normal_by, normal}
use Rattle.go.specs.Value.{move_under, points_of, value_by, go_value}
use Rattle.go_size.specs.Size.{side_of, pair_of, size_of}
use Rattle.go_size.specs.Root.{size_of_values, size_in}
use Rattle.fit_rule.specs.Rule.{tt_passes, rule_by, size_of_tree, rule_of}
use Rattle.parser.specs.Examples.{bytes, strict}
use Rattle.parser.specs.Read.{Answer, refused, accepted, read}
use Rattle.ask.specs.Ask.{go_at}
use Rattle.serialize.specs.Form.{writing}

-- a text, the number of a property, its Go value, and what is written
pub record SizeRow : Type 0 where
  pub text : String
  pub property : ℕ
  pub value : Value
  pub writes : String

-- a row of the table
abbrev pub size_row : String → ℕ → Value → String → SizeRow
size_row t p v w = record { text = t; property = p; value = v; writes = w }

-- the point of `tt`
abbrev pub corner : Value
corner = Move 19 19

-- a pass; a point; other values, lists and games (SCOPE 240 to 242)
abbrev pub size_rows : List SizeRow
size_rows =
    size_row "(;B[tt])" 0 Pass "(;B[])"
    ∷ size_row "(;SZ[19]W[tt])" 1 Pass "(;SZ[19]W[])"
    ∷ size_row "(;SZ[+9]B[tt])" 1 Pass "(;SZ[+9]B[])"
    ∷ size_row "(;SZ[019]B[tt])" 1 Pass "(;SZ[019]B[])"
    ∷ size_row "(;SZ[19:13]B[tt])" 1 Pass "(;SZ[19:13]B[])"
    ∷ size_row "(;SZ[9:9]B[tt])" 1 Pass "(;SZ[9:9]B[])"
    ∷ size_row "(;SZ[9\\:9]B[tt])" 1 Pass "(;SZ[9\\:9]B[])"
    ∷ size_row "(;SiZe[9]B[tt])" 1 Pass "(;SZ[9]B[])"
    ∷ size_row "(;B[\\t\\t])" 0 Pass "(;B[])"
    ∷ size_row "(;;SZ[25]B[tt])" 1 Pass "(;;SZ[25]B[])"
    ∷ size_row "(;SZ[20]B[tt])" 1 corner "(;SZ[20]B[tt])"
    ∷ size_row "(;SZ[19:20]B[tt])" 1 corner "(;SZ[19:20]B[tt])"
    ∷ size_row "(;SZ[9]SZ[9]B[tt])" 2 corner "(;SZ[9]SZ[9]B[tt])"
    ∷ size_row "(;SZ[9]SiZe[9]B[tt])" 2 corner "(;SZ[9]SZ[9]B[tt])"
    ∷ size_row "(;SZ[9][9]B[tt])" 1 corner "(;SZ[9][9]B[tt])"
    ∷ size_row "(;SZ[]B[tt])" 1 corner "(;SZ[]B[tt])"
    ∷ size_row "(;SZ[0]B[tt])" 1 corner "(;SZ[0]B[tt])"
    ∷ size_row "(;SZ[53]B[tt])" 1 corner "(;SZ[53]B[tt])"
    ∷ size_row "(;SZ[-9]B[tt])" 1 corner "(;SZ[-9]B[tt])"
    ∷ size_row "(;SZ[9:]B[tt])" 1 corner "(;SZ[9:]B[tt])"
    ∷ size_row "(;SZ[9:9:9]B[tt])" 1 corner "(;SZ[9:9:9]B[tt])"
    ∷ size_row "(;SZ[9 ]B[tt])" 1 corner "(;SZ[9 ]B[tt])"
    ∷ size_row "(;B[TT])" 0 (Move 45 45) "(;B[TT])"
    ∷ size_row "(;B[tt][tt])" 0 Invalid "(;B[tt][tt])"
    ∷ size_row "(;AB[tt])" 0 Points "(;AB[tt])"
    ∷ size_row "(;TB[tt])" 0 Points "(;TB[tt])"
    ∷ size_row "(;GM[2]B[tt])" 1 Other "(;GM[2]B[tt])"
    ∷ size_row "(;B[tt])(;SZ[25]B[tt])" 2 corner "(;B[])(;SZ[25]B[tt])"
    ∷ []

-- what is shown of a text
pub record SizeSays : Type 0 where
  pub value : Value
  pub writes : List ℕ

-- by what was read
abbrev pub size_says : ℕ → Answer → SizeSays
size_says p (refused r n) = record { value = Other; writes = [] }
size_says p (accepted ts) = record { value = (go_at ts p).value; writes = writing ts }

-- what reading and writing give, row by row
abbrev pub sizes_answered : List SizeRow → List SizeSays
sizes_answered [] = []
sizes_answered (r ∷ rs) = size_says r.property (read strict (bytes r.text)) ∷ sizes_answered rs

-- what is wanted, row by row
abbrev pub sizes_wanted : List SizeRow → List SizeSays
sizes_wanted [] = []
sizes_wanted (r ∷ rs) = record { value = r.value; writes = bytes r.writes } ∷ sizes_wanted rs

-- each text is read and written as its row says
pub sizes-right : sizes_answered size_rows ≡ sizes_wanted size_rows
unfolding white space read_from read_identifier decimal_of digits_from digit_of letter_of letter move_to move_of cornered area_of shape_of in_rect marks_from marks_of points_from normal_by normal move_under points_of value_by go_value side_of pair_of size_of size_of_values size_in tt_passes rule_by size_of_tree rule_of
sizes-right = refl
