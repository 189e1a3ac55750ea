-- The decisions on the board, each by its smallest text: the number of a node, or the sides of its board and the acts of the way to it. One table, one statement.
use Prim.Native.String.{String}
use Rattle.std.specs.Prelude.{◌≡◌, ◌∷◌}
use Rattle.lists.specs.Prelude.{ℕ, refl, List, [], eqb, pick}
use Rattle.text_chars.specs.White.{white}
use Rattle.text_utf8.specs.Trim.{trimmed}
use Rattle.lexer_scan.specs.Scan.{space}
use Rattle.values.specs.Read.{read_from, read_identifier}
use Rattle.values.specs.Decimal.{decimal_of, digits_from, digit_of}
use Rattle.parts.specs.Rows.{value_at, values_at}
use Rattle.parts_props.specs.Props.{identifier_at, properties_at}
use Rattle.go_points.specs.Area.{letter_of, move_to, move_of, cornered, area_of}
use Rattle.go_shape.specs.Shape.{shape_of}
use Rattle.go.specs.Marks.{in_rect, marks_from, marks_of}
use Rattle.go.specs.Value.{move_under, points_of, value_by, go_value}
use Rattle.go_size.specs.Size.{side_of, pair_of, size_of}
use Rattle.go_size.specs.Root.{size_of_values, size_in}
use Rattle.tables.specs.Each.{each, sum, tabulate}
use Rattle.tables.specs.Memory.{Memory}
use Rattle.tables.specs.Numbers.{number_of}
use Rattle.tables.specs.Rows.{tables}
use Rattle.fit_nodes.specs.Nodes.{orphans, upward, on_path, first_under, nodes_fit}
use Rattle.fit_spans.specs.Ranges.{ranges_fit}
use Rattle.fit_spans.specs.Spans.{spans, ascending, plain_name, spans_fit}
use Rattle.fit.specs.Fit.{fit_text, Fit}
use Rattle.parser.specs.Examples.{bytes, strict}
use Rattle.parser.specs.Read.{Answer, refused, accepted, read}
use Rattle.serialize_laws.specs.Examples.{held}
use Rattle.board_groups.specs.Board.{on_board}
use Rattle.board_play.specs.Steps.{Act, sets, plays}
use Rattle.board_node.specs.Node.{setup_colour, move_colour, sets_from, move_acts, setups_of, moves_of, right_node}
use Rattle.board_path.specs.Way.{way_up, way_to}
use Rattle.board.specs.Answer.{node_properties, tree_over, said_size, columns_by, rows_by, way_acts, way_properties, way_number, board_number}

-- what is told of a node: its number where it is refused; else columns, rows and the acts from the root down to it
pub data Told : Type 0 where
  number : ℕ → Told
  acts : (columns rows : ℕ) → List Act → Told

-- a text, a node, and what is told of it
pub record Decision : Type 0 where
  pub text : String
  pub node : ℕ
  pub told : Told

-- a row of the table
abbrev pub decision : String → ℕ → Told → Decision
decision t k s = record { text = t; node = k; told = s }

-- what is told of node k over tables
abbrev pub told_in : Memory → ℕ → Told
told_in m k =
    let ws = way_properties m k in
    let s = said_size ws in
    pick (eqb (board_number m k) 0) (acts (columns_by s) (rows_by s) (way_acts (columns_by s) (rows_by s) ws)) (number (board_number m k))

-- the same over what was read of a text
abbrev pub told_of : List ℕ → ℕ → Answer → Told
told_of t k (refused r p) = number (number_of r)
told_of t k (accepted ts) = told_in (held t (tables ts)) k

-- the decisions, one a row: 0 empties, 1 is black, 2 white; the point (x, y) is the place 52 * x + y
abbrev pub decisions : List Decision
decisions =
    decision "(;SZ[3]AB[aa]AW[ab][ba];W[cc])" 1 (acts 3 3 (sets 1 0 ∷ sets 2 1 ∷ sets 2 52 ∷ plays 2 106 ∷ []))
    ∷ decision "(;SZ[2]AB[aa][ab][ba][bb];W[])" 1 (acts 2 2 (sets 1 0 ∷ sets 1 1 ∷ sets 1 52 ∷ sets 1 53 ∷ []))
    ∷ decision "(;SZ[2]AB[aa][ab][ba][bb];B[aa])" 1 (acts 2 2 (sets 1 0 ∷ sets 1 1 ∷ sets 1 52 ∷ sets 1 53 ∷ plays 1 0 ∷ []))
    ∷ decision "(;SZ[2]B[aa];W[aa])" 1 (acts 2 2 (plays 1 0 ∷ plays 2 0 ∷ []))
    ∷ decision "(;SZ[1];B[aa])" 1 (acts 1 1 (plays 1 0 ∷ []))
    ∷ decision "(;SZ[2:1];B[aa];W[ba])" 2 (acts 2 1 (plays 1 0 ∷ plays 2 52 ∷ []))
    ∷ decision "(;SZ[2]B[aa]AB[aa])" 0 (acts 2 2 (sets 1 0 ∷ plays 1 0 ∷ []))
    ∷ decision "(;SZ[1]AB[aa])" 0 (acts 1 1 (sets 1 0 ∷ []))
    ∷ decision "(;AB[aa]AB[aa])" 0 (number 23)
    ∷ decision "(;AB[aa]AE[aa])" 0 (number 23)
    ∷ decision "(;AB[aa][aa])" 0 (acts 19 19 (sets 1 0 ∷ []))
    ∷ decision "(;AE[aa])" 0 (acts 19 19 (sets 0 0 ∷ []))
    ∷ decision "(;AB[tt])" 0 (number 23)
    ∷ decision "(;B[tt])" 0 (acts 19 19 [])
    ∷ decision "(;SZ[20]B[tt])" 0 (acts 20 20 (plays 1 1007 ∷ []))
    ∷ decision "(;SZ[20:5];B[tt])" 1 (number 23)
    ∷ decision "(;SZ[52]B[zz]B[a])" 0 (acts 52 52 (plays 1 1325 ∷ []))
    ∷ decision "(;SZ[9]TB[tt])" 0 (acts 9 9 [])
    ∷ decision "(;(;B[zz])(;B[aa]))" 2 (acts 19 19 (plays 1 0 ∷ []))
    ∷ decision "(;(;B[zz])(;B[aa]))" 1 (number 23)
    ∷ decision "(;GM[2]SZ[x])" 0 (number 21)
    ∷ decision "(;)" 1 (number 21)
    ∷ decision "(;SZ[9]SZ[9]B[zz])" 0 (number 22)
    ∷ decision "(;SZ[1]B[bb];C[x])" 1 (number 23)
    ∷ []

-- what is told, row by row
abbrev pub told_all : List Decision → List Told
told_all [] = []
told_all (d ∷ ds) = told_of (bytes d.text) d.node (read strict (bytes d.text)) ∷ told_all ds

-- what was decided, row by row
abbrev pub decided_all : List Decision → List Told
decided_all [] = []
decided_all (d ∷ ds) = d.told ∷ decided_all ds

-- each row is answered as it was decided
pub decisions-hold : told_all decisions ≡ decided_all decisions
unfolding white space read_from read_identifier decimal_of digits_from digit_of value_at values_at identifier_at properties_at letter_of move_to move_of cornered area_of in_rect marks_from marks_of shape_of move_under points_of value_by go_value side_of pair_of size_of size_of_values size_in each sum tabulate Fit fit_text nodes_fit ranges_fit spans_fit trimmed orphans upward on_path first_under spans ascending plain_name on_board setup_colour move_colour sets_from move_acts setups_of moves_of right_node way_up way_to node_properties tree_over way_number board_number
decisions-hold = refl
