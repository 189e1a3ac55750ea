-- Rows of texts that show why reading back asks what it asks, and of what is written: one table each, one statement each.
use Rattle.std.specs.Prelude.{◌≡◌, ◌∷◌}
use Rattle.lists.specs.Prelude.{refl, ℕ, List, [], map}
use Prim.Native.String.{String}
use Rattle.text_chars.specs.White.{white}
use Rattle.text_utf8.specs.Trim.{trimmed}
use Rattle.lexer_scan.specs.Scan.{space}
use Rattle.values.specs.Read.{read_from, read_identifier}
use Rattle.values.specs.Decimal.{decimal_of, digits_from, digit_of}
use Rattle.go_points.specs.Area.{area_of, cornered, letter_of, letter}
use Rattle.go.specs.Marks.{marks_of, marks_from, in_rect}
use Rattle.go.specs.Normal.{normal, normal_by, points_from}
use Rattle.go_shape.specs.Shape.{shape_of}
use Rattle.go.specs.Value.{move_under, value_by, go_value, points_of}
use Rattle.fit_rule.specs.Rule.{tt_passes, rule_by, size_of_tree, rule_of}
use Rattle.go_size.specs.Root.{size_in}
use Rattle.tables.specs.Each.{each, sum, tabulate}
use Rattle.tables.specs.Numbers.{number_of}
use Rattle.tables.specs.Record.{Tree}
use Rattle.fit_nodes.specs.Nodes.{orphans, upward, on_path, first_under, nodes_fit}
use Rattle.fit_spans.specs.Ranges.{ranges_fit}
use Rattle.fit_spans.specs.Spans.{spans, ascending, plain_name, spans_fit}
use Rattle.fit.specs.Fit.{fit_text, Fit}
use Rattle.parser.specs.Examples.{bytes, strict}
use Rattle.parser.specs.Read.{Answer, refused, accepted, read}
use Rattle.serialize.specs.Form.{writing}
use Rattle.serialize_laws.specs.Examples as paper

-- what a reading says: why it is refused, or the game types of the trees
pub data Says : Type 0 where
  number : ℕ → Says
  types : List ℕ → Says

-- the game type of a tree
abbrev tree_game : Tree → ℕ
tree_game t = t.game

-- an answer shown
abbrev pub says : Answer → Says
says (refused r p) = number (number_of r)
says (accepted ts) = types (map tree_game ts)

-- what is written for an answer
abbrev pub writes : Answer → List ℕ
writes (refused r p) = []
writes (accepted ts) = writing ts

-- a text, what a reading of it says, what is written, and what a reading of that says
pub record Row : Type 0 where
  pub text : String
  pub first : Says
  pub writing : String
  pub second : Says

-- a row of the table
abbrev row : String → Says → String → Says → Row
row t a w b = record { text = t; first = a; writing = w; second = b }

-- a tree that does not begin with `(`; an identifier with another letter, twice; an identifier with a space
abbrev pub needed : List Row
needed =
    row ";GM[2](;)" (types (0 ∷ [])) "(;GM[2];)" (types (1 ∷ []))
    ∷ row "(;GaM[2])" (types (0 ∷ [])) "(;GM[2])" (types (1 ∷ []))
    ∷ row "(;GM[1]GaM[2])" (types (0 ∷ [])) "(;GM[1]GM[2])" (number 11)
    ∷ row "(;GM [2])" (types (0 ∷ [])) "(;GM[2])" (types (1 ∷ []))
    ∷ []

-- what is shown of a text
pub record ReadTwice : Type 0 where
  pub first : Says
  pub writing : List ℕ
  pub second : Says

-- what reading, writing and reading again give, row by row
abbrev right : List Row → List ReadTwice
right [] = []
right (r ∷ rs) = let a = read strict (bytes r.text) in record { first = says a; writing = writes a; second = says (read strict (writes a)) } ∷ right rs

-- what is wanted, row by row
abbrev wanted : List Row → List ReadTwice
wanted [] = []
wanted (r ∷ rs) = record { first = r.first; writing = bytes r.writing; second = r.second } ∷ wanted rs

-- each text is read, written and read again as its row says
pub needed-right : right needed ≡ wanted needed
unfolding white space read_from read_identifier decimal_of digits_from digit_of rule_of rule_by tt_passes size_of_tree size_in move_under normal normal_by go_value shape_of value_by
needed-right = refl

-- the scope's writing program; points by coordinates, not by the byte codes of their letters; one set in another order and spelling; an identifier that reads as empty
abbrev pub writings : List paper.Row
writings =
    paper.row "(;AB[bb:cc]TB[ba][aa]C[a:b\\]c])" paper.rewriting (paper.text (bytes "(;AB[bb][bc][cb][cc]TB[aa][ba]C[a:b\\]c])"))
    ∷ paper.row "(;AB[Aa][aA][aa])" paper.rewriting (paper.text (bytes "(;AB[aa][aA][Aa])"))
    ∷ paper.row "(;AB[bb] [aa:ab])" paper.rewriting (paper.text (bytes "(;AB[aa][ab][bb])"))
    ∷ paper.row "(;B[aa]b[x])" paper.rewriting (paper.number 15 0)
    ∷ []

-- each text is written as its row says
pub writings-right : paper.answered writings ≡ paper.wanted writings
unfolding white space read_from read_identifier rule_of rule_by tt_passes size_of_tree size_in move_under normal normal_by go_value shape_of value_by points_of points_from marks_of marks_from in_rect area_of cornered letter_of letter Fit fit_text nodes_fit ranges_fit spans_fit trimmed each sum tabulate orphans upward on_path first_under spans ascending plain_name
writings-right = refl
