-- The scope's examples P1 to P10: one table, one statement.
use Rattle.std.specs.Prelude.{◌≡◌, ◌∷◌, ◌++◌, Result, Ok, Err}
use Rattle.lists.specs.Prelude.{refl, ℕ, zero, suc, List, [], length, take, Bool}
use Prim.Native.String.{String}
use Rattle.text_chars.specs.White.{white}
use Rattle.text_utf8.specs.Trim.{trimmed}
use Rattle.lexer_scan.specs.Scan.{space}
use Rattle.values.specs.Read.{read_from, read_identifier}
use Rattle.values.specs.Decimal.{decimal_of, digits_from, digit_of}
use Rattle.go.specs.Normal as go
use Rattle.go.specs.Normal.{normal}
use Rattle.go_shape.specs.Shape.{shape_of}
use Rattle.go.specs.Value.{move_under, value_by, go_value}
use Rattle.fit_rule.specs.Rule.{tt_passes, rule_by, size_of_tree, rule_of}
use Rattle.go_size.specs.Root.{size_in}
use Rattle.tables.specs.Each.{each, sum, tabulate}
use Rattle.tables.specs.Memory.{Memory, memory}
use Rattle.tables.specs.Numbers.{none, number_of}
use Rattle.tables.specs.Rows.{Tables, counts_of, tables}
use Rattle.tables.specs.Flat.{flat_trees, flat_nodes, flat_props, flat_vals}
use Rattle.fit_nodes.specs.Nodes.{orphans, upward, on_path, first_under, nodes_fit}
use Rattle.fit_spans.specs.Ranges.{ranges_fit}
use Rattle.fit_spans.specs.Spans.{spans, ascending, plain_name, spans_fit}
use Rattle.fit.specs.Fit.{fit_text, Fit}
use Rattle.fit.specs.Record.{record_in}
use Rattle.parser.specs.Examples.{bytes, strict, lenient}
use Rattle.parser.specs.Read.{Answer, refused, accepted, read}
use Rattle.edit_answer.specs.Answer.{outcome_of, edited_for}
use Rattle.edit.specs.Lent.{memory_after}
use Rattle.serialize.specs.Form.{writing, written, output}
use Rattle.tables.specs.declared.Reason.{Reason}
use Rattle.tables.specs.declared.Refusal.{Refusal}

-- what is done with a text: it is read; or read strictly and written; or read strictly and value k edited
pub data Deed : Type 0 where
  reading : Bool → Deed
  rewriting : Deed
  editing : (k : ℕ) → String → Deed

-- what is answered: a number and a place; the four tables; what is written; or the used length, and the text and the tables after an edit
pub data Says : Type 0 where
  number : (n place : ℕ) → Says
  rows : (trees nodes props vals : List ℕ) → Says
  text : List ℕ → Says
  edited : (used : ℕ) → List ℕ → (trees nodes props vals : List ℕ) → Says

-- a text, what is done with it, and what is answered
pub record Row : Type 0 where
  pub text : String
  pub deed : Deed
  pub says : Says

-- a row of the table
abbrev pub row : String → Deed → Says → Row
row t d s = record { text = t; deed = d; says = s }

-- the tree table of one Go tree: root 0, game type 0
abbrev one : List ℕ
one = 0 ∷ 0 ∷ []

-- the node table of one node that has neither children nor properties
abbrev alone : List ℕ
alone = none ∷ none ∷ none ∷ 0 ∷ 0 ∷ 0 ∷ []

-- the node table of one node that has one property
abbrev single : List ℕ
single = none ∷ none ∷ none ∷ 0 ∷ 1 ∷ 0 ∷ []

-- the node table of two nodes, one below the other, with one property each
abbrev twain : List ℕ
twain = none ∷ 1 ∷ none ∷ 0 ∷ 1 ∷ 0 ∷ 0 ∷ none ∷ none ∷ 1 ∷ 1 ∷ 1 ∷ []

-- P1 to P10, in this order
abbrev pub paper_rows : List Row
paper_rows =
    row "" (reading strict) (number 8 0)
    ∷ row "" (reading lenient) (rows one alone [] [])
    ∷ row "(;);" (reading strict) (rows one alone [] [])
    ∷ row "(;B)" (reading strict) (number 3 2)
    ∷ row "(;[x])" (reading strict) (rows one single (2 ∷ 2 ∷ 0 ∷ 1 ∷ []) (3 ∷ 4 ∷ []))
    ∷ row "(;[x])" rewriting (number 15 0)
    ∷ row ")" (reading strict) (number 6 0)
    ∷ row "(;" (reading strict) (number 7 0)
    ∷ row "()" (reading strict) (number 7 0)
    ∷ row "((;))" (reading strict) (number 10 0)
    ∷ row "(;())" (reading strict) (rows one alone [] [])
    ∷ row "(B[aa])" (reading strict) (number 11 0)
    ∷ row "(;GM[01])" (reading strict) (rows (0 ∷ 1 ∷ []) single (2 ∷ 4 ∷ 0 ∷ 1 ∷ []) (5 ∷ 7 ∷ []))
    ∷ row "(;GM[x])" (reading strict) (number 12 0)
    ∷ row "(;(;);)" (reading strict) (rows one (none ∷ 1 ∷ none ∷ 0 ∷ 0 ∷ 0 ∷ 0 ∷ none ∷ 2 ∷ 0 ∷ 0 ∷ 1 ∷ 0 ∷ none ∷ none ∷ 0 ∷ 0 ∷ 1 ∷ []) [] [])
    ∷ row "(;(;);)" rewriting (text (bytes "(;(;)(;))"))
    ∷ row "(;C[ab];B[cd])" (reading strict) (rows one twain (2 ∷ 3 ∷ 0 ∷ 1 ∷ 8 ∷ 9 ∷ 1 ∷ 1 ∷ []) (4 ∷ 6 ∷ 10 ∷ 12 ∷ []))
    ∷ row "(;C[ab];B[cd])" (editing 0 "x") (edited 13 (bytes "(;C[x];B[cd])" ++ (0 ∷ [])) one twain (2 ∷ 3 ∷ 0 ∷ 1 ∷ 7 ∷ 8 ∷ 1 ∷ 1 ∷ []) (4 ∷ 5 ∷ 9 ∷ 11 ∷ []))
    ∷ []

-- a text and the tables of what was read of it, in memory that has room for just these
abbrev pub held : List ℕ → Tables → Memory
held t T = memory t (length t) (counts_of T) (flat_trees T.trees) (flat_nodes T.nodes) (flat_props T.props) (flat_vals T.vals)

-- a reading shown
abbrev pub read_says : Answer → Says
read_says (refused r p) = number (number_of r) p
read_says (accepted ts) = let T = tables ts in rows (flat_trees T.trees) (flat_nodes T.nodes) (flat_props T.props) (flat_vals T.vals)

-- so many bytes that are 0
abbrev pub zeros : ℕ → List ℕ
zeros zero = []
zeros (suc n) = 0 ∷ zeros n

-- a writing shown: as many of the bytes lent as were written
abbrev pub written_says : Result ℕ Reason → (out : List ℕ) → Says
written_says (Ok n) out = text (take n out)
written_says (Err r) out = number (number_of r) 0

-- what was read of a text, written into 100 bytes
abbrev pub write_says : List ℕ → Answer → Says
write_says t (refused r p) = number (number_of r) p
write_says t (accepted ts) =
    let w = written (held t (tables ts)) 100 in
    written_says w (output w (writing (record_in (held t (tables ts)))) (zeros 100))

-- an edit shown, with the memory after it
abbrev pub edited_says : Result ℕ (Refusal Reason) → Memory → Says
edited_says (Err e) m = number (number_of e.reason) e.place
edited_says (Ok n) m = edited n m.text m.trees m.nodes m.properties m.values

-- the text t, read, with value k edited
abbrev pub edit_says : List ℕ → ℕ → List ℕ → Answer → Says
edit_says t k new (refused r p) = number (number_of r) p
edit_says t k new (accepted ts) =
    let o = outcome_of (held t (tables ts)) k new in
    edited_says (edited_for o) (memory_after o (held t (tables ts)))

-- what is answered to one
abbrev pub does : List ℕ → Deed → Says
does t (reading len) = read_says (read len t)
does t rewriting = write_says t (read strict t)
does t (editing k new) = edit_says t k (bytes new) (read strict t)

-- what is answered, row by row
abbrev pub answered : List Row → List Says
answered [] = []
answered (r ∷ rs) = does (bytes r.text) r.deed ∷ answered rs

-- what the scope wants, row by row
abbrev pub wanted : List Row → List Says
wanted [] = []
wanted (r ∷ rs) = r.says ∷ wanted rs

-- each row is answered as the scope wants
pub examples : answered paper_rows ≡ wanted paper_rows
unfolding white space read_from read_identifier decimal_of digits_from digit_of rule_of rule_by tt_passes size_of_tree size_in move_under normal go.normal_by go_value shape_of value_by outcome_of Fit fit_text nodes_fit ranges_fit spans_fit trimmed each sum tabulate orphans upward on_path first_under spans ascending plain_name
examples = refl
