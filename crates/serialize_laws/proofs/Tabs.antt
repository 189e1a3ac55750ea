-- A vertical tab between tokens is white space: texts with it and what is answered to them, by computation. Assumes nothing.
use Rattle.lists.proofs.Prelude.{◌≡◌, refl, ℕ, List, [], ◌∷◌, map, eqb, pick, leb-true}
use Prim.Native.String.{String}
use Rattle.text_chars.specs.White.{white}
use Rattle.text_utf8.specs.Trim.{trimmed}
use Rattle.lexer_scan.specs.Scan.{space}
use Rattle.lexer.specs.Token.{node, end, prop, done, lex_at}
use Rattle.values.specs.Read.{read_from, read_identifier}
use Rattle.values.specs.Decimal.{decimal_of, digits_from, digit_of}
use Rattle.go_points.specs.Area.{move_of, move_to, letter_of, letter}
use Rattle.go.specs.Normal as go
use Rattle.go.specs.Normal.{normal}
use Rattle.go_shape.specs.Shape.{shape_of}
use Rattle.go.specs.Value.{move_under, value_by, go_value}
use Rattle.fit_rule.specs.Rule.{tt_passes, rule_by, size_of_tree, rule_of}
use Rattle.go_size.specs.Root.{size_in}
use Rattle.tables.specs.Each.{each, sum, tabulate}
use Rattle.tables.specs.Numbers.{none}
use Rattle.tables.specs.Record.{Tree}
use Rattle.fit_nodes.specs.Nodes.{orphans, upward, on_path, first_under, nodes_fit}
use Rattle.fit_spans.specs.Ranges.{ranges_fit}
use Rattle.fit_spans.specs.Spans.{spans, ascending, plain_name, spans_fit}
use Rattle.fit.specs.Fit.{fit_text, Fit}
use Rattle.parser.specs.Examples.{bytes, strict}
use Rattle.parser.specs.Read.{accepted, read}
use Rattle.edit_answer.specs.Answer.{outcome_of}
use Rattle.serialize_laws.specs.Examples.{Deed, reading, rewriting, editing, Says, number, rows, text, does}
use Rattle.serialize_laws.specs.Same.{ReadsBack}
use Rattle.serialize_laws.proofs.Theorem.{reads-back-within}

-- the bytes of an ASCII text in which `^` stands for a vertical tab
abbrev pub tabbed : String → List ℕ
tabbed s = map (λ (b : ℕ). pick (eqb b 0x5e) 0xb b) (bytes s)

-- a text, what is done with it, and what is answered
pub record Row : Type 0 where
  pub text : String
  pub deed : Deed
  pub says : Says

abbrev row : String → Deed → Says → Row
row t d s = record { text = t; deed = d; says = s }

-- the node table of one node without children that has n properties
abbrev alone : ℕ → List ℕ
alone n = none ∷ none ∷ none ∷ 0 ∷ n ∷ 0 ∷ []

-- before a token; after a value; within an identifier, where it ends nothing; places of a fault; a tail; within a value
abbrev pub table : List Row
table =
    row "(^;^B[aa])" (reading strict) (rows (0 ∷ 0 ∷ []) (alone 1) (4 ∷ 5 ∷ 0 ∷ 1 ∷ []) (6 ∷ 8 ∷ []))
    ∷ row "(;^B[aa])" (reading strict) (rows (0 ∷ 0 ∷ []) (alone 1) (3 ∷ 4 ∷ 0 ∷ 1 ∷ []) (5 ∷ 7 ∷ []))
    ∷ row "(;^B[aa])" rewriting (text (bytes "(;B[aa])"))
    ∷ row "(;^GM[2])" (reading strict) (rows (0 ∷ 1 ∷ []) (alone 1) (3 ∷ 5 ∷ 0 ∷ 1 ∷ []) (6 ∷ 7 ∷ []))
    ∷ row "(;^GM[2])" (editing 0 "1") (number 17 0)
    ∷ row "(;GM^[2])" (reading strict) (rows (0 ∷ 0 ∷ []) (alone 1) (2 ∷ 5 ∷ 0 ∷ 1 ∷ []) (6 ∷ 7 ∷ []))
    ∷ row "(;B[aa]^;)" (reading strict) (rows (0 ∷ 0 ∷ []) (none ∷ 1 ∷ none ∷ 0 ∷ 1 ∷ 0 ∷ 0 ∷ none ∷ none ∷ 1 ∷ 0 ∷ 1 ∷ []) (2 ∷ 3 ∷ 0 ∷ 1 ∷ []) (4 ∷ 6 ∷ []))
    ∷ row "(;B[aa]^[bb])" (reading strict) (rows (0 ∷ 0 ∷ []) (alone 1) (2 ∷ 3 ∷ 0 ∷ 2 ∷ []) (4 ∷ 6 ∷ 9 ∷ 11 ∷ []))
    ∷ row "(;)^B" (reading strict) (number 3 4)
    ∷ row "(;)^;" (reading strict) (rows (0 ∷ 0 ∷ []) (alone 0) [] [])
    ∷ row "(;C[^])" rewriting (text (tabbed "(;C[^])"))
    ∷ []

abbrev answered : List Row → List Says
answered [] = []
answered (r ∷ rs) = does (tabbed r.text) r.deed ∷ answered rs

abbrev wanted : List Row → List Says
wanted [] = []
wanted (r ∷ rs) = r.says ∷ wanted rs

pub tabs-right : answered table ≡ wanted table
unfolding white space read_from read_identifier decimal_of digits_from digit_of rule_of rule_by tt_passes size_of_tree size_in move_under normal go.normal_by go_value shape_of value_by move_of move_to letter_of letter outcome_of Fit fit_text nodes_fit ranges_fit spans_fit trimmed each sum tabulate orphans upward on_path first_under spans ascending plain_name
tabs-right = refl

-- the property's span is 2 to 8, and a node follows
pub tab-spanned : lex_at (tabbed "(;B[aa]^;)") 2
    ≡ record {
      toks = prop (record { from = 2; to = 3; name = 0x42 ∷ []; vals = record { from = 4; to = 6; raw = 0x61 ∷ 0x61 ∷ [] } ∷ [] }) 8 ∷ node 8 ∷ end 9 ∷ [];
      end = done;
    }
unfolding space lex_at
tab-spanned = refl

-- what is read of `(;^B[aa])`: the raw identifier is `B`, so that reading back holds of it
abbrev pub read_as : List Tree
read_as =
    record {
      root = 0;
      game = 0;
      nodes =
          record { parent = none; props = record { from = 3; to = 4; name = 0x42 ∷ []; vals = record { from = 5; to = 7; raw = 0x61 ∷ 0x61 ∷ [] } ∷ [] } ∷ [] } ∷ [];
    }
    ∷ []

pub tab-read : read strict (tabbed "(;^B[aa])") ≡ accepted read_as
unfolding white space
tab-read = refl

pub tab-back : ReadsBack read_as
unfolding white space read_from read_identifier rule_of rule_by tt_passes size_of_tree size_in move_under normal go.normal_by go_value shape_of value_by move_of move_to letter_of letter
tab-back = reads-back-within (tabbed "(;^B[aa])") read_as tab-read (refl, tt) ((refl, refl), tt) (leb-true _ _ refl) (leb-true _ _ refl)
