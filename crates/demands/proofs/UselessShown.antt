-- The scope's useless builds, held against the exported contracts, each on one small input: none meets it. Assumes nothing.
use Rattle.lists.proofs.Prelude.{ℕ, ◌<◌, List, [], ◌∷◌, ◌≡◌, refl, sym, ap, ap₂, ◌∙◌, arith, get_or}
use Rattle.text_chars.specs.White.{white}
use Rattle.text_utf8.specs.Trim.{trimmed}
use Rattle.lexer_scan.specs.Scan.{space}
use Rattle.values.specs.Read.{read_from, read_identifier}
use Rattle.value_display.specs.Display.{plain, escaped, item_of, format_from, display_text, displayed, displayed_in}
use Rattle.value_display.specs.declared.Kind.TheVariants.{Text}
use Rattle.go.specs.Normal as go
use Rattle.go.specs.Normal.{normal}
use Rattle.go.specs.Value.{move_under, value_by, go_value}
use Rattle.fit_rule.specs.Rule.{tt_passes, rule_by, size_of_tree, rule_of}
use Rattle.go_size.specs.Root.{size_in}
use Rattle.go_shape.specs.Shape.{shape_of}
use Rattle.tables.specs.Columns.{depth_at}
use Rattle.tables.specs.Each.{each, sum, tabulate}
use Rattle.tables.specs.Memory.{Memory, memory}
use Rattle.tables.specs.Numbers.{none}
use Rattle.fit.specs.Fit.{fit_text, Fit}
use Rattle.fit.specs.Record.{record_in}
use Rattle.fit_nodes.specs.Nodes.{orphans, upward, on_path, first_under, nodes_fit}
use Rattle.fit_spans.specs.Ranges.{ranges_fit}
use Rattle.fit_spans.specs.Spans.{spans, ascending, plain_name, spans_fit}
use Rattle.ask_value.specs.Access.{accessed}
use Rattle.ask.specs.Ask.{display, display_in}
use Rattle.parser.specs.Examples.{bytes, strict}
use Rattle.parser.specs.Read.{read}
use Rattle.reader.specs.Lent.{Lent}
use Rattle.serialize.specs.Form.{writing, written, output}
use Rattle.c_answers.specs.Structs.{reading_in_c, edit_in_c, writing_in_c, display_in_c}
use Rattle.c_answers.specs.declared.SgfDisplay.{SgfDisplay}
use Rattle.c_answers.specs.declared.SgfEdit.{SgfEdit}
use Rattle.c_answers.specs.declared.SgfReading.{SgfReading}
use Rattle.c_answers.specs.declared.SgfWriting.{SgfWriting}
use Rattle.sgf.specs.AskInC.{DisplayInC}
use Rattle.sgf.specs.ChangeInC.{WriteInC, EditInC}
use Rattle.sgf.specs.ReadInC.{ReadInC}
use Rattle.demands.specs.Cells.{counts_read}
use Rattle.demands.proofs.Exported.{shown-accepted}
use Rattle.demands.proofs.Useless as useless
use Rattle.demands.proofs.Useless.{rows, room, two-nodes, nothing, ten-first, first, second, first-edit, second-edit}
use Rattle.std.specs.Prelude.{Result, Ok}
use Rattle.tables.specs.declared.Reason.{Reason}

-- ---- sgf_read_strict

module _ {i : ℕ} (after : Lent) (r : SgfReading) (x : ReadInC i (read strict (bytes "(;;)")) room after r) where
  is : r ≡ reading_in_c i (Ok (rows 1 2 0 0))
  is = x.is ∙ ap (reading_in_c i) two-nodes

  -- a reader that refuses everything
  pub refusing-reader : 0 < r.number → ⊥
  refusing-reader l = omega (arith, l, ap (λ (y : SgfReading). y.number) is)

  -- one that returns one empty tree, or invents its counts
  pub inventing-reader : counts_read r ≡ rows 1 2 0 0
  inventing-reader = ap counts_read is

-- one that looks for room before it looks at the trees
pub hasty-reader : {i : ℕ} (after : Lent) (r : SgfReading) → ReadInC i (read strict (bytes "((;))")) nothing after r → r.number ≡ 14 → ⊥
hasty-reader {i} after r x e = omega (arith, e, ap (λ (y : SgfReading). y.number) (x.is ∙ ap (reading_in_c i) ten-first))

-- one that leaves flat depths
pub flat-reader : {i : ℕ} (before after : Lent) (r : SgfReading) → ReadInC i (read strict (bytes "(;;;)")) before after r → r.number ≡ 0
    → depth_at after.nodes 2 ≡ 2
flat-reader before after r x z = useless.flat-reader before after (counts_read r) (shown-accepted (read strict (bytes "(;;;)")) before after r x z)

-- ---- sgf_edit

-- an edit that always refuses
pub refusing-edit : (after : Memory) (r : SgfEdit) → EditInC first after 0 (bytes "x") r → 0 < r.number → ⊥
refusing-edit after r x l = omega (arith, l, ap (λ (y : SgfEdit). y.number) (x.is ∙ ap (edit_in_c first.counts) first-edit.0))

-- one that does nothing, whatever it says
pub idle-edit : (r : SgfEdit) → EditInC first first 0 (bytes "x") r → ⊥
idle-edit r x = let e : ◌≡◌ {A = ℕ} 6 5 = ap (λ (m : Memory). get_or m.values 1 0) (x.memory ∙ first-edit.1) in omega (arith, e)

-- one that mends the first call and merely says yes later
pub later-idle-edit : (r : SgfEdit) → EditInC (second 13) (second 13) 1 (bytes "y") r → ⊥
later-idle-edit r x = let e : ◌≡◌ {A = ℕ} 11 10 = ap (λ (m : Memory). get_or m.values 3 0) (x.memory ∙ second-edit) in omega (arith, e)

-- ---- sgf_write and sgf_display

-- a text of one node with one value
abbrev one : Memory
one = memory (bytes "(;C[ab])") 8 (rows 1 1 1 1) (0 ∷ 0 ∷ []) (none ∷ none ∷ none ∷ 0 ∷ 1 ∷ 0 ∷ []) (2 ∷ 3 ∷ 0 ∷ 1 ∷ []) (4 ∷ 6 ∷ [])

-- eight bytes lent
abbrev eight : List ℕ
eight = 0 ∷ 0 ∷ 0 ∷ 0 ∷ 0 ∷ 0 ∷ 0 ∷ 0 ∷ []

one_written : (written one 8 ≡ Ok 8) × (writing (record_in one) ≡ bytes "(;C[ab])")
unfolding white space read_from read_identifier rule_of rule_by tt_passes size_of_tree size_in move_under normal go.normal_by go_value shape_of value_by Fit fit_text nodes_fit ranges_fit spans_fit trimmed each sum tabulate orphans upward on_path first_under spans ascending plain_name
one_written = (refl, refl)

module _ (out' : List ℕ) (r : SgfWriting) (x : WriteInC one eight out' r) where
  wrote : r ≡ writing_in_c (Ok 8)
  wrote = x.is ∙ ap writing_in_c one_written.0

  -- a writer that refuses everything
  pub refusing-writer : 0 < r.number → ⊥
  refusing-writer l = omega (arith, l, ap (λ (y : SgfWriting). y.number) wrote)

  -- one that says that nothing was to be written
  pub silent-writer : r.length ≡ 0 → ⊥
  silent-writer e = omega (arith, e, ap (λ (y : SgfWriting). y.length) wrote)

  -- one that leaves the output as it was
  pub idle-writer : out' ≡ eight → ⊥
  idle-writer e =
      let f : ◌≡◌ {A = ℕ} 0 40 = ap (λ (b : List ℕ). get_or b 0 0) (sym e ∙ x.bytes ∙ ap₂ (λ (a : Result ℕ Reason) (w : List ℕ). output a w eight) one_written.0 one_written.1) in
      omega (arith, f)

-- two bytes lent
abbrev two : List ℕ
two = 0 ∷ 0 ∷ []

one-shown : (display one.text (accessed one 0) Text two ≡ Ok 2) × (display_in one.text (accessed one 0) Text two ≡ bytes "ab")
unfolding white read_from accessed plain escaped item_of format_from display_text displayed displayed_in Fit fit_text nodes_fit ranges_fit spans_fit trimmed each sum tabulate orphans upward on_path first_under spans ascending plain_name
one-shown = (refl, refl)

module _ (out' : List ℕ) (r : SgfDisplay) (x : DisplayInC one 0 Text two out' r) where
  shows : r ≡ display_in_c (Ok 2)
  shows = x.is ∙ ap display_in_c one-shown.0

  -- a display that refuses everything
  pub refusing-display : 0 < r.number → ⊥
  refusing-display l = omega (arith, l, ap (λ (y : SgfDisplay). y.number) shows)

  -- one that says that there was nothing to show
  pub silent-display : r.length ≡ 0 → ⊥
  silent-display e = omega (arith, e, ap (λ (y : SgfDisplay). y.length) shows)

  -- one that leaves the output as it was
  pub idle-display : out' ≡ two → ⊥
  idle-display e = let f : ◌≡◌ {A = ℕ} 0 97 = ap (λ (b : List ℕ). get_or b 0 0) (sym e ∙ x.bytes ∙ one-shown.1) in omega (arith, f)
