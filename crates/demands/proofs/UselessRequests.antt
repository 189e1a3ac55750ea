-- Useless builds of the later requests, held against the exported contracts, each on one small input: none meets it. Assumes nothing.
use Rattle.lists.proofs.Prelude.{ℕ, ◌<◌, false, List, [], ◌∷◌, ◌≡◌, refl, sym, ap, ◌∙◌, arith, get_or}
use Rattle.text_chars.specs.White.{white}
use Rattle.text_utf8.specs.Trim.{trimmed}
use Rattle.lexer_scan.specs.Scan.{space}
use Rattle.lexer.specs.Token.{lex_at}
use Rattle.values.specs.Read.{read_from, read_identifier}
use Rattle.go.specs.Value.{move_under, value_by, go_value}
use Rattle.go_points.specs.Area.{letter_of, move_to, move_of}
use Rattle.go_shape.specs.Shape.{shape_of}
use Rattle.go_size.specs.Root.{size_in}
use Rattle.fit_rule.specs.Rule.{tt_passes, rule_by, size_of_tree, rule_of}
use Rattle.tables.specs.Each.{each, sum, tabulate}
use Rattle.tables.specs.Memory.{Memory, memory}
use Rattle.tables.specs.Numbers.{none}
use Rattle.fit.specs.Fit.{fit_text, Fit}
use Rattle.fit_nodes.specs.Nodes.{orphans, upward, on_path, first_under, nodes_fit}
use Rattle.fit_spans.specs.Ranges.{ranges_fit}
use Rattle.fit_spans.specs.Spans.{spans, ascending, plain_name, spans_fit}
use Rattle.ask.specs.Ask.{go_answer}
use Rattle.c_answers.specs.declared.SgfEdit.{SgfEdit}
use Rattle.c_answers.specs.declared.SgfGoValue.{SgfGoValue}
use Rattle.sgf.specs.AskInC.{go_answer_in_c}
use Rattle.parser.specs.Examples.{bytes}
use Rattle.season_tally.specs.Tally.{played_by, tally_of, tally_answer}
use Rattle.c_tally.specs.TallyInC.{tally_or_number}
use Rattle.c_tally.specs.declared.SgfTally.{SgfTally}
use Rattle.why_blame.specs.declared.Fact.TheVariants.{NoBracket}
use Rattle.why.specs.Why.{explained}
use Rattle.c_why.specs.WhyInC.{why_in_c}
use Rattle.c_why.specs.declared.SgfWhy.{SgfWhy}
use Rattle.feed_numerals.specs.Numeral.{groups_from, numeral_at}
use Rattle.feed.specs.Feed.{entry_at, entries_from, listing}
use Rattle.feed.specs.Find.{found_in}
use Rattle.feed_check.specs.Check.{corrections_judged, feed_checked}
use Rattle.feed_value.specs.Look.{looked_up}
use Rattle.feed_value.specs.declared.Looked.TheVariants.{Feed}
use Rattle.feed_laid.specs.Laid.{shift}
use Rattle.feed_laws.specs.Applied.{feed_applied, memory_applied}
use Rattle.feed_apply.specs.Lent.{applied_for}
use Rattle.c_feed.specs.Parts.{part_in_c, applied_in_c, CorrectInC}
use Rattle.c_feed.specs.declared.SgfPart.{SgfPart}
use Rattle.demands.proofs.Useless.{rows}
use Rattle.std.specs.Prelude.{Ok, Err}
use Rattle.tables.specs.Refusals.{refusal}

-- a game of one move and a pass that an older editor wrote
abbrev pub game : Memory
game =
    memory (bytes "(;B[aa];W[tt])") 14 (rows 1 2 2 2) (0 ∷ 0 ∷ []) (none ∷ 1 ∷ none ∷ 0 ∷ 1 ∷ 0 ∷ 0 ∷ none ∷ none ∷ 1 ∷ 1 ∷ 1 ∷ []) (2 ∷ 3 ∷ 0 ∷ 1 ∷ 8 ∷ 9 ∷ 1 ∷ 1 ∷ [])
    (4 ∷ 6 ∷ 10 ∷ 12 ∷ [])

-- ---- sgf_tally

game-tallied : tally_or_number game ≡ record { number = 0; reserved = 0; trees = 1; nodes = 2; black = 1; white = 0; passes = 1 }
unfolding white space read_from read_identifier letter_of move_to move_of move_under value_by go_value shape_of size_in tt_passes rule_by size_of_tree rule_of Fit fit_text nodes_fit ranges_fit spans_fit trimmed each sum tabulate orphans upward on_path first_under spans ascending plain_name played_by tally_of tally_answer
game-tallied = refl

module _ (r : SgfTally) (s : r ≡ tally_or_number game) where
  -- one that refuses everything
  pub refusing-tally : 0 < r.number → ⊥
  refusing-tally l = omega (arith, l, ap (λ (z : SgfTally). z.number) (s ∙ game-tallied))

  -- one that counts no move, or the pass as a move
  pub idle-tally : (r.black ≡ 1) × (r.white ≡ 0) × (r.passes ≡ 1)
  idle-tally = let e = s ∙ game-tallied in (ap (λ (z : SgfTally). z.black) e, ap (λ (z : SgfTally). z.white) e, ap (λ (z : SgfTally). z.passes) e)

-- ---- sgf_go_value: `tt`

game-passes : (go_answer_in_c (go_answer game 1)).kind ≡ 2
unfolding white space read_from read_identifier letter_of move_to move_of move_under value_by go_value shape_of size_in tt_passes rule_by size_of_tree rule_of Fit fit_text nodes_fit ranges_fit spans_fit trimmed each sum tabulate orphans upward on_path first_under spans ascending plain_name go_answer
game-passes = refl

-- one that leaves `tt` a point
pub pointing-go : (r : SgfGoValue) → r ≡ go_answer_in_c (go_answer game 1) → r.kind ≡ 3 → ⊥
pointing-go r s e = omega (arith, e, ap (λ (z : SgfGoValue). z.kind) s ∙ game-passes)

-- ---- sgf_why_strict

three-told : explained false (bytes "(;B)") ≡ Err (refusal (NoBracket 4) 2)
unfolding white trimmed space lex_at read_from
three-told = refl

-- one that blames the start of the text, or nothing
pub mute-why : (r : SgfWhy) → r ≡ why_in_c (explained false (bytes "(;B)")) → (r.number ≡ 3) × (r.fact ≡ 3) × (r.place ≡ 2) × (r.detail ≡ 4)
mute-why r s =
    let e = s ∙ ap why_in_c three-told in
    (ap (λ (z : SgfWhy). z.number) e, ap (λ (z : SgfWhy). z.fact) e, ap (λ (z : SgfWhy). z.place) e, ap (λ (z : SgfWhy). z.detail) e)

-- ---- corrections: `x` for value 0

abbrev feed : List ℕ
feed = 1 ∷ 0 ∷ 1 ∷ 120 ∷ []

game-looked : looked_up game feed 0 ≡ Feed 3 4
unfolding white space read_from read_identifier Fit fit_text nodes_fit ranges_fit spans_fit trimmed each sum tabulate orphans upward on_path first_under spans ascending plain_name groups_from numeral_at entry_at entries_from listing found_in corrections_judged feed_checked looked_up
game-looked = refl

-- a lookup that refuses everything, or hands out the record's own bytes
pub deaf-corrected : (r : SgfPart) → r ≡ part_in_c (looked_up game feed 0) → (r.number ≡ 0) × (r.source ≡ 1) × (r.from ≡ 3) × (r.to ≡ 4)
deaf-corrected r s =
    let e = s ∙ ap part_in_c game-looked in
    (ap (λ (z : SgfPart). z.number) e, ap (λ (z : SgfPart). z.source) e, ap (λ (z : SgfPart). z.from) e, ap (λ (z : SgfPart). z.to) e)

game-corrected : (applied_for (feed_applied game feed) ≡ Ok 13) × (get_or (memory_applied (feed_applied game feed) game).text 4 0 ≡ 120)
unfolding white space read_from read_identifier Fit fit_text nodes_fit ranges_fit spans_fit trimmed each sum tabulate orphans upward on_path first_under spans ascending plain_name groups_from numeral_at entry_at entries_from listing found_in corrections_judged feed_checked shift feed_applied
game-corrected = (refl, refl)

module _ (m' : Memory) (r : SgfEdit) (s : CorrectInC game m' feed r) where
  -- one that refuses everything
  pub refusing-correct : 0 < r.number → ⊥
  refusing-correct l = omega (arith, l, ap (λ (z : SgfEdit). z.number) (s.is ∙ ap (applied_in_c game.counts) game-corrected.0))

  -- one that does nothing, whatever it says
  pub idle-correct : m' ≡ game → ⊥
  idle-correct e =
      let f : ◌≡◌ {A = ℕ} 97 120 = ap (λ (z : Memory). get_or z.text 4 0) (sym e ∙ s.memory) ∙ game-corrected.1 in
      omega (arith, f)
