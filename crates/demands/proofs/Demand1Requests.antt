-- Demand 1 of the exported functions of the later requests, each over its contract: the numbers that it can give, each exactly when, and what a refusal leaves. Where nothing is said of memory,
-- all of it is lent for reading only, or none is. Blocks: Demand1Blocks; corrections: Demand1Feeds. sgf_version, sgf_next_value, sgf_entry and sgf_tag give no number and refuse nothing. Assumes nothing.
use Rattle.lists.proofs.Prelude.{ℕ, ◌<◌, Bool, true, false, List, ◌↔◌, ◌≡◌, ap, ◌∙◌, length, take}
use Rattle.lists.specs.Same.{same}
use Rattle.values.specs.Read.{read_identifier}
use Rattle.tables.specs.Memory.{Memory}
use Rattle.tables.specs.declared.Reason.TheVariants.{NotFitting}
use Rattle.go_size.specs.declared.RootSize.{RootSize}
use Rattle.fit.specs.Fit.{Fit}
use Rattle.parser.specs.Read.{refused, read, read_strict, read_lenient}
use Rattle.reader.specs.Lent.{Lent, rows_counted}
use Rattle.c_answers.specs.Structs.{reading_in_c}
use Rattle.c_answers.specs.declared.SgfReading.{SgfReading}
use Rattle.c_answers.specs.declared.SgfWriting.{SgfWriting}
use Rattle.sgf.specs.ChangeInC.{WriteInC}
use Rattle.sgf.specs.NamedInC.{named_in_c}
use Rattle.sgf.specs.ReadInC.{ReadInC}
use Rattle.why.specs.Why.{explained}
use Rattle.c_why.specs.WhyInC.{why_in_c}
use Rattle.c_why.specs.declared.SgfWhy.{SgfWhy}
use Rattle.why_says.specs.Clear.{Clear, LenientClear}
use Rattle.why_says.proofs.Laws as why
use Rattle.season_tag.specs.Tag.{tag_of}
use Rattle.c_tally.specs.TallyInC.{tally_in_c, tally_or_number}
use Rattle.c_tally.specs.LineInC.{no_line_in_c, LineInC}
use Rattle.c_tally.specs.declared.SgfLine.{SgfLine}
use Rattle.c_tally.specs.declared.SgfTally.{SgfTally}
use Rattle.ff4_values.specs.declared.Simple.{Simple}
use Rattle.ask_simple.specs.AskSimple.{simple_answer}
use Rattle.c_simple.specs.InC.{simple_in_c, simple_answer_in_c}
use Rattle.c_simple.specs.declared.SgfSimple.{SgfSimple}
use Rattle.c_size.specs.SizeInC.{size_in_c}
use Rattle.c_size.specs.declared.SgfSize.{SgfSize}
use Rattle.demands.specs.Cells.{counts_read}
use Rattle.demands.specs.Lists.{OneOf, count_numbers, lenient_count_numbers, fits_numbers, access_numbers, writer_numbers}
use Rattle.demands.specs.Requests.{CountsAs, EndsAt, BlamedFor, writing_of, tally_in}
use Rattle.demands.specs.Settings.{SameAnswer}
use Rattle.demands.specs.When.{Exactly, Writes, Unwritten, Answered, Unanswered}
use Rattle.demands.proofs.AskedMore as asked
use Rattle.demands.proofs.Counts as count
use Rattle.demands.proofs.Explained as told
use Rattle.demands.proofs.Lined as line
use Rattle.std.specs.Prelude.{None}
-- sgf_board: 19, 21, 22, 23, and all else 0 where it is refused; sgf_board_next: 23, or the number of the board given
pub use Rattle.board_laws.proofs.Exactly.{board-exactly, board-zeros, next-exactly}
-- sgf_entry: a section exactly where FF[4] lists the read identifier, whatever its length
pub use Rattle.ff4_index.proofs.Index.{listed-exactly}

module _ (t : List ℕ) (q : SgfReading) (s : q ≡ reading_in_c 0 (rows_counted (read_strict t))) where
  -- sgf_count_strict: 0 exactly where the text reads as a record, with its counts; each number, with its place, exactly where the definition refuses so
  pub count-strict-exactly : Exactly q.number (CountsAs false t (counts_read q)) (λ x. read_strict t ≡ refused x q.place)
  count-strict-exactly = count.count-exactly false t q s

  -- 0 to 12: those of a strict reading but 14
  pub count-strict-numbers : OneOf count_numbers q.number
  count-strict-numbers = count.count-strict-listed t q s

module _ (t : List ℕ) (q : SgfReading) (s : q ≡ reading_in_c 0 (rows_counted (read_lenient t))) where
  -- sgf_count_lenient: the same of the lenient reading
  pub count-lenient-exactly : Exactly q.number (CountsAs true t (counts_read q)) (λ x. read_lenient t ≡ refused x q.place)
  count-lenient-exactly = count.count-exactly true t q s

  -- 0, 1, 2, 9
  pub count-lenient-numbers : OneOf lenient_count_numbers q.number
  count-lenient-numbers = count.count-lenient-listed t q s

module _ (len : Bool) (t : List ℕ) (q : SgfReading) (s : q ≡ reading_in_c 0 (rows_counted (read len t))) {i : ℕ} (before after : Lent) (r : SgfReading) (u : ReadInC i (read len t) before after r) where
  -- beside sgf_read_strict and sgf_read_lenient, into any tables: the same number, place and counts where that is not 14
  pub count-as-read : (r.number ≡ 14 → ⊥) → SameAnswer q r
  count-as-read = count.count-as-read len t q s before after r u

  -- and 0 where it is
  pub count-for-room : r.number ≡ 14 → q.number ≡ 0
  count-for-room = count.count-for-room len t q s before after r u

module _ (t : List ℕ) (r : SgfWhy) (s : r ≡ why_in_c (explained false t)) where
  -- sgf_why_strict: 0 exactly where the text reads as a record, with its counts and the first token in no slice; each number exactly where a fact with it holds at the place given and nothing earlier applies
  pub why-strict-exactly : Exactly r.number (EndsAt false t r) (BlamedFor Clear t r)
  why-strict-exactly = told.why-exact false t r s Clear (why.why-exactly t)

  -- 0 to 12
  pub why-strict-numbers : OneOf count_numbers r.number
  why-strict-numbers = told.why-listed false t r s count_numbers (count.count-strict-listed t)

module _ (t : List ℕ) (r : SgfWhy) (s : r ≡ why_in_c (explained true t)) where
  -- sgf_why_lenient: the same of the lenient reading, whose facts are those of 1, 2 and 9
  pub why-lenient-exactly : Exactly r.number (EndsAt true t r) (BlamedFor LenientClear t r)
  why-lenient-exactly = told.why-exact true t r s LenientClear (why.why-exactly-lenient t)

  -- 0, 1, 2, 9
  pub why-lenient-numbers : OneOf lenient_count_numbers r.number
  why-lenient-numbers = told.why-listed true t r s lenient_count_numbers (count.count-lenient-listed t)

-- both: number and counts are those of sgf_count_strict and sgf_count_lenient
pub why-as-counted : (len : Bool) (t : List ℕ) (r : SgfWhy) → r ≡ why_in_c (explained len t) → (q : SgfReading) → q ≡ reading_in_c 0 (rows_counted (read len t)) → (r.number ≡ q.number) × (r.counts ≡ counts_read q)
why-as-counted = told.why-counted

module _ (m : Memory) (r : SgfTally) (s : r ≡ tally_or_number m) where
  -- sgf_tally: 19 exactly where the tables do not fit, else 0
  pub tally-exactly : Exactly r.number (Fit m ≡ true) (λ x. (x ≡ NotFitting) × (Fit m ≡ false))
  tally-exactly = asked.tally-exactly m r s

  pub tally-numbers : OneOf fits_numbers r.number
  tally-numbers = asked.tally-listed m r s

  -- refused: all else is 0
  pub tally-zeros : 0 < r.number → r ≡ tally_in_c None
  tally-zeros = asked.tally-zeros m r s

module _ (m : Memory) (out out' : List ℕ) (r : SgfLine) (s : LineInC m out out' r) where
  -- sgf_line: 19, 15, 14, exactly where sgf_write gives them
  pub line-exactly : Exactly r.number (Writes m (length out)) (Unwritten m (length out))
  line-exactly = line.line-exactly m out out' r s

  pub line-numbers : OneOf writer_numbers r.number
  line-numbers = line.line-listed m out out' r s

  -- any other number than 0 leaves every byte of the output
  pub line_stays : 0 < r.number → out' ≡ out
  line_stays = line.line_stays m out out' r s

  -- refused: all else is 0
  pub line-zeros : 0 < r.number → r ≡ no_line_in_c r.number
  line-zeros = line.line-zeros m out out' r s

  -- beside sgf_write into the same bytes: its number, its length and every byte of the output
  pub line-as-written : (q : SgfWriting) (v : List ℕ) → WriteInC m out v q → (q ≡ writing_of r) × (v ≡ out')
  line-as-written = line.line-written m out out' r s

  -- accepted, beside sgf_tally: all of it; and the tag is what sgf_tag gives of the bytes written
  pub line-as-tallied : r.number ≡ 0 → (t : SgfTally) → t ≡ tally_or_number m → t ≡ tally_in r
  line-as-tallied = line.line-tallied m out out' r s

  pub line-as-tagged : r.number ≡ 0 → r.tag ≡ tag_of (take r.length out')
  line-as-tagged = line.line-tagged m out out' r s

module _ (m : Memory) (p : ℕ) (r : SgfSimple) (s : r ≡ simple_answer_in_c (simple_answer m p)) where
  -- sgf_simple_value: 19, 16
  pub simple-exactly : Exactly r.number (Answered m m.counts.properties p) (Unanswered m m.counts.properties p)
  simple-exactly = asked.simple-exactly m p r s

  pub simple-numbers : OneOf access_numbers r.number
  simple-numbers = asked.simple-listed m p r s

-- sgf_simple_property: 0
pub simple-property-number : (a : Simple) (r : SgfSimple) → r ≡ simple_in_c a → r.number ≡ 0
simple-property-number a r e = ap (λ (z : SgfSimple). z.number) e ∙ asked.simple-number a

-- sgf_tree_size: 0
pub tree-size-number : (a : RootSize) (rule : ℕ) (r : SgfSize) → r ≡ size_in_c a rule → r.number ≡ 0
tree-size-number a rule r e = ap (λ (z : SgfSize). z.number) e ∙ asked.tree-size-number a rule

-- sgf_is_named: 1 exactly where the read identifier is the name, 0 exactly where it is not
pub named-exactly : (i w : List ℕ) (n : ℕ) → n ≡ named_in_c (same (read_identifier i) w) → ((n ≡ 1) ↔ (read_identifier i ≡ w)) × ((n ≡ 0) ↔ (read_identifier i ≡ w → ⊥))
named-exactly = asked.named-exactly
