-- Demand 1, total: any bytes, settings and lent tables get an answer; each refusal is given exactly when the scope says; a refusal changes no lent byte or row. Assumes nothing.
-- That every input has an answer, and one only, is each contract itself, which has no premise (demands/proofs/UniqueExported). Said here of the exported functions, by their numbers;
-- what a refusal leaves is said of the functions below them as well. When the reader's definition refuses, and with which number, is said of `read`. The functions of the later requests: Demand1Requests, Demand1Feeds, Demand1Salvage, Demand1Blocks.
use Rattle.lists.proofs.Prelude.{ℕ, ◌≤◌, ◌<◌, true, false, List, ◌≡◌, ap, length, Bool}
use Rattle.text_chars.specs.Table.{WellFormed, BadFrom}
use Rattle.text_utf8.specs.Trim.{trimmed}
use Rattle.lexer.specs.declared.Step.{Step}
use Rattle.c_tokens.specs.Tokens.{TrimIs, TokenIs}
use Rattle.go.specs.declared.value.GoValue.{GoValue}
use Rattle.value_display.specs.declared.Kind.{Kind}
use Rattle.tables.specs.Memory.{Memory}
use Rattle.tables.specs.Numbers.{number_of}
use Rattle.tables.specs.declared.Reason.{Reason}
use Rattle.tables.specs.declared.Reason.TheVariants.{NotUtf8, NotFitting}
use Rattle.fit.specs.Fit.{Fit}
use Rattle.ask_value.specs.Access.{accessed}
use Rattle.parser.specs.Read.{Answer, read, read_strict}
use Rattle.reader.specs.Lent.{Lent, ReadIs}
use Rattle.ask.specs.Ask.{DisplayIs, go_answer}
use Rattle.serialize.specs.Form.{WriteIs}
use Rattle.edit_answer.specs.Answer.{outcome_of}
use Rattle.edit.specs.Lent.{EditIs}
use Rattle.c_answers.specs.Structs.{span_in_c, go_in_c, no_counts}
use Rattle.c_answers.specs.declared.SgfDisplay.{SgfDisplay}
use Rattle.c_answers.specs.declared.SgfEdit.{SgfEdit}
use Rattle.c_answers.specs.declared.SgfGoValue.{SgfGoValue}
use Rattle.c_answers.specs.declared.SgfReading.{SgfReading}
use Rattle.c_answers.specs.declared.SgfSpan.{SgfSpan}
use Rattle.c_answers.specs.declared.SgfWriting.{SgfWriting}
use Rattle.sgf.specs.AskInC.{fits_in_c, DisplayInC, go_answer_in_c}
use Rattle.sgf.specs.ChangeInC.{WriteInC, EditInC}
use Rattle.sgf.specs.ReadInC.{ignored_of, ReadInC}
use Rattle.edit_laws.specs.Edits.{Allowed, Forbidden}
use Rattle.demands.specs.Calls.{counts_in}
use Rattle.demands.specs.Cells.{counts_read}
use Rattle.demands.specs.Lists.{OneOf, strict_numbers, writer_numbers, edit_numbers, access_numbers, display_numbers, fits_numbers, token_numbers}
use Rattle.demands.specs.Settings.{Ignores, SameAnswer}
use Rattle.demands.specs.When.{Exactly, ReadsInto, Unread, Writes, Unwritten, Answered, Unanswered, Displays, Undisplayed}
use Rattle.demands.proofs.Asked as asked
use Rattle.demands.proofs.Edited as edit
use Rattle.demands.proofs.Numbers as numbers
use Rattle.demands.proofs.Readings as reading
use Rattle.demands.proofs.Refusals.{reading-leaves, edit-leaves, display-leaves}
use Rattle.demands.proofs.Texts as texts
use Rattle.demands.proofs.Written as writing
use Rattle.std.specs.Prelude.{Err}
use Rattle.tables.specs.Refusals.{refusal}
-- when the definition refuses, number by number, in the scope's words: strict 1 to 12, lenient 1, 2, 9; no reason has the number 13
pub use Rattle.reader_exactly.proofs.Exactly.{strict-1, strict-2, strict-3, strict-4, strict-5, strict-6}
pub use Rattle.reader_exactly.proofs.Exactly.{strict-7, strict-8, strict-9, strict-10, strict-11, strict-12}
pub use Rattle.reader_exactly.proofs.Exactly.{lenient-1, lenient-2, lenient-9}
pub use Rattle.reader.proofs.Theorems.{no-thirteen}
-- when it accepts: strict, and lenient; no reason above 12, so never 14 itself: 14 is too few rows alone
pub use Rattle.demands.proofs.Accepts.{strict-0, lenient-0, upto-12, never-room}
-- sgf_read_lenient
pub use Rattle.demands.proofs.Demand1Lenient.{lenient-exactly, lenient-stays, lenient-zeros, lenient-ignored, lenient-numbers, lenient-case}
-- sgf_write_length: what it says about sgf_write; sgf_size
pub use Rattle.demands.proofs.Demand1Trees.{length-exactly, length-suffices, length-needed, length-refused, size-exactly, size-numbers, size-given}
-- sgf_trim, sgf_token, sgf_display_value
pub use Rattle.demands.proofs.Demand1Texts.{trim-kept, trim-keeps, trim-numbers, token-exactly, raw-exactly, raw-stays, raw-numbers, escape-exactly, escape-stays, escape-numbers}

-- no reason has the number of acceptance
pub number-some : (r : Reason) → 0 < number_of r
number-some = numbers.number-some

-- no two reasons share a number
pub number-once : (r s : Reason) → number_of r ≡ number_of s → r ≡ s
number-once = numbers.number-once

-- nothing that answers by `Exactly`, as each exported function below does, gives a number above 19
pub upto-19 : {n : ℕ} {A : Type 0} {B : Reason → Type 0} → Exactly n A B → n ≤ 19
upto-19 = numbers.upto-19

-- nor 13
pub never-13 : {n : ℕ} {A : Type 0} {B : Reason → Type 0} → Exactly n A B → n ≡ 13 → ⊥
never-13 = numbers.never-13

module _ {i : ℕ} (t : List ℕ) (before after : Lent) (r : SgfReading) (s : ReadInC i (read_strict t) before after r) where
  -- sgf_read_strict: 0 exactly where the text reads as a record whose rows are lent; each number, with its place, exactly where the definition refuses so, or, 14, rows are too few
  pub strict-exactly : Exactly r.number (ReadsInto false t before) (λ x. (p : ℕ) × Unread false t before x p × (r.place ≡ p))
  strict-exactly = reading.reading-exactly false t before after r s

  -- any other number than 0 leaves every number of the four tables
  pub strict-stays : 0 < r.number → after ≡ before
  strict-stays = reading.reading-stays false t before after r s

  -- and gives no counts
  pub strict-zeros : 0 < r.number → counts_read r ≡ no_counts
  strict-zeros = reading.reading-zeros false t before after r s

  -- 0 to 12 and 14 are its numbers
  pub strict-numbers : OneOf strict_numbers r.number
  strict-numbers = reading.strict-listed false t before after r s

-- the settings that were ignored are said, bit by bit, on refusals too
pub strict-ignored : (settings : ℕ) (t : List ℕ) (before after : Lent) (r : SgfReading)
    → ReadInC (ignored_of settings) (read_strict t) before after r → Ignores settings r.ignored
strict-ignored settings t = reading.settings-ignored settings (read_strict t)

-- and no setting changes anything else, of sgf_read_strict and sgf_read_lenient: the number, the place, the counts and every number of the tables are the same
pub settings-change-nothing : (settings others : ℕ) (a : Answer) (before x y : Lent) (r q : SgfReading)
    → ReadInC (ignored_of settings) a before x r → ReadInC (ignored_of others) a before y q → SameAnswer r q × (x ≡ y)
settings-change-nothing settings others = reading.settings-same (ignored_of settings) (ignored_of others)

module _ (m : Memory) (out out' : List ℕ) (r : SgfWriting) (s : WriteInC m out out' r) where
  -- sgf_write: 19, 15, 14
  pub writing-exactly : Exactly r.number (Writes m (length out)) (Unwritten m (length out))
  writing-exactly = writing.writing-exactly m out out' r s

  -- any other number than 0 leaves every byte of the output
  pub writing-stays : 0 < r.number → out' ≡ out
  writing-stays = writing.writing-stays m out out' r s

  pub writing-numbers : OneOf writer_numbers r.number
  writing-numbers = writing.writing-listed m out out' r s

module _ (m m' : Memory) (k : ℕ) (new : List ℕ) (r : SgfEdit) (s : EditInC m m' k new r) where
  -- sgf_edit: 19, 16, 17, 2, 18, 1, 14, with the place
  pub edit-exactly : Exactly r.number (Allowed m k new) (λ x. (p : ℕ) × Forbidden m k new x p × (r.place ≡ p))
  edit-exactly = edit.edit-exactly m m' k new r s

  -- any other number than 0 leaves every byte of the buffer and every number of the tables
  pub edit-stays : 0 < r.number → m' ≡ m
  edit-stays = edit.edit-stays m m' k new r s

  -- and gives no length and no counts
  pub edit-zeros : 0 < r.number → (r.used ≡ 0) × (counts_in r ≡ no_counts)
  edit-zeros = edit.edit-zeros m m' k new r s

  pub edit-numbers : OneOf edit_numbers r.number
  edit-numbers = edit.edit-listed m m' k new r s

module _ (m : Memory) (k : ℕ) (r : SgfSpan) (s : r ≡ span_in_c (accessed m k)) where
  -- sgf_value: 19, 16; lent memory is read only
  pub value-exactly : Exactly r.number (Answered m m.counts.values k) (Unanswered m m.counts.values k)
  value-exactly = asked.value-exactly m k r s

  pub value-numbers : OneOf access_numbers r.number
  value-numbers = asked.value-listed m k r s

module _ (m : Memory) (k : ℕ) (kind : Kind) (out out' : List ℕ) (r : SgfDisplay) (s : DisplayInC m k kind out out' r) where
  -- sgf_display: 19, 16, 14
  pub display-exactly : Exactly r.number (Displays m k kind (length out)) (Undisplayed m k kind (length out))
  display-exactly = asked.display-exactly m k kind out out' r s

  -- any other number than 0 leaves every byte of the output
  pub display-stays : 0 < r.number → out' ≡ out
  display-stays = asked.display-stays m k kind out out' r s

  pub display-numbers : OneOf display_numbers r.number
  display-numbers = asked.display-listed m k kind out out' r s

module _ (m : Memory) (p : ℕ) (r : SgfGoValue) (s : r ≡ go_answer_in_c (go_answer m p)) where
  -- sgf_go_value: 19, 16; lent memory is read only
  pub go-exactly : Exactly r.number (Answered m m.counts.properties p) (Unanswered m m.counts.properties p)
  go-exactly = asked.go-exactly m p r s

  pub go-numbers : OneOf access_numbers r.number
  go-numbers = asked.go-listed m p r s

module _ (m : Memory) (n : ℕ) (s : n ≡ fits_in_c (Fit m)) where
  -- sgf_fits: 19; lent memory is read only
  pub fits-exactly : Exactly n (Fit m ≡ true) (λ x. (x ≡ NotFitting) × (Fit m ≡ false))
  fits-exactly = asked.fits-exactly m n s

  pub fits-numbers : OneOf fits_numbers n
  fits-numbers = asked.fits-listed m n s

-- sgf_trim: 0 exactly where the text is well formed by table 3-7, else 2 with the start of the first bad sequence
pub trim-exactly : (t : List ℕ) (n p f l : ℕ) → TrimIs (trimmed t) n p f l → Exactly n (WellFormed t) (λ x. (x ≡ NotUtf8) × BadFrom t p)
trim-exactly = texts.trim-exactly

-- sgf_token: 0, 3, 4, 5
pub token-numbers : (at k n f o to : ℕ) (x : Step) → TokenIs at x k n f o to → OneOf token_numbers n
token-numbers = texts.token-listed

-- sgf_go_by_rule: 0
pub property-numbers : (g : GoValue) (r : SgfGoValue) → r ≡ go_in_c 0 g → r.number ≡ 0
property-numbers g r e = ap (λ (z : SgfGoValue). z.number) e

-- ---- what a refusal leaves, of the functions below these

-- a refused reading leaves every number of the four tables
pub reading-refused : (len : Bool) (t : List ℕ) (before after : Lent) (r : Reason) (p : ℕ) → ReadIs (read len t) before after (Err (refusal r p))
    → after ≡ before
reading-refused len t before after r p x = reading-leaves (read len t) before after r p x.answer x.tables

-- a refused edit leaves every byte of the buffer and every number of the tables
pub edit-refused : (m m' : Memory) (k : ℕ) (new : List ℕ) (r : Reason) (p : ℕ) → EditIs m m' k new (Err (refusal r p)) → m' ≡ m
edit-refused m m' k new r p x = edit-leaves (outcome_of m k new) m m' r p x.answer x.memory

module _ (m : Memory) (out out' : List ℕ) (r : Reason) where
  -- a refused writing leaves every byte of the output
  pub writing-refused : WriteIs m out out' (Err r) → out' ≡ out
  writing-refused x = x.bytes

  -- a refused display too
  pub display-refused : (k : ℕ) (kind : Kind) → DisplayIs m k kind out out' (Err r) → out' ≡ out
  display-refused k kind x = display-leaves m.text (accessed m k) kind out out' r x.is x.bytes
