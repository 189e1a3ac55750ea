-- When the exported functions of the later requests accept, and when they give each number: in the scope's order, each where none before it applies.
use Rattle.std.specs.Prelude.{◌+◌, ◌≤◌, ◌<◌, ◌∷◌, ◌≡◌}
use Rattle.lists.specs.Prelude.{ℕ, Bool, true, false, List, [], length}
use Rattle.text_chars.specs.Table.{WellFormed, BadFrom}
use Rattle.lexer.specs.Closed.{closed}
use Rattle.tables.specs.Memory.{Memory}
use Rattle.tables.specs.Numbers.{text_limit}
use Rattle.tables.specs.Record.{Tree}
use Rattle.tables.specs.Rows.{tables, counts_of}
use Rattle.tables.specs.declared.Counts.{Counts}
use Rattle.tables.specs.declared.Reason.{Reason}
use Rattle.parser.specs.Game.{GM}
use Rattle.parser.specs.Read.{accepted, read}
use Rattle.fit.specs.Fit.{Fit}
use Rattle.edit_laws.specs.Edits.{owner}
use Rattle.why_blame.specs.Numbered.{fact_reason}
use Rattle.why_blame.specs.declared.Fact.{Fact}
use Rattle.c_why.specs.WhyInC.{shown_fact}
use Rattle.c_why.specs.declared.SgfWhy.{SgfWhy}
use Rattle.c_answers.specs.declared.SgfWriting.{SgfWriting}
use Rattle.c_tally.specs.declared.SgfLine.{SgfLine}
use Rattle.c_tally.specs.declared.SgfTally.{SgfTally}
use Rattle.why_says.specs.Behind.{LooseAt}
use Rattle.why_says.specs.Says.{FactSays}
use Rattle.feed.specs.Feed.{Entry, listing}
use Rattle.feed_check.specs.Check.{bytes_at}
use Rattle.feed_laws.specs.Corrected.{corrected_text}

-- a number is given for its reason, and where there is a reason its number is given
pub record Only (Because : (number : ℕ) → Type 0) (number : ℕ) : Type 0 where
  pub only : Because number
  pub always : (n : ℕ) → Because n → number ≡ n

-- the same of a number and a place
pub record OnlyAt (Because : (number place : ℕ) → Type 0) (number place : ℕ) : Type 0 where
  pub only : Because number place
  pub always : (n p : ℕ) → Because n p → (number ≡ n) × (place ≡ p)

-- ---- readings without tables

-- the text reads as a record with these counts
pub record CountsAs (len : Bool) (t : List ℕ) (c : Counts) : Type 0 where
  pub trees : List Tree
  pub is : read len t ≡ accepted trees
  pub counts : c ≡ counts_of (tables trees)

-- an explanation accepts: so, and behind the slices the first token stands at the place given, else that is the text's length
pub record EndsAt (len : Bool) (t : List ℕ) (r : SgfWhy) : Type 0 where
  pub counted : CountsAs len t r.counts
  pub loose : LooseAt t r.place

-- or refuses: a fact with this reason holds of the text at the place given, nothing earlier applies, and it is told with the number in it
pub record BlamedFor (Clears : List ℕ → Fact → Type 0) (t : List ℕ) (r : SgfWhy) (x : Reason) : Type 0 where
  pub ground : Fact
  pub reason : fact_reason ground ≡ x
  pub says : FactSays t ground r.place
  pub clear : Clears t ground
  pub told : r.fact ≡ (shown_fact ground).fact
  pub detail : r.detail ≡ (shown_fact ground).detail

-- ---- corrections over the air: the number, and the place, which counts in the feed

-- one correction: 16, 17, 2, 18; 0 where it passes
pub data CorrectionBecause (m : Memory) (w : List ℕ) (x : Entry) : (number place : ℕ) → Type 0 where
  beyond : m.counts.values ≤ x.value → CorrectionBecause m w x 16 0
  fixed : x.value < m.counts.values → owner m x.value ≡ GM → CorrectionBecause m w x 17 0
  garbled : x.value < m.counts.values → (owner m x.value ≡ GM → ⊥) → (p : ℕ) → BadFrom (bytes_at w x) p → CorrectionBecause m w x 2 (x.from + p)
  open-ended : x.value < m.counts.values → (owner m x.value ≡ GM → ⊥) → WellFormed (bytes_at w x) → closed (bytes_at w x) ≡ false
      → CorrectionBecause m w x 18 0
  passes : x.value < m.counts.values → (owner m x.value ≡ GM → ⊥) → WellFormed (bytes_at w x) → closed (bytes_at w x) ≡ true
      → CorrectionBecause m w x 0 0

-- corrections: the first that is refused, behind those that pass; 0 where all pass
pub data CorrectionsBecause (m : Memory) (w : List ℕ) : List Entry → (number place : ℕ) → Type 0 where
  all_pass : CorrectionsBecause m w [] 0 0
  first : {x : Entry} {xs : List Entry} {n p : ℕ} → 0 < n → CorrectionBecause m w x n p → CorrectionsBecause m w (x ∷ xs) n p
  later : {x : Entry} {xs : List Entry} {n p : ℕ} → CorrectionBecause m w x 0 0 → CorrectionsBecause m w xs n p → CorrectionsBecause m w (x ∷ xs) n p

-- a feed over a record: 19; 24; then its corrections
pub data FeedBecause (m : Memory) (w : List ℕ) : (number place : ℕ) → Type 0 where
  misfit : Fit m ≡ false → FeedBecause m w 19 0
  malformed : Fit m ≡ true → (listing w).whole ≡ false → FeedBecause m w 24 0
  judged : {n p : ℕ} → Fit m ≡ true → (listing w).whole ≡ true → CorrectionsBecause m w (listing w).entries n p → FeedBecause m w n p

-- value k looked up: refused as the feed is; then 16 for k itself
pub data LookBecause (m : Memory) (w : List ℕ) (k : ℕ) : (number place : ℕ) → Type 0 where
  refused : {n p : ℕ} → 0 < n → FeedBecause m w n p → LookBecause m w k n p
  beyond : FeedBecause m w 0 0 → m.counts.values ≤ k → LookBecause m w k 16 0
  found : FeedBecause m w 0 0 → k < m.counts.values → LookBecause m w k 0 0

-- a feed applied: refused so; then 1 and 14 on the final length
pub data ApplyBecause (m : Memory) (w : List ℕ) : (number place : ℕ) → Type 0 where
  refused : {n p : ℕ} → 0 < n → FeedBecause m w n p → ApplyBecause m w n p
  long : FeedBecause m w 0 0 → text_limit < length (corrected_text m w) → ApplyBecause m w 1 0
  full : FeedBecause m w 0 0 → length (corrected_text m w) ≤ text_limit → length m.text < length (corrected_text m w) → ApplyBecause m w 14 0
  done : FeedBecause m w 0 0 → length (corrected_text m w) ≤ text_limit → length (corrected_text m w) ≤ length m.text → ApplyBecause m w 0 0

-- bytes of a feed put into the output: 24 where four groups do not hold their numbers; 14 where there is no room
pub data PutBecause (held : Bool) (bytes out : List ℕ) : (number : ℕ) → Type 0 where
  large : held ≡ false → PutBecause held bytes out 24
  full : held ≡ true → length out < length bytes → PutBecause held bytes out 14
  put : held ≡ true → length bytes ≤ length out → PutBecause held bytes out 0

-- ---- a line

-- what a line has of a writing: the number and the length
abbrev pub writing_of : SgfLine → SgfWriting
writing_of r = record { number = r.number; reserved = r.reserved; length = r.length }

-- and of a tally
abbrev pub tally_in : SgfLine → SgfTally
tally_in r = record { number = r.number; reserved = r.reserved; trees = r.trees; nodes = r.nodes; black = r.black; white = r.white; passes = r.passes }
