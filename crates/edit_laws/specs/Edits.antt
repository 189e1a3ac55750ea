-- The value edit in the scope's words: which bytes may stand for a value, why others may not, and what an edit changes.
use Rattle.std.specs.Prelude.{◌+◌, ◌-◌, ◌*◌, ◌≤◌, ◌<◌, ◌⊎◌, ◌≡◌}
use Rattle.lists.specs.Prelude.{ℕ, true, false, List, length, take, get_or, slice}
use Rattle.text_chars.specs.Table.{WellFormed, BadFrom}
use Rattle.lexer.specs.Closed.{closed}
use Rattle.tables.specs.Columns.{property_stride, value_stride, name_from_at, name_to_at, first_val_at, val_count_at, val_from_at, val_to_at}
use Rattle.tables.specs.Memory.{Memory}
use Rattle.tables.specs.Numbers.{text_limit}
use Rattle.tables.specs.declared.Reason.{Reason}
use Rattle.tables.specs.declared.Reason.TheVariants.{TextTooLong, NotUtf8, NoRoom, NoSuchNumber, GameTypeFixed, NotClosed, NotFitting}
use Rattle.fit.specs.Fit.{Fit}
use Rattle.fit.specs.Record.{rows_in, text_in}
use Rattle.parser.specs.Game.{GM}
use Rattle.edit_answer.specs.Edit.{owner_name}

-- the raw identifier of the property that has value k
abbrev pub owner : Memory → ℕ → List ℕ
owner m k = owner_name (text_in m) (rows_in m).props k

-- how long the text is once `n` bytes stand for value k
abbrev pub new_length : Memory → (k n : ℕ) → ℕ
new_length m k n = val_from_at m.values k + n + (m.used - val_to_at m.values k)

-- nothing forbids that the new bytes stand for value k
pub record Allowed (m : Memory) (k : ℕ) (new : List ℕ) : Type 0 where
  pub fits : Fit m ≡ true
  pub below : k < m.counts.values
  pub free : owner m k ≡ GM → ⊥
  pub valid : WellFormed new
  pub shut : closed new ≡ true
  pub short : new_length m k (length new) ≤ text_limit
  pub room : new_length m k (length new) ≤ length m.text

-- what forbids it, and the place: each reason where none before it applies, in the scope's order 19, 16, 17, 2, 18, 1, 14
pub data Forbidden (m : Memory) (k : ℕ) (new : List ℕ) : Reason → ℕ → Type 0 where
  misfit : Fit m ≡ false → Forbidden m k new NotFitting 0
  beyond : Fit m ≡ true → m.counts.values ≤ k → Forbidden m k new NoSuchNumber 0
  fixed : Fit m ≡ true → k < m.counts.values → owner m k ≡ GM → Forbidden m k new GameTypeFixed 0
  garbled : Fit m ≡ true → k < m.counts.values → (owner m k ≡ GM → ⊥) → (p : ℕ) → BadFrom new p → Forbidden m k new NotUtf8 p
  open-ended : Fit m ≡ true → k < m.counts.values → (owner m k ≡ GM → ⊥) → WellFormed new → closed new ≡ false → Forbidden m k new NotClosed 0
  long : Fit m ≡ true → k < m.counts.values → (owner m k ≡ GM → ⊥) → WellFormed new → closed new ≡ true
      → text_limit < new_length m k (length new) → Forbidden m k new TextTooLong 0
  full : Fit m ≡ true → k < m.counts.values → (owner m k ≡ GM → ⊥) → WellFormed new → closed new ≡ true
      → new_length m k (length new) ≤ text_limit → length m.text < new_length m k (length new) → Forbidden m k new NoRoom 0

-- the bytes of a buffer whose first `used` are a text, once new ones stand for those from q to e and `used'` are in use:
-- before the value they stay, behind it they follow, freed ones are 0, all beyond stay
pub record BytesEdited (before : List ℕ) (used q e : ℕ) (new after : List ℕ) (used' : ℕ) : Type 0 where
  pub ahead : take q after ≡ take q before
  pub here : slice q (q + length new) after ≡ new
  pub behind : slice (q + length new) used' after ≡ slice e used before
  pub freed : (i : ℕ) → used' ≤ i → i < used → get_or after i 0 ≡ 0
  pub beyond : (i : ℕ) → used' ≤ i → used ≤ i → get_or after i 0 ≡ get_or before i 0
  pub room : length after ≡ length before

-- a place p of another span: it lies before the value at q..e and stays, or behind it and moves by the change in length
abbrev pub Moves : (q e n p p' : ℕ) → Type 0
Moves q e n p p' = ((p < q) × (p' ≡ p)) ⊎ ((e < p) × (p' ≡ p - e + (q + n)))

-- the tables once `n` bytes stand for value k: its own start stays and its end is behind the new bytes, all other places move so;
-- trees, nodes and counts stay, and so do the numbers of values and what lies behind the rows
pub record PlacesMoved (m : Memory) (k n : ℕ) (m' : Memory) : Type 0 where
  pub own-start : val_from_at m'.values k ≡ val_from_at m.values k
  pub own-end : val_to_at m'.values k ≡ val_from_at m.values k + n
  pub starts : (j : ℕ) → j < m.counts.values → (j ≡ k → ⊥)
      → Moves (val_from_at m.values k) (val_to_at m.values k) n (val_from_at m.values j) (val_from_at m'.values j)
  pub ends : (j : ℕ) → j < m.counts.values → (j ≡ k → ⊥)
      → Moves (val_from_at m.values k) (val_to_at m.values k) n (val_to_at m.values j) (val_to_at m'.values j)
  pub name-starts : (i : ℕ) → i < m.counts.properties
      → Moves (val_from_at m.values k) (val_to_at m.values k) n (name_from_at m.properties i) (name_from_at m'.properties i)
  pub name-ends : (i : ℕ) → i < m.counts.properties
      → Moves (val_from_at m.values k) (val_to_at m.values k) n (name_to_at m.properties i) (name_to_at m'.properties i)
  pub first-values : (i : ℕ) → i < m.counts.properties → first_val_at m'.properties i ≡ first_val_at m.properties i
  pub value-counts : (i : ℕ) → i < m.counts.properties → val_count_at m'.properties i ≡ val_count_at m.properties i
  pub properties-beyond : (i : ℕ) → m.counts.properties * property_stride ≤ i → get_or m'.properties i 0 ≡ get_or m.properties i 0
  pub values-beyond : (i : ℕ) → m.counts.values * value_stride ≤ i → get_or m'.values i 0 ≡ get_or m.values i 0
  pub properties-lent : length m'.properties ≡ length m.properties
  pub values-lent : length m'.values ≡ length m.values
  pub trees : m'.trees ≡ m.trees
  pub nodes : m'.nodes ≡ m.nodes
  pub counts : m'.counts ≡ m.counts

-- an accepted edit: all of lent memory after it. The used length that the caller goes on with is `new_length`
pub record Edits (m : Memory) (k : ℕ) (new : List ℕ) (m' : Memory) : Type 0 where
  pub bytes : BytesEdited m.text m.used (val_from_at m.values k) (val_to_at m.values k) new m'.text (new_length m k (length new))
  pub places : PlacesMoved m k (length new) m'
