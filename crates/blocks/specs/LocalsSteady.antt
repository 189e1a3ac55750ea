-- ASCII bytes taken together, where the token rules and the rows stand as after the last character that is no white space.
use Rattle.std.specs.Prelude.{◌+◌, ◌-◌, ◌≤◌, ◌<◌, ◌≡◌, Option, Some, None}
use Rattle.lists.specs.Prelude.{ℕ, true, List, length, drop, get_or}
use Rattle.lexer_scan.specs.Scan.{space}
use Rattle.blocks_step.specs.declared.Utf8.TheVariants.{Whole}
use Rattle.blocks_step.specs.declared.Phase.{Phase}
use Rattle.blocks_step.specs.declared.Phase.TheVariants.{Value, After}
use Rattle.blocks_step.specs.declared.Tokens.TheVariants.{Silent}
use Rattle.blocks_step.specs.declared.Moved.{Moved}
use Rattle.blocks_step.specs.Lean.{moves}
use Rattle.blocks.specs.declared.BlocksKnown.{BlocksKnown}
use Rattle.blocks.specs.declared.Ran.{Ran}
use Rattle.blocks.specs.declared.Went.{Went}
use Rattle.blocks.specs.Room.{room, takes_all}

-- ---- bytes of a value

-- ASCII, neither `]` nor a backslash
pub record PlainByte (b : ℕ) : Type 0 where
  pub ascii : b < 128
  pub closes : b ≡ 93 → ⊥
  pub escapes : b ≡ 92 → ⊥

-- n such bytes from i on, the last of them no white space
pub record PlainRun (s : List ℕ) (i n : ℕ) : Type 0 where
  pub room : i + n ≤ length s
  pub some : 0 < n
  pub plain : (j : ℕ) → j < n → PlainByte (get_or s (i + j) 0)
  pub dark : 32 < get_or s (i + (n - 1)) 0

-- n bytes of a value from i on
pub record ValueRun (p : Phase) (s : List ℕ) (i n : ℕ) : Type 0 where
  pub start : ℕ
  pub stands : p ≡ Value start
  pub run : PlainRun s i n

-- such a byte, and no white space
pub record PointByte (b : ℕ) : Type 0 where
  pub plain : PlainByte b
  pub dark : 32 < b

-- behind the byte at i two of these and a `]`
pub record PairAt (s : List ℕ) (i : ℕ) : Type 0 where
  pub room : i + 4 ≤ length s
  pub first : PointByte (get_or s (i + 1) 0)
  pub second : PointByte (get_or s (i + 2) 0)
  pub closes : get_or s (i + 3) 0 ≡ 93

-- ---- what a byte does

-- it completes no token
abbrev pub quiet_move : Phase → Moved
quiet_move q = record { tokens = Silent; next = q }

-- a `[` at i opens a value of two bytes, and q stands behind it
pub record PairFrom (p : Phase) (s : List ℕ) (i : ℕ) (q : Phase) : Type 0 where
  pub pair : PairAt s i
  pub start : ℕ
  pub opens : (o : ℕ) → moves p o 91 ≡ quiet_move (Value start)
  pub past : q ≡ After start

-- it does so where the answer says it
abbrev pub PairIs : Phase → List ℕ → ℕ → Option Phase → Type 0
PairIs p s i (Some q) = PairFrom p s i q
PairIs p s i None = Unit {0}

-- white space leaves the token rules as they stand
abbrev pub WhiteStays : Phase → Type 0
WhiteStays p = (o b : ℕ) → space b ≡ true → moves p o b ≡ quiet_move p

-- ---- what is known

-- o bytes so far, the last character that is no white space ended at l, and since then nothing but the place has changed
unfoldable pub steady_at : (o l : ℕ) → Phase → (count : ℕ) → BlocksKnown
steady_at o l p n = record { total = o; utf8 = Whole; last = l; now = p; count = n; kept = p; held = n }

-- it is so known
pub record Steady (k : BlocksKnown) : Type 0 where
  pub same : k ≡ steady_at k.total k.last k.now k.count
  pub inked : 0 < k.last

-- what is known where a run ends
abbrev pub ran_to : Ran → BlocksKnown
ran_to r = steady_at r.total r.last r.stands r.count

-- bytes taken from a place on: what is left to take gives the same
pub record RanIs (k : BlocksKnown) (bs : List ℕ) (from : ℕ) (t : List ℕ) (r : Ran) (t' : List ℕ) : Type 0 where
  pub low : from ≤ r.to
  pub high : r.to ≤ length bs
  pub rest : takes_all (room (ran_to r) t') (drop r.to bs) ≡ takes_all (room k t) (drop from bs)

-- the same, from anything that is known
pub record WentIs (k : BlocksKnown) (bs : List ℕ) (from : ℕ) (t : List ℕ) (r : Went) (t' : List ℕ) : Type 0 where
  pub low : from ≤ r.to
  pub high : r.to ≤ length bs
  pub rest : takes_all (room r.known t') (drop r.to bs) ≡ takes_all (room k t) (drop from bs)
