-- A reading: what is answered, and what the lent tables hold after it.
use Rattle.std.specs.Prelude.{◌/◌, ◌≡◌, ◌&&◌, Result, Ok, Err}
use Rattle.lists.specs.Prelude.{ℕ, Bool, List, leb, length, pick}
use Rattle.tables.specs.Columns.{tree_stride, node_stride, property_stride, value_stride}
use Rattle.tables.specs.Rows.{Tables, counts_of, tables}
use Rattle.tables.specs.Flat.{flat_trees, flat_nodes, flat_props, flat_vals, over}
use Rattle.tables.specs.Lenient.{as_reading}
use Rattle.tables.specs.declared.Counts.{Counts}
use Rattle.tables.specs.declared.Reason.TheVariants.{NoRoom}
use Rattle.parser.specs.Read.{Answer, refused, accepted}
use Rattle.tables.specs.Refusals.{refusal}
use Rattle.tables.specs.declared.LenientRefusal.{LenientRefusal}
use Rattle.tables.specs.declared.Reason.{Reason}
use Rattle.tables.specs.declared.Refusal.{Refusal}

-- the numbers of the four lent tables
pub record Lent : Type 0 where
  pub trees : List ℕ
  pub nodes : List ℕ
  pub props : List ℕ
  pub vals : List ℕ

-- the four together
abbrev pub lent : (trees nodes props vals : List ℕ) → Lent
lent r t q w = record { trees = r; nodes = t; props = q; vals = w }

-- so many rows are lent: numbers divided by the stride
abbrev pub room_for : Counts → (trees nodes props vals : ℕ) → Bool
room_for c r t q w =
    leb c.trees (r / tree_stride)
    && leb c.nodes (t / node_stride)
    && leb c.properties (q / property_stride)
    && leb c.values (w / value_stride)

-- so many rows are lent as the tables need (SCOPE 45)
abbrev pub roomy : Tables → Lent → Bool
roomy t l = room_for (counts_of t) (length l.trees) (length l.nodes) (length l.props) (length l.vals)

-- the rows of the record in front of what was lent
abbrev pub stored : Tables → Lent → Lent
stored t l =
    lent (over (flat_trees t.trees) l.trees) (over (flat_nodes t.nodes) l.nodes)
    (over (flat_props t.props) l.props) (over (flat_vals t.vals) l.vals)

-- what is answered: the last reason to refuse is that there is no room (SCOPE 54, 61)
abbrev pub answers : Answer → Lent → Result Counts (Refusal Reason)
answers (refused r p) l = Err (refusal r p)
answers (accepted ts) l = pick (roomy (tables ts) l) (Ok (counts_of (tables ts))) (Err (refusal NoRoom 0))

-- what is answered where no table is lent: how many rows there are, or the refusal (SCOPE 260)
abbrev pub rows_counted : Answer → Result Counts (Refusal Reason)
rows_counted (refused r p) = Err (refusal r p)
rows_counted (accepted ts) = Ok (counts_of (tables ts))

-- the lent tables after it: a refusal leaves every number (SCOPE 57, 58)
abbrev pub leaves : Answer → Lent → Lent
leaves (refused r p) l = l
leaves (accepted ts) l = pick (roomy (tables ts) l) (stored (tables ts) l) l

-- both
pub record ReadIs (a : Answer) (before after : Lent) (r : Result Counts (Refusal Reason)) : Type 0 where
  pub answer : r ≡ answers a before
  pub tables : after ≡ leaves a before

-- the same of a lenient reading, whose answer has a type of its own
pub record LenientIs (a : Answer) (before after : Lent) (r : Result Counts LenientRefusal) : Type 0 where
  pub answer : as_reading r ≡ answers a before
  pub tables : after ≡ leaves a before
