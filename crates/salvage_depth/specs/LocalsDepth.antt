-- The depth that a record's writing has, counted along the node rows: how many brackets are open at each node.
use Rattle.std.specs.Prelude.{◌+◌, ◌-◌, ◌/◌}
use Rattle.lists.specs.Prelude.{ℕ, zero, suc, max, min, List, length, eqb, ltb, pick}
use Rattle.tables.specs.Columns.{node_stride, parent_at}
use Rattle.serialize.specs.LocalsWalk.{in_brackets}

-- 1 where node k stands in brackets, else 0
abbrev pub bracket_at : List ℕ → ℕ → ℕ
bracket_at nd k = pick (in_brackets nd k) 1 0

-- how many of node j and those above it, below p, stand in brackets, at most f of them above j; the climb ends where a parent does not stand before its child
unfoldable pub shut_below : List ℕ → (f j p : ℕ) → ℕ
shut_below nd zero j p = pick (eqb j p) 0 (bracket_at nd j)
shut_below nd (suc f) j p = pick (eqb j p) 0 (bracket_at nd j + pick (ltb (parent_at nd j) j) (shut_below nd f (parent_at nd j) p) 0)

-- how many are open at node k: those open at the node before it without those that end between the two, and its own
unfoldable pub open_at : List ℕ → ℕ → ℕ
open_at nd zero = bracket_at nd 0
open_at nd (suc k) = (open_at nd k - shut_below nd k k (parent_at nd (suc k))) + bracket_at nd (suc k)

-- the most that are open at one of the first k nodes
unfoldable pub most_open : List ℕ → ℕ → ℕ
most_open nd zero = 0
most_open nd (suc k) = max (most_open nd k) (open_at nd k)

-- of n nodes, as far as there are rows
abbrev pub depth_in : List ℕ → ℕ → ℕ
depth_in nd n = most_open nd (min n (length nd / node_stride))
