-- What the writer's own functions promise and ask of each other.
use Rattle.std.specs.Prelude.{◌+◌, ◌/◌, ◌<◌, ◌≤◌, ◌-◌, ◌≡◌, Result, Ok, Err}
use Rattle.lists.specs.Prelude.{ℕ, suc, Bool, true, not, List, length, pick}
use Rattle.tables.specs.Numbers.{none}
use Rattle.tables.specs.Columns.{node_stride, value_stride, parent_at, first_prop_at, prop_count_at, val_from_at, val_to_at}
use Rattle.fit_nodes.specs.Locals.{Ruled}
use Rattle.fit_nodes.specs.Nodes.{on_path}
use Rattle.tables.specs.declared.Reason.TheVariants.{NoRoom, EmptyIdentifier, NotFitting}
use Rattle.tables.specs.LocalsNames.{NameHeld}
use Rattle.tables.specs.declared.Reason.{Reason}

-- the rows of node k and of its parent are there
pub record Placed (nd : List ℕ) (k : ℕ) : Type 0 where
  pub row : k < length nd / node_stride
  pub above : (parent_at nd k ≡ none → ⊥) → parent_at nd k < length nd / node_stride

-- the first k nodes are there and have right parents, and p is none, node k - 1 or above it
pub record Above (nd : List ℕ) (k p : ℕ) : Type 0 where
  pub lent : k ≤ length nd / node_stride
  pub ruled : Ruled nd k
  pub above : 0 < k → (p ≡ none → ⊥) → on_path nd (k - 1) p ≡ true

-- so are n nodes, and their properties
pub record NodesHeld (t nd pr : List ℕ) (n : ℕ) : Type 0 where
  pub lent : n ≤ length nd / node_stride
  pub ruled : Ruled nd n
  pub props : (k : ℕ) → k < n → (i : ℕ) → i < prop_count_at nd k → NameHeld t pr (first_prop_at nd k + i)

-- value v ends behind a byte of the text
pub record EndHeld (t vl : List ℕ) (v : ℕ) : Type 0 where
  pub row : v < length vl / value_stride
  pub some : 0 < val_to_at vl v
  pub rises : val_from_at vl v ≤ val_to_at vl v
  pub inside : val_to_at vl v ≤ length t

-- the nodes up to node k
abbrev pub NodeHeld : (t nd pr : List ℕ) (k : ℕ) → Type 0
NodeHeld t nd pr k = NodesHeld t nd pr (suc k)

-- the writer's answer by its tests: do the tables fit; does an identifier read as empty; is the writing w longer than the bytes lent
abbrev pub write_answer : (fits blank short : Bool) → (w : List ℕ) → Result ℕ Reason
write_answer fits blank short w = pick (not fits) (Err NotFitting) (pick blank (Err EmptyIdentifier) (pick short (Err NoRoom) (Ok (length w))))
