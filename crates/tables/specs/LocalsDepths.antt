-- Depths in the node table, as the parents say.
use Rattle.std.specs.Prelude.{◌≡◌, ◌+◌, ◌*◌, ◌<◌}
use Rattle.lists.specs.Prelude.{List, ℕ, length, get_or}
use Rattle.tables.specs.Columns.{node_stride, parent_at, depth_at}
use Rattle.tables.specs.Each.{tabulate}
use Rattle.tables.specs.LocalsLinks.{HasRows}
use Rattle.tables.specs.Rows.{depths}

-- i is no cell of a depth of the k first rows
abbrev pub NoDepth : ℕ → ℕ → Type 0
NoDepth k i = (r : ℕ) → r < k → i ≡ r * node_stride + 5 → ⊥

-- t is t₀ with the depths of the k first of n nodes
pub record LevelledTo (n : ℕ) (t₀ t : List ℕ) (k : ℕ) : Type 0 where
  pub len : length t ≡ length t₀
  pub level : (i : ℕ) → i < k → depth_at t i ≡ get_or (depths (tabulate (parent_at t₀) 0 n)) i 0
  pub kept : (i : ℕ) → NoDepth k i → get_or t i 0 ≡ get_or t₀ i 0

-- the depths of all n nodes where there are so many rows; else nothing
pub record LevelsIs (n : ℕ) (t₀ t : List ℕ) : Type 0 where
  pub made : HasRows n t₀ → LevelledTo n t₀ t n
  pub left : (HasRows n t₀ → ⊥) → t ≡ t₀
