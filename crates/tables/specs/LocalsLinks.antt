-- First children and next siblings in the node table, as the parents say.
use Rattle.std.specs.Prelude.{◌≡◌, ◌+◌, ◌-◌, ◌*◌, ◌/◌, ◌≤◌, ◌<◌}
use Rattle.lists.specs.Prelude.{List, ℕ, zero, suc, ltb, eqb, length, get_or, pick}
use Rattle.tables.specs.Columns.{node_stride, parent_at, child_at, sibling_at}
use Rattle.tables.specs.Numbers.{none}

-- the first of the m nodes from k on whose parent is p; where there is none, the first child that stands in row p
unfoldable pub first_under_or : List ℕ → (p k m : ℕ) → ℕ
first_under_or t p k zero = child_at t p
first_under_or t p k (suc m) = pick (eqb (parent_at t k) p) k (first_under_or t p (suc k) m)

-- the next of n nodes with the parent of i; none where its parent is no node
abbrev pub link_of : ℕ → List ℕ → ℕ → ℕ
link_of n t i = pick (ltb (parent_at t i) n) (first_under_or t (parent_at t i) (suc i) (n - suc i)) none

-- i is no cell of a link of the n rows
abbrev pub NoLink : ℕ → ℕ → Type 0
NoLink n i = (r : ℕ) → r < n → (i ≡ r * node_stride + 1 → ⊥) × (i ≡ r * node_stride + 2 → ⊥)

-- t is t₀ with the links of the nodes from k on
pub record LinkedFrom (n : ℕ) (t₀ t : List ℕ) (k : ℕ) : Type 0 where
  pub len : length t ≡ length t₀
  pub first : (i : ℕ) → i < n → child_at t i ≡ first_under_or t₀ i k (n - k)
  pub next : (i : ℕ) → k ≤ i → i < n → sibling_at t i ≡ link_of n t₀ i
  pub kept : (i : ℕ) → NoLink n i → get_or t i 0 ≡ get_or t₀ i 0

-- there are n rows, and none is no number of one
abbrev pub HasRows : ℕ → List ℕ → Type 0
HasRows n t = (n ≤ length t / node_stride) × (n ≤ none)

-- all links of n nodes where there are so many rows; else nothing
pub record LinksIs (n : ℕ) (t₀ t : List ℕ) : Type 0 where
  pub made : HasRows n t₀ → LinkedFrom n t₀ t 0
  pub left : (HasRows n t₀ → ⊥) → t ≡ t₀
