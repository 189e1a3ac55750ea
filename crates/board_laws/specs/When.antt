-- Why a board has its number: one reason for each number, in their order.
use Rattle.std.specs.Prelude.{◌≡◌}
use Rattle.lists.specs.Prelude.{ℕ, Bool, true, false, List}
use Rattle.tables.specs.Memory.{Memory}
use Rattle.fit.specs.Fit.{Fit}
use Rattle.parts_props.specs.Props.{Property}
use Rattle.board_node.specs.Node.{right_node}
use Rattle.board.specs.Answer.{is_go_node, way_properties, said_size, is_wrong, columns_by, rows_by, way_right}
use Rattle.board.specs.declared.SgfBoard.{SgfBoard}

-- SZ of the root of the way is repeated or invalid
abbrev pub size_wrong : Memory → ℕ → Bool
size_wrong m k = is_wrong (said_size (way_properties m k))

-- no node of the way is refused, on the board that its root says
abbrev pub all_right : Memory → ℕ → Bool
all_right m k = let s = said_size (way_properties m k) in way_right (columns_by s) (rows_by s) (way_properties m k)

-- of node k: 19 the tables don't fit; 21 it is no node of a Go tree; 22 the size is wrong; 23 a node of the way is refused; 0 none of these
pub data BoardBecause (m : Memory) (k : ℕ) : ℕ → Type 0 where
  unfit : Fit m ≡ false → BoardBecause m k 19
  no-go-node : Fit m ≡ true → is_go_node m k ≡ false → BoardBecause m k 21
  wrong_size : Fit m ≡ true → is_go_node m k ≡ true → size_wrong m k ≡ true → BoardBecause m k 22
  off-board : Fit m ≡ true → is_go_node m k ≡ true → size_wrong m k ≡ false → all_right m k ≡ false → BoardBecause m k 23
  shown : Fit m ≡ true → is_go_node m k ≡ true → size_wrong m k ≡ false → all_right m k ≡ true → BoardBecause m k 0

-- of one node more: the number of a refused board; 23 the node is refused; else 0
pub data NextBecause (ps : List Property) (b : SgfBoard) : ℕ → Type 0 where
  no-board : (b.number ≡ 0 → ⊥) → NextBecause ps b b.number
  off-board : b.number ≡ 0 → right_node b.columns b.rows ps ≡ false → NextBecause ps b 23
  shown : b.number ≡ 0 → right_node b.columns b.rows ps ≡ true → NextBecause ps b 0

-- the number is given for its reason, and for that reason no other is
pub record BoardExactly (m : Memory) (k number : ℕ) : Type 0 where
  pub only : BoardBecause m k number
  pub always : (n : ℕ) → BoardBecause m k n → number ≡ n

-- the same of one node more
pub record NextExactly (ps : List Property) (b : SgfBoard) (number : ℕ) : Type 0 where
  pub only : NextBecause ps b number
  pub always : (n : ℕ) → NextBecause ps b n → number ≡ n
