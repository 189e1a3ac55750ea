-- The board at a node: the acts of the nodes from its root down to it, one after another, upon an empty board; and one node more.
use Rattle.std.specs.Prelude.{◌&&◌, ◌≡◌, ◌∷◌, ◌++◌}
use Rattle.lists.specs.Prelude.{ℕ, zero, suc, Bool, true, false, List, [], map, replicate, leb, ltb, eqb, pick}
use Rattle.tables.specs.Columns.{root_at, game_at, first_prop_at, prop_count_at}
use Rattle.tables.specs.Memory.{Memory}
use Rattle.fit.specs.Fit.{Fit}
use Rattle.fit.specs.Record.{text_in}
use Rattle.parts_props.specs.Props.{Property, properties_at}
use Rattle.go_size.specs.Root.{size_in}
use Rattle.go_size.specs.declared.RootSize.{RootSize}
use Rattle.go_size.specs.declared.RootSize.TheVariants.{Absent, Sized, Wrong}
use Rattle.board_play.specs.Steps.{Pos, Act, Steps, empty_pos}
use Rattle.board_node.specs.Node.{acts_of, right_node}
use Rattle.board_acts.specs.declared.BoardState.{BoardState}
use Rattle.board_path.specs.Way.{way_to}
use Rattle.board.specs.declared.SgfBoard.{SgfBoard}

-- the properties of node k
unfoldable pub node_properties : (text nd pr vl : List ℕ) → ℕ → List Property
node_properties text nd pr vl k = properties_at text pr vl (first_prop_at nd k) (prop_count_at nd k)

-- the properties of each node from the root down to k
abbrev pub way_properties : Memory → ℕ → List (List Property)
way_properties m k = map (node_properties (text_in m) m.nodes m.properties m.values) (way_to m.nodes k)

-- the tree that has node k: the last of n whose root is not behind k
unfoldable pub tree_over : List ℕ → (k n : ℕ) → ℕ
tree_over tr k zero = 0
tree_over tr k (suc n) = pick (leb (root_at tr n) k) n (tree_over tr k n)

-- there is such a node, and its tree is Go's
abbrev pub is_go_node : Memory → ℕ → Bool
is_go_node m k = ltb k m.counts.nodes && eqb (game_at m.trees (tree_over m.trees k m.counts.trees)) 0

-- what the first of these nodes, the root, says of the size
abbrev pub said_size : List (List Property) → RootSize
said_size [] = Wrong
said_size (ps ∷ rest) = size_in ps

-- SZ is repeated or invalid
abbrev pub is_wrong : RootSize → Bool
is_wrong Absent = false
is_wrong (Sized x y) = false
is_wrong Wrong = true

-- the columns of the board: 19 without SZ
abbrev pub columns_by : RootSize → ℕ
columns_by Absent = 19
columns_by (Sized x y) = x
columns_by Wrong = 0

-- its rows
abbrev pub rows_by : RootSize → ℕ
rows_by Absent = 19
rows_by (Sized x y) = y
rows_by Wrong = 0

-- none of these nodes is refused
abbrev pub way_right : (w h : ℕ) → List (List Property) → Bool
way_right w h [] = true
way_right w h (ps ∷ rest) = right_node w h ps && way_right w h rest

-- their acts, one node after another
abbrev pub way_acts : (w h : ℕ) → List (List Property) → List Act
way_acts w h [] = []
way_acts w h (ps ∷ rest) = acts_of w h ps ++ way_acts w h rest

-- over the nodes of a way: 22 where the size is wrong, then 23 where a node is refused, else 0
unfoldable pub way_number : List (List Property) → ℕ
way_number ws = pick (is_wrong (said_size ws)) 22 (pick (way_right (columns_by (said_size ws)) (rows_by (said_size ws)) ws) 0 23)

-- 19 where the tables don't fit the text; then 21 where k is no node of a Go tree; then 22, 23, or 0
unfoldable pub board_number : Memory → ℕ → ℕ
board_number m k = pick (Fit m) (pick (is_go_node m k) (way_number (way_properties m k)) 21) 19

-- a number, all else 0
abbrev pub refused_board : ℕ → SgfBoard
refused_board n =
    record {
      number = n;
      columns = 0;
      rows = 0;
      reserved = 0;
      black = record { on = 0; off = 0 };
      white = record { on = 0; off = 0 };
      stones = replicate 2704 0;
    }

-- stones and sums, on a board of w columns and h rows
abbrev pub shown_board : (w h : ℕ) → List ℕ → BoardState → SgfBoard
shown_board w h b s = record { number = 0; columns = w; rows = h; reserved = 0; black = s.black; white = s.white; stones = b }

-- the stones of a board and its sums
abbrev pub pos_in : SgfBoard → Pos
pos_in b =
    record { stones = b.stones; black = record { on = b.black.on; off = b.black.off }; white = record { on = b.white.on; off = b.white.off } }

-- the same board, where what is reserved is 0
abbrev pub unreserved : SgfBoard → SgfBoard
unreserved b =
    record {
      number = b.number;
      columns = b.columns;
      rows = b.rows;
      reserved = 0;
      black = b.black;
      white = b.white;
      stones = b.stones;
    }

-- number 0, these sides, nothing in what is reserved
pub record Shows (w h : ℕ) (r : SgfBoard) : Type 0 where
  pub number : r.number ≡ 0
  pub columns : r.columns ≡ w
  pub rows : r.rows ≡ h
  pub reserved : r.reserved ≡ 0

-- the acts of the nodes of a way, upon an empty board of w columns and h rows
pub record PlayedBoard (w h : ℕ) (ws : List (List Property)) (r : SgfBoard) : Type 0 where
  pub shows : Shows w h r
  pub acts : Steps w h empty_pos (way_acts w h ws) (pos_in r)

-- over the nodes of a way: the board has the size that the root says
abbrev pub SizedBoard : List (List Property) → SgfBoard → Type 0
SizedBoard ws r = PlayedBoard (columns_by (said_size ws)) (rows_by (said_size ws)) ws r

-- the board at node k: refused by its number, or played over the nodes from the root down to k
pub record BoardIs (m : Memory) (k : ℕ) (r : SgfBoard) : Type 0 where
  pub refused : (board_number m k ≡ 0 → ⊥) → r ≡ refused_board (board_number m k)
  pub played : board_number m k ≡ 0 → SizedBoard (way_properties m k) r

-- one node more: upon a refused board that board; 23 where the node is refused; else its acts upon the board
pub record NextBoardIs (ps : List Property) (b r : SgfBoard) : Type 0 where
  pub no-board : (b.number ≡ 0 → ⊥) → r ≡ unreserved b
  pub refused : b.number ≡ 0 → right_node b.columns b.rows ps ≡ false → r ≡ refused_board 23
  pub shows : b.number ≡ 0 → right_node b.columns b.rows ps ≡ true → Shows b.columns b.rows r
  pub acts : b.number ≡ 0 → right_node b.columns b.rows ps ≡ true → Steps b.columns b.rows (pos_in b) (acts_of b.columns b.rows ps) (pos_in r)
