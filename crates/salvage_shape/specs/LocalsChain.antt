-- The lists that are open, each a chain of nodes under the node that it stands under, in the code's own terms. Nothing public is stated by these.
use Rattle.lists.specs.Prelude.{ℕ, zero, suc, max, min, Bool, true, false, List, [], get_or, pick}
use Rattle.std.specs.Prelude.{set, ◌+◌, ◌-◌, ◌*◌, ◌∷◌}
use Rattle.salvage_shape.specs.LocalsShape.{high_with}
use Rattle.salvage_shape.specs.declared.Chain.{Chain}

-- the most that a sum of heights may be
abbrev pub height_limit : ℕ
height_limit = 4294967295

-- a sum, at most that
abbrev pub sum_in : ℕ → ℕ → ℕ
sum_in a b = min (a + b) height_limit

-- the height of a node
abbrev pub height_in : (kids high : ℕ) → ℕ
height_in zero h = 0
height_in (suc zero) h = h
height_in (suc (suc k)) h = sum_in h 1

-- the height of the first node of a chain whose last node is closed
abbrev pub chain_height : Chain → ℕ
chain_height c = max c.top (sum_in c.plus (height_in c.kids c.high))

-- the chain of no node
abbrev pub no_chain : Chain
no_chain = record { kids = 0; high = 0; plus = 0; top = 0 }

-- a chain with one more node, by how many children the last has
abbrev pub longer : (kids : ℕ) → Chain → Chain
longer zero c = record { kids = 0; high = 0; plus = c.plus; top = c.top }
longer (suc k) c = record { kids = 0; high = 0; plus = sum_in c.plus 1; top = max c.top (sum_in (sum_in c.plus 1) c.high) }

-- a node comes, into a list that has none or into the chain
abbrev pub joined_to : (fresh : Bool) → Chain → Chain
joined_to true c = no_chain
joined_to false c = longer c.kids c

-- one more child; 2 stands for more
abbrev pub count_up : ℕ → ℕ
count_up zero = 1
count_up (suc k) = 2

-- a list ends: the last node of the chain e has one more child, unless there was no node in the list
abbrev pub ended_by : (fresh : Bool) → (c e : Chain) → Chain
ended_by true c e = c
ended_by false c e = record { kids = count_up e.kids; high = high_with e.kids e.high (chain_height c); plus = e.plus; top = e.top }

-- how many more nodes stand in brackets when a node with so many children gets one more
abbrev pub brackets_more : (kids : ℕ) → ℕ
brackets_more zero = 0
brackets_more (suc zero) = 2
brackets_more (suc (suc k)) = 1

-- what is kept under a number
abbrev pub cell_at : List ℕ → ℕ → Chain
cell_at a d = record { kids = get_or a (d * 4) 0; high = get_or a (d * 4 + 1) 0; plus = get_or a (d * 4 + 2) 0; top = get_or a (d * 4 + 3) 0 }

-- the numbers with a chain put from a place on
abbrev pub chain_put : List ℕ → (at : ℕ) → Chain → List ℕ
chain_put a i c = set (set (set (set a i c.kids) (i + 1) c.high) (i + 2) c.plus) (i + 3) c.top

-- the numbers when the current chain is kept, where the list is new
abbrev pub chain_kept : (fresh : Bool) → List ℕ → (depth : ℕ) → Chain → List ℕ
chain_kept f a d c = pick f (chain_put a ((d - 1) * 4) c) a

-- what is kept, the last first
unfoldable pub cells_of : List ℕ → ℕ → List Chain
cells_of a zero = []
cells_of a (suc d) = cell_at a d ∷ cells_of a d

-- was each list new when the next began, the last first
unfoldable pub fresh_of : List Bool → ℕ → List Bool
fresh_of a zero = []
fresh_of a (suc d) = get_or a d false ∷ fresh_of a d

-- the height when all that is open ends
abbrev pub close_all : (fresh : Bool) → Chain → List Bool → List Chain → ℕ
close_all f c [] es = chain_height c
close_all f c (m ∷ ms) [] = chain_height c
close_all f c (m ∷ ms) (e ∷ es) = close_all m (ended_by f c e) ms es
