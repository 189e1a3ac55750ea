-- The shape of a tree by its nodes' parents alone: the open nodes on a spine, closed one by one. Nothing public is stated by these.
use Rattle.std.specs.Prelude.{◌≡◌, ◌∷◌}
use Rattle.lists.specs.Prelude.{ℕ, zero, suc, max, Bool, true, false, List, [], eqb, pick}
use Rattle.tables.specs.Numbers.{none}
use Rattle.serialize.specs.LocalsWrite.{bracketed}

-- an open node: its number, how many of its children are closed, and the greatest height of these
pub record Fork : Type 0 where
  pub num : ℕ
  pub kids : ℕ
  pub high : ℕ

-- one more where it holds
abbrev pub raised : Bool → ℕ → ℕ
raised true n = suc n
raised false n = n

-- the height of a node: how many brackets are open at most at a node below it; children stand in brackets where there are two or more
abbrev pub height_by : (kids high : ℕ) → ℕ
height_by zero h = 0
height_by (suc zero) h = h
height_by (suc (suc k)) h = suc h

-- the greatest height of the children with one more, of height x
abbrev pub high_with : (kids high x : ℕ) → ℕ
high_with zero h x = x
high_with (suc k) h x = max h x

-- node s when its child r is closed
abbrev pub closed_into : Fork → Fork → Fork
closed_into r s = record { num = s.num; kids = suc s.kids; high = high_with s.kids s.high (height_by r.kids r.high) }

-- the spine from r up, closed down to the node with number q
abbrev pub shut_from : (q : ℕ) → Fork → List Fork → List Fork
shut_from q r [] = r ∷ []
shut_from q r (s ∷ rs) = let y = shut_from q (closed_into r s) rs in pick (eqb r.num q) (r ∷ s ∷ rs) y

-- of any spine
abbrev pub shut_to : (q : ℕ) → List Fork → List Fork
shut_to q [] = []
shut_to q (r ∷ rs) = shut_from q r rs

-- a node with number k that has no child
abbrev pub leaf : ℕ → Fork
leaf k = record { num = k; kids = 0; high = 0 }

-- the spine when nodes with these parents have come, the first with number k
abbrev pub spine_of : (k : ℕ) → List Fork → List ℕ → List Fork
spine_of k xs [] = xs
spine_of k xs (q ∷ qs) = spine_of (suc k) (leaf k ∷ shut_to q xs) qs

-- the first of a spine has number q
abbrev pub Heads : ℕ → List Fork → Type 0
Heads q [] = ⊥
Heads q (r ∷ rs) = r.num ≡ q

-- each parent is on the spine when its child comes
abbrev pub Meets : (k : ℕ) → List Fork → List ℕ → Type 0
Meets k xs [] = Unit {0}
Meets k xs (q ∷ qs) = Heads q (shut_to q xs) × Meets (suc k) (leaf k ∷ shut_to q xs) qs

-- the height of the last node of the spine when all are closed
abbrev pub height_from : Fork → List Fork → ℕ
height_from r [] = height_by r.kids r.high
height_from r (s ∷ rs) = height_from (closed_into r s) rs

-- of any spine
abbrev pub height_of : List Fork → ℕ
height_of [] = 0
height_of (r ∷ rs) = height_from r rs

-- the depth of a tree with these parents, base the number of its root, which is the child of none; of no node it is that of an empty root
abbrev pub shape_depth : (base : ℕ) → List ℕ → ℕ
shape_depth base ps = suc (height_of (spine_of base (leaf none ∷ []) ps))

-- how many of the nodes with parents qs stand in brackets, where ps are all parents
abbrev pub brackets_in : (ps qs : List ℕ) → ℕ
brackets_in ps [] = 0
brackets_in ps (q ∷ qs) = raised (bracketed ps q) (brackets_in ps qs)

-- of all nodes
abbrev pub brackets_of : List ℕ → ℕ
brackets_of ps = brackets_in ps ps
