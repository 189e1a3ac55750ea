-- The trees of slices, explained: the fact that refuses the first of them that is refused, and the place of the token to blame.
use Rattle.std.specs.Prelude.{◌+◌, ◌∷◌, Option, Some, None}
use Rattle.lists.specs.Prelude.{ℕ, zero, suc, false, List, [], length, drop}
use Rattle.lexer.specs.Token.{Tok, start, end, node, prop, done}
use Rattle.tables.specs.Numbers.{none}
use Rattle.tables.specs.Record.{Node}
use Rattle.parser.specs.Game.{props, props_named, GM}
use Rattle.parser.specs.Walk.{Walk, walk, halted, stopped, walks, walked}
use Rattle.why_blame.specs.Blame.{Blame, nowhere, found, blame, is_stopped}
use Rattle.why_blame.specs.Cuts.{first_place}
use Rattle.why_blame.specs.Games.{game_blame}
use Rattle.why_blame.specs.declared.Fact.TheVariants.{EndBeyond, NoNode, EmptyList, Stray}
use Rattle.tables.specs.Refusals.{refusal}
use Rattle.why_blame.specs.declared.Fact.{Fact}
use Rattle.tables.specs.declared.Refusal.{Refusal}

-- the first of two
abbrev pub or_blame : Option (Refusal Fact) → Option (Refusal Fact) → Option (Refusal Fact)
or_blame None x = x
or_blame (Some e) x = Some (refusal e.reason e.place)

-- the top of a stack
abbrev pub top_node : List ℕ → ℕ
top_node [] = none
top_node (p ∷ st) = p

-- the node on top of a walk's stack
abbrev pub top_of : Walk → ℕ
top_of (walk cur st g ns) = top_node st
top_of (halted ns) = none
top_of (stopped r) = none

-- a start where the list on top of the stack is empty, or a property that is not directly behind a node; splitting has matched an end with a start (SCOPE 267, 269)
abbrev pub stop_blame : Blame Walk → Option (Refusal Fact)
stop_blame nowhere = None
stop_blame (found w pre (start o)) = Some (refusal (EmptyList (top_of w)) o)
stop_blame (found w pre (end o)) = Some (refusal EndBeyond o)
stop_blame (found w pre (node o)) = Some (refusal Stray o)
stop_blame (found w pre (prop p e)) = Some (refusal Stray p.from)

-- where the tree of a slice stops; base: the number of its first node
abbrev pub tree_blame : (base : ℕ) → List Tok → Option (Refusal Fact)
tree_blame base s = stop_blame (blame (walks false base) is_stopped (walk none [] false []) [] s)

-- the nodes of a walk
abbrev pub nodes_of : Walk → List Node
nodes_of (walk cur st g ns) = ns
nodes_of (halted ns) = ns
nodes_of (stopped r) = []

-- how many nodes a slice has
abbrev pub nodes_in : (base : ℕ) → List Tok → ℕ
nodes_in base s = length (nodes_of (walked false base (walk none [] false []) s))

-- slice n without a node
abbrev pub empty_blame : (n count : ℕ) → List Tok → Option (Refusal Fact)
empty_blame n zero s = Some (refusal (NoNode n) (first_place 0 s done))
empty_blame n (suc k) s = None

-- slice n: its game type, its tree, its nodes
abbrev pub slice_blame : (n base : ℕ) → List Tok → Option (Refusal Fact)
slice_blame n base s = or_blame (game_blame n (props_named GM (props (drop 2 s)))) (or_blame (tree_blame base s) (empty_blame n (nodes_in base s) s))

-- the slices from the n-th on, whose nodes are numbered from base on
abbrev pub slices_blame : (n base : ℕ) → List (List Tok) → Option (Refusal Fact)
slices_blame n base [] = None
slices_blame n base (s ∷ ss) = let r = slices_blame (suc n) (base + nodes_in base s) ss in or_blame (slice_blame n base s) r
