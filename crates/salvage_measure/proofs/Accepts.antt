-- Lenient reading makes trees of any slices. Assumes nothing.
use Rattle.lists.proofs.Prelude.{ℕ, ◌≡◌, refl, true, false, List, [], ◌∷◌, reverse}
use Rattle.lists.proofs.Pick.{pick-elim}
use Rattle.lexer.specs.Token.{Tok, start, end, node, prop}
use Rattle.tables.specs.Numbers.{none}
use Rattle.tables.specs.Record.{Node, Tree}
use Rattle.parser.specs.Game.{Game, is, no_game, find_gametype}
use Rattle.parser.specs.Walk.{Walk, walk, halted, stopped, children, walks, walked}
use Rattle.parser.specs.Read.{Trees, trees_so_far, no_trees, tree_of_nodes, tree_of_walk, tree_of_game, parse_gametree, parse_gametrees, answer, accepted}

abbrev On : Walk → Type 0
On (walk cur st g ns) = Unit {0}
On (halted ns) = Unit {0}
On (stopped r) = ⊥

step-on : (base : ℕ) (w : Walk) (t : Tok) → On w → On (walks true base w t)
step-on base (walk cur [] g ns) (start o) h = tt
step-on base (walk cur (p ∷ st) g ns) (start o) h = pick-elim On (children p ns) (λ _. tt) (λ _. tt)
step-on base (walk cur [] g ns) (end o) h = tt
step-on base (walk cur (p ∷ st) g ns) (end o) h = tt
step-on base (walk cur st g ns) (node o) h = tt
step-on base (walk cur st false ns) (prop p e) h = tt
step-on base (walk cur st true []) (prop p e) h = tt
step-on base (walk cur st true (n ∷ ns)) (prop p e) h = tt
step-on base (halted ns) t h = tt
step-on base (stopped r) t h = h

walked_on : (base : ℕ) (w : Walk) (ts : List Tok) → On w → On (walked true base w ts)
walked_on base w [] h = h
walked_on base w (t ∷ ts) h = walked_on base (walks true base w t) ts (step-on base w t h)

abbrev Grows : Trees → Type 0
Grows (trees_so_far n ts) = Unit {0}
Grows (no_trees r) = ⊥

nodes-grow : (base k : ℕ) (ns : List Node) (ts : List Tree) → Grows (tree_of_nodes true base k ns ts)
nodes-grow base k [] ts = tt
nodes-grow base k (n ∷ ns) ts = tt

walk-grows : (base k : ℕ) (w : Walk) (ts : List Tree) → On w → Grows (tree_of_walk true base k w ts)
walk-grows base k (walk cur st g ns) ts h = nodes-grow base k ns ts
walk-grows base k (halted ns) ts h = nodes-grow base k ns ts
walk-grows base k (stopped r) ts h = absurd h

game-grows : (base : ℕ) (g : Game) (s : List Tok) (ts : List Tree) → Grows (tree_of_game true base g s ts)
game-grows base (is k) s ts = walk-grows base k (walked true base (walk none [] false []) s) ts (walked_on base (walk none [] false []) s tt)
game-grows base (no_game r) s ts = walk-grows base 0 (walked true base (walk none [] false []) s) ts (walked_on base (walk none [] false []) s tt)

slice-grows : (x : Trees) (s : List Tok) → Grows x → Grows (parse_gametree true x s)
slice-grows (trees_so_far n ts) s h = game-grows n (find_gametype s) s ts
slice-grows (no_trees r) s h = h

grown : (x : Trees) → Grows x → (ts : List Tree) × (answer x ≡ accepted ts)
grown (trees_so_far n ts) h = (reverse ts, refl)
grown (no_trees r) h = absurd h

all-grow : (ss : List (List Tok)) (x : Trees) → Grows x → (ts : List Tree) × (answer (parse_gametrees true x ss) ≡ accepted ts)
all-grow [] x h = grown x h
all-grow (s ∷ ss) x h = all-grow ss (parse_gametree true x s) (slice-grows x s h)

pub slices-accepted : (ss : List (List Tok)) → (ts : List Tree) × (answer (parse_gametrees true (trees_so_far 0 []) ss) ≡ accepted ts)
slices-accepted ss = all-grow ss (trees_so_far 0 []) tt
