-- The parent of each node that is read is none or a node: a fact of the definition, strict and lenient. Assumes nothing.
use Rattle.lists.proofs.Prelude.{ℕ, suc, ◌+◌, ◌≤◌, ◌<◌, ◌≡◌, refl, subst, Bool, true, false, ◌⊎◌, inl, inr, List, [], ◌∷◌, reverse, reverse-reverse, arith, length}
use Rattle.lists.specs.All.{All}
use Rattle.lists.proofs.All.{all_append, all_map, all-reverse}
use Rattle.lists.proofs.Pick.{pick-elim}
use Rattle.lexer.specs.Token.{Prop, Tok, start, end, node, prop}
use Rattle.tables.specs.Numbers.{none}
use Rattle.tables.specs.Record.{Node, Tree, all_nodes}
use Rattle.tables.specs.declared.Reason.{Reason}
use Rattle.parser.specs.Walk.{Walk, walk, halted, stopped, children, refuse, opens, closes, adds, gated, walks, walked}
use Rattle.parser.specs.Game.{Game, is, no_game, find_gametype}
use Rattle.parser.specs.Read.{Trees, trees_so_far, no_trees, tree_of_nodes, tree_of_walk, tree_of_game, parse_gametrees}

-- none, or one of n nodes
abbrev NodeOf : ℕ → ℕ → Type 0
NodeOf n p = (p ≡ none) ⊎ (p < n)

-- the parent of a node is none or one of n nodes
abbrev pub Below : ℕ → Node → Type 0
Below n x = NodeOf n x.parent

node-up : {n m : ℕ} → n ≤ m → (p : ℕ) → NodeOf n p → NodeOf m p
node-up h p (inl e) = inl e
node-up h p (inr l) = inr (omega arith)

below_up : {n m : ℕ} → n ≤ m → (x : Node) → Below n x → Below m x
below_up h x b = node-up h x.parent b

-- ---- the tree of a slice

module _ (base : ℕ) where
  abbrev Placed : Walk → Type 0
  Placed (walk cur st g ns) = NodeOf (base + length ns) cur × All (NodeOf (base + length ns)) st × All (Below (base + length ns)) ns
  Placed (halted ns) = All (Below (base + length ns)) ns
  Placed (stopped r) = Unit {0}

  placed-refuse : (len : Bool) (r : Reason) (ns : List Node) → All (Below (base + length ns)) ns → Placed (refuse len r ns)
  placed-refuse true r ns h = h
  placed-refuse false r ns h = tt

  placed-opens : (len : Bool) (cur : ℕ) (st : List ℕ) (ns : List Node) → Placed (walk cur st false ns) → Placed (opens len cur st ns)
  placed-opens len cur [] ns h = (h.0, (h.0, tt), h.2)
  placed-opens len cur (p ∷ st) ns h = pick-elim Placed (children p ns) (λ _. (h.0, (h.0, h.1), h.2)) (λ _. placed-refuse len _ ns h.2)

  placed-closes : (len : Bool) (cur : ℕ) (st : List ℕ) (ns : List Node) → Placed (walk cur st false ns) → Placed (closes len cur st ns)
  placed-closes len cur [] ns h = placed-refuse len _ ns h.2
  placed-closes len cur (p ∷ st) ns h = (h.1.0, h.1.1, h.2)

  placed-adds : (len : Bool) (p : Prop) (cur : ℕ) (st : List ℕ) (ns : List Node) → Placed (walk cur st true ns) → Placed (adds len p cur st ns)
  placed-adds len p cur st [] h = placed-refuse len _ [] tt
  placed-adds len p cur st (n ∷ ns) h = (h.0, h.1, (h.2.0, h.2.1))

  placed-gated : (len g : Bool) (p : Prop) (cur : ℕ) (st : List ℕ) (ns : List Node) → Placed (walk cur st g ns) → Placed (gated len g p cur st ns)
  placed-gated len false p cur st ns h = placed-refuse len _ ns h.2
  placed-gated len true p cur st ns h = placed-adds len p cur st ns h

  placed-walks : (len : Bool) (w : Walk) (t : Tok) → Placed w → Placed (walks len base w t)
  placed-walks len (walk cur st g ns) (start o) h = placed-opens len cur st ns h
  placed-walks len (walk cur st g ns) (end o) h = placed-closes len cur st ns h
  placed-walks len (walk cur st g ns) (node o) h =
      let l : base + length ns ≤ base + suc (length ns) = omega arith in
      (inr (omega arith), all_map _ _ (node-up l) st h.1, (node-up l cur h.0, all_map _ _ (below_up l) ns h.2))
  placed-walks len (walk cur st g ns) (prop p e) h = placed-gated len g p cur st ns h
  placed-walks len (halted ns) t h = h
  placed-walks len (stopped r) t h = h

  placed-walked : (len : Bool) (w : Walk) (ts : List Tok) → Placed w → Placed (walked len base w ts)
  placed-walked len w [] h = h
  placed-walked len w (t ∷ ts) h = placed-walked len (walks len base w t) ts (placed-walks len w t h)

-- ---- all trees

abbrev InTree : ℕ → Tree → Type 0
InTree n t = All (Below n) t.nodes

abbrev Sound : Trees → Type 0
Sound (trees_so_far n ts) = All (InTree n) ts
Sound (no_trees r) = Unit {0}

tree-up : {n m : ℕ} → n ≤ m → (t : Tree) → InTree n t → InTree m t
tree-up h t a = all_map _ _ (below_up h) t.nodes a

sound-rooted : (len : Bool) (base k : ℕ) (ns : List Node) (ts : List Tree) → All (Below (base + length ns)) ns → All (InTree base) ts → Sound (tree_of_nodes len base k ns ts)
sound-rooted len base k (n ∷ ns) ts h a = (all-reverse (Below (base + length (n ∷ ns))) (n ∷ ns) h, all_map _ _ (tree-up (omega arith)) ts a)
sound-rooted true base k [] ts h a = ((inl refl, tt), all_map _ _ (tree-up (omega arith)) ts a)
sound-rooted false base k [] ts h a = tt

sound-grown : (len : Bool) (base k : ℕ) (w : Walk) (ts : List Tree) → Placed base w → All (InTree base) ts → Sound (tree_of_walk len base k w ts)
sound-grown len base k (walk cur st g ns) ts h a = sound-rooted len base k ns ts h.2 a
sound-grown len base k (halted ns) ts h a = sound-rooted len base k ns ts h a
sound-grown len base k (stopped r) ts h a = tt

sound-kinded : (len : Bool) (base : ℕ) (x : Game) (s : List Tok) (ts : List Tree) → All (InTree base) ts → Sound (tree_of_game len base x s ts)
sound-kinded len base (is k) s ts a =
    sound-grown len base k (walked len base (walk none [] false []) s) ts (placed-walked base len (walk none [] false []) s (inl refl, tt, tt)) a
sound-kinded len base (no_game r) s ts a =
    pick-elim Sound len
    (λ _. sound-grown true base 0 (walked len base (walk none [] false []) s) ts (placed-walked base len (walk none [] false []) s (inl refl, tt, tt)) a)
    (λ _. tt)

sound-all : (len : Bool) (x : Trees) (ss : List (List Tok)) → Sound x → Sound (parse_gametrees len x ss)
sound-all len x [] h = h
sound-all len (trees_so_far n ts) (s ∷ ss) h = sound-all len (tree_of_game len n (find_gametype s) s ts) ss (sound-kinded len n (find_gametype s) s ts h)
sound-all len (no_trees r) (s ∷ ss) h = sound-all len (no_trees r) ss tt

in-trees : (n : ℕ) (ts : List Tree) → All (InTree n) ts → All (Below n) (all_nodes ts)
in-trees n [] h = tt
in-trees n (t ∷ ts) h = all_append (Below n) t.nodes (all_nodes ts) h.0 (in-trees n ts h.1)

-- the parents of the nodes of all slices, n nodes in all
pub parents-below : (len : Bool) (ss : List (List Tok)) (n : ℕ) (ts : List Tree) → parse_gametrees len (trees_so_far 0 []) ss ≡ trees_so_far n (reverse ts) → All (Below n) (all_nodes ts)
parents-below len ss n ts e =
    in-trees n ts
    (subst (All (InTree n)) (reverse-reverse ts) (all-reverse (InTree n) (reverse ts) (subst Sound e (sound-all len (trees_so_far 0 []) ss tt))))
