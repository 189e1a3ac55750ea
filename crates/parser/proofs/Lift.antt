-- What holds of every token holds of every token of every slice; what holds of every property token holds of every property of every tree. Assumes nothing.
use Rattle.lists.proofs.Prelude.{ℕ, zero, suc, Bool, true, false, List, [], ◌∷◌, reverse, ltb, pick}
use Rattle.lexer_laws.proofs.Invariant.{OfTok}
use Rattle.lexer.specs.Token.{Prop, Tok, end, node, prop, start}
use Rattle.lists.proofs.All.{all_append, all-reverse}
use Rattle.lists.specs.All.{All}
use Rattle.parser.specs.Game.{Game, is, find_gametype, no_game}
use Rattle.parser.specs.Read.{Answer, Trees, accepted, answer, no_trees, parse_gametrees, trees_so_far, tree_of_walk, parse_gametree, tree_of_game, parse_slices, refused, tree_of_nodes}
use Rattle.parser.specs.Split.{Slices, Splitting, ended, filled, no, over, sliced, slices, split, splits, splitting, wrong}
use Rattle.parser.specs.Walk.{Walk, adds, children, closes, gated, halted, opens, refuse, stopped, walk, walked, walks}
use Rattle.tables.specs.Numbers.{depth_limit, none}
use Rattle.tables.specs.Record.{Node, Tree, all_nodes, all_props}
use Rattle.tables.specs.declared.Reason.{Reason}
use Rattle.tables.specs.declared.Reason.TheVariants.{TooDeep, UnexpectedGameTreeEnd, UnexpectedGameTreeStart, UnexpectedProperty}

-- ---- slices

module _ (R : Tok → Type 0) where
  abbrev pub OfSplitting : Splitting → Type 0
  OfSplitting (splitting d m cur ss) = All R cur × All (All R) ss
  OfSplitting (over m ss) = All (All R) ss
  OfSplitting (wrong n) = Unit {0}

  of-ended : (len : Bool) (d m : ℕ) (t : Tok) (cur : List Tok) (ss : List (List Tok)) → R t → All R cur → All (All R) ss → OfSplitting (ended len d m t cur ss)
  of-ended true zero m t cur ss r c s = s
  of-ended false zero m t cur ss r c s = tt
  of-ended len (suc zero) m t cur ss r c s = (tt, (all-reverse R (t ∷ cur) (r, c), s))
  of-ended len (suc (suc d)) m t cur ss r c s = ((r, c), s)

  of-splits : (len : Bool) (s : Splitting) (t : Tok) → R t → OfSplitting s → OfSplitting (splits len s t)
  of-splits len (splitting d m cur ss) (start o) r h = ((r, h.0), h.1)
  of-splits len (splitting d m cur ss) (end o) r h = of-ended len d m (end o) cur ss r h.0 h.1
  of-splits len (splitting d m cur ss) (node o) r h = ((r, h.0), h.1)
  of-splits len (splitting d m cur ss) (prop p e) r h = ((r, h.0), h.1)
  of-splits len (over m ss) t r h = h
  of-splits len (wrong n) t r h = tt

  pub of-split : (len : Bool) (s : Splitting) (ts : List Tok) → All R ts → OfSplitting s → OfSplitting (split len s ts)
  of-split len s [] r h = h
  of-split len s (t ∷ ts) r h = of-split len (splits len s t) ts r.1 (of-splits len s t r.0 h)

  abbrev pub OfSlices : Slices → Type 0
  OfSlices (no n) = Unit {0}
  OfSlices (slices ss) = All (All R) ss

  of-deep : (b : Bool) (ss : List (List Tok)) → All (All R) ss → OfSlices (pick b (no TooDeep) (slices ss))
  of-deep true ss h = tt
  of-deep false ss h = h

  of-filled : (len : Bool) (m : ℕ) (ss : List (List Tok)) → All (All R) ss → OfSlices (filled len m ss)
  of-filled true m [] h = (tt, tt)
  of-filled false m [] h = tt
  of-filled len m (s ∷ ss) h = of-deep (ltb depth_limit m) (reverse (s ∷ ss)) (all-reverse (All R) (s ∷ ss) h)

  pub of-sliced : (len : Bool) (s : Splitting) → OfSplitting s → OfSlices (sliced len s)
  of-sliced len (splitting zero m cur ss) h = of-filled len m ss h.1
  of-sliced true (splitting (suc d) m cur ss) h = of-deep (ltb depth_limit m) (reverse (reverse cur ∷ ss)) (all-reverse (All R) (reverse cur ∷ ss) (all-reverse R cur h.0, h.1))
  of-sliced false (splitting (suc d) m cur ss) h = tt
  of-sliced len (over m ss) h = of-filled len m ss h
  of-sliced len (wrong n) h = tt

-- ---- trees

module _ (Q : Prop → Type 0) where
  abbrev pub OfNode : Node → Type 0
  OfNode n = All Q n.props

  abbrev pub OfTree : Tree → Type 0
  OfTree t = All OfNode t.nodes

  abbrev pub OfWalk : Walk → Type 0
  OfWalk (walk cur st g ns) = All OfNode ns
  OfWalk (halted ns) = All OfNode ns
  OfWalk (stopped n) = Unit {0}

  of-refuse : (len : Bool) (n : Reason) (ns : List Node) → All OfNode ns → OfWalk (refuse len n ns)
  of-refuse true n ns h = h
  of-refuse false n ns h = tt

  of-opens : (len : Bool) (cur : ℕ) (st : List ℕ) (ns : List Node) → All OfNode ns → OfWalk (opens len cur st ns)
  of-opens len cur [] ns h = h
  of-opens len cur (p ∷ st) ns h = go (children p ns)
    where
      go : (b : Bool) → OfWalk (pick b (walk cur (cur ∷ p ∷ st) false ns) (refuse len UnexpectedGameTreeStart ns))
      go true = h
      go false = of-refuse len UnexpectedGameTreeStart ns h

  of-closes : (len : Bool) (cur : ℕ) (st : List ℕ) (ns : List Node) → All OfNode ns → OfWalk (closes len cur st ns)
  of-closes len cur [] ns h = of-refuse len UnexpectedGameTreeEnd ns h
  of-closes len cur (p ∷ st) ns h = h

  of-adds : (len : Bool) (p : Prop) (cur : ℕ) (st : List ℕ) (ns : List Node) → Q p → All OfNode ns → OfWalk (adds len p cur st ns)
  of-adds len p cur st [] q h = of-refuse len UnexpectedProperty [] tt
  of-adds len p cur st (n ∷ ns) q h = (all_append Q n.props (p ∷ []) h.0 (q, tt), h.1)

  of-gated : (len g : Bool) (p : Prop) (cur : ℕ) (st : List ℕ) (ns : List Node) → Q p → All OfNode ns → OfWalk (gated len g p cur st ns)
  of-gated len false p cur st ns q h = of-refuse len UnexpectedProperty ns h
  of-gated len true p cur st ns q h = of-adds len p cur st ns q h

  of-walks : (len : Bool) (base : ℕ) (w : Walk) (t : Tok) → OfTok Q t → OfWalk w → OfWalk (walks len base w t)
  of-walks len base (walk cur st g ns) (start o) q h = of-opens len cur st ns h
  of-walks len base (walk cur st g ns) (end o) q h = of-closes len cur st ns h
  of-walks len base (walk cur st g ns) (node o) q h = (tt, h)
  of-walks len base (walk cur st g ns) (prop p e) q h = of-gated len g p cur st ns q h
  of-walks len base (halted ns) t q h = h
  of-walks len base (stopped n) t q h = tt

  pub of-walked : (len : Bool) (base : ℕ) (w : Walk) (ts : List Tok) → All (OfTok Q) ts → OfWalk w → OfWalk (walked len base w ts)
  of-walked len base w [] q h = h
  of-walked len base w (t ∷ ts) q h = of-walked len base (walks len base w t) ts q.1 (of-walks len base w t q.0 h)

  abbrev pub OfReading : Trees → Type 0
  OfReading (trees_so_far n ts) = All OfTree ts
  OfReading (no_trees n) = Unit {0}

  of-rooted : (len : Bool) (base k : ℕ) (ns : List Node) (ts : List Tree) → All OfNode ns → All OfTree ts → OfReading (tree_of_nodes len base k ns ts)
  of-rooted len base k (n ∷ ns) ts h g = (all-reverse OfNode (n ∷ ns) h, g)
  of-rooted true base k [] ts h g = ((tt, tt), g)
  of-rooted false base k [] ts h g = tt

  of-grown : (len : Bool) (base k : ℕ) (w : Walk) (ts : List Tree) → OfWalk w → All OfTree ts → OfReading (tree_of_walk len base k w ts)
  of-grown len base k (walk cur st g ns) ts h t = of-rooted len base k ns ts h t
  of-grown len base k (halted ns) ts h t = of-rooted len base k ns ts h t
  of-grown len base k (stopped n) ts h t = tt

  of-kinded : (len : Bool) (base : ℕ) (k : Game) (s : List Tok) (ts : List Tree) → All (OfTok Q) s → All OfTree ts → OfReading (tree_of_game len base k s ts)
  of-kinded len base (is k) s ts h t = of-grown len base k (walked len base (walk none [] false []) s) ts (of-walked len base (walk none [] false []) s h tt) t
  of-kinded len base (no_game n) s ts h t = go len
    where
      go : (b : Bool) → OfReading (pick b (tree_of_walk true base 0 (walked len base (walk none [] false []) s) ts) (no_trees n))
      go true = of-grown true base 0 (walked len base (walk none [] false []) s) ts (of-walked len base (walk none [] false []) s h tt) t
      go false = tt

  of-grows : (len : Bool) (r : Trees) (s : List Tok) → All (OfTok Q) s → OfReading r → OfReading (parse_gametree len r s)
  of-grows len (trees_so_far base ts) s h t = of-kinded len base (find_gametype s) s ts h t
  of-grows len (no_trees n) s h t = tt

  pub of-grow_all : (len : Bool) (r : Trees) (ss : List (List Tok)) → All (All (OfTok Q)) ss → OfReading r → OfReading (parse_gametrees len r ss)
  of-grow_all len r [] h t = t
  of-grow_all len r (s ∷ ss) h t = of-grow_all len (parse_gametree len r s) ss h.1 (of-grows len r s h.0 t)

  abbrev pub OfAnswer : Answer → Type 0
  OfAnswer (refused n p) = Unit {0}
  OfAnswer (accepted ts) = All OfTree ts

  of-answer : (r : Trees) → OfReading r → OfAnswer (answer r)
  of-answer (trees_so_far n ts) h = all-reverse OfTree ts h
  of-answer (no_trees n) h = tt

  of-planted : (len : Bool) (s : Slices) → OfSlices (OfTok Q) s → OfAnswer (parse_slices len s)
  of-planted len (no n) h = tt
  of-planted len (slices ss) h = of-answer (parse_gametrees len (trees_so_far 0 []) ss) (of-grow_all len (trees_so_far 0 []) ss h tt)

  -- from the tokens to the answer
  pub of-tokens : (len : Bool) (ts : List Tok) → All (OfTok Q) ts → OfAnswer (parse_slices len (sliced len (split len (splitting 0 0 [] []) ts)))
  of-tokens len ts h =
      of-planted len (sliced len (split len (splitting 0 0 [] []) ts))
      (of-sliced (OfTok Q) len (split len (splitting 0 0 [] []) ts) (of-split (OfTok Q) len (splitting 0 0 [] []) ts h (tt, tt)))

  of-nodes : (ns : List Node) → All OfNode ns → All Q (all_props ns)
  of-nodes [] h = tt
  of-nodes (n ∷ ns) h = all_append Q n.props (all_props ns) h.0 (of-nodes ns h.1)

  of-all_nodes : (ts : List Tree) → All OfTree ts → All OfNode (all_nodes ts)
  of-all_nodes [] h = tt
  of-all_nodes (t ∷ ts) h = all_append OfNode t.nodes (all_nodes ts) h.0 (of-all_nodes ts h.1)

  pub of-trees : (ts : List Tree) → All OfTree ts → All Q (all_props (all_nodes ts))
  of-trees ts h = of-nodes (all_nodes ts) (of-all_nodes ts h)
