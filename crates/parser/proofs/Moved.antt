-- Tokens with their places moved: the same answer, with its places moved. What a token says besides its places decides the answer. Assumes nothing.
use Rattle.lists.proofs.Prelude.{◌≡◌, refl, ap, ◌∙◌, ℕ, Bool, true, false, ◌||◌, List, [], ◌∷◌, map, map-append, eqb, length-map, pick}
use Rattle.lexer_laws.proofs.Invariant.{OfTok}
use Rattle.lexer.specs.Move.{move_prop, move_tok}
use Rattle.lexer.specs.Token.{Prop, Tok, end, node, prop, start}
use Rattle.lists.specs.All.{All}
use Rattle.parser.proofs.Lift.{OfSlices, of-sliced, of-split}
use Rattle.parser.proofs.MovedKind.{GmStays, move-game}
use Rattle.parser.proofs.MovedSlices.{map-reverse, move_slices, move-split, move-sliced}
use Rattle.parser.specs.Game.{Game, is, find_gametype, no_game}
use Rattle.parser.specs.Read.{Answer, Trees, accepted, answer, no_trees, parse_gametrees, trees_so_far, tree_of_walk, parse_gametree, tree_of_game, parse_slices, refused, tree_of_nodes}
use Rattle.parser.specs.Split.{Slices, no, sliced, slices, split, splitting}
use Rattle.parser.specs.Walk.{Walk, adds, children, closes, gated, halted, opens, refuse, stopped, walk, walked, walks}
use Rattle.tables.specs.Move.{move_node, move_tree}
use Rattle.tables.specs.Numbers.{none}
use Rattle.tables.specs.Record.{Node, Tree}
use Rattle.tables.specs.declared.Reason.{Reason}
use Rattle.tables.specs.declared.Reason.TheVariants.{UnexpectedGameTreeEnd, UnexpectedGameTreeStart, UnexpectedProperty}

module _ (f g : ℕ → ℕ) (h : ℕ → List ℕ → List ℕ) where
  abbrev F : Tok → Tok
  F = move_tok f g h

  -- ---- trees

  abbrev N : Node → Node
  N = move_node f g h

  abbrev move_walk : Walk → Walk
  move_walk (walk cur st t ns) = walk cur st t (map N ns)
  move_walk (halted ns) = halted (map N ns)
  move_walk (stopped n) = stopped n

  move-children : (p : ℕ) (ns : List Node) → children p (map N ns) ≡ children p ns
  move-children p [] = refl
  move-children p (n ∷ ns) = ap (λ (z : Bool). eqb n.parent p || z) (move-children p ns)

  move-refuse : (len : Bool) (n : Reason) (ns : List Node) → refuse len n (map N ns) ≡ move_walk (refuse len n ns)
  move-refuse true n ns = refl
  move-refuse false n ns = refl

  move-opens : (len : Bool) (cur : ℕ) (st : List ℕ) (ns : List Node) → opens len cur st (map N ns) ≡ move_walk (opens len cur st ns)
  move-opens len cur [] ns = refl
  move-opens len cur (p ∷ st) ns = rw (move-children p ns) (go (children p ns))
    where
      go : (b : Bool) → pick b (walk cur (cur ∷ p ∷ st) false (map N ns)) (refuse len UnexpectedGameTreeStart (map N ns)) ≡ move_walk (pick b (walk cur (cur ∷ p ∷ st) false ns) (refuse len UnexpectedGameTreeStart ns))
      go true = refl
      go false = move-refuse len UnexpectedGameTreeStart ns

  move-closes : (len : Bool) (cur : ℕ) (st : List ℕ) (ns : List Node) → closes len cur st (map N ns) ≡ move_walk (closes len cur st ns)
  move-closes len cur [] ns = move-refuse len UnexpectedGameTreeEnd ns
  move-closes len cur (p ∷ st) ns = refl

  move-adds : (len : Bool) (p : Prop) (cur : ℕ) (st : List ℕ) (ns : List Node) → adds len (move_prop f g h p) cur st (map N ns) ≡ move_walk (adds len p cur st ns)
  move-adds len p cur st [] = move-refuse len UnexpectedProperty []
  move-adds len p cur st (n ∷ ns) = rw (map-append (move_prop f g h) n.props (p ∷ []))

  move-gated : (len t : Bool) (p : Prop) (cur : ℕ) (st : List ℕ) (ns : List Node) → gated len t (move_prop f g h p) cur st (map N ns) ≡ move_walk (gated len t p cur st ns)
  move-gated len false p cur st ns = move-refuse len UnexpectedProperty ns
  move-gated len true p cur st ns = move-adds len p cur st ns

  move-walks : (len : Bool) (base : ℕ) (w : Walk) (t : Tok) → walks len base (move_walk w) (F t) ≡ move_walk (walks len base w t)
  move-walks len base (walk cur st t ns) (start o) = move-opens len cur st ns
  move-walks len base (walk cur st t ns) (end o) = move-closes len cur st ns
  move-walks len base (walk cur st t ns) (node o) = rw (length-map ns N)
  move-walks len base (walk cur st t ns) (prop p e) = move-gated len t p cur st ns
  move-walks len base (halted ns) t = refl
  move-walks len base (stopped n) t = refl

  move-walked : (len : Bool) (base : ℕ) (w : Walk) (ts : List Tok) → walked len base (move_walk w) (map F ts) ≡ move_walk (walked len base w ts)
  move-walked len base w [] = refl
  move-walked len base w (t ∷ ts) = ap (λ (z : Walk). walked len base z (map F ts)) (move-walks len base w t) ∙ move-walked len base (walks len base w t) ts

  abbrev move_reading : Trees → Trees
  move_reading (trees_so_far n ts) = trees_so_far n (map (move_tree f g h) ts)
  move_reading (no_trees n) = no_trees n

  move-rooted : (len : Bool) (base k : ℕ) (ns : List Node) (ts : List Tree)
      → tree_of_nodes len base k (map N ns) (map (move_tree f g h) ts) ≡ move_reading (tree_of_nodes len base k ns ts)
  move-rooted len base k (n ∷ ns) ts = rw (length-map ns N, map-reverse N (n ∷ ns))
  move-rooted true base k [] ts = refl
  move-rooted false base k [] ts = refl

  move-grown : (len : Bool) (base k : ℕ) (w : Walk) (ts : List Tree)
      → tree_of_walk len base k (move_walk w) (map (move_tree f g h) ts) ≡ move_reading (tree_of_walk len base k w ts)
  move-grown len base k (walk cur st t ns) ts = move-rooted len base k ns ts
  move-grown len base k (halted ns) ts = move-rooted len base k ns ts
  move-grown len base k (stopped n) ts = refl

  move-kinded : (len : Bool) (base : ℕ) (k : Game) (s : List Tok) (ts : List Tree)
      → tree_of_game len base k (map F s) (map (move_tree f g h) ts) ≡ move_reading (tree_of_game len base k s ts)
  move-kinded len base (is k) s ts =
      rw (move-walked len base (walk none [] false []) s) (move-grown len base k (walked len base (walk none [] false []) s) ts)
  move-kinded len base (no_game n) s ts = go len
    where
      go : (b : Bool) → pick b (tree_of_walk true base 0 (walked len base (walk none [] false []) (map F s)) (map (move_tree f g h) ts)) (no_trees n)
          ≡ move_reading (pick b (tree_of_walk true base 0 (walked len base (walk none [] false []) s) ts) (no_trees n))
      go true = rw (move-walked len base (walk none [] false []) s) (move-grown true base 0 (walked len base (walk none [] false []) s) ts)
      go false = refl

  move-grows : (len : Bool) (r : Trees) (s : List Tok) → All (OfTok (GmStays f g h)) s → parse_gametree len (move_reading r) (map F s) ≡ move_reading (parse_gametree len r s)
  move-grows len (trees_so_far base ts) s k = rw (move-game f g h s k) (move-kinded len base (find_gametype s) s ts)
  move-grows len (no_trees n) s k = refl

  move-grow_all : (len : Bool) (r : Trees) (ss : List (List Tok)) → All (All (OfTok (GmStays f g h))) ss
      → parse_gametrees len (move_reading r) (map (map F) ss) ≡ move_reading (parse_gametrees len r ss)
  move-grow_all len r [] k = refl
  move-grow_all len r (s ∷ ss) k = ap (λ (z : Trees). parse_gametrees len z (map (map F) ss)) (move-grows len r s k.0) ∙ move-grow_all len (parse_gametree len r s) ss k.1

  abbrev pub move_answer : Answer → Answer
  move_answer (refused n p) = refused n p
  move_answer (accepted ts) = accepted (map (move_tree f g h) ts)

  move-answer : (r : Trees) → answer (move_reading r) ≡ move_answer (answer r)
  move-answer (trees_so_far n ts) = rw (map-reverse (move_tree f g h) ts)
  move-answer (no_trees n) = refl

  move-planted : (len : Bool) (s : Slices) → OfSlices (OfTok (GmStays f g h)) s → parse_slices len (move_slices f g h s) ≡ move_answer (parse_slices len s)
  move-planted len (no n) k = refl
  move-planted len (slices ss) k = rw (move-grow_all len (trees_so_far 0 []) ss k) (move-answer (parse_gametrees len (trees_so_far 0 []) ss))

  -- the answer after a move
  pub move-tokens : (len : Bool) (ts : List Tok) → All (OfTok (GmStays f g h)) ts
      → parse_slices len (sliced len (split len (splitting 0 0 [] []) (map F ts)))
      ≡ move_answer (parse_slices len (sliced len (split len (splitting 0 0 [] []) ts)))
  move-tokens len ts k =
      rw (move-split f g h len (splitting 0 0 [] []) ts, move-sliced f g h len (split len (splitting 0 0 [] []) ts))
      (move-planted len (sliced len (split len (splitting 0 0 [] []) ts))
      (of-sliced (OfTok (GmStays f g h)) len (split len (splitting 0 0 [] []) ts) (of-split (OfTok (GmStays f g h)) len (splitting 0 0 [] []) ts k (tt, tt))))
