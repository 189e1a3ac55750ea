-- The mended nodes stand in order as the nodes of the reading do: parents stay. Assumes nothing.
use Rattle.lists.proofs.Prelude.{◌≡◌, refl, sym, ◌∙◌, subst, ℕ, ◌+◌, ◌≤◌, arith, Bool, false, List, [], ◌∷◌, ◌++◌, map, reverse_aux, length, length-map, length-append}
use Rattle.lists.specs.All.{All}
use Rattle.lists.proofs.All.{all_append, all_left, all_right}
use Rattle.lexer_laws.proofs.Proper.{HasProper}
use Rattle.tables.specs.Numbers.{none}
use Rattle.tables.specs.Record.{Node, Tree, all_nodes, all_props}
use Rattle.serialize_laws.specs.Same.{Pairs}
use Rattle.serialize_laws.proofs.Inked.{ValidNode, ValidTree}
use Rattle.serialize_laws.proofs.Nested.{OnN, path_r, GoodR}
use Rattle.serialize_laws.proofs.Sounded.{PreNodes, PreTrees, pre-nodes}
use Rattle.serialize_laws.proofs.Written.{PlainNode, PlainTree}
use Rattle.salvage_mend.specs.Mend.{root_game, kept_game, gms_bad, mend_node, mend_nodes, mend_tree}
use Rattle.salvage_mend.proofs.Games.{game-kept}
use Rattle.salvage_laws.proofs.MendedProps.{plain-props, valid-props}

-- ---- order goes by parents alone

abbrev OneParent : Node → Node → Type 0
OneParent n m = m.parent ≡ n.parent

pairs-length : (xs ys : List Node) → Pairs OneParent xs ys → length ys ≡ length xs
pairs-length [] [] h = refl
pairs-length [] (y ∷ ys) h = absurd h
pairs-length (x ∷ xs) [] h = absurd h
pairs-length (x ∷ xs) (y ∷ ys) h = let r = pairs-length xs ys h.1 in omega arith

module _ (base : ℕ) where
  path-pairs : (xs ys : List Node) → Pairs OneParent xs ys → path_r base ys ≡ path_r base xs
  path-pairs [] [] h = refl
  path-pairs [] (y ∷ ys) h = absurd h
  path-pairs (x ∷ xs) [] h = absurd h
  path-pairs (x ∷ xs) (y ∷ ys) h = rw (pairs-length xs ys h.1, h.0, path-pairs xs ys h.1)

  good-pairs : (xs ys : List Node) → Pairs OneParent xs ys → GoodR base xs → GoodR base ys
  good-pairs [] ys h g = absurd g
  good-pairs (x ∷ xs) [] h g = absurd h
  good-pairs (x ∷ []) (y ∷ []) h g = h.0 ∙ g
  good-pairs (x ∷ []) (y ∷ z ∷ ys) h g = absurd h.1
  good-pairs (x ∷ w ∷ xs) (y ∷ []) h g = absurd h.1
  good-pairs (x ∷ w ∷ xs) (y ∷ z ∷ ys) h g = (
    subst (λ (c : ℕ). OnN c (path_r base (z ∷ ys))) (sym h.0) (subst (OnN x.parent) (sym (path-pairs (w ∷ xs) (z ∷ ys) h.1)) g.0),
    good-pairs (w ∷ xs) (z ∷ ys) h.1 g.1,
  )

pairs-reverse : (xs ys us vs : List Node) → Pairs OneParent xs ys → Pairs OneParent us vs → Pairs OneParent (reverse_aux xs us) (reverse_aux ys vs)
pairs-reverse [] [] us vs h a = a
pairs-reverse [] (y ∷ ys) us vs h a = absurd h
pairs-reverse (x ∷ xs) [] us vs h a = absurd h
pairs-reverse (x ∷ xs) (y ∷ ys) us vs h a = pairs-reverse xs ys (x ∷ us) (y ∷ vs) h.1 (h.0, a)

pairs-mended : (ns : List Node) → Pairs OneParent ns (map (mend_node false) ns)
pairs-mended [] = tt
pairs-mended (n ∷ ns) = (refl, pairs-mended ns)

-- ---- the mended nodes

length-mended : (bad : Bool) (ns : List Node) → length (mend_nodes bad ns) ≡ length ns
length-mended bad [] = refl
length-mended bad (n ∷ ns) = let h = length-map ns (mend_node false) in omega arith

pre-mended : (base : ℕ) (ns : List Node) → GoodR base (reverse_aux ns []) → base + length ns ≤ none
    → PreNodes base (kept_game (root_game ns)) (mend_nodes (gms_bad (root_game ns)) ns)
pre-mended base [] g b = absurd g
pre-mended base (n ∷ ns) g b =
    let bad : Bool = gms_bad (root_game (n ∷ ns)) in
    let m : Node = mend_node bad n in
    pre-nodes base (kept_game (root_game (n ∷ ns))) (mend_node (gms_bad (root_game (n ∷ ns))) n) (map (mend_node false) ns)
    (good-pairs base (reverse_aux (n ∷ ns) []) (reverse_aux (m ∷ map (mend_node false) ns) [])
    (pairs-reverse (n ∷ ns) (m ∷ map (mend_node false) ns) [] [] (refl, pairs-mended ns) tt) g)
    (omega (arith, length-map ns (mend_node false)))
    (game-kept n.props)

-- ---- the mended trees

-- the trees' roots are the numbers of their first nodes, from base on
abbrev pub Roots : ℕ → List Tree → Type 0
Roots base [] = Unit {0}
Roots base (t ∷ ts) = (t.root ≡ base) × Roots (base + length t.nodes) ts

-- the nodes of a tree, last first, stand in order
abbrev pub InOrder : Tree → Type 0
InOrder t = GoodR t.root (reverse_aux t.nodes [])

pub pre-trees : (base : ℕ) (ts : List Tree) → Roots base ts → All InOrder ts → base + length (all_nodes ts) ≤ none → PreTrees base (map mend_tree ts)
pre-trees base [] r o b = tt
pre-trees base (t ∷ ts) r o b =
    let l : length (mend_tree t).nodes ≡ length t.nodes = length-mended (gms_bad (root_game t.nodes)) t.nodes in
    let a = length-append t.nodes (all_nodes ts) in (
      r.0,
      pre-mended base t.nodes (subst (λ (k : ℕ). GoodR k (reverse_aux t.nodes [])) r.0 o.0) (omega arith),
      subst (λ (k : ℕ). PreTrees (base + k) (map mend_tree ts)) (sym l) (pre-trees (base + length t.nodes) ts r.1 o.1 (omega arith)),
    )

-- ---- properties

plain-rest : (ns : List Node) → All HasProper (all_props ns) → All PlainNode (map (mend_node false) ns)
plain-rest [] h = tt
plain-rest (n ∷ ns) h = (plain-props false n.props (all_left HasProper n.props (all_props ns) h), plain-rest ns (all_right HasProper n.props (all_props ns) h))

plain-nodes : (bad : Bool) (ns : List Node) → All HasProper (all_props ns) → All PlainNode (mend_nodes bad ns)
plain-nodes bad [] h = tt
plain-nodes bad (n ∷ ns) h = (plain-props bad n.props (all_left HasProper n.props (all_props ns) h), plain-rest ns (all_right HasProper n.props (all_props ns) h))

valid-rest : (ns : List Node) → All HasProper (all_props ns) → All ValidNode (map (mend_node false) ns)
valid-rest [] h = tt
valid-rest (n ∷ ns) h = (valid-props false n.props (all_left HasProper n.props (all_props ns) h), valid-rest ns (all_right HasProper n.props (all_props ns) h))

valid-nodes : (bad : Bool) (ns : List Node) → All HasProper (all_props ns) → All ValidNode (mend_nodes bad ns)
valid-nodes bad [] h = tt
valid-nodes bad (n ∷ ns) h = (valid-props bad n.props (all_left HasProper n.props (all_props ns) h), valid-rest ns (all_right HasProper n.props (all_props ns) h))

-- the properties of the first tree, and of the others
props-first : (ns ms : List Node) → All HasProper (all_props (ns ++ ms)) → All HasProper (all_props ns) × All HasProper (all_props ms)
props-first [] ms h = (tt, h)
props-first (n ∷ ns) ms h =
    let r = props-first ns ms (all_right HasProper n.props (all_props (ns ++ ms)) h) in
    (all_append HasProper n.props (all_props ns) (all_left HasProper n.props (all_props (ns ++ ms)) h) r.0, r.1)

pub plain-trees : (ts : List Tree) → All HasProper (all_props (all_nodes ts)) → All PlainTree (map mend_tree ts)
plain-trees [] h = tt
plain-trees (t ∷ ts) h =
    let r = props-first t.nodes (all_nodes ts) h in
    (plain-nodes (gms_bad (root_game t.nodes)) t.nodes r.0, plain-trees ts r.1)

pub valid-trees : (ts : List Tree) → All HasProper (all_props (all_nodes ts)) → All ValidTree (map mend_tree ts)
valid-trees [] h = tt
valid-trees (t ∷ ts) h =
    let r = props-first t.nodes (all_nodes ts) h in
    (valid-nodes (gms_bad (root_game t.nodes)) t.nodes r.0, valid-trees ts r.1)
