-- Reading back, the trees: the tokens of a tree grow that tree. Assumes nothing.
use Rattle.lists.proofs.Prelude.{◌≡◌, refl, sym, ap, ap₂, ◌∙◌, subst, ℕ, suc, ◌+◌, ◌≤◌, ◌<◌, arith, Bool, true, false, List, [], ◌∷◌, ◌++◌, map, reverse, reverse_aux, append_assoc, append-nil, eqb, length, length-map, length-reverse_aux, pick}
use Rattle.lexer.specs.Token.{Prop, Tok, Val, end, node, start}
use Rattle.lists.specs.All.{All}
use Rattle.parser.proofs.MovedKind.{move-game_props, move-named}
use Rattle.parser.specs.Game.{GM, Game, is, find_gametype, game_props, props_named, props}
use Rattle.parser.specs.Read.{Trees, parse_gametrees, trees_so_far, tree_of_walk, parse_gametree, tree_of_game, tree_of_nodes}
use Rattle.parser.proofs.Runs.{walked-append}
use Rattle.parser.specs.Walk.{Walk, walk, walked}
use Rattle.serialize_laws.proofs.Grow.{node-run, walk-nodes}
use Rattle.serialize_laws.proofs.GrowNode.{stk}
use Rattle.serialize_laws.proofs.Written.{PlainNode, tok_ends, tok_nodes, tok_opened, tok_props, tok_shuts, tok_tree}
use Rattle.serialize.proofs.Branches.{opening, Good}
use Rattle.serialize.specs.LocalsWrite.{Open, bracketed, path_left}
use Rattle.tables.specs.Numbers.{none}
use Rattle.tables.specs.Record.{Node, Tree}
use Rattle.tables.specs.Rows.{parents}
use Rattle.serialize_laws.specs.Back.{no_place, same_bytes, placeless_prop, placeless_node, placeless_tree}

-- values keep their raw bytes
pub raws-stay : (vs : List Val) → All (λ (v : Val). v.raw ≡ v.raw) vs
raws-stay [] = tt
raws-stay (v ∷ vs) = (refl, raws-stay vs)

abbrev root_of : List Prop → Node
root_of qs = record { parent = none; props = qs }

-- ---- the tree

-- a root with these properties, and the nodes after it
pub record Sound (r k : ℕ) (qs : List Prop) (ns : List Node) : Type 0 where
  pub plain : All PlainNode (root_of qs ∷ ns)
  pub single : bracketed (parents (root_of qs ∷ ns)) none ≡ false
  pub good : Good (parents (root_of qs ∷ ns)) (suc r) (opening (parents (root_of qs ∷ ns)) r none ∷ []) ns
  pub few : suc r + length ns ≤ none
  pub game-is : game_props (props_named GM qs) ≡ is k

module _ (r k : ℕ) (qs : List Prop) (ns : List Node) (s : Sound r k qs ns) where
  abbrev ps : List ℕ
  ps = parents (root_of qs ∷ ns)

  abbrev after-root : List Tok
  after-root = tok_nodes ps (suc r) (opening ps r none ∷ []) ns

  nodes-are : tok_nodes ps r [] (root_of qs ∷ ns) ≡ node 0 ∷ (tok_props qs ++ after-root)
  nodes-are = ap (λ (b : Bool). tok_opened b (node 0 ∷ (tok_props qs ++ after-root))) s.single

  abbrev slice : List Tok
  slice = start 0 ∷ (tok_nodes ps r [] (root_of qs ∷ ns) ++ (end 0 ∷ []))

  slice_is : slice ≡ start 0 ∷ ((node 0 ∷ (tok_props qs ++ after-root)) ++ (end 0 ∷ []))
  slice_is = ap (λ (z : List Tok). start 0 ∷ (z ++ (end 0 ∷ []))) nodes-are

  tree-run : (g : Bool) × (walked false r (walk none [] false []) slice ≡ walk none [] g (reverse_aux (map placeless_node ns) (placeless_node (root_of qs) ∷ [])))
  tree-run =
      let x = walk-nodes r ps (suc r) (opening ps r none ∷ []) ns (placeless_node (root_of qs) ∷ []) true s.plain.1
      (refl, refl, omega (arith, s.few), tt) refl refl (omega arith) s.few s.good in (
        false,
        ap (walked false r (walk none [] false [])) slice_is
            ∙ walked-append false r (walk none (none ∷ []) false []) (node 0 ∷ (tok_props qs ++ after-root)) (end 0 ∷ [])
            ∙ ap (λ (w : Walk). walked false r w (end 0 ∷ []))
            (node-run r ps r none (none ∷ []) false qs [] after-root s.plain.0 (omega arith)
            ∙ ap (λ (b : Bool). walked false r (walk r (stk (record { num = r; brk = b } ∷ [])) true (placeless_node (root_of qs) ∷ [])) after-root) (sym s.single)
            ∙ x.2),
      )

  -- ---- the game type

  props-shuts : (b : Bool) (ts rest : List Tok) → props (ts ++ rest) ≡ [] → props (tok_shuts b ts ++ rest) ≡ []
  props-shuts true ts rest h = refl
  props-shuts false ts rest h = h

  props-ends : (p : ℕ) (path : List Open) (rest : List Tok) → props rest ≡ [] → props (tok_ends p path ++ rest) ≡ []
  props-ends p [] rest h = h
  props-ends p (x ∷ xs) rest h = go (eqb x.num p) (props-shuts x.brk (tok_ends p xs) rest (props-ends p xs rest h))
    where
      go : (b : Bool) → props (tok_shuts x.brk (tok_ends p xs) ++ rest) ≡ [] → props (pick b [] (tok_shuts x.brk (tok_ends p xs)) ++ rest) ≡ []
      go true e = h
      go false e = e

  props-opened : (b : Bool) (ts rest : List Tok) → props (tok_opened b (node 0 ∷ ts) ++ rest) ≡ []
  props-opened true ts rest = refl
  props-opened false ts rest = refl

  props-nodes : (ps : List ℕ) (j : ℕ) (path : List Open) (ms : List Node) → props (tok_nodes ps j path ms ++ (end 0 ∷ [])) ≡ []
  props-nodes ps j path [] = props-ends none path (end 0 ∷ []) refl
  props-nodes ps j path (m ∷ ms) =
      let x : List Tok = tok_props m.props ++ tok_nodes ps (suc j) (opening ps j m.parent ∷ path_left m.parent path) ms in
      ap props (append_assoc (tok_ends m.parent path) (tok_opened (bracketed ps m.parent) (node 0 ∷ x)) (end 0 ∷ []))
      ∙ props-ends m.parent path (tok_opened (bracketed ps m.parent) (node 0 ∷ x) ++ (end 0 ∷ [])) (props-opened (bracketed ps m.parent) x (end 0 ∷ []))

  props-props : (us : List Prop) (rest : List Tok) → props rest ≡ [] → props (tok_props us ++ rest) ≡ map placeless_prop us
  props-props [] rest h = h
  props-props (u ∷ us) rest h = ap (λ (z : List Prop). placeless_prop u ∷ z) (props-props us rest h)

  fixed : (us : List Prop) → All (λ (p : Prop). All (λ (v : Val). v.raw ≡ v.raw) p.vals) us
  fixed [] = tt
  fixed (u ∷ us) = (raws-stay u.vals, fixed us)

  game-run : find_gametype slice ≡ is k
  game-run =
      ap find_gametype slice_is
      ∙ ap (λ (z : List Prop). game_props (props_named GM z))
      (ap props (append_assoc (tok_props qs) after-root (end 0 ∷ [])) ∙ props-props qs (after-root ++ (end 0 ∷ [])) (props-nodes ps (suc r) (opening ps r none ∷ []) ns))
      ∙ ap game_props (move-named no_place no_place same_bytes GM qs) ∙ move-game_props no_place no_place same_bytes (props_named GM qs) (fixed (props_named GM qs)) ∙ s.game-is

-- ---- one tree, all trees

pub reverse-reverse_aux : {A : Type 0} (xs ys zs : List A) → reverse_aux (reverse_aux xs ys) zs ≡ reverse_aux ys (xs ++ zs)
reverse-reverse_aux [] ys zs = refl
reverse-reverse_aux (x ∷ xs) ys zs = reverse-reverse_aux xs (x ∷ ys) zs

rooted-any : (base k : ℕ) (X : List Node) (us : List Tree) → 0 < length X
    → tree_of_nodes false base k X us ≡ trees_so_far (base + length X) (record { root = base; game = k; nodes = reverse X } ∷ us)
rooted-any base k [] us h = absurd (omega arith)
rooted-any base k (n ∷ ns) us h = refl

pub reads-root : (r k : ℕ) (qs : List Prop) (ns : List Node) (us : List Tree) → Sound r k qs ns
    → parse_gametree false (trees_so_far r us) (tok_tree (record { root = r; game = k; nodes = root_of qs ∷ ns }))
    ≡ trees_so_far (r + suc (length ns)) (placeless_tree (record { root = r; game = k; nodes = root_of qs ∷ ns }) ∷ us)
reads-root r k qs ns us s =
    ap (λ (z : Game). tree_of_game false r z (slice r k qs ns s) us) (game-run r k qs ns s)
    ∙ ap (λ (z : Walk). tree_of_walk false r k z us) (tree-run r k qs ns s).1
    ∙ rooted-any r k X us (omega (arith, len))
    ∙ ap₂ (λ (n : ℕ) (z : List Node). trees_so_far (r + n) (record { root = r; game = k; nodes = z } ∷ us)) (omega (arith, len))
    (reverse-reverse_aux (map placeless_node ns) (placeless_node (root_of qs) ∷ []) [] ∙ ap (λ (z : List Node). placeless_node (root_of qs) ∷ z) (append-nil (map placeless_node ns)))
  where
    X : List Node
    X = reverse_aux (map placeless_node ns) (placeless_node (root_of qs) ∷ [])

    len : length X ≡ length ns + 1
    len = length-reverse_aux (map placeless_node ns) (placeless_node (root_of qs) ∷ []) ∙ ap (λ (n : ℕ). n + 1) (length-map ns placeless_node)

abbrev pub SoundNodes : ℕ → ℕ → List Node → Type 0
SoundNodes r k [] = ⊥
SoundNodes r k (n ∷ ns) = (n.parent ≡ none) × Sound r k n.props ns

-- the trees, with roots from base on
abbrev pub SoundTrees : ℕ → List Tree → Type 0
SoundTrees base [] = Unit {0}
SoundTrees base (t ∷ ts) = (t.root ≡ base) × SoundNodes base t.game t.nodes × SoundTrees (base + length t.nodes) ts

reads-tree1 : (r k : ℕ) (ns : List Node) (us : List Tree) → SoundNodes r k ns
    → parse_gametree false (trees_so_far r us) (tok_tree (record { root = r; game = k; nodes = ns })) ≡ trees_so_far (r + length ns) (placeless_tree (record { root = r; game = k; nodes = ns }) ∷ us)
reads-tree1 r k [] us s = absurd s
reads-tree1 r k (n ∷ ns) us s =
    subst (λ (p : ℕ). parse_gametree false (trees_so_far r us) (tok_tree (record { root = r; game = k; nodes = record { parent = p; props = n.props } ∷ ns }))
    ≡ trees_so_far (r + suc (length ns)) (placeless_tree (record { root = r; game = k; nodes = record { parent = p; props = n.props } ∷ ns }) ∷ us)) (sym s.0)
    (reads-root r k n.props ns us s.1)

pub reads_all : (base : ℕ) (ts us : List Tree) → SoundTrees base ts
    → (n : ℕ) × (parse_gametrees false (trees_so_far base us) (map tok_tree ts) ≡ trees_so_far n (reverse_aux (map placeless_tree ts) us))
reads_all base [] us s = (base, refl)
reads_all base (t ∷ ts) us s =
    let x = reads_all (base + length t.nodes) ts (placeless_tree t ∷ us) s.2 in (
      x.0,
      ap (λ (z : Trees). parse_gametrees false z (map tok_tree ts))
          (subst (λ (r : ℕ). parse_gametree false (trees_so_far base us) (tok_tree (record { root = r; game = t.game; nodes = t.nodes }))
          ≡ trees_so_far (base + length t.nodes) (placeless_tree (record { root = r; game = t.game; nodes = t.nodes }) ∷ us)) (sym s.0)
          (reads-tree1 base t.game t.nodes us s.1))
          ∙ x.1,
    )
