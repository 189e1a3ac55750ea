-- The trees of an accepted reading, strict or lenient: each grew from its slice, and its root is the number of its first node. Assumes nothing.
use Rattle.lists.proofs.Prelude.{◌≡◌, refl, sym, ap, ◌∙◌, subst, ℕ, zero, suc, ◌+◌, ◌-◌, ◌^◌, ◌≤◌, ◌<◌, arith, Bool, true, false, true≢false, List, [], ◌∷◌, reverse, reverse_aux, length, length-reverse, drop}
use Rattle.lists.specs.Same.{same}
use Rattle.lists.proofs.Pick.{pick-elim}
use Rattle.lists.proofs.Tests.{never}
use Rattle.values.specs.Read.{read_value}
use Rattle.values.specs.Decimal.{decimal_of}
use Rattle.lexer.specs.Token.{Val, Prop, Tok}
use Rattle.tables.specs.Numbers.{none}
use Rattle.tables.specs.Record.{Node, Tree}
use Rattle.parser.specs.LocalsSlice.{slice_from, rest_from, first_slices}
use Rattle.parser.specs.Game.{Game, is, no_game, find_gametype, game_vals, game_props, props_named, props, GM, is_i32}
use Rattle.parser.specs.Walk.{Walk, walk, halted, stopped, walked}
use Rattle.parser.specs.Read.{Trees, trees_so_far, no_trees, tree_of_nodes, tree_of_walk, tree_of_game, parse_gametrees}
use Rattle.reader.proofs.Kinded.{fails}

-- the nodes of a walk, last first
abbrev pub nodes_of : Walk → List Node
nodes_of (walk cur st g ns) = ns
nodes_of (halted ns) = ns
nodes_of (stopped r) = []

-- the nodes of a slice, last first
abbrev pub walk_of : Bool → ℕ → List Tok → List Node
walk_of len base s = nodes_of (walked len base (walk none [] false []) s)

-- nodes, last first, as a tree has them: without any, an empty root
abbrev pub in_order : List Node → List Node
in_order [] = record { parent = none; props = [] } ∷ []
in_order (n ∷ ns) = reverse (n ∷ ns)

-- a tree of the first slice of the tokens; base: the number of its first node. Strict reading gives no empty root
pub record FromSlice (len : Bool) (base : ℕ) (us : List Tok) (t : Tree) : Type 0 where
  pub root : t.root ≡ base
  pub game : t.game ≤ 1
  pub nodes : t.nodes ≡ in_order (walk_of len base (slice_from 0 us))
  pub some : len ≡ false → 0 < length (walk_of len base (slice_from 0 us))

-- the trees of the first k slices
abbrev pub Grew : Bool → (base k : ℕ) → List Tok → List Tree → Type 0
Grew len base zero us [] = Unit {0}
Grew len base zero us (t ∷ ts) = ⊥
Grew len base (suc k) us [] = ⊥
Grew len base (suc k) us (t ∷ ts) = FromSlice len base us t × Grew len (base + length t.nodes) k (rest_from 0 us) ts

-- ---- game types

abbrev Small : Game → Type 0
Small (is k) = k ≤ 1
Small (no_game r) = Unit {0}

small-vals : (vs : List Val) → Small (game_vals vs)
small-vals [] = tt
small-vals (v ∷ []) =
    pick-elim Small (is_i32 (decimal_of (2 ^ 31 - 1) (read_value v.raw)))
    (λ _. pick-elim (λ (k : ℕ). k ≤ 1) (same (read_value v.raw) (0x31 ∷ [])) (λ _. omega arith) (λ _. omega arith)) (λ _. tt)
small-vals (v ∷ u ∷ vs) = tt

small-props : (ps : List Prop) → Small (game_props ps)
small-props [] = omega arith
small-props (p ∷ []) = small-vals p.vals
small-props (p ∷ q ∷ ps) = tt

-- ---- one tree

-- nodes ns (last first) have become one more tree; some there are, unless reading is lenient
abbrev One : Bool → (base : ℕ) → List Node → List Tree → Trees → Type 0
One len base ns ts (trees_so_far n us) =
    (t : Tree) × (us ≡ t ∷ ts) × (n ≡ base + length t.nodes) × (t.root ≡ base) × (t.game ≤ 1) × (t.nodes ≡ in_order ns) × (len ≡ false → 0 < length ns)
One len base ns ts (no_trees r) = Unit {0}

one-rooted : (len : Bool) (base k : ℕ) (ns : List Node) (ts : List Tree) → k ≤ 1 → One len base ns ts (tree_of_nodes len base k ns ts)
one-rooted len base k (n ∷ ns) ts h = (_, refl, ap (λ (z : ℕ). base + z) (sym (length-reverse (n ∷ ns))), refl, h, refl, λ _. omega arith)
one-rooted true base k [] ts h = (_, refl, omega arith, refl, h, refl, λ z. absurd (true≢false z))
one-rooted false base k [] ts h = tt

one-grown : (len : Bool) (base k : ℕ) (w : Walk) (ts : List Tree) → k ≤ 1 → One len base (nodes_of w) ts (tree_of_walk len base k w ts)
one-grown len base k (walk cur st g ns) ts h = one-rooted len base k ns ts h
one-grown len base k (halted ns) ts h = one-rooted len base k ns ts h
one-grown len base k (stopped r) ts h = tt

one-kinded : (len : Bool) (base : ℕ) (x : Game) (s : List Tok) (ts : List Tree) → Small x → One len base (walk_of len base s) ts (tree_of_game len base x s ts)
one-kinded len base (is k) s ts h = one-grown len base k (walked len base (walk none [] false []) s) ts h
one-kinded len base (no_game r) s ts h =
    let w : Walk = walked len base (walk none [] false []) s in
    pick-elim (One len base (walk_of len base s) ts) len
    (λ e. subst (λ (z : Bool). One z base (walk_of len base s) ts (tree_of_walk true base 0 w ts)) (sym e) (one-grown true base 0 w ts (omega arith))) (λ _. tt)

-- ---- all trees

pub grow-all : (len : Bool) (k : ℕ) (us : List Tok) (base : ℕ) (acc : List Tree) (n : ℕ) (all : List Tree)
    → parse_gametrees len (trees_so_far base acc) (first_slices k us) ≡ trees_so_far n all → (ts : List Tree) × (Grew len base k us ts) × (all ≡ reverse_aux ts acc)
unfolding first_slices
grow-all len zero us base acc n all e = ([], tt, cc)
grow-all len (suc k) us base acc n all e =
    go (tree_of_game len base (find_gametype (slice_from 0 us)) (slice_from 0 us) acc)
    (one-kinded len base (find_gametype (slice_from 0 us)) (slice_from 0 us) acc (small-props (props_named GM (props (drop 2 (slice_from 0 us)))))) e (grow-all len k (rest_from 0 us))
  where
    go : (x : Trees) → One len base (walk_of len base (slice_from 0 us)) acc x → parse_gametrees len x (first_slices k (rest_from 0 us)) ≡ trees_so_far n all
        → ((b : ℕ) (a : List Tree) (n : ℕ) (all : List Tree) → parse_gametrees len (trees_so_far b a) (first_slices k (rest_from 0 us)) ≡ trees_so_far n all
        → (ts : List Tree) × (Grew len b k (rest_from 0 us) ts) × (all ≡ reverse_aux ts a))
        → (ts : List Tree) × (Grew len base (suc k) us ts) × (all ≡ reverse_aux ts acc)
    go (trees_so_far m vs) (t, a, b, c, d, f, j) q more =
        let z : parse_gametrees len (trees_so_far (base + length t.nodes) (t ∷ acc)) (first_slices k (rest_from 0 us)) ≡ trees_so_far n all = rw (← a, ← b) q in
        let r = more (base + length t.nodes) (t ∷ acc) n all z in
        (t ∷ r.0, (record { root = c; game = d; nodes = f; some = j }, r.1), r.2)
    go (no_trees r) h q more = never (let z : no_trees r ≡ trees_so_far n all = sym (fails len r (first_slices k (rest_from 0 us))) ∙ q in cc)
