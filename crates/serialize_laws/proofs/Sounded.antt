-- Reading back: a slice that begins with `(` and that strict reading accepts gives a tree as the writer asks it. Assumes nothing.
use Rattle.lists.proofs.Prelude.{◌≡◌, refl, sym, ap, ap₂, ◌∙◌, subst, ℕ, zero, suc, ◌+◌, ◌≤◌, arith, zero-add, false, List, [], ◌∷◌, reverse, reverse_aux, append-nil, length, length-reverse, drop, lt-leb, ne_eqb}
use Rattle.lexer.specs.Token.{Prop, Tok, end, node, prop, start}
use Rattle.lists.specs.All.{All}
use Rattle.lists.proofs.Tests.{never}
use Rattle.parser.specs.Game.{GM, Game, is, find_gametype, game_props, props_named, props, no_game}
use Rattle.parser.specs.Read.{Trees, no_trees, parse_gametrees, trees_so_far, tree_of_walk, parse_gametree, tree_of_game, tree_of_nodes}
use Rattle.parser.specs.Walk.{Walk, halted, stopped, walk, walked}
use Rattle.serialize_laws.proofs.Closing.{Closes, SliceOk}
use Rattle.serialize_laws.proofs.Nested.{DescP, FInv, GoodR, desc-left, on-less, path_r, w-slice}
use Rattle.serialize_laws.proofs.InOrder.{good-nodes, good-tail}
use Rattle.serialize_laws.proofs.Regrow.{reverse-reverse_aux}
use Rattle.serialize_laws.proofs.RootProps.{RootIs, root-slice, root_props}
use Rattle.serialize_laws.proofs.Sizes.{AtMost, most-walked, total}
use Rattle.serialize.proofs.Branches.{opening, Good}
use Rattle.serialize.specs.LocalsWrite.{bracketed, times}
use Rattle.tables.specs.Numbers.{none}
use Rattle.tables.specs.Record.{Node, Tree}
use Rattle.tables.specs.Rows.{parents}
use Rattle.tables.specs.declared.Reason.{Reason}
use Rattle.tables.specs.declared.Reason.TheVariants.{UnexpectedEndOfData}
use Rattle.serialize_laws.proofs.Opening.{Leads}

-- ---- nodes

-- what is asked of a tree's nodes, the properties' contents aside
pub record Pre (r k : ℕ) (qs : List Prop) (ns : List Node) : Type 0 where
  pub single : bracketed (none ∷ parents ns) none ≡ false
  pub good : Good (none ∷ parents ns) (suc r) (opening (none ∷ parents ns) r none ∷ []) ns
  pub few : suc r + length ns ≤ none
  pub game-is : game_props (props_named GM qs) ≡ is k

abbrev pub PreNodes : ℕ → ℕ → List Node → Type 0
PreNodes r k [] = ⊥
PreNodes r k (n ∷ ns) = (n.parent ≡ none) × Pre r k n.props ns

abbrev pub PreTrees : ℕ → List Tree → Type 0
PreTrees base [] = Unit {0}
PreTrees base (t ∷ ts) = (t.root ≡ base) × PreNodes base t.game t.nodes × PreTrees (base + length t.nodes) ts

-- no later node is without parent
no_none : (base : ℕ) (ns : List Node) (d : Node) (ds : List Node) → GoodR base (reverse_aux ns (d ∷ ds)) → DescP (base + suc (length ds)) (path_r base (d ∷ ds))
    → base + suc (length ds) + length ns ≤ none → times none (parents ns) ≡ 0
no_none base [] d ds h p l = refl
no_none base (n ∷ ns) d ds h p l =
    let t = good-tail base ns (n ∷ d ∷ ds) (omega arith) h in
    let lt = on-less (base + suc (length ds)) n.parent (path_r base (d ∷ ds)) p t.0 in
    rw (ne_eqb n.parent none (λ e. omega (arith, lt)))
    (no_none base ns n (d ∷ ds) h (omega arith, desc-left (base + suc (length ds)) n.parent (path_r base (d ∷ ds)) p) (omega arith))

root-last : (n : Node) (ns : List Node) (ds : List Node) → root_props (reverse_aux ns (n ∷ ds)) ≡ root_props (n ∷ ds)
root-last n [] ds = refl
root-last n (m ∷ ns) ds = root-last m ns (n ∷ ds)

-- the nodes in order, from the nodes last first
pub pre-nodes : (base k : ℕ) (x : Node) (xs : List Node) → GoodR base (reverse_aux (x ∷ xs) []) → base + length (x ∷ xs) ≤ none
    → game_props (props_named GM x.props) ≡ is k → PreNodes base k (x ∷ xs)
pre-nodes base k x xs h l e =
    let ps : List ℕ = none ∷ parents xs in
    let z = no_none base xs x [] h (omega arith, tt) (omega arith) in
    let one : base + suc zero ≡ suc base = omega arith in (
      good-tail base xs (x ∷ []) (omega arith) h,
      record {
        single = lt-leb 2 (times none ps) (omega (arith, z));
        good = subst (λ (j : ℕ). Good ps j (opening ps base none ∷ []) xs) one
            (good-nodes base ps (opening ps base none ∷ []) xs x [] h (ap (λ (j : ℕ). j ∷ []) (omega arith)));
        few = omega arith;
        game-is = e;
      },
    )

pre-root : (base k : ℕ) (xs : List Node) (qs : List Prop) → GoodR base (reverse_aux xs []) → base + length xs ≤ none → root_props (reverse_aux xs []) ≡ qs
    → game_props (props_named GM qs) ≡ is k → PreNodes base k xs
pre-root base k [] qs h l r e = h
pre-root base k (x ∷ xs) qs h l r e = pre-nodes base k x xs h l (ap (λ (q : List Prop). game_props (props_named GM q)) (sym (root-last x xs []) ∙ r) ∙ e)

-- ---- a slice, and all slices

failed : {A : Type 0} (n : Reason) (m : ℕ) (vs : List Tree) → no_trees n ≡ trees_so_far m vs → A
failed n m vs e = never cc

record Planted (base : ℕ) (s : List Tok) (us : List Tree) (n : ℕ) (vs : List Tree) : Type 0 where
  t : Tree
  vs-is : vs ≡ t ∷ us
  n-is : n ≡ base + length t.nodes
  root_is : t.root ≡ base
  pre : PreNodes base t.game t.nodes
  small : length t.nodes ≤ length s

pub back-again : {A : Type 0} (xs : List A) → reverse_aux (reverse xs) [] ≡ xs
back-again xs = reverse-reverse_aux xs [] [] ∙ append-nil xs

module _ (base o : ℕ) (ts : List Tok) (us : List Tree) (n : ℕ) (vs : List Tree) where
  abbrev s : List Tok
  s = start o ∷ ts

  planted-nodes : (k : ℕ) (d : Node) (ds : List Node) → GoodR base (d ∷ ds) → root_props (d ∷ ds) ≡ props (drop 2 s) → length (d ∷ ds) ≤ length s
      → find_gametype s ≡ is k → base + length s ≤ none → tree_of_nodes false base k (d ∷ ds) us ≡ trees_so_far n vs → Planted base s us n vs
  planted-nodes k d ds g r m e l h =
      let t : Tree = record { root = base; game = k; nodes = reverse (d ∷ ds) } in
      let h2 : trees_so_far (base + length (d ∷ ds)) (t ∷ us) ≡ trees_so_far n vs = h in
      let e1 : base + length (d ∷ ds) ≡ n = cc in
      let e2 : t ∷ us ≡ vs = cc in
      let lr : length (reverse (d ∷ ds)) ≡ length (d ∷ ds) = length-reverse (d ∷ ds) in
      let b : d ∷ ds ≡ reverse_aux (reverse (d ∷ ds)) [] = sym (back-again (d ∷ ds)) in
      record {
        t = t;
        vs-is = sym e2;
        n-is = omega (arith, e1, lr);
        root_is = refl;
        pre = pre-root base k (reverse (d ∷ ds)) (props (drop 2 s)) (subst (GoodR base) b g) (omega (arith, lr)) (ap root_props (sym b) ∙ r) e;
        small = omega (arith, lr);
      }

  planted-walk : (k : ℕ) (w : Walk) → FInv base w → RootIs (props (drop 2 s)) w → AtMost (length s) w → find_gametype s ≡ is k → base + length s ≤ none
      → tree_of_walk false base k w us ≡ trees_so_far n vs → Planted base s us n vs
  planted-walk k (walk cur st g []) f r m e l h = failed UnexpectedEndOfData n vs h
  planted-walk k (walk cur st g (d ∷ ds)) f r m e l h = planted-nodes k d ds f.0 r m e l h
  planted-walk k (halted ns) f r m e l h = absurd f
  planted-walk k (stopped j) f r m e l h = failed j n vs h

  planted-slice : Closes 0 ts → base + length s ≤ none → parse_gametree false (trees_so_far base us) s ≡ trees_so_far n vs → Planted base s us n vs
  planted-slice k l h = go (find_gametype s) refl h
    where
      go : (x : Game) → find_gametype s ≡ x → tree_of_game false base x s us ≡ trees_so_far n vs → Planted base s us n vs
      go (is j) e q =
          planted-walk j (walked false base (walk none [] false []) s) (w-slice base o ts k) (root-slice base o ts k)
          (subst (λ (z : ℕ). AtMost z (walked false base (walk none [] false []) s)) (zero-add (length s)) (most-walked base 0 (walk none [] false []) s (omega arith))) e l q
      go (no_game j) e q = failed j n vs q

failing-all : (j : Reason) (ss : List (List Tok)) → parse_gametrees false (no_trees j) ss ≡ no_trees j
failing-all j [] = refl
failing-all j (s ∷ ss) = failing-all j ss

abbrev pub Grown : ℕ → List (List Tok) → List Tree → List Tree → Type 0
Grown base ss us vs = (ws : List Tree) × (vs ≡ reverse_aux ws us) × PreTrees base ws × (length ws ≡ length ss)

-- one tree more
grown-more : (base n : ℕ) (s : List Tok) (ss : List (List Tok)) (us vs : List Tree) (n1 : ℕ) (vs1 : List Tree) → Planted base s us n1 vs1
    → parse_gametrees false (trees_so_far n1 vs1) ss ≡ trees_so_far n vs → base + (length s + total ss) ≤ none
    → ((b : ℕ) (t : Tree) → b + total ss ≤ none → parse_gametrees false (trees_so_far b (t ∷ us)) ss ≡ trees_so_far n vs → Grown b ss (t ∷ us) vs) → Grown base (s ∷ ss) us vs
grown-more base n s ss us vs n1 vs1 p q l k =
    let t : Tree = p.t in
    let q2 : parse_gametrees false (trees_so_far (base + length t.nodes) (t ∷ us)) ss ≡ trees_so_far n vs =
    ap₂ (λ (x : ℕ) (y : List Tree). parse_gametrees false (trees_so_far x y) ss) (sym p.n-is) (sym p.vs-is) ∙ q in
    let r = k (base + length t.nodes) t (omega (arith, p.small)) q2 in
    (t ∷ r.0, r.1, (p.root_is, p.pre, r.2), ap suc r.3)

pub all-trees : (base : ℕ) (ss : List (List Tok)) (us : List Tree) (n : ℕ) (vs : List Tree) → All Leads ss → All SliceOk ss → base + total ss ≤ none
    → parse_gametrees false (trees_so_far base us) ss ≡ trees_so_far n vs → Grown base ss us vs
all-trees base [] us n vs b k l h = let e : us ≡ vs = cc in ([], sym e, tt, refl)
all-trees base ([] ∷ ss) us n vs b k l h = absurd b.0
all-trees base ((end o ∷ ts) ∷ ss) us n vs b k l h = absurd b.0
all-trees base ((node o ∷ ts) ∷ ss) us n vs b k l h = absurd b.0
all-trees base ((prop p e ∷ ts) ∷ ss) us n vs b k l h = absurd b.0
all-trees base ((start o ∷ ts) ∷ ss) us n vs b k l h =
    go (parse_gametree false (trees_so_far base us) (start o ∷ ts)) refl h (λ x t m q. all-trees x ss (t ∷ us) n vs b.1 k.1 m q)
  where
    go : (r : Trees) → parse_gametree false (trees_so_far base us) (start o ∷ ts) ≡ r → parse_gametrees false r ss ≡ trees_so_far n vs
        → ((x : ℕ) (t : Tree) → x + total ss ≤ none → parse_gametrees false (trees_so_far x (t ∷ us)) ss ≡ trees_so_far n vs → Grown x ss (t ∷ us) vs) → Grown base ((start o ∷ ts) ∷ ss) us vs
    go (trees_so_far n1 vs1) e q f = grown-more base n (start o ∷ ts) ss us vs n1 vs1 (planted-slice base o ts us n1 vs1 k.0 (omega arith) e) q l f
    go (no_trees j) e q f = failed j n vs (sym (failing-all j ss) ∙ q)
