-- Lent tables that have the rows of an accepted reading: roots, parents and game types fit. Assumes nothing.
use Rattle.lists.proofs.Prelude.{◌≡◌, refl, sym, ap, ap₂, ◌∙◌, subst, ℕ, suc, ◌+◌, ◌≤◌, ◌<◌, arith, true, List, [], ◌∷◌, ◌++◌, reverse_aux, head-eq_of_cons-eq, tail-eq_of_cons-eq, length, length-append, length-reverse, eq-eqb, ne_eqb, le-leb, Bool}
use Rattle.lists.specs.All.{All}
use Rattle.lists.specs.Same.{same}
use Rattle.tables.specs.Numbers.{none}
use Rattle.tables.specs.Record.{Node, Tree, all_nodes}
use Rattle.tables.specs.Rows.{TreeRow, NodeRow, tree_rows, node_rows, parents}
use Rattle.tables.specs.Columns.{root_at, game_at, parent_at}
use Rattle.tables.specs.Each.{each, tabulate}
use Rattle.fit_nodes.specs.Nodes.{orphans, roots_right, parent_right, game_right}
use Rattle.fit.specs.Record.{tree_row, node_row}
use Rattle.tables.proofs.Cases.{below_or}
use Rattle.lists.proofs.Tests.{same_or}
use Rattle.tables.proofs.Each.{each_all}
use Rattle.fit.proofs.Recorded.{Rooted}
use Rattle.parser.specs.LocalsSlice.{slice_from}
use Rattle.reader_laws.proofs.Grown.{in_order, walk_of}
use Rattle.reader_laws.proofs.Accepted.{Reading}
use Rattle.reader_laws.proofs.Firsts.{Child, RootFirst, reading-first}
use Rattle.reader_laws.proofs.Paths.{Agrees, Rule, walk-ruled}
use Rattle.reader_laws.proofs.Recorded.{grew-rooted}
use Rattle.reader_laws.proofs.Sizes.{each-tree, nodes-most}

-- the table has the parents of the nodes from b on
abbrev Has : List ℕ → ℕ → List Node → Type 0
Has nd b [] = Unit {0}
Has nd b (n ∷ ns) = (parent_at nd b ≡ n.parent) × Has nd (suc b) ns

has-rows : (nd qs : List ℕ) (f b : ℕ) (ns : List Node) → tabulate (node_row nd) b (length ns) ≡ node_rows qs b f ns → Has nd b ns
unfolding tabulate
has-rows nd qs f b [] e = tt
has-rows nd qs f b (n ∷ ns) e =
    (ap (λ (z : NodeRow). z.parent) (head-eq_of_cons-eq e), has-rows nd qs (f + length n.props) (suc b) ns (tail-eq_of_cons-eq e))

has_split : (nd : List ℕ) (b : ℕ) (xs ys : List Node) → Has nd b (xs ++ ys) → Has nd b xs × Has nd (b + length xs) ys
has_split nd b [] ys h = let e : b + 0 ≡ b = omega arith in (tt, rw e h)
has_split nd b (x ∷ xs) ys h =
    let r = has_split nd (suc b) xs ys h.1 in
    let e : suc b + length xs ≡ b + suc (length xs) = omega arith in
    ((h.0, r.0), subst (λ (z : ℕ). Has nd z ys) e r.1)

-- ---- parents

has-agrees : (nd : List ℕ) (b : ℕ) (ns acc : List Node) → Has nd b (reverse_aux ns acc) → Agrees nd b ns × Has nd (b + length ns) acc
has-agrees nd b [] acc h = let e : b + 0 ≡ b = omega arith in (tt, rw e h)
has-agrees nd b (n ∷ ns) acc h =
    let r = has-agrees nd b ns (n ∷ acc) h in
    let e : suc (b + length ns) ≡ b + suc (length ns) = omega arith in
    ((r.1.0, r.0), subst (λ (z : ℕ). Has nd z acc) e r.1.1)

rule-at : (nd : List ℕ) (b : ℕ) (ns : List Node) → Rule nd b ns → (k : ℕ) → b ≤ k → k < b + length ns → parent_right nd k ≡ true
rule-at nd b [] h k a l = absurd (omega arith)
rule-at nd b (n ∷ ns) h k a l =
    same_or k (b + length ns) (λ e. subst (λ (z : ℕ). parent_right nd z ≡ true) (sym e) h.0) (λ e. rule-at nd b ns h.1 k a (omega arith))

-- of the nodes of a tree, numbered from b on
abbrev Ruled : ℕ → List Node → Type 0
Ruled b ns = (nd : List ℕ) → b + length ns ≤ none → Has nd b ns → (k : ℕ) → b ≤ k → k < b + length ns → parent_right nd k ≡ true

ruled-order : (b : ℕ) (ns : List Node) → ((nd : List ℕ) → b + length ns ≤ none → Agrees nd b ns → Rule nd b ns) → Ruled b (in_order ns)
ruled-order b [] f nd m h k a l =
    let e : k ≡ b = omega arith in
    rw (eq-eqb (parent_at nd k) none (ap (parent_at nd) e ∙ h.0))
ruled-order b (n ∷ ns) f nd m h k a l =
    let e = length-reverse (n ∷ ns) in
    rule-at nd b (n ∷ ns) (f nd (omega arith) (has-agrees nd b (n ∷ ns) [] h).0) k a (omega arith)

trees-ruled : (nd : List ℕ) (b : ℕ) (ts : List Tree) → Rooted b ts → All (λ t. Ruled t.root t.nodes) ts → Has nd b (all_nodes ts) → b + length (all_nodes ts) ≤ none
    → (k : ℕ) → b ≤ k → k < b + length (all_nodes ts) → parent_right nd k ≡ true
trees-ruled nd b [] r h g m k a l = absurd (omega arith)
trees-ruled nd b (t ∷ ts) r h g m k a l =
    let s = has_split nd b t.nodes (all_nodes ts) g in
    let n = length-append t.nodes (all_nodes ts) in
    let x : Ruled b t.nodes = subst (λ (z : ℕ). Ruled z t.nodes) r.0 h.0 in
    below_or k (b + length t.nodes) (λ z. x nd (omega arith) s.0 k a z)
    (λ z. trees-ruled nd (b + length t.nodes) ts r.1 h.1 s.1 (omega arith) k z (omega arith))

-- ---- roots

orphans-none : (nd : List ℕ) (b : ℕ) (ns : List Node) (m : ℕ) → Has nd b ns → All Child ns → orphans nd b (length ns + m) ≡ orphans nd (b + length ns) m
unfolding orphans
orphans-none nd b [] m h c = let e : b + 0 ≡ b = omega arith in let d : 0 + m ≡ m = omega arith in rw (e, d)
orphans-none nd b (n ∷ ns) m h c =
    let e : suc b + length ns ≡ b + suc (length ns) = omega arith in
    let d : suc (length ns) + m ≡ suc (length ns + m) = omega arith in
    rw (d, ne_eqb (parent_at nd b) none (λ z. c.0 (sym h.0 ∙ z))) (orphans-none nd (suc b) ns m h.1 c.1 ∙ ap (λ (z : ℕ). orphans nd z m) e)

orphans-tree : (nd : List ℕ) (b : ℕ) (ns : List Node) (m : ℕ) → Has nd b ns → RootFirst ns → orphans nd b (length ns + m) ≡ b ∷ orphans nd (b + length ns) m
unfolding orphans
orphans-tree nd b [] m h f = absurd f
orphans-tree nd b (n ∷ ns) m h f =
    let e : suc b + length ns ≡ b + suc (length ns) = omega arith in
    let d : suc (length ns) + m ≡ suc (length ns + m) = omega arith in
    rw (d, eq-eqb (parent_at nd b) none (h.0 ∙ f.0)) (ap (λ (z : List ℕ). b ∷ z) (orphans-none nd (suc b) ns m h.1 f.1 ∙ ap (λ (z : ℕ). orphans nd z m) e))

abbrev roots_of : List Tree → List ℕ
roots_of [] = []
roots_of (t ∷ ts) = t.root ∷ roots_of ts

orphans-trees : (nd : List ℕ) (b : ℕ) (ts : List Tree) → Rooted b ts → All (λ t. RootFirst t.nodes) ts → Has nd b (all_nodes ts) → orphans nd b (length (all_nodes ts)) ≡ roots_of ts
unfolding orphans
orphans-trees nd b [] r f h = refl
orphans-trees nd b (t ∷ ts) r f h =
    let s = has_split nd b t.nodes (all_nodes ts) h in
    ap (orphans nd b) (length-append t.nodes (all_nodes ts))
    ∙ orphans-tree nd b t.nodes (length (all_nodes ts)) s.0 f.0
    ∙ ap₂ (λ (x : ℕ) (xs : List ℕ). x ∷ xs) (sym r.0) (orphans-trees nd (b + length t.nodes) ts r.1 f.1 s.1)

same_self : (xs : List ℕ) → same xs xs ≡ true
same_self [] = refl
same_self (x ∷ xs) = rw (eq-eqb x x refl) (same_self xs)

roots-are : (tr : List ℕ) (b : ℕ) (ts : List Tree) → tabulate (tree_row tr) b (length ts) ≡ tree_rows ts → tabulate (root_at tr) b (length ts) ≡ roots_of ts
unfolding tabulate
roots-are tr b [] e = refl
roots-are tr b (t ∷ ts) e = ap₂ (λ (x : ℕ) (xs : List ℕ). x ∷ xs) (ap (λ (z : TreeRow). z.root) (head-eq_of_cons-eq e)) (roots-are tr (suc b) ts (tail-eq_of_cons-eq e))

-- ---- game types

games-are : (tr : List ℕ) (b : ℕ) (ts : List Tree) → tabulate (tree_row tr) b (length ts) ≡ tree_rows ts → All (λ t. t.game ≤ 1) ts → (i : ℕ) → b ≤ i → i < b + length ts → game_at tr i ≤ 1
unfolding tabulate
games-are tr b [] e h i a l = absurd (omega arith)
games-are tr b (t ∷ ts) e h i a l =
    let k : game_at tr b ≡ t.game = ap (λ (z : TreeRow). z.game) (head-eq_of_cons-eq e) in
    same_or i b (λ w. omega (arith, ap (game_at tr) w, k, h.0)) (λ w. games-are tr (suc b) ts (tail-eq_of_cons-eq e) h.1 i (omega arith) (omega arith))

-- ---- of a reading

module _ {len : Bool} {t : List ℕ} {ts : List Tree} (r : Reading len t ts) (tr nd : List ℕ)
    (trees : tabulate (tree_row tr) 0 (length ts) ≡ tree_rows ts)
    (nodes : tabulate (node_row nd) 0 (length (all_nodes ts)) ≡ node_rows (parents (all_nodes ts)) 0 0 (all_nodes ts)) where
  rooted : Rooted 0 ts
  rooted = grew-rooted len 0 r.k r.toks ts r.grew

  has : Has nd 0 (all_nodes ts)
  has = has-rows nd (parents (all_nodes ts)) 0 0 (all_nodes ts) nodes

  pub roots-fit : roots_right (length ts) (length (all_nodes ts)) tr nd ≡ true
  roots-fit = rw (roots-are tr 0 ts trees, orphans-trees nd 0 ts rooted (reading-first r) has) (same_self (roots_of ts))

  pub parents-fit : each (length (all_nodes ts)) (parent_right nd) ≡ true
  parents-fit =
      let h = each-tree r (λ x. Ruled x.root x.nodes) (λ us x k e b. rw e (ruled-order x.root (walk_of len x.root (slice_from 0 us)) (walk-ruled x.root len (slice_from 0 us)))) in
      each_all (parent_right nd) (length (all_nodes ts)) (λ i l. trees-ruled nd 0 ts rooted h has (omega (arith, nodes-most r)) i (omega arith) (omega arith))

  pub games-fit : each (length ts) (game_right tr) ≡ true
  games-fit =
      let h = each-tree r (λ x. x.game ≤ 1) (λ us x k e b. k) in
      each_all (game_right tr) (length ts) (λ i l. le-leb (game_at tr i) 1 (games-are tr 0 ts trees h i (omega arith) (omega arith)))
