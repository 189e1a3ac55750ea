-- In tables that fit, the count along the node rows is the most that is open in one of the trees that they denote. Assumes nothing.
use Rattle.lists.proofs.Prelude.{ℕ, zero, suc, ◌+◌, ◌-◌, ◌≤◌, ◌<◌, max, Bool, true, false, List, [], ◌∷◌, map, ◌≡◌, refl, sym, ap, ◌∙◌, arith, take, drop, eq-eqb, pick}
use Rattle.lexer.specs.Token.{Prop}
use Rattle.tables.specs.Numbers.{none}
use Rattle.tables.specs.Record.{Node}
use Rattle.tables.specs.Rows.{parents}
use Rattle.tables.specs.declared.Counts.{Counts}
use Rattle.tables.specs.Columns.{root_at, parent_at}
use Rattle.tables.specs.Each.{tabulate}
use Rattle.fit.specs.Record.{tree_row, node_row, node_of, trees_of}
use Rattle.fit.proofs.Clauses.{Clauses}
use Rattle.fit.proofs.Parts.{map-tabulate, tabulate-drop, tabulate-part}
use Rattle.fit.proofs.RecordRows.{props_in, first-root, no-trees}
use Rattle.fit.proofs.RootRows.{root_in}
use Rattle.fit_nodes.proofs.Path.{has-before}
use Rattle.serialize.specs.LocalsWalk.{in_brackets}
use Rattle.serialize.specs.LocalsWrite.{Open, bracketed, path_left}
use Rattle.serialize.proofs.Branches.{opening}
use Rattle.serialize.proofs.OpenPath.{PathFrom}
use Rattle.serialize.proofs.TreeSlices.{linking, stretch-next, stretch-last}
use Rattle.serialize.proofs.TreeWalk.{Linking, Stretch, brackets-here, path-next, root-counted}
use Rattle.serialize_laws.proofs.Resplit.{up, brks}
use Rattle.salvage_depth.specs.LocalsDepth.{bracket_at, shut_below, open_at, most_open}
use Rattle.salvage_depth.proofs.Climbed.{shut-last, shut-more, open_is}
use Rattle.salvage_depth.proofs.Opened.{highest, highest_of}

-- ---- the open nodes of a path are the brackets up to the root

up_is : (b : Bool) (d : ℕ) → pick b 1 0 + suc d ≡ suc (up b d)
up_is true d = omega arith
up_is false d = omega arith

module _ (nd : List ℕ) where
  path-shut : (f j : ℕ) (xs : List Open) → PathFrom nd j xs → j ≤ f → j < none → shut_below nd f j none ≡ suc (brks xs)
  path-shut f j [] h l u = absurd h
  path-shut f j (x ∷ []) h l u =
      let b : bracket_at nd j ≡ 1 = rw (eq-eqb (parent_at nd j) none h.2) in
      let z : up x.brk 0 ≡ 0 = ap (λ (c : Bool). up c 0) h.1 in
      let s = shut-last nd f j none (λ e. omega arith) (omega (arith, h.2)) in
      omega arith
  path-shut f j (x ∷ y ∷ ys) h l u =
      let q = has-before nd j h.2 in
      let w = q.0 in
      let i = path-shut (f - 1) (parent_at nd j) (y ∷ ys) h.3 (omega arith) (omega arith) in
      let s = shut-more nd f j none (λ e. omega arith) w l in
      let z : up x.brk (brks (y ∷ ys)) ≡ up (in_brackets nd j) (brks (y ∷ ys)) = ap (λ (c : Bool). up c (brks (y ∷ ys))) h.1 in
      let v = up_is (in_brackets nd j) (brks (y ∷ ys)) in
      omega arith

-- ---- one tree

module _ {nd : List ℕ} {n a b : ℕ} (links : Linking nd n) (stretch : Stretch nd n a b) where
  abbrev ps : List ℕ
  ps = tabulate (parent_at nd) a (b - a)

  abbrev bare : ℕ → List Prop
  bare k = []

  abbrev blank : ℕ → List ℕ
  blank k = []

  open-path : (j : ℕ) (xs : List Open) → PathFrom nd j xs → j < b → suc (brks xs) ≡ open_at nd j
  open-path j xs h l =
      let w = links.ruled.most in
      let i = stretch.inside in
      sym (open_is links.ruled j (omega arith) ∙ path-shut nd j j xs h (omega arith) (omega arith))

  rows-from : (m j : ℕ) (xs : List Open) → suc j + m ≡ b → a ≤ j → PathFrom nd j xs
      → max (most_open nd (suc j)) (highest ps (suc j) xs (tabulate (parent_at nd) (suc j) m)) ≡ most_open nd b
  unfolding tabulate most_open
  rows-from zero j xs e l h = let d : suc j ≡ b = omega arith in omega (arith, ap (most_open nd) d)
  rows-from (suc m) j xs e l h =
      let q : ℕ = parent_at nd (suc j) in
      let u : suc j < b = omega arith in
      let next : List Open = opening ps (suc j) q ∷ path_left q xs in
      let c = brackets-here links stretch bare blank (λ k x y. refl) j l u in
      let p : PathFrom nd (suc j) next = path-next links stretch bare blank (λ k x y. refl) j l u (bracketed ps q) xs c h in
      omega (arith, open-path (suc j) next p u, rows-from m (suc j) next (omega arith) (omega arith) p)

  pub tree-rows : max (most_open nd a) (max 1 (highest ps a [] ps)) ≡ most_open nd b
  unfolding tabulate most_open
  tree-rows =
      let s = stretch.some in
      let e : b - a ≡ suc (b - suc a) = omega arith in
      let f : bracketed ps (parent_at nd a) ≡ false = ap (bracketed ps) stretch.root ∙ root-counted links stretch bare blank (λ k x y. refl) in
      let top : List Open = opening ps a (parent_at nd a) ∷ [] in
      let p : PathFrom nd a top = (refl, f, stretch.root) in
      let z : highest ps a [] ps ≡ max (suc (brks top)) (highest ps (suc a) top (tabulate (parent_at nd) (suc a) (b - suc a))) = ap (λ (k : ℕ). highest ps a [] (tabulate (parent_at nd) a k)) e in
      omega (arith, open-path a top p s, rows-from (b - suc a) a top (omega arith) (omega arith) p)

-- ---- all trees

module _ {t : List ℕ} {c : Counts} {tr nd pr vl : List ℕ} (fit : Clauses t c tr nd pr vl) where
  abbrev m : ℕ
  m = c.trees

  abbrev n : ℕ
  n = c.nodes

  abbrev R : ℕ → ℕ
  R = root_at tr

  abbrev node_k : ℕ → Node
  node_k k = node_of (props_in t pr vl c.properties c.values) (node_row nd k)

  abbrev ns : List Node
  ns = map (node_of (props_in t pr vl c.properties c.values)) (tabulate (node_row nd) 0 n)

  parents-are : (k j : ℕ) → parents (tabulate node_k k j) ≡ tabulate (parent_at nd) k j
  unfolding tabulate
  parents-are k zero = refl
  parents-are k (suc j) = ap (λ (z : List ℕ). parent_at nd k ∷ z) (parents-are (suc k) j)

  from-root : (a : ℕ) → parents (drop a ns) ≡ tabulate (parent_at nd) a (n - a)
  from-root a =
      let e : 0 + a ≡ a = omega arith in
      ap (λ (z : List Node). parents (drop a z)) (map-tabulate (node_row nd) (node_of (props_in t pr vl c.properties c.values)) 0 n)
      ∙ ap parents (tabulate-drop node_k a 0 n ∙ ap (λ (z : ℕ). tabulate node_k z (n - a)) e)
      ∙ parents-are a (n - a)

  to-root : (a b : ℕ) → a ≤ b → b ≤ n → parents (take (b - a) (drop a ns)) ≡ tabulate (parent_at nd) a (b - a)
  to-root a b h l =
      ap (λ (z : List Node). parents (take (b - a) (drop a z))) (map-tabulate (node_row nd) (node_of (props_in t pr vl c.properties c.values)) 0 n)
      ∙ ap parents (tabulate-part node_k a (b - a) n (omega arith))
      ∙ parents-are a (b - a)

  trees-from : (j i : ℕ) → i + suc j ≡ m → max (most_open nd (R i)) (highest_of (trees_of ns (tabulate (tree_row tr) i (suc j)))) ≡ most_open nd n
  unfolding tabulate
  trees-from zero i e =
      let x = tree-rows (linking fit) (stretch-last fit i (omega arith)) in
      let y = ap (λ (z : List ℕ). highest z (R i) [] z) (from-root (R i)) in
      omega arith
  trees-from (suc j) i e =
      let s = stretch-next fit i (omega arith) in
      let d = s.some in
      let v : R (suc i) < n = (root_in tr nd m n fit.roots (suc i) (omega arith)).0 in
      let x = tree-rows (linking fit) s in
      let y = ap (λ (z : List ℕ). highest z (R i) [] z) (to-root (R i) (R (suc i)) (omega arith) (omega arith)) in
      let r = trees-from j (suc i) (omega arith) in
      omega arith

  all-trees : (j : ℕ) → j ≡ m → most_open nd n ≡ highest_of (trees_of ns (tabulate (tree_row tr) 0 j))
  unfolding tabulate most_open
  all-trees zero e = rw (no-trees fit (sym e))
  all-trees (suc j) e =
      let f = ap (most_open nd) (first-root fit (omega arith)) in
      omega (arith, trees-from j 0 (omega arith))

  pub rows-counted : most_open nd n ≡ highest_of (trees_of ns (tabulate (tree_row tr) 0 m))
  rows-counted = all-trees m refl
