-- What is asked of property p of tables that fit is asked of its row, with the key of the tree that has it: its rule, its game type. Assumes nothing.
use Rattle.lists.proofs.Prelude.{ℕ, zero, suc, ◌+◌, ◌-◌, ◌≤◌, ◌<◌, List, ◌∷◌, ◌≡◌, ap, ap₂, ◌∙◌, arith, ltb, length, take, drop, get_or, length-map, length-drop, get_or-take, get_or-drop, length-take-le, lt-ltb, le-ltb, pick}
use Rattle.lexer.specs.Token.{Val, Prop}
use Rattle.tables.specs.Record.{Node, Tree, all_props}
use Rattle.tables.specs.declared.Counts.{Counts}
use Rattle.tables.specs.Columns.{root_at, game_at, first_prop_at, prop_count_at}
use Rattle.tables.specs.Each.{sum, tabulate}
use Rattle.fit.specs.Record.{tree_row, node_row, prop_row, prop_of, node_of, trees_of, record_of, rows_of}
use Rattle.tables.proofs.Cases.{below_or}
use Rattle.fit.proofs.Clauses.{Clauses}
use Rattle.fit.proofs.Parts.{tabulate-length, tabulate-drop, tabulate-at, tabulate-part, map-tabulate}
use Rattle.fit_spans.proofs.Ranges.{gapless-first, gapless-sum, sum-up}
use Rattle.fit.proofs.RecordRows.{vals_in, props_in, props-part, first-root, no-trees}
use Rattle.fit.proofs.RootRows.{root_in, root-rises}
use Rattle.ask.specs.Ask.{no_prop}
use Rattle.ask.specs.Locals.{tree_from}

abbrev S-zero : List ℕ → ℕ → Type 0
S-zero nd k = sum (prop_count_at nd) k ≡ 0

sum-zero : (nd : List ℕ) (k : ℕ) → k ≡ 0 → S-zero nd k
unfolding sum
sum-zero nd k e = rw e

nodes-some : (nd : List ℕ) (n : ℕ) → 0 < sum (prop_count_at nd) n → 0 < n
unfolding sum
nodes-some nd zero h = h
nodes-some nd (suc n) h = omega arith

-- where there is a property there is a node, and so a tree
module _ {t : List ℕ} {c : Counts} {tr nd pr vl : List ℕ} (f : Clauses t c tr nd pr vl) (p : ℕ) (h : p < c.properties) where
  some-node : 0 < c.nodes
  some-node = nodes-some nd c.nodes (omega (arith, gapless-sum (first_prop_at nd) (prop_count_at nd) c.nodes c.properties f.node-ranges))

  pub trees-some : 0 < c.trees
  trees-some = below_or 0 c.trees (λ l. l) (λ l. absurd (omega (arith, some-node, no-trees f (omega arith))))

-- of each tree: is the property one of its own
module _ {B : Type 0} (key : Tree → ℕ) (answer : ℕ → Prop → B) (at : List Tree → ℕ → B)
    (one : (t : Tree) (ts : List Tree) (p : ℕ)
    → at (t ∷ ts) p ≡ pick (ltb p (length (all_props t.nodes))) (answer (key t) (get_or (all_props t.nodes) p no_prop)) (at ts (p - length (all_props t.nodes)))) where
  module _ (tr nd : List ℕ) (M N P : ℕ) (ps : List Prop) (whole : length ps ≡ P) (total : sum (prop_count_at nd) N ≡ P)
      (first : (k : ℕ) → k < N → first_prop_at nd k ≡ sum (prop_count_at nd) k) (inside : (r : ℕ) → r < M → root_at tr r < N) (rises : (r : ℕ) → suc r < M → root_at tr r < root_at tr (suc r))
      (key_at : ℕ → ℕ) (keyed : (r b : ℕ) → r < M → root_at tr r < b → key (record { root = root_at tr r; game = game_at tr r; nodes = tabulate (λ k. node_of ps (node_row nd k)) (root_at tr r) (b - root_at tr r) }) ≡ key_at r) where
    abbrev S : ℕ → ℕ
    S = sum (prop_count_at nd)

    abbrev node_for : ℕ → Node
    node_for k = node_of ps (node_row nd k)

    abbrev nodes : List Node
    nodes = tabulate node_for 0 N

    -- the nodes from a up to e have the properties from S a up to S e
    module _ (a e : ℕ) (l : a ≤ e) (h : e ≤ N) where
      abbrev part : List Prop
      part = all_props (tabulate node_for a (e - a))

      part-is : part ≡ take (S e - S a) (drop (S a) ps)
      part-is =
          let o : a + (e - a) ≡ e = omega arith in
          props-part nd N first ps a (e - a) (omega arith) ∙ ap (λ (z : ℕ). take (S z - S a) (drop (S a) ps)) o

      part_length : length part ≡ S e - S a
      part_length =
          ap length part-is
          ∙ length-take-le (S e - S a) (drop (S a) ps) (omega (arith, length-drop (S a) ps, whole, total, sum-up (first_prop_at nd) (prop_count_at nd) e N h))

      part_at : (p : ℕ) → S a ≤ p → p < S e → get_or part (p - S a) no_prop ≡ get_or ps p no_prop
      part_at p b c =
          let o : S a + (p - S a) ≡ p = omega arith in
          ap (λ (z : List Prop). get_or z (p - S a) no_prop) part-is
          ∙ get_or-take (S e - S a) (drop (S a) ps) (p - S a) no_prop (omega arith)
          ∙ get_or-drop (S a) ps (p - S a) no_prop ∙ ap (λ (z : ℕ). get_or ps z no_prop) o

      -- what is asked of a property of a tree with these nodes, or of the trees behind it
      part-asked : (k p : ℕ) (g : B) → S a ≤ p
          → pick (ltb (p - S a) (length part)) (answer k (get_or part (p - S a) no_prop)) g ≡ pick (ltb p (S e)) (answer k (get_or ps p no_prop)) g
      part-asked k p g b = below_or p (S e)
          (λ c. rw (part_length, lt-ltb (p - S a) (S e - S a) (omega arith), lt-ltb p (S e) c, part_at p b c))
          (λ c. rw (part_length, le-ltb (p - S a) (S e - S a) (omega arith), le-ltb p (S e) c))

    asked-from : (m r p : ℕ) → r + suc m ≡ M → S (root_at tr r) ≤ p → p < P
        → at (trees_of nodes (tabulate (tree_row tr) r (suc m))) (p - S (root_at tr r)) ≡ answer (key_at (tree_from tr nd p r m)) (get_or ps p no_prop)
    unfolding tree_from tabulate
    asked-from zero r p e b h =
        let a : ℕ = root_at tr r in
        let d : drop a nodes ≡ tabulate node_for a (N - a) = (let o : 0 + a ≡ a = omega arith in tabulate-drop node_for a 0 N ∙ ap (λ (z : ℕ). tabulate node_for z (N - a)) o) in
        let i = inside r (omega arith) in
        one _ _ _ ∙ rw (d, keyed r N (omega arith) i) (part-asked a N (omega arith) (omega arith) (key_at r) p _ b ∙ rw (lt-ltb p (S N) (omega (arith, total))))
    asked-from (suc m) r p e b h =
        let a : ℕ = root_at tr r in
        let z : ℕ = root_at tr (suc r) in
        let u : a < z = rises r (omega arith) in
        let l : a ≤ z = omega arith in
        let i : z < N = inside (suc r) (omega arith) in
        let f : first_prop_at nd z ≡ S z = first z i in
        let d : take (z - a) (drop a nodes) ≡ tabulate node_for a (z - a) = tabulate-part node_for a (z - a) N (omega arith) in
        let n : length (part a z l (omega arith)) ≡ S z - S a = part_length a z l (omega arith) in
        let y : B = at (trees_of nodes (tabulate (tree_row tr) (suc r) (suc m))) (p - S a - length (part a z l (omega arith))) in
        one _ _ _ ∙ rw (d, keyed r z (omega arith) u) (part-asked a z l (omega arith) (key_at r) p y b
        ∙ below_or p (S z) (λ c. rw (f, lt-ltb p (S z) c))
        (λ c.
        let o : p - S a - (S z - S a) ≡ p - S z = (let u = sum-up (first_prop_at nd) (prop_count_at nd) a z l in omega arith) in
        rw (f, le-ltb p (S z) c, n, o) (asked-from m (suc r) p (omega arith) c h)))

  -- property p of fitting tables over the used text t
  pub asked-of-rows : {t : List ℕ} {c : Counts} {tr nd pr vl : List ℕ} → Clauses t c tr nd pr vl → (key_at : ℕ → ℕ)
      → ((r b : ℕ) → r < c.trees → root_at tr r < b → key (record { root = root_at tr r; game = game_at tr r; nodes = tabulate (λ k. node_of (props_in t pr vl c.properties c.values) (node_row nd k)) (root_at tr r) (b - root_at tr r) }) ≡ key_at r)
      → (p : ℕ) → p < c.properties
      → at (record_of t (rows_of c tr nd pr vl)) p ≡ answer (key_at (tree_from tr nd p 0 (c.trees - 1))) (prop_of t (vals_in t vl c.values) (prop_row pr p))
  asked-of-rows {t} {c} {tr} {nd} {pr} {vl} f key_at keyed p h =
      let M : ℕ = c.trees in
      let N : ℕ = c.nodes in
      let P : ℕ = c.properties in
      let vs : List Val = vals_in t vl c.values in
      let ps : List Prop = props_in t pr vl P c.values in
      let total : sum (prop_count_at nd) N ≡ P = gapless-sum (first_prop_at nd) (prop_count_at nd) N P f.node-ranges in
      let zero-root : root_at tr 0 ≡ 0 = first-root f (trees-some f p h) in
      let z : S-zero nd (root_at tr 0) = sum-zero nd (root_at tr 0) zero-root in
      let some : M ≡ suc (M - 1) = omega (arith, trees-some f p h) in
      let k : ℕ = key_at (tree_from tr nd p 0 (M - 1)) in
      ap (λ (ns : List Node). at (trees_of ns (tabulate (tree_row tr) 0 M)) p) (map-tabulate (node_row nd) (node_of ps) 0 N)
      ∙ ap₂ (λ (m q : ℕ). at (trees_of (tabulate (λ i. node_of ps (node_row nd i)) 0 N) (tabulate (tree_row tr) 0 m)) q) some (omega (arith, z))
      ∙ asked-from tr nd M N P ps (length-map (tabulate (prop_row pr) 0 P) (prop_of t vs) ∙ tabulate-length (prop_row pr) 0 P) total
      (gapless-first (first_prop_at nd) (prop_count_at nd) N P f.node-ranges) (λ r l. (root_in tr nd M N f.roots r l).0) (root-rises tr nd M N f.roots) key_at keyed (M - 1) 0 p (omega (arith, some)) (omega (arith, z)) h
      ∙ ap (answer k) (ap (λ (l : List Prop). get_or l p no_prop) (map-tabulate (prop_row pr) (prop_of t vs) 0 P) ∙ tabulate-at (λ i. prop_of t vs (prop_row pr i)) 0 P p no_prop h
      ∙ ap (λ (i : ℕ). prop_of t vs (prop_row pr i)) (omega arith))
