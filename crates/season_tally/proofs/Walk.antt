-- The walk tree by tree over tables that fit: what is counted below a property. Assumes nothing.
use Rattle.lists.proofs.Prelude.{ℕ, suc, ◌+◌, ◌-◌, ◌/◌, ◌≤◌, ◌<◌, ◌≡◌, refl, sym, ap, ap₂, ◌∙◌, subst, true, false, List, [], ◌∷◌, arith, add-one, length, get_or, length-map, lt-ltb, le-ltb}
use Rattle.lexer.specs.Token.{Val, Prop}
use Rattle.values.specs.Read.{read_identifier}
use Rattle.parts.specs.Rows.{values_at}
use Rattle.parts_props.specs.Props.{identifier_at}
use Rattle.go.specs.Value.{go_value}
use Rattle.go.specs.declared.value.GoValue.{GoValue}
use Rattle.tables.specs.declared.Counts.{Counts}
use Rattle.tables.specs.Record.{Node, Tree, all_nodes, all_props}
use Rattle.tables.specs.Rows.{TreeRow}
use Rattle.tables.specs.Columns.{root_at, first_prop_at, prop_count_at, name_from_at, name_to_at, first_val_at, val_count_at}
use Rattle.tables.specs.Each.{sum, tabulate}
use Rattle.tables.proofs.Cases.{below_or}
use Rattle.tables.proofs.Tabulate.{tabulate-length, tabulate-at}
use Rattle.fit.specs.Record.{tree_row, node_row, prop_row, prop_of, trees_of, record_of, rows_of, record_in}
use Rattle.fit.proofs.Clauses.{Clauses}
use Rattle.fit.proofs.Parts.{map-tabulate}
use Rattle.fit.proofs.RecordRows.{vals_in, first-root, no-trees, record-nodes, record-props}
use Rattle.fit.proofs.RootRows.{root_in, root-rises}
use Rattle.fit_spans.proofs.Lists.{part_slice}
use Rattle.fit_spans.proofs.Ranges.{gapless-first, gapless-sum, sum-up}
use Rattle.fit_rule.specs.Rule.{rule_at}
use Rattle.ask.specs.Ask.{no_prop, go_at}
use Rattle.ask.specs.Locals.{tree_from, name_at}
use Rattle.ask.proofs.Goes.{go-of-rows}
use Rattle.ask.proofs.Search.{tree-here, tree-on, tree-end, tree-first}
use Rattle.season_totals.specs.declared.Tally.{Tally}
use Rattle.season_tally.specs.declared.Moves.{Moves}
use Rattle.tables.specs.Memory.{Memory}
use Rattle.fit.specs.Fit.{Fit}
use Rattle.season_tally.specs.Tally.{played_by, counts_as, tally_of, tally_answer}
use Rattle.season_tally.specs.Locals.{played_at, next_first, BelowAll, Counted, Goes, RootsLent}
use Rattle.std.specs.Prelude.{Some, None}

-- nothing counted yet
abbrev pub no_moves : Moves
no_moves = record { black = 0; white = 0; passes = 0 }

trees-length : (ns : List Node) (rs : List TreeRow) → length (trees_of ns rs) ≡ length rs
trees-length ns [] = refl
trees-length ns (r ∷ []) = refl
trees-length ns (r ∷ s ∷ rs) = ap suc (trees-length ns (s ∷ rs))

module _ {t : List ℕ} {c : Counts} {tr nd pr vl : List ℕ} (f : Clauses t c tr nd pr vl) where
  abbrev M : ℕ
  M = c.trees

  abbrev N : ℕ
  N = c.nodes

  abbrev P : ℕ
  P = c.properties

  abbrev ts : List Tree
  ts = record_of t (rows_of c tr nd pr vl)

  abbrev vs : List Val
  vs = vals_in t vl c.values

  pub roots-lent : RootsLent M tr nd
  roots-lent = record { lent = f.held.trees; roots = λ r b. omega (arith, (root_in tr nd M N f.roots r b).0, f.held.nodes) }

  -- ---- property p by its row

  name-at : (p : ℕ) → p < P → (get_or (all_props (all_nodes ts)) p no_prop).name ≡ name_at t pr p
  name-at p h =
      ap (λ (l : List Prop). (get_or l p no_prop).name) (record-props f t ∙ map-tabulate (prop_row pr) (prop_of t vs) 0 P)
      ∙ ap (λ (x : Prop). x.name) (tabulate-at (λ i. prop_of t vs (prop_row pr i)) 0 P p no_prop h ∙ ap (λ (i : ℕ). prop_of t vs (prop_row pr i)) (omega arith))

  name-raw : (p : ℕ) → p < P → name_at t pr p ≡ identifier_at t pr p
  unfolding identifier_at
  name-raw p h = rw (lt-ltb p (length pr / 4) (omega (arith, f.held.properties))) (sym (part_slice (name_from_at pr p) (name_to_at pr p) t))

  counts-at : (p : ℕ) → p < P → (r : ℕ) → tree_from tr nd p 0 (M - 1) ≡ r → counts_as ts p ≡ played_at (rule_at t tr nd pr vl r) t pr vl p
  unfolding played_at
  counts-at p h r e =
      let n : (get_or (all_props (all_nodes ts)) p no_prop).name ≡ identifier_at t pr p = name-at p h ∙ name-raw p h in
      let g : go_at ts p ≡ go_value (rule_at t tr nd pr vl r) (read_identifier (identifier_at t pr p)) (values_at t vl (first_val_at pr p) (val_count_at pr p)) =
      go-of-rows f p h
      ∙ ap₂ (λ (k : ℕ) (w : List ℕ). go_value (rule_at t tr nd pr vl k) (read_identifier w) (values_at t vl (first_val_at pr p) (val_count_at pr p))) e (name-raw p h) in
      ap₂ (λ (w : List ℕ) (v : GoValue). played_by (read_identifier w) v.value) n g

  -- ---- the walk

  -- the trees before r are counted: the properties below `from`
  pub record Walked (r from : ℕ) (m : Moves) : Type 0 where
    pub within : r ≤ M
    pub inside : from ≤ P
    pub here : r < M → from ≡ first_prop_at nd (root_at tr r)
    pub end : M ≤ r → from ≡ P
    pub tree : r < M → (q : ℕ) → from ≤ q → tree_from tr nd q 0 (M - 1) ≡ tree_from tr nd q r (M - 1 - r)
    pub below : BelowAll m from
    pub counted : Counted (counts_as ts) from m

  first_of : (k : ℕ) → k < N → first_prop_at nd k ≡ sum (prop_count_at nd) k
  first_of = gapless-first (first_prop_at nd) (prop_count_at nd) N P f.node-ranges

  total : sum (prop_count_at nd) N ≡ P
  total = gapless-sum (first_prop_at nd) (prop_count_at nd) N P f.node-ranges

  sum-zero : (k : ℕ) → k ≡ 0 → sum (prop_count_at nd) k ≡ 0
  unfolding sum
  sum-zero k e = rw e

  pub walked-first : Walked 0 0 no_moves
  unfolding sum
  walked-first =
      record {
        within = omega arith;
        inside = omega arith;
        here = λ l. let z = first-root f l in let i = (root_in tr nd M N f.roots 0 l).0 in sym (first_of (root_at tr 0) i ∙ sum-zero (root_at tr 0) z);
        end = λ l. let n = no-trees f (omega arith) in sym (sym total ∙ sum-zero N n);
        tree = λ l q h. sym (tree-first tr nd q M);
        below = record { black = omega arith; white = omega arith; passes = omega arith };
        counted = record { black = refl; white = refl; passes = refl };
      }

  module _ (r from : ℕ) (m : Moves) (w : Walked r from m) (l : r < M) (to : ℕ) (e : to ≡ next_first tr nd M r P) where
    next-is : r + 1 < M → to ≡ first_prop_at nd (root_at tr (r + 1))
    unfolding next_first
    next-is h = e ∙ rw (lt-ltb (r + 1) M h)

    last-is : M ≤ r + 1 → to ≡ P
    unfolding next_first
    last-is h = e ∙ rw (le-ltb (r + 1) M h)

    pub rises : (from ≤ to) × (to ≤ P)
    rises = below_or (r + 1) M
        (λ h.
        let i = (root_in tr nd M N f.roots r l).0 in
        let j = (root_in tr nd M N f.roots (r + 1) h).0 in
        let k : root_at tr r < root_at tr (r + 1) = ap-rises h in
        let a = w.here l ∙ first_of (root_at tr r) i in
        let b = next-is h ∙ first_of (root_at tr (r + 1)) j in
        let u = sum-up (first_prop_at nd) (prop_count_at nd) (root_at tr r) (root_at tr (r + 1)) (omega arith) in
        let v = sum-up (first_prop_at nd) (prop_count_at nd) (root_at tr (r + 1)) N (omega arith) in
        let z = total in
        (omega arith, omega arith))
        (λ h. let a = last-is h in let b = w.inside in (omega arith, omega arith))
      where
        ap-rises : r + 1 < M → root_at tr r < root_at tr (r + 1)
        ap-rises h = rw (add-one r) (root-rises tr nd M N f.roots r (omega arith))

    tree_is : (p : ℕ) → from ≤ p → p < to → tree_from tr nd p 0 (M - 1) ≡ r
    tree_is p a b = w.tree l p a ∙ sym (below_or (r + 1) M
        (λ h. tree-here tr nd p M r h refl refl (let n = next-is h in omega arith))
        (λ h. tree-end tr nd p M r h))

    pub walked_next : (rule : ℕ) → rule ≡ rule_at t tr nd pr vl r → (m1 : Moves) → Goes (played_at rule t pr vl) from m to m1 → Walked (r + 1) to m1
    walked_next rule x m1 g =
        let s = rises in
        record {
          within = omega arith;
          inside = s.1;
          here = λ h. next-is h;
          end = λ h. last-is h;
          tree = λ b q h. w.tree l q (omega (arith, s.0)) ∙ sym (tree-on tr nd q M r b refl refl (let n = next-is b in omega arith));
          below = g.below;
          counted = g.counted (counts_as ts) (λ p a b. counts-at p (omega (arith, s.1)) r (tree_is p a b) ∙ ap (λ (k : ℕ). played_at k t pr vl p) (sym x)) w.counted;
        }

  pub walked_end : (r from : ℕ) (m : Moves) → Walked r from m → M ≤ r → Counted (counts_as ts) P m
  walked_end r from m w h = subst (λ (k : ℕ). Counted (counts_as ts) k m) (w.end h) w.counted

  -- all trees are counted
  pub tally-is : (m : Moves) → Counted (counts_as ts) P m → record { trees = M; nodes = N; black = m.black; white = m.white; passes = m.passes } ≡ tally_of ts
  unfolding tally_of
  tally-is m k =
      let a : length ts ≡ M = trees-length _ (tabulate (tree_row tr) 0 M) ∙ tabulate-length (tree_row tr) 0 M in
      let b : length (all_nodes ts) ≡ N = ap length (record-nodes f t) ∙ length-map (tabulate (node_row nd) 0 N) _ ∙ tabulate-length (node_row nd) 0 N in
      let d : length (all_props (all_nodes ts)) ≡ P = ap length (record-props f t) ∙ length-map (tabulate (prop_row pr) 0 P) _ ∙ tabulate-length (prop_row pr) 0 P in
      rw (a, b, d, ← k.black, ← k.white, ← k.passes)

-- the answer
module _ (m : Memory) where
  pub tally-unfit : Fit m ≡ false → None ≡ tally_answer m
  unfolding tally_answer
  tally-unfit h = rw h

  pub tally-fit : Fit m ≡ true → (r : Tally) → r ≡ tally_of (record_in m) → Some r ≡ tally_answer m
  unfolding tally_answer
  tally-fit h r e = rw (h, e)
