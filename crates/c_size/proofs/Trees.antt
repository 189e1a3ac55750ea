-- The size and the rule of the r-th tree that fitting tables denote are those by its rows. Assumes nothing.
use Rattle.lists.proofs.Prelude.{ℕ, zero, suc, ◌+◌, ◌-◌, ◌≤◌, ◌<◌, true, false, List, map, ◌≡◌, sym, ap, ap₂, ◌∙◌, subst, arith, get_or, take, drop, lt-ltb, le-ltb}
use Rattle.tables.specs.declared.Counts.{Counts}
use Rattle.tables.specs.declared.Reason.TheVariants.{NoSuchNumber, NotFitting}
use Rattle.tables.specs.Columns.{root_at}
use Rattle.tables.specs.Each.{tabulate}
use Rattle.tables.specs.Memory.{Memory}
use Rattle.tables.specs.Numbers.{number_of}
use Rattle.tables.specs.Record.{Node, Tree}
use Rattle.fit.specs.Fit.{Fit}
use Rattle.fit.specs.Record.{tree_row, node_row, node_of, trees_of, text_in, record_in}
use Rattle.fit.proofs.Clauses.{Clauses, fit-clauses}
use Rattle.fit.proofs.Parts.{map-tabulate, tabulate-drop, tabulate-part}
use Rattle.fit.proofs.RecordRows.{props_in}
use Rattle.fit.proofs.RootRows.{root_in, root-rises}
use Rattle.fit_rule.specs.Rule.{size_of_tree, rule_of, size_at, rule_at}
use Rattle.fit_rule.proofs.Denotes.{node_for, tree_to, size-tree, rule-tree}
use Rattle.c_size.specs.SizeInC.{size_in_c, no_size_in_c, no_tree, tree_size_in_c}
use Rattle.c_size.specs.declared.SgfSize.{SgfSize}

module _ {t : List ℕ} {c : Counts} {tr nd pr vl : List ℕ} (f : Clauses t c tr nd pr vl) where
  abbrev N : ℕ
  N = c.nodes

  abbrev nodes : List Node
  nodes = map (node_of (props_in t pr vl c.properties c.values)) (tabulate (node_row nd) 0 N)

  nodes-are : nodes ≡ tabulate (node_for f) 0 N
  nodes-are = map-tabulate (node_row nd) (node_of (props_in t pr vl c.properties c.values)) 0 N

  -- a tree that is tree i with nodes up to some b
  pub record Found (i : ℕ) (u : Tree) : Type 0 where
    pub end : ℕ
    pub some : root_at tr i < end
    pub is : u ≡ tree_to f i end

  found-last : (i : ℕ) → i < c.trees → Found i (record { root = (tree_row tr i).root; game = (tree_row tr i).game; nodes = drop (root_at tr i) nodes })
  found-last i l =
      let a : ℕ = root_at tr i in
      let e : 0 + a ≡ a = omega arith in
      record {
        end = N;
        some = (root_in tr nd c.trees N f.roots i l).0;
        is = ap (λ (z : List Node). record { root = a; game = (tree_row tr i).game; nodes = z })
            (ap (drop a) nodes-are ∙ tabulate-drop (node_for f) a 0 N ∙ ap (λ (z : ℕ). tabulate (node_for f) z (N - a)) e);
      }

  found-next : (i : ℕ) → suc i < c.trees
      → Found i (record { root = (tree_row tr i).root; game = (tree_row tr i).game; nodes = take (root_at tr (suc i) - root_at tr i) (drop (root_at tr i) nodes) })
  found-next i l =
      let a : ℕ = root_at tr i in
      let b : ℕ = root_at tr (suc i) in
      let u : a < b = root-rises tr nd c.trees N f.roots i l in
      let v : b < N = (root_in tr nd c.trees N f.roots (suc i) l).0 in
      record {
        end = b;
        some = u;
        is = ap (λ (z : List Node). record { root = a; game = (tree_row tr i).game; nodes = z })
            (ap (λ (z : List Node). take (b - a) (drop a z)) nodes-are ∙ tabulate-part (node_for f) a (b - a) N (omega arith));
      }

  pub found_at : (j i r : ℕ) → i + suc j ≡ c.trees → r ≤ j → Found (i + r) (get_or (trees_of nodes (tabulate (tree_row tr) i (suc j))) r no_tree)
  unfolding tabulate
  found_at zero i zero e l = let z : i ≡ i + 0 = omega arith in subst (λ (k : ℕ). Found k (get_or (trees_of nodes (tabulate (tree_row tr) i 1)) 0 no_tree)) z (found-last i (omega arith))
  found_at zero i (suc r) e l = absurd (omega arith)
  found_at (suc j) i zero e l = let z : i ≡ i + 0 = omega arith in subst (λ (k : ℕ). Found k (get_or (trees_of nodes (tabulate (tree_row tr) i (suc (suc j)))) 0 no_tree)) z (found-next i (omega arith))
  found_at (suc j) i (suc r) e l =
      let z : suc i + r ≡ i + suc r = omega arith in
      subst (λ (k : ℕ). Found k (get_or (trees_of nodes (tabulate (tree_row tr) (suc i) (suc j))) r no_tree)) z (found_at j (suc i) r (omega arith) (omega arith))

  pub size-found : (i : ℕ) (u : Tree) → i < c.trees → Found i u → size_of_tree u ≡ size_at t tr nd pr vl i
  size-found i u l x = ap size_of_tree x.is ∙ size-tree f i x.end l x.some

  pub rule_found : (i : ℕ) (u : Tree) → i < c.trees → Found i u → rule_of u ≡ rule_at t tr nd pr vl i
  rule_found i u l x = ap rule_of x.is ∙ rule-tree f i x.end l x.some

module _ (m : Memory) (r : ℕ) where
  module _ (h : Fit m ≡ true) (l : r < m.counts.trees) where
    f : Clauses (text_in m) m.counts m.trees m.nodes m.properties m.values
    f = fit-clauses m h

    found : Found f r (get_or (record_in m) r no_tree)
    found =
        let one : suc (m.counts.trees - 1) ≡ m.counts.trees = omega arith in
        let here : 0 + r ≡ r = omega arith in
        subst (λ (z : ℕ). Found f r (get_or (trees_of (nodes f) (tabulate (tree_row m.trees) 0 z)) r no_tree)) one
        (subst (λ (k : ℕ). Found f k (get_or (trees_of (nodes f) (tabulate (tree_row m.trees) 0 (suc (m.counts.trees - 1)))) r no_tree)) here
        (found_at f (m.counts.trees - 1) 0 r (omega arith) (omega arith)))

    -- THE SIZE AND THE RULE BY THE ROWS ARE THOSE OF THE TREE
    pub size-denotes : size_of_tree (get_or (record_in m) r no_tree) ≡ size_at (text_in m) m.trees m.nodes m.properties m.values r
    size-denotes = size-found f r (get_or (record_in m) r no_tree) l found

    pub rule-denotes : rule_of (get_or (record_in m) r no_tree) ≡ rule_at (text_in m) m.trees m.nodes m.properties m.values r
    rule-denotes = rule_found f r (get_or (record_in m) r no_tree) l found

    pub size-yes : {s : SgfSize}
        → s ≡ size_in_c (size_at (text_in m) m.trees m.nodes m.properties m.values r) (rule_at (text_in m) m.trees m.nodes m.properties m.values r)
        → s ≡ tree_size_in_c m r
    unfolding tree_size_in_c
    size-yes e = rw (h, lt-ltb r m.counts.trees l) (e ∙ ap₂ size_in_c (sym size-denotes) (sym rule-denotes))

  pub size-no : Fit m ≡ true → m.counts.trees ≤ r → {s : SgfSize} → s ≡ no_size_in_c (number_of NoSuchNumber) → s ≡ tree_size_in_c m r
  unfolding tree_size_in_c
  size-no h l e = rw (h, le-ltb r m.counts.trees l) e

  pub size-unfit : Fit m ≡ false → {s : SgfSize} → s ≡ no_size_in_c (number_of NotFitting) → s ≡ tree_size_in_c m r
  unfolding tree_size_in_c
  size-unfit h e = rw h e
