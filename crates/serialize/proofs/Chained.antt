-- The trees of fitting tables, one after another, are the walk along the links, where each tree's text is its part of the walk. Assumes nothing.
use Rattle.lists.proofs.Prelude.{ℕ, zero, suc, ◌+◌, ◌≤◌, ◌<◌, ◌-◌, Bool, List, ◌∷◌, ◌++◌, map, append_assoc, append-nil, ◌≡◌, sym, ap, ap₂, ◌∙◌, arith, take, drop}
use Rattle.lexer.specs.Token.{Prop}
use Rattle.tables.specs.Numbers.{none}
use Rattle.tables.specs.Record.{Node, Tree}
use Rattle.tables.specs.declared.Counts.{Counts}
use Rattle.fit.proofs.Clauses.{Clauses}
use Rattle.fit.proofs.Parts.{map-tabulate, tabulate-drop, tabulate-part}
use Rattle.fit.proofs.RecordRows.{props_in, first-root, no-trees}
use Rattle.fit.proofs.RootRows.{root_in}
use Rattle.tables.specs.Columns.{root_at, game_at, parent_at}
use Rattle.tables.specs.Each.{tabulate}
use Rattle.fit.specs.Record.{tree_row, node_row, node_of, trees_of}
use Rattle.serialize.specs.LocalsWalk.{start_text, ends_before, node_rule, props_text}
use Rattle.serialize.specs.Branch.{tree_text, trees_text}
use Rattle.serialize.proofs.Joined.{joined, joined-more}
use Rattle.serialize.proofs.TreeSlices.{stretch-next, stretch-last}
use Rattle.serialize.proofs.TreeWalk.{Stretch, text_of}

-- a tree's text, its ends, and the text of the next tree
regroup : (x j e y k z : List ℕ) → (x ++ (j ++ e)) ++ (y ++ (k ++ z)) ≡ x ++ ((j ++ ((e ++ y) ++ k)) ++ z)
regroup x j e y k z =
    append_assoc x (j ++ e) (y ++ (k ++ z))
    ∙ ap (λ (v : List ℕ). x ++ v)
    (append_assoc j e (y ++ (k ++ z))
    ∙ ap (λ (v : List ℕ). j ++ v) (sym (append_assoc e y (k ++ z)) ∙ sym (append_assoc (e ++ y) k z))
    ∙ sym (append_assoc j ((e ++ y) ++ k) z))

module _ {t : List ℕ} {c : Counts} {tr nd pr vl : List ℕ} (fit : Clauses t c tr nd pr vl) where
  abbrev m : ℕ
  m = c.trees

  abbrev n : ℕ
  n = c.nodes

  abbrev R : ℕ → ℕ
  R = root_at tr

  abbrev ps : List Prop
  ps = props_in t pr vl c.properties c.values

  -- node k of the record
  abbrev pub node_k : ℕ → Node
  node_k k = node_of ps (node_row nd k)

  abbrev ns : List Node
  ns = map (node_of ps) (tabulate (node_row nd) 0 n)

  nodes-are : ns ≡ tabulate node_k 0 n
  nodes-are = map-tabulate (node_row nd) (node_of ps) 0 n

  from-root : (a : ℕ) → drop a ns ≡ tabulate node_k a (n - a)
  from-root a =
      let e : 0 + a ≡ a = omega arith in
      ap (drop a) nodes-are ∙ tabulate-drop node_k a 0 n ∙ ap (λ (z : ℕ). tabulate node_k z (n - a)) e

  to-root : (a b : ℕ) → a ≤ b → b ≤ n → take (b - a) (drop a ns) ≡ tabulate node_k a (b - a)
  to-root a b h l = ap (λ (z : List Node). take (b - a) (drop a z)) nodes-are ∙ tabulate-part node_k a (b - a) n (omega arith)

  module _ (mends : Bool) where
    -- its properties, as the walk writes them
    abbrev pub body : ℕ → List ℕ
    body k = props_text mends t nd pr vl (node_rule mends t tr nd pr vl k) k

    abbrev head : ℕ → List ℕ
    head k = start_text nd k ++ (0x3b ∷ body k)

    abbrev T : ℕ → List ℕ
    T = text_of nd body

    -- tree i, whose nodes end before b, as the walk writes it
    abbrev pub walked_tree : (i b : ℕ) → List ℕ
    walked_tree i b = head (R i) ++ (joined T (suc (R i)) (b - suc (R i)) ++ ends_before nd b none)

    joins : (a b : ℕ) → parent_at nd b ≡ none → n - suc a ≡ (b - suc a) + suc (n - suc b) → suc a + (b - suc a) ≡ b
        → joined T (suc a) (n - suc a) ≡ joined T (suc a) (b - suc a) ++ ((ends_before nd b none ++ head b) ++ joined T (suc b) (n - suc b))
    unfolding joined
    joins a b p q r =
        ap (joined T (suc a)) q ∙ joined-more T (b - suc a) (suc (n - suc b)) (suc a)
        ∙ ap (λ (z : ℕ). joined T (suc a) (b - suc a) ++ joined T z (suc (n - suc b))) r
        ∙ ap (λ (z : ℕ). joined T (suc a) (b - suc a) ++ ((ends_before nd b z ++ head b) ++ joined T (suc b) (n - suc b))) p

    module _ (form : Tree → Tree)
        (tree-text : (i b : ℕ) → i < m → Stretch nd n (R i) b → (us : List Node) → us ≡ tabulate node_k (R i) (b - R i)
        → tree_text (form (record { root = R i; game = game_at tr i; nodes = us })) ≡ walked_tree i b) where
      trees-from : (j i : ℕ) → i + suc j ≡ m → trees_text (map form (trees_of ns (tabulate (tree_row tr) i (suc j)))) ≡ head (R i) ++ (joined T (suc (R i)) (n - suc (R i)) ++ ends_before nd n none)
      unfolding tabulate
      trees-from zero i e =
          append-nil (tree_text (form (record { root = R i; game = game_at tr i; nodes = drop (R i) ns })))
          ∙ tree-text i n (omega arith) (stretch-last fit i (omega arith)) (drop (R i) ns) (from-root (R i))
      trees-from (suc j) i e =
          let x = stretch-next fit i (omega arith) in
          let a : ℕ = R i in
          let b : ℕ = R (suc i) in
          let s = x.some in
          let v : b < n = (root_in tr nd m n fit.roots (suc i) (omega arith)).0 in
          let p : parent_at nd b ≡ none = x.next v in
          let q : n - suc a ≡ (b - suc a) + suc (n - suc b) = omega arith in
          let r : suc a + (b - suc a) ≡ b = omega arith in
          ap₂ (λ (y z : List ℕ). y ++ z)
          (tree-text i b (omega arith) x (take (b - a) (drop a ns)) (to-root a b (omega arith) (omega arith)))
          (trees-from j (suc i) (omega arith))
          ∙ regroup (head a) (joined T (suc a) (b - suc a)) (ends_before nd b none) (head b) (joined T (suc b) (n - suc b)) (ends_before nd n none)
          ∙ ap (λ (z : List ℕ). head a ++ (z ++ ends_before nd n none)) (sym (joins a b p q r))

      pub all-trees : (j : ℕ) → j ≡ m → joined T 0 n ++ ends_before nd n none ≡ trees_text (map form (trees_of ns (tabulate (tree_row tr) 0 j)))
      unfolding tabulate joined ends_before
      all-trees zero e = rw (no-trees fit (sym e))
      all-trees (suc j) e =
          let f = first-root fit (omega arith) in
          let g = (root_in tr nd m n fit.roots 0 (omega arith)).0 in
          let q : n ≡ suc (n - 1) = omega arith in
          let r : ℕ → List ℕ = λ a. head a ++ (joined T (suc a) (n - suc a) ++ ends_before nd n none) in
          ap (λ (z : ℕ). joined T 0 z ++ ends_before nd n none) q
          ∙ append_assoc (head 0) (joined T 1 (n - 1)) (ends_before nd n none)
          ∙ sym (trees-from j 0 (omega arith) ∙ ap r f)
