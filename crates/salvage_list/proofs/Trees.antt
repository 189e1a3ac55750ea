-- The entries of a tree. Assumes nothing.
use Rattle.lists.proofs.Prelude.{ℕ, ◌+◌, ◌≤◌, ◌≡◌, sym, ap, ◌∙◌, max, Bool, true, false, List, [], ◌∷◌, ◌++◌, arith, length, eqb, eq-eqb, ne_eqb, pick}
use Rattle.tables.specs.Numbers.{text_limit}
use Rattle.tables.specs.Record.{Node}
use Rattle.salvage_mend.specs.Changes.{Change, empty_root, cut_short, nodes_changes}
use Rattle.salvage_list.specs.Listed.{root_of}
use Rattle.salvage_list.specs.LocalsPuts.{EntriesPut, root_if, cut_if}
use Rattle.salvage_list.specs.LocalsWalk.{nodes_from, StandReady, StoodIs, TreeListed}
use Rattle.salvage_list.specs.declared.walk.Stood.{Stood}
use Rattle.salvage_list.proofs.Puts.{puts-as, puts-more}

-- ---- a tree

if-few : (b : Bool) (c : Change) → length (pick b (c ∷ []) []) ≤ 1
if-few true c = omega arith
if-few false c = omega arith

-- where there is no node, no entry of a property comes before that of the empty root
root-first : (i base p : ℕ) (ns : List Node) (xs : List Change) → nodes_changes p ns ++ (root_if (eqb (base + length ns) base) i ++ xs) ≡ root_of i ns ++ (nodes_changes p ns ++ xs)
root-first i base p [] xs = ap (λ (z : Bool). root_if z i ++ xs) (eq-eqb (base + 0) base (omega arith))
root-first i base p (n ∷ ns) xs = ap (λ (z : Bool). nodes_changes p (n ∷ ns) ++ (root_if z i ++ xs)) (ne_eqb (base + length (n ∷ ns)) base (λ z. omega arith))

module _ {u : List ℕ} {from base p e : ℕ} {t : List ℕ} {s : Stood} {t1 : List ℕ} (r : StandReady u from base p e) (w : StoodIs u from base p e t s t1) where
  pub stood-few : s.entries ≤ text_limit + text_limit + text_limit
  stood-few =
      let a = r.short in
      let b = r.entries in
      let c = w.entry-bound in
      let d = w.prop-bound in
      let f = w.behind.inside in
      omega arith

  module _ (tree : ℕ) {r1 : ℕ} {t2 : List ℕ} (x : EntriesPut t1 s.entries (root_if (eqb s.nodes base) tree) r1 t2) where
    pub rooted-few : r1 ≤ text_limit + text_limit + text_limit + 1
    rooted-few = let a = stood-few in let b = x.next in let c = if-few (eqb s.nodes base) (empty_root tree) in omega arith

    pub tree-listed : {r2 m : ℕ} {t3 : List ℕ} → EntriesPut t2 r1 (cut_if s.cut tree s.place) r2 t3 → m ≡ max (base + 1) s.nodes
        → TreeListed u from tree base p e t (record { at = s.next; nodes = m; properties = s.properties; entries = r2 }) t3
    tree-listed {r2} {m} {t3} y h =
        let N : List Node = nodes_from u from base in
        let a = w.nodes in
        let b = w.node-bound in
        let c = w.behind.on in
        let f = w.entry-bound in
        let g = x.next in
        let i = y.next in
        let j = if-few (eqb s.nodes base) (empty_root tree) in
        let k = if-few s.cut (cut_short tree s.place) in
        record {
          nodes = omega arith;
          props = w.props;
          put = puts-as (puts-more w.put (puts-more x y))
              (ap (λ (z : ℕ). nodes_changes p N ++ (root_if (eqb z base) tree ++ cut_if s.cut tree s.place)) w.nodes
              ∙ root-first tree base p N (cut_if s.cut tree s.place)
              ∙ ap (λ (z : List Change). root_of tree N ++ (nodes_changes p N ++ z)) (sym (w.cuts tree)));
          behind = w.behind;
          node-bound = omega arith;
          prop-bound = w.prop-bound;
          entry-bound = omega arith;
        }
