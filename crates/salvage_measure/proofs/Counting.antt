-- The entries of the slices, counted where none of them has room. Assumes nothing.
use Rattle.lists.proofs.Prelude.{ℕ, ◌+◌, ◌-◌, ◌*◌, ◌≤◌, ◌<◌, ◌≡◌, refl, max, true, List, [], ◌∷◌, ◌++◌, arith, length, length-append}
use Rattle.lists.specs.Put.{PutIs}
use Rattle.lists.proofs.Put.{put-none}
use Rattle.lexer.specs.Token.{lex_at}
use Rattle.tables.specs.Record.{Node, all_props}
use Rattle.parser.specs.Split.{split_by_gametree}
use Rattle.parser.specs.Walk.{Walk}
use Rattle.why_blame.specs.Blame.{Blame, nowhere, found}
use Rattle.salvage_mend.specs.Changes.{Change, nodes_changes}
use Rattle.salvage_list.specs.Listed.{cut_of, root_of, tail_of, slices_changes}
use Rattle.salvage_list.specs.ListRows.{change_rows}
use Rattle.salvage_list.specs.LocalsPuts.{entry_limit, EntriesPut}
use Rattle.salvage_list.specs.LocalsWalk.{nodes_from, cut_from, TreeListed, ListReady}
use Rattle.salvage_list.proofs.Few.{nodes-few}
use Rattle.salvage_list.proofs.Slices.{listing-first, listing-few, listing-more, listing-end}
use Rattle.salvage_shape.specs.LocalsWalk.{ShapeIs}
use Rattle.salvage_shape.specs.declared.TreeShape.{TreeShape}
use Rattle.salvage_measure.specs.LocalsMeasure.{SlicesCounted}

no_room : (at : ℕ) (vs : List ℕ) → PutIs [] at vs []
no_room at [] = put-none [] at
no_room at (v ∷ vs) = record { len = refl; put = λ h. absurd (omega (arith, h)) }

-- entries that are only counted
pub unput : (e : ℕ) (cs : List Change) {r : ℕ} → r ≡ e + length cs → EntriesPut [] e cs r []
unput e cs h = record { next = h; put = no_room (e * 3) (change_rows cs) }

root-few : (i : ℕ) (ns : List Node) → length (root_of i ns) + length ns ≡ max 1 (length ns)
root-few i [] = refl
root-few i (n ∷ ns) = omega arith

cut-few : (i : ℕ) (b : Blame Walk) → length (cut_of i b) ≤ 1
cut-few i nowhere = omega arith
cut-few i (found w pre t) = omega arith

pub counting-first : {u : List ℕ} {from count : ℕ} → ListReady u from count → SlicesCounted u from count from 0 0 0
counting-first x = record { p = 0; are = listing-first [] x }

pub shape-few : {u : List ℕ} {at base : ℕ} {r : TreeShape} → ShapeIs u at base r → r.listed ≤ length u + 1
shape-few {u} {at} {base} y =
    let a = y.listed 0 0 in
    let b = nodes-few 0 (nodes_from u at base) in
    let c = cut-few 0 (cut_from u at base) in
    let d = y.prop-bound in
    let e = y.behind.inside in
    omega (arith, a, b, c, d, e)

module _ {u : List ℕ} {from count at base listed k : ℕ} (x : SlicesCounted u from count at base listed k) where
  pub counting-few : listed ≤ entry_limit
  counting-few = listing-few x.are

  pub counting_more : k < count → {r : TreeShape} → ShapeIs u at base r → {m l : ℕ} → m ≡ max 1 r.nodes → l ≡ listed + (r.listed + (m - r.nodes))
      → SlicesCounted u from count r.next (base + m) l (k + 1)
  counting_more h {r} y {m} {l} em el =
      let N : List Node = nodes_from u at base in
      let p : ℕ = x.p in
      let cs : List Change = root_of k N ++ (nodes_changes p N ++ cut_of k (cut_from u at base)) in
      let yn = y.nodes in
      let yl = y.listed k p in
      let l1 = length-append (root_of k N) (nodes_changes p N ++ cut_of k (cut_from u at base)) in
      let l2 = length-append (nodes_changes p N) (cut_of k (cut_from u at base)) in
      let rf = root-few k N in
      let cf = cut-few k (cut_from u at base) in
      let nf = nodes-few p N in
      let nb = y.node-bound in
      let on = y.behind.on in
      let pb = y.prop-bound in
      let xp = x.are.props in
      let t : TreeListed u at k base p listed [] (record { at = r.next; nodes = base + m; properties = p + length (all_props N); entries = l }) [] = record {
        nodes = omega (arith, em, yn);
        props = refl;
        put = unput listed cs (omega (arith, el, em, yn, yl, l1, l2, rf));
        behind = y.behind;
        node-bound = omega (arith, em, nb, on);
        prop-bound = omega (arith, pb, xp);
        entry-bound = omega (arith, el, em, yn, yl, rf, cf, nf);
      } in
      record { p = p + length (all_props N); are = listing-more x.are h t }

  pub counting-end : count ≤ k → {n : ℕ} → n ≡ listed + length (tail_of (lex_at u at).toks (lex_at u at).end) → n ≡ length (slices_changes (split_by_gametree true (lex_at u from).toks) (lex_at u from))
  counting-end h {n} q = let z = (listing-end x.are h (unput listed (tail_of (lex_at u at).toks (lex_at u at).end) q)).next in omega (arith, z)
