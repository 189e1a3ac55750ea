-- The node table with its links and depths is the definition's rows. Assumes nothing.
use Rattle.lists.proofs.Prelude.{ℕ, suc, ◌+◌, ◌-◌, ◌*◌, ◌≤◌, ◌<◌, ◌≡◌, sym, ap, ◌∙◌, Bool, inl, inr, List, [], ◌∷◌, ◌++◌, arith, eqb, eq-eqb, ne_eqb, lt-ltb, le-ltb, length, drop, get_or, length-drop, get_or-drop, ext_get_or, pick}
use Rattle.lists.specs.All.{All}
use Rattle.tables.specs.Numbers.{none}
use Rattle.tables.specs.Record.{Node}
use Rattle.tables.specs.Rows.{first_child_from, parents, depths, node_rows}
use Rattle.tables.specs.Flat.{flat_nodes}
use Rattle.tables.specs.Columns.{node_stride, parent_at, child_at, depth_at}
use Rattle.tables.specs.Each.{tabulate}
use Rattle.tables.specs.LocalsDepths.{LevelledTo}
use Rattle.tables.specs.LocalsLinks.{first_under_or, LinkedFrom}
use Rattle.parser_tree.specs.LocalsFlat.{bare_rows}
use Rattle.reader.proofs.Parents.{Below}
use Rattle.reader.proofs.Nexts.{next-least, next-skip, cell, six, bare-next, bare-parent}
use Rattle.tables.proofs.Lengths.{parents-length}
use Rattle.tables.proofs.Tabulate.{tabulate-length, tabulate-at}

-- t₀ as the walks leave it, t with its links, t₂ with its depths too
module _ (all : List Node) (t₀ t t₂ rest : List ℕ) (few : length all ≤ none) (b : drop 0 t₀ ≡ flat_nodes (bare_rows 0 all) ++ rest)
    (L : LinkedFrom (length all) t₀ t 0) (D : LevelledTo (length all) t t₂ (length all)) where
  abbrev N : ℕ
  N = length all

  parent_is : (j : ℕ) → j < N → parent_at t₀ j ≡ get_or (parents all) j 0
  parent_is j h = let e : 0 + j ≡ j = omega arith in ap (parent_at t₀) (sym e) ∙ (bare-parent t₀ rest 0 0 j all b h).0

  no-child : (j : ℕ) → j < N → child_at t₀ j ≡ none
  no-child j h = let e : 0 + j ≡ j = omega arith in ap (child_at t₀) (sym e) ∙ (bare-parent t₀ rest 0 0 j all b h).1

  first-is : (i : ℕ) → i < N → child_at t i ≡ first_child_from i 0 0 (parents all)
  first-is i h =
      let e : N - 0 ≡ N = omega arith in
      L.first i h
      ∙ ap (first_under_or t₀ i 0) (e ∙ sym (parents-length all))
      ∙ sym (next-least t₀ i (no-child i h) 0 0 (parents all) (omega arith)
      (λ j l. let z : 0 + j ≡ j = omega arith in ap (parent_at t₀) z ∙ parent_is j (omega (arith, parents-length all))))

  after_is : (p i : ℕ) → p < N → i < N → first_under_or t₀ p (suc i) (N - suc i) ≡ first_child_from p (suc i) 0 (parents all)
  after_is p i hp hi =
      let z : 0 + suc i ≡ suc i = omega arith in
      let l : length (drop (suc i) (parents all)) ≡ N - suc i = length-drop (suc i) (parents all) ∙ ap (λ (m : ℕ). m - suc i) (parents-length all) in
      ap (first_under_or t₀ p (suc i)) (sym l)
      ∙ sym (next-least t₀ p (no-child p hp) (suc i) (suc i) (drop (suc i) (parents all)) (omega arith)
      (λ j m. parent_is (suc i + j) (omega arith) ∙ sym (get_or-drop (suc i) (parents all) j 0)))
      ∙ sym (ap (λ (m : ℕ). first_child_from p m 0 (parents all)) (sym z) ∙ next-skip p (suc i) 0 (parents all) ∙ ap (λ (m : ℕ). first_child_from p m m (drop (suc i) (parents all))) z)

  sibling-is : (i : ℕ) → i < N → (x : Node) → parent_at t₀ i ≡ x.parent → Below N x
      → get_or t (i * node_stride + 2) 0 ≡ pick (eqb x.parent none) none (first_child_from x.parent (suc i) 0 (parents all))
  sibling-is i h x e (inl q) =
      L.next i (omega arith) h
      ∙ ap (λ (z : Bool). pick z (first_under_or t₀ (parent_at t₀ i) (suc i) (N - suc i)) none) (le-ltb (parent_at t₀ i) N (omega arith))
      ∙ ap (λ (z : Bool). pick z none (first_child_from x.parent (suc i) 0 (parents all))) (sym (eq-eqb x.parent none q))
  sibling-is i h x e (inr q) =
      L.next i (omega arith) h
      ∙ ap (λ (z : Bool). pick z (first_under_or t₀ (parent_at t₀ i) (suc i) (N - suc i)) none) (lt-ltb (parent_at t₀ i) N (omega arith))
      ∙ ap (λ (z : ℕ). first_under_or t₀ z (suc i) (N - suc i)) e
      ∙ after_is x.parent i q h
      ∙ ap (λ (z : Bool). pick z none (first_child_from x.parent (suc i) 0 (parents all))) (sym (ne_eqb x.parent none (λ z. omega arith)))

  -- the cells that are no links
  kept-is : (k c : ℕ) → (c ≡ 1 → ⊥) → (c ≡ 2 → ⊥) → c < 6 → (d : List ℕ) → drop (k * node_stride) t₀ ≡ d → get_or t (k * node_stride + c) 0 ≡ get_or d c 0
  kept-is k c h1 h2 h6 d e = L.kept (k * node_stride + c) (λ r h. ((λ q. h1 (omega arith)), (λ q. h2 (omega arith)))) ∙ cell t₀ (k * node_stride) c d e

  -- those that are no depths
  stays : (k c : ℕ) → c < 5 → get_or t₂ (k * node_stride + c) 0 ≡ get_or t (k * node_stride + c) 0
  stays k c h = D.kept (k * node_stride + c) (λ r l q. omega arith)

  parents-told : tabulate (parent_at t) 0 N ≡ parents all
  parents-told =
      ext_get_or 0 (tabulate (parent_at t) 0 N) (parents all) (tabulate-length (parent_at t) 0 N ∙ sym (parents-length all))
      (λ j h.
      let l : j < N = omega (arith, tabulate-length (parent_at t) 0 N) in
      let z : 0 + j ≡ j = omega arith in
      tabulate-at (parent_at t) 0 N j 0 l ∙ ap (parent_at t) z ∙ L.kept (j * node_stride) (λ r m. ((λ q. omega arith), (λ q. omega arith))) ∙ parent_is j l)

  depth_is : (i : ℕ) → i < N → depth_at t₂ i ≡ get_or (depths (parents all)) i 0
  depth_is i h = D.level i h ∙ ap (λ (z : List ℕ). get_or (depths z) i 0) parents-told

  past_is : (k : ℕ) → k ≡ N → drop (k * node_stride) t₀ ≡ rest → drop (k * node_stride) t₂ ≡ rest
  past_is k e q =
      ext_get_or 0 (drop (k * node_stride) t₂) (drop (k * node_stride) t₀)
      (length-drop (k * node_stride) t₂ ∙ ap (λ (z : ℕ). z - k * node_stride) (D.len ∙ L.len) ∙ sym (length-drop (k * node_stride) t₀))
      (λ i h.
      get_or-drop (k * node_stride) t₂ i 0
      ∙ D.kept (k * node_stride + i) (λ r l z. omega arith)
      ∙ L.kept (k * node_stride + i) (λ r l. ((λ z. omega arith), (λ z. omega arith)))
      ∙ sym (get_or-drop (k * node_stride) t₀ i 0))
      ∙ q

  rows-from : (es : List Node) (k f : ℕ) → drop (k * node_stride) t₀ ≡ flat_nodes (bare_rows f es) ++ rest → k + length es ≡ N → All (Below N) es
      → drop (k * node_stride) t₂ ≡ flat_nodes (node_rows (parents all) k f es) ++ rest
  rows-from [] k f e h a = past_is k (omega arith) e
  rows-from (n ∷ ns) k f e h a =
      let s : suc k * node_stride ≡ k * node_stride + 6 = omega arith in
      let o : k * node_stride + 0 ≡ k * node_stride = omega arith in
      let room : k * node_stride + 6 ≤ length t₂ = omega (arith, ap length e, length-drop (k * node_stride) t₀, L.len, D.len) in
      let hk : k < N = omega arith in
      let c0 : get_or t₂ (k * node_stride) 0 ≡ n.parent = ap (λ (z : ℕ). get_or t₂ z 0) (sym o) ∙ stays k 0 (omega arith) ∙ kept-is k 0 (λ z. omega arith) (λ z. omega arith) (omega arith) _ e in
      let p0 : parent_at t₀ k ≡ n.parent = ap (λ (z : ℕ). get_or t₀ z 0) (sym o) ∙ cell t₀ (k * node_stride) 0 _ e in
      let c1 : get_or t₂ (k * node_stride + 1) 0 ≡ first_child_from k 0 0 (parents all) = stays k 1 (omega arith) ∙ first-is k hk in
      let c2 : get_or t₂ (k * node_stride + 2) 0 ≡ pick (eqb n.parent none) none (first_child_from n.parent (suc k) 0 (parents all)) = stays k 2 (omega arith) ∙ sibling-is k hk n p0 a.0 in
      let c3 : get_or t₂ (k * node_stride + 3) 0 ≡ f = stays k 3 (omega arith) ∙ kept-is k 3 (λ z. omega arith) (λ z. omega arith) (omega arith) _ e in
      let c4 : get_or t₂ (k * node_stride + 4) 0 ≡ length n.props = stays k 4 (omega arith) ∙ kept-is k 4 (λ z. omega arith) (λ z. omega arith) (omega arith) _ e in
      six t₂ (k * node_stride) room
      ∙ rw (c0, c1, c2, c3, c4, depth_is k hk, ← s)
      (ap (λ (z : List ℕ). n.parent ∷ first_child_from k 0 0 (parents all) ∷ pick (eqb n.parent none) none (first_child_from n.parent (suc k) 0 (parents all)) ∷ f ∷ length n.props ∷ get_or (depths (parents all)) k 0 ∷ z)
      (rows-from ns (suc k) (f + length n.props) (bare-next t₀ rest k f n ns e) (omega arith) a.1))

  pub linked-rows : All (Below N) all → t₂ ≡ flat_nodes (node_rows (parents all) 0 0 all) ++ rest
  linked-rows a = rows-from all 0 0 b (omega arith) a
