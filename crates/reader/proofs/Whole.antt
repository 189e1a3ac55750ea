-- The reading put together: the run that counts, the room, the run that writes, the links and depths. Assumes nothing.
use Rattle.lists.proofs.Prelude.{ℕ, ◌*◌, ◌≤◌, ◌≡◌, refl, sym, ap, ◌∙◌, subst, subst⁻¹, Bool, true, false, List, ◌++◌, reverse, reverse-reverse, arith, length, drop}
use Rattle.lists.specs.All.{All}
use Rattle.lists.proofs.Put.{put_all}
use Rattle.lists.proofs.Tests.{never}
use Rattle.lexer.specs.Token.{Tok}
use Rattle.tables.specs.Numbers.{none}
use Rattle.tables.specs.Record.{Node, Tree, all_nodes, all_props, all_vals}
use Rattle.tables.specs.Rows.{tree_rows, node_rows, parents, prop_rows, val_rows, tables, counts_of}
use Rattle.tables.specs.Flat.{flat_nodes, over}
use Rattle.tables.specs.LocalsDepths.{LevelledTo, LevelsIs}
use Rattle.tables.specs.LocalsLinks.{HasRows, LinkedFrom, LinksIs}
use Rattle.tables.specs.declared.Counts.{Counts}
use Rattle.tables.specs.declared.Reason.{Reason}
use Rattle.tables.specs.declared.Reason.TheVariants.{NoRoom}
use Rattle.parser.specs.LocalsSlice.{first_slices}
use Rattle.parser.specs.Read.{Answer, accepted, Trees, trees_so_far, no_trees, answer}
use Rattle.parser_tree.specs.LocalsFlat.{bare_rows}
use Rattle.parser_tree.proofs.Flats.{val-length, prop-length, node-length}
use Rattle.reader.specs.Lent.{Lent, lent, room_for, roomy, rows_counted, stored, ReadIs}
use Rattle.reader.specs.LocalsSlices.{read_of, CountedAs, TreesPutIs, TreesIs, CountIs}
use Rattle.reader.proofs.Parents.{Below, parents-below}
use Rattle.reader.proofs.Linked.{linked-rows}
use Rattle.reader.proofs.Plants.{tree-length}
use Rattle.reader.proofs.Rooms.{tree-count, flat-nodes, Room, room-true}
use Rattle.tables.proofs.Lengths.{prop-rows-length, val-rows-length, node-rows-length}
use Rattle.tables.specs.Columns.{node_stride}
use Rattle.std.specs.Prelude.{Result, Ok, Err}
use Rattle.tables.specs.Refusals.{refusal}
use Rattle.tables.specs.declared.Refusal.{Refusal}

lent_same : {r t q w r1 t1 q1 w1 : List ℕ} → r1 ≡ r → t1 ≡ t → q1 ≡ q → w1 ≡ w → lent r1 t1 q1 w1 ≡ lent r t q w
lent_same er et eq ew = rw (er, et, eq, ew)

-- ---- refused

pub read-refused : {X : Trees} {r : Reason} → X ≡ no_trees r → {b : Lent} → ReadIs (answer X) b b (Err (refusal r 0))
read-refused {X} {r} e {b} = subst⁻¹ (λ (z : Trees). ReadIs (answer z) b b (Err (refusal r 0))) e (record { answer = refl; tables = refl })

-- ---- the trees put

module _ (es : List Node) (n : ℕ) (e : n ≡ length es) (few : n ≤ none) (below : All (Below n) es) (t : List ℕ) {t1 t2 t3 : List ℕ} (put : t1 ≡ over (flat_nodes (bare_rows 0 es)) t) (room : HasRows n t1)
    (links : LinksIs n t1 t2) (levels : LevelsIs n t2 t3) where
  nodes-linked : t3 ≡ over (flat_nodes (node_rows (parents es) 0 0 es)) t
  nodes-linked =
      let l : length (flat_nodes (bare_rows 0 es)) ≡ length (flat_nodes (node_rows (parents es) 0 0 es)) =
      node-length 0 es ∙ ap (λ (z : ℕ). z * node_stride) (sym (node-rows-length (parents es) 0 0 es)) ∙ sym (flat-nodes (node_rows (parents es) 0 0 es)) in
      let L = links.made room in
      let room2 : HasRows n t2 = (rw L.len room.0, room.1) in
      linked-rows es t1 t2 t3 (drop (length (flat_nodes (bare_rows 0 es))) t) (omega arith) put
      (subst (λ (z : ℕ). LinkedFrom z t1 t2 0) e L) (subst (λ (z : ℕ). LevelledTo z t2 t3 z) e (levels.made room2)) (subst (λ (z : ℕ). All (Below z) es) e below)
      ∙ ap (λ (z : ℕ). flat_nodes (node_rows (parents es) 0 0 es) ++ drop z t) l

-- ---- accepted

module _ {X : Trees} {count n p v : ℕ} {b₀ a₀ : Lent} (G : TreesPutIs X count b₀ a₀ n p v) where
  abbrev counts : Counts
  counts = record { trees = count; nodes = n; properties = p; values = v }

  counts-are : counts_of (tables G.ts) ≡ counts
  counts-are =
      let e1 : length (tree_rows G.ts) ≡ count = tree-count G.ts ∙ G.count-is in
      let e2 : length (node_rows (parents (all_nodes G.ts)) 0 0 (all_nodes G.ts)) ≡ n = omega (arith, node-rows-length (parents (all_nodes G.ts)) 0 0 (all_nodes G.ts), G.stored.nodes) in
      let e3 : length (prop_rows 0 (all_props (all_nodes G.ts))) ≡ p = omega (arith, prop-rows-length 0 (all_props (all_nodes G.ts)), G.stored.props) in
      let e4 : length (val_rows (all_vals (all_props (all_nodes G.ts)))) ≡ v = omega (arith, val-rows-length (all_vals (all_props (all_nodes G.ts))), G.stored.vals) in
      rw (e1, e2, e3, e4)

  pub grown-counted : CountedAs X counts
  grown-counted = record { ts = G.ts; trees-are = G.trees-are; counts = counts-are }

module _ {X : Trees} {c : Counts} (K : CountedAs X c) where
  answer-is : answer X ≡ accepted K.ts
  answer-is = ap answer K.trees-are ∙ ap accepted (reverse-reverse K.ts)

module _ {X : Trees} {c : Counts} (K : CountedAs X c) (b : Lent)
    {t : Bool} (e : t ≡ room_for c (length b.trees) (length b.nodes) (length b.props) (length b.vals)) where
  room-is : roomy (tables K.ts) b ≡ t
  room-is =
      ap (λ (z : Counts). room_for z (length b.trees) (length b.nodes) (length b.props) (length b.vals)) K.counts ∙ sym e

  pub read-no-room : t ≡ false → ReadIs (answer X) b b (Err (refusal NoRoom 0))
  read-no-room f =
      subst⁻¹ (λ (z : Answer). ReadIs z b b (Err (refusal NoRoom 0))) (answer-is K) (record { answer = rw (room-is, f); tables = rw (room-is, f) })

  -- the run that writes, the links and the depths
  module _ (f : t ≡ true) {A : Lent} {n' p' v' : ℕ} (Y : TreesPutIs X c.trees b A n' p' v') (len : Bool) (l : List Tok) (ex : X ≡ read_of len c.trees l)
      {t2 t3 : List ℕ} (links : LinksIs c.nodes A.nodes t2) (levels : LevelsIs c.nodes t2 t3) where
    grown-same : trees_so_far n' (reverse Y.ts) ≡ trees_so_far c.nodes (reverse K.ts)
    grown-same = sym Y.trees-are ∙ K.trees-are

    nodes-same : n' ≡ c.nodes
    nodes-same = let z = grown-same in cc

    trees-same : Y.ts ≡ K.ts
    trees-same = let z = grown-same in let w : reverse Y.ts ≡ reverse K.ts = cc in sym (reverse-reverse Y.ts) ∙ ap reverse w ∙ reverse-reverse K.ts

    counts_same : counts Y ≡ c
    counts_same = sym (counts-are Y) ∙ ap (λ (z : List Tree). counts_of (tables z)) trees-same ∙ K.counts

    filled : lent A.trees t3 A.props A.vals ≡ stored (tables Y.ts) b
    unfolding read_of
    filled =
        let R : Room (counts Y) b = subst⁻¹ (λ (z : Counts). Room z b) counts_same (room-true c b (sym e ∙ f)) in
        let rt = R.trees in
        let rn = R.nodes in
        let rp = R.props in
        let rv = R.vals in
        let es : List Node = all_nodes Y.ts in
        let yn = Y.stored.nodes in
        let yp = Y.stored.props in
        let yv = Y.stored.vals in
        let yc = Y.count-is in
        let fe = Y.bound in
        let ns = nodes-same in
        let ln = Y.stored.tnodes.len in
        let b1 : All (Below c.nodes) (all_nodes Y.ts) = subst (λ (z : ℕ). All (Below z) (all_nodes Y.ts)) nodes-same (parents-below len (first_slices c.trees l) n' Y.ts (sym ex ∙ Y.trees-are)) in
        lent_same
        (put_all Y.ttrees (omega (arith, tree-length Y.ts)))
        (nodes-linked (all_nodes Y.ts) c.nodes (omega arith) (omega arith) b1 b.nodes (put_all Y.stored.tnodes (omega (arith, node-length 0 (all_nodes Y.ts)))) (omega arith, omega arith) links levels)
        (put_all Y.stored.tprops (omega (arith, prop-length 0 (all_props (all_nodes Y.ts)))))
        (put_all Y.stored.tvals (omega (arith, val-length (all_vals (all_props (all_nodes Y.ts))))))

    read-filled : ReadIs (answer X) b (lent A.trees t3 A.props A.vals) (Ok c)
    read-filled =
        subst⁻¹ (λ (z : Answer). ReadIs z b (lent A.trees t3 A.props A.vals) (Ok c)) (answer-is K)
        (record {
          answer = rw (room-is, f) (ap Ok (sym K.counts));
          tables = rw (room-is, f) (filled ∙ ap (λ (z : List Tree). stored (tables z) b) trees-same);
        })

  -- the second run does not refuse where the first did not
  pub read-accepted : t ≡ true → (A : Lent) (x : Result (ℕ × ℕ × ℕ) Reason) → TreesIs X c.trees b A x → (len : Bool) (l : List Tok) → X ≡ read_of len c.trees l → (t2 t3 : List ℕ) → LinksIs c.nodes A.nodes t2 → LevelsIs c.nodes t2 t3
      → ReadIs (answer X) b (lent A.trees t3 A.props A.vals) (Ok c)
  read-accepted f A (Ok (n', p', v')) Y len l ex t2 t3 links levels = read-filled f Y len l ex links levels
  read-accepted f A (Err r) Y len l ex t2 t3 links levels =
      let w : no_trees r ≡ trees_so_far c.nodes (reverse K.ts) = sym Y ∙ K.trees-are in never cc

-- what the run that counts gave
module _ (X : Trees) (count : ℕ) {x : Result (ℕ × ℕ × ℕ) Reason} (y : CountIs X count x) where
  pub total-rows : {n p v : ℕ} → x ≡ Ok (n, p, v) → TreesPutIs X count y.0 y.1 n p v
  total-rows e = subst (TreesIs X count y.0 y.1) e y.2

  pub total-refused : {r : Reason} → x ≡ Err r → X ≡ no_trees r
  total-refused e = subst (TreesIs X count y.0 y.1) e y.2

-- ---- counted only

pub count-refused : {X : Trees} {r : Reason} → X ≡ no_trees r → Err (refusal r 0) ≡ rows_counted (answer X)
count-refused e = ap (λ (z : Trees). rows_counted (answer z)) (sym e)

pub count-accepted : {X : Trees} {c : Counts} → CountedAs X c → Ok c ≡ rows_counted (answer X)
count-accepted K = sym (ap rows_counted (answer-is K) ∙ ap Ok K.counts)

pub count-as : {A B : Answer} → A ≡ B → {r : Result Counts (Refusal Reason)} → r ≡ rows_counted B → r ≡ rows_counted A
count-as e q = q ∙ ap rows_counted (sym e)
