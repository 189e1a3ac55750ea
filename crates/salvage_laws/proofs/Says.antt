-- The list leaves nothing unsaid: the lenient record with the listed changes is the mended record. Assumes nothing.
use Rattle.lists.proofs.Prelude.{◌≡◌, refl, sym, ap, ap₂, ◌∙◌, subst, ℕ, zero, suc, ◌+◌, ◌<◌, max, arith, true, false, List, [], ◌∷◌, ◌++◌, map, reverse, length, length-append, length-reverse, drop}
use Rattle.text_utf8.specs.Text.{Utf}
use Rattle.lexer.specs.Token.{Tok, End, done, broken}
use Rattle.tables.specs.Numbers.{none}
use Rattle.tables.specs.Record.{Node, Tree, all_props}
use Rattle.parser.specs.LocalsSlice.{slice_from, rest_from, first_slices}
use Rattle.parser.specs.Split.{Slices}
use Rattle.parser.specs.Walk.{Walk, walk, halted, stopped, walks, walked}
use Rattle.parser.specs.Read.{accepted, read_lenient, tokenize}
use Rattle.reader_laws.proofs.Accepted.{Reading, reading-is}
use Rattle.reader_laws.proofs.Grown.{Grew, nodes_of, in_order}
use Rattle.why_blame.specs.Blame.{Blame, nowhere, found, blame, is_stopped}
use Rattle.why_blame.specs.Cuts.{sliced_tokens}
use Rattle.salvage_mend.specs.Mend.{root_game, gms_bad, mend_nodes, mend_tree, mended}
use Rattle.salvage_mend.specs.Changes.{Change, nodes_changes, props_changes, change_nodes, change_trees, changed, game_kept}
use Rattle.salvage_list.specs.Listed.{cut_of, walk_nodes, root_of, trees_changes, tail_of, slices_changes, utf_changes, changes_of}
use Rattle.salvage_mend.proofs.Told.{Silent, Below, Above, silent-append, props-above, props-below, tells-behind, tells-before, NodesTold, nodes-told, game-told, nodes-tell}

-- ---- trees that a list tells of

-- what becomes of the properties of each tree, the first of which is property k
abbrev TreesTold : List Change → (k : ℕ) → List Tree → Type 0
TreesTold cs k [] = Unit {0}
TreesTold cs k (t ∷ ts) = NodesTold cs k t.nodes × TreesTold cs (k + length (all_props t.nodes)) ts

trees-told : (cs : List Change) (k : ℕ) (ts : List Tree) → TreesTold cs k ts → change_trees cs k ts ≡ map mend_tree ts
trees-told cs k [] h = refl
trees-told cs k (t ∷ ts) h =
    let e : change_nodes cs k t.nodes ≡ mend_nodes (gms_bad (root_game t.nodes)) t.nodes = nodes-told cs k t.nodes h.0 in
    ap₂ (λ (ns : List Node) (us : List Tree). record { root = t.root; game = game_kept ns; nodes = ns } ∷ us) e (trees-told cs (k + length (all_props t.nodes)) ts h.1)
    ∙ ap (λ (g : ℕ). record { root = t.root; game = g; nodes = mend_nodes (gms_bad (root_game t.nodes)) t.nodes } ∷ map mend_tree ts) (game-told t.nodes)

nodes-behind : (xs cs : List Change) (k : ℕ) (ns : List Node) → Below k xs → NodesTold cs k ns → NodesTold (xs ++ cs) k ns
nodes-behind xs cs k [] b h = tt
nodes-behind xs cs k (n ∷ ns) b h = (
  tells-behind xs cs (gms_bad (root_game (n ∷ ns))) k n.props b h.0,
  tells-behind xs cs false (k + length n.props) (all_props ns) (λ j l. b j (omega arith)) h.1,
)

nodes-before : (cs ys : List Change) (k : ℕ) (ns : List Node) → Above (k + length (all_props ns)) ys → NodesTold cs k ns → NodesTold (cs ++ ys) k ns
nodes-before cs ys k [] a h = tt
nodes-before cs ys k (n ∷ ns) a h =
    let l = length-append n.props (all_props ns) in (
      tells-before cs ys (gms_bad (root_game (n ∷ ns))) k n.props (λ j z. a j (omega arith)) h.0,
      tells-before cs ys false (k + length n.props) (all_props ns) (λ j z. a j (omega arith)) h.1,
    )

trees-behind : (xs cs : List Change) (k : ℕ) (ts : List Tree) → Below k xs → TreesTold cs k ts → TreesTold (xs ++ cs) k ts
trees-behind xs cs k [] b h = tt
trees-behind xs cs k (t ∷ ts) b h =
    (nodes-behind xs cs k t.nodes b h.0, trees-behind xs cs (k + length (all_props t.nodes)) ts (λ j l. b j (omega arith)) h.1)

trees-before : (cs ys : List Change) (k : ℕ) (ts : List Tree) → ((j : ℕ) → Silent ys j) → TreesTold cs k ts → TreesTold (cs ++ ys) k ts
trees-before cs ys k [] s h = tt
trees-before cs ys k (t ∷ ts) s h =
    (nodes-before cs ys k t.nodes (λ j l. s j) h.0, trees-before cs ys (k + length (all_props t.nodes)) ts s h.1)

-- ---- what is listed of no property, of those below, of those above

cut-silent : (i : ℕ) (b : Blame Walk) (j : ℕ) → Silent (cut_of i b) j
cut-silent i nowhere j = (refl, refl)
cut-silent i (found w pre t) j = (refl, refl)

root-silent : (i : ℕ) (ns : List Node) (j : ℕ) → Silent (root_of i ns) j
root-silent i [] j = (refl, refl)
root-silent i (n ∷ ns) j = (refl, refl)

tail-silent : (ts : List Tok) (e : End) (j : ℕ) → Silent (tail_of ts e) j
tail-silent (t ∷ ts) e j = (refl, refl)
tail-silent [] (broken f s) j = (refl, refl)
tail-silent [] done j = (refl, refl)

nodes-above : (k : ℕ) (ns : List Node) → Above k (nodes_changes k ns)
nodes-above k [] j l = (refl, refl)
nodes-above k (n ∷ ns) j l =
    silent-append (props_changes (gms_bad (root_game (n ∷ ns))) k n.props) (props_changes false (k + length n.props) (all_props ns)) j
    (props-above (gms_bad (root_game (n ∷ ns))) k n.props j l) (props-above false (k + length n.props) (all_props ns) j (omega arith))

nodes-below : (k : ℕ) (ns : List Node) → Below (k + length (all_props ns)) (nodes_changes k ns)
nodes-below k [] j l = (refl, refl)
nodes-below k (n ∷ ns) j l =
    let a = length-append n.props (all_props ns) in
    silent-append (props_changes (gms_bad (root_game (n ∷ ns))) k n.props) (props_changes false (k + length n.props) (all_props ns)) j
    (props-below (gms_bad (root_game (n ∷ ns))) k n.props j (omega arith)) (props-below false (k + length n.props) (all_props ns) j (omega arith))

trees-above : (i base k : ℕ) (ss : List (List Tok)) → Above k (trees_changes i base k ss)
trees-above i base k [] j l = (refl, refl)
trees-above i base k (s ∷ ss) j l =
    let ns : List Node = walk_nodes (walked true base (walk none [] false []) s) in
    let r : List Change = trees_changes (suc i) (base + max 1 (length ns)) (k + length (all_props ns)) ss in
    let c : List Change = cut_of i (blame (walks true base) is_stopped (walk none [] false []) [] s) in
    silent-append (root_of i ns) (nodes_changes k ns ++ (c ++ r)) j (root-silent i ns j)
    (silent-append (nodes_changes k ns) (c ++ r) j (nodes-above k ns j l)
    (silent-append c r j (cut-silent i (blame (walks true base) is_stopped (walk none [] false []) [] s) j) (trees-above (suc i) (base + max 1 (length ns)) (k + length (all_props ns)) ss j (omega arith))))

-- ---- the nodes of a walk, and of the tree that grew from it: an empty root where there are none

pub record OneTree (ns ms : List Node) : Type 0 where
  pub props : length (all_props ms) ≡ length (all_props ns)
  pub nodes : length ms ≡ max 1 (length ns)
  pub told : (cs : List Change) (k : ℕ) → NodesTold cs k ns → NodesTold cs k ms

one-some : (ns : List Node) → 0 < length ns → OneTree ns ns
one-some ns l = record { props = refl; nodes = omega arith; told = λ cs k h. h }

pub one-tree : (w : Walk) → OneTree (walk_nodes w) (in_order (nodes_of w))
one-tree (walk cur st g []) = record { props = refl; nodes = omega arith; told = λ cs k h. (tt, tt) }
one-tree (walk cur st g (n ∷ ns)) = one-some (reverse (n ∷ ns)) (omega (arith, length-reverse (n ∷ ns)))
one-tree (halted []) = record { props = refl; nodes = omega arith; told = λ cs k h. (tt, tt) }
one-tree (halted (n ∷ ns)) = one-some (reverse (n ∷ ns)) (omega (arith, length-reverse (n ∷ ns)))
one-tree (stopped r) = record { props = refl; nodes = omega arith; told = λ cs k h. (tt, tt) }

-- ---- the trees of the slices

grew-told : (i base k n : ℕ) (us : List Tok) (ts : List Tree) → Grew true base n us ts → TreesTold (trees_changes i base k (first_slices n us)) k ts
unfolding first_slices
grew-told i base k zero us [] g = tt
grew-told i base k zero us (t ∷ ts) g = absurd g
grew-told i base k (suc n) us [] g = absurd g
grew-told i base k (suc n) us (t ∷ ts) g =
    let w : Walk = walked true base (walk none [] false []) (slice_from 0 us) in
    let ns : List Node = walk_nodes w in
    let ss : List (List Tok) = first_slices n (rest_from 0 us) in
    let c : List Change = cut_of i (blame (walks true base) is_stopped (walk none [] false []) [] (slice_from 0 us)) in
    let one : OneTree ns t.nodes = subst (λ (ms : List Node). OneTree ns ms) (sym g.0.nodes) (one-tree w) in
    let k' : ℕ = k + length (all_props ns) in
    let r : List Change = trees_changes (suc i) (base + max 1 (length ns)) k' ss in
    let more : TreesTold r k' ts =
    subst (λ (b : ℕ). TreesTold (trees_changes (suc i) b k' ss) k' ts) (ap (λ (z : ℕ). base + z) one.nodes)
    (grew-told (suc i) (base + length t.nodes) (k + length (all_props ns)) n (rest_from 0 us) ts g.1) in
    let here : NodesTold (nodes_changes k ns ++ (c ++ r)) k ns =
    nodes-before (nodes_changes k ns) (c ++ r) k ns
    (λ j l. silent-append c r j (cut-silent i (blame (walks true base) is_stopped (walk none [] false []) [] (slice_from 0 us)) j) (trees-above (suc i) (base + max 1 (length ns)) k' ss j l))
    (nodes-tell k ns) in
    let rest : TreesTold (root_of i ns ++ (nodes_changes k ns ++ (c ++ r))) k' ts =
    trees-behind (root_of i ns) (nodes_changes k ns ++ (c ++ r)) k' ts (λ j l. root-silent i ns j)
    (trees-behind (nodes_changes k ns) (c ++ r) k' ts (nodes-below k ns)
    (trees-behind c r k' ts (λ j l. cut-silent i (blame (walks true base) is_stopped (walk none [] false []) [] (slice_from 0 us)) j) more)) in (
      one.told (root_of i ns ++ (nodes_changes k ns ++ (c ++ r))) k (nodes-behind (root_of i ns) (nodes_changes k ns ++ (c ++ r)) k ns (λ j l. root-silent i ns j) here),
      subst (λ (p : ℕ). TreesTold (root_of i ns ++ (nodes_changes k ns ++ (c ++ r))) (k + p) ts) (sym one.props) rest,
    )

-- ---- of a text

module _ (t : List ℕ) (ts : List Tree) (h : read_lenient t ≡ accepted ts) where
  abbrev pub r : Reading true t ts
  r = reading-is true t ts h

  pub list-is : changes_of t ≡ trees_changes 0 0 0 (first_slices r.k r.toks) ++ tail_of (drop (length (sliced_tokens (first_slices r.k r.toks))) (tokenize r.ink t).toks) (tokenize r.ink t).end
  list-is = ap (λ (u : Utf). utf_changes u t) r.valid ∙ ap (λ (x : Slices). slices_changes x (tokenize r.ink t)) r.cuts

  -- the list applied to the lenient record is the mended record
  pub changes-say : changed (changes_of t) ts ≡ mended ts
  changes-say =
      let cs : List Change = trees_changes 0 0 0 (first_slices r.k r.toks) in
      let ys : List Change = tail_of (drop (length (sliced_tokens (first_slices r.k r.toks))) (tokenize r.ink t).toks) (tokenize r.ink t).end in
      ap (λ (z : List Change). changed z ts) list-is
      ∙ trees-told (cs ++ ys) 0 ts
      (trees-before cs ys 0 ts (tail-silent (drop (length (sliced_tokens (first_slices r.k r.toks))) (tokenize r.ink t).toks) (tokenize r.ink t).end)
      (grew-told 0 0 0 r.k r.toks ts r.grew))
