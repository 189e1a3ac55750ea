-- What is true of a text and its record is listed: the list leaves nothing out. Assumes nothing.
use Rattle.lists.proofs.Prelude.{◌≡◌, refl, sym, ap, ◌∙◌, subst, subst⁻¹, ℕ, zero, suc, ◌+◌, max, arith, Bool, true, false, false≢true, List, [], ◌∷◌, ◌++◌, List-as-Memᴰ, memᴰ-head, memᴰ-tail, length, drop, drop-append-add}
use Rattle.lists.specs.All.{All}
use Rattle.lists.proofs.All.{all-mem}
use Rattle.lexer.specs.Token.{Tok, End, done, broken, Lexed, token_place}
use Rattle.tables.specs.Numbers.{none}
use Rattle.tables.specs.Record.{Node, Tree, all_props}
use Rattle.parser.specs.LocalsSlice.{slice_from, rest_from, first_slices}
use Rattle.parser.specs.Walk.{Walk, walk, walks, walked}
use Rattle.parser.specs.Read.{accepted, read_lenient}
use Rattle.reader_laws.proofs.Grown.{Grew}
use Rattle.why_blame.specs.Blame.{blame, is_stopped}
use Rattle.why_blame.specs.Cuts.{sliced_tokens}
use Rattle.why_blame.proofs.Found.{blame-here, blame-on, stopped-stays}
use Rattle.salvage_mend.specs.Changes.{Change, empty_root, unnamed, removed_gm, spelled_anew, cut_short, tail_dropped, nodes_changes}
use Rattle.salvage_list.specs.Listed.{cut_of, walk_nodes, root_of, trees_changes, tail_of, changes_of}
use Rattle.salvage_laws.specs.Entries.{Nth, Owned, owned_trees, walk_over, WithoutNode, HaltsAt, FirstAt, EntryOf, EntryTrue}
use Rattle.salvage_laws.proofs.Says.{OneTree, one-tree, list-is}
use Rattle.salvage_laws.proofs.Entries.{L, SS, r, of-text, entries-true}
use Rattle.salvage_laws.proofs.ListedProps.{mem-left, mem-right, Lists, lists-unnamed, lists-removed, lists-anew, props-listed}

-- ---- the trees

-- what is listed of one slice
abbrev SliceLists : (i base : ℕ) (s : List Tok) → Change → Type 0
SliceLists i base s c =
    List-as-Memᴰ c (root_of i (walk_nodes (walked true base (walk none [] false []) s)) ++ cut_of i (blame (walks true base) is_stopped (walk none [] false []) [] s))

mem-either : (c : Change) (fs bs cs ds : List Change) → List-as-Memᴰ c (fs ++ cs) → List-as-Memᴰ c (fs ++ (bs ++ (cs ++ ds)))
mem-either c [] bs cs ds m = mem-right bs (cs ++ ds) (mem-left cs ds m)
mem-either c (a ∷ fs) bs cs ds (memᴰ-head e) = memᴰ-head e
mem-either c (a ∷ fs) bs cs ds (memᴰ-tail m) = memᴰ-tail (mem-either c fs bs cs ds m)

trees-listed : (c : Change) (i base k n : ℕ) (us : List Tok) (rs : List Tree) → Grew true base n us rs → (j : ℕ) (t : Tree) (s : List Tok) → Nth rs j t → Nth (first_slices n us) j s
    → SliceLists (i + j) t.root s c → List-as-Memᴰ c (trees_changes i base k (first_slices n us))
unfolding first_slices
trees-listed c i base k zero us [] g j t s h f m = absurd h
trees-listed c i base k zero us (u ∷ rs) g j t s h f m = absurd g
trees-listed c i base k (suc n) us [] g j t s h f m = absurd g
trees-listed c i base k (suc n) us (u ∷ rs) g zero t s h f m =
    let S : List Tok = slice_from 0 us in
    let ns : List Node = walk_nodes (walked true base (walk none [] false []) S) in
    let b : t.root ≡ base = ap (λ (z : Tree). z.root) (sym h) ∙ g.0.root in
    let x : SliceLists i t.root s c = subst (λ (z : ℕ). SliceLists z t.root s c) (omega arith) m in
    let y : SliceLists i base s c = subst (λ (z : ℕ). SliceLists i z s c) b x in
    mem-either c (root_of i ns) (nodes_changes k ns) (cut_of i (blame (walks true base) is_stopped (walk none [] false []) [] S))
    (trees_changes (suc i) (base + max 1 (length ns)) (k + length (all_props ns)) (first_slices n (rest_from 0 us))) (subst⁻¹ (λ (z : List Tok). SliceLists i base z c) f y)
trees-listed c i base k (suc n) us (u ∷ rs) g (suc j) t s h f m =
    let S : List Tok = slice_from 0 us in
    let w : Walk = walked true base (walk none [] false []) S in
    let ns : List Node = walk_nodes w in
    let one : OneTree ns u.nodes = subst (λ (ms : List Node). OneTree ns ms) (sym g.0.nodes) (one-tree w) in
    let d : List Change = cut_of i (blame (walks true base) is_stopped (walk none [] false []) [] S) in
    let r : List Change = trees_changes (suc i) (base + max 1 (length ns)) (k + length (all_props ns)) (first_slices n (rest_from 0 us)) in
    mem-right (root_of i ns) (nodes_changes k ns ++ (d ++ r))
    (mem-right (nodes_changes k ns) (d ++ r)
    (mem-right d r
    (subst (λ (b : ℕ). List-as-Memᴰ c (trees_changes (suc i) (base + b) (k + length (all_props ns)) (first_slices n (rest_from 0 us)))) one.nodes
    (trees-listed c (suc i) (base + length u.nodes) (k + length (all_props ns)) n (rest_from 0 us) rs g.1 j t s h f
    (subst (λ (z : ℕ). SliceLists z t.root s c) (omega arith) m)))))

-- ---- a walk that halts

module _ (base : ℕ) where
  still : (w : Walk) (ts : List Tok) → is_stopped w ≡ true → is_stopped (walked true base w ts) ≡ true
  still w [] h = h
  still w (t ∷ ts) h = still (walks true base w t) ts (stopped-stays true base w t h)

  walked_on : (w : Walk) (xs ys : List Tok) → walked true base w (xs ++ ys) ≡ walked true base (walked true base w xs) ys
  walked_on w [] ys = refl
  walked_on w (x ∷ xs) ys = walked_on (walks true base w x) xs ys

  -- the token at which it halts is the one to blame
  cut-is : (i : ℕ) (w : Walk) (pre before : List Tok) (here : Tok) (behind : List Tok) → is_stopped (walked true base w before) ≡ false
      → is_stopped (walks true base (walked true base w before) here) ≡ true → cut_of i (blame (walks true base) is_stopped w pre (before ++ (here ∷ behind))) ≡ cut_short i (token_place here) ∷ []
  cut-is i w pre [] here behind a b = ap (cut_of i) (blame-here (walks true base) is_stopped w (walks true base w here) pre behind here refl b)
  cut-is i w pre (x ∷ xs) here behind a b = go (is_stopped (walks true base w x)) refl (cut-is i (walks true base w x) (pre ++ (x ∷ [])) xs here behind a b)
    where
      go : (d : Bool) → is_stopped (walks true base w x) ≡ d
          → cut_of i (blame (walks true base) is_stopped (walks true base w x) (pre ++ (x ∷ [])) (xs ++ (here ∷ behind))) ≡ cut_short i (token_place here) ∷ []
          → cut_of i (blame (walks true base) is_stopped w pre (x ∷ xs ++ (here ∷ behind))) ≡ cut_short i (token_place here) ∷ []
      go true e q = absurd (false≢true (sym a ∙ still (walks true base w x) xs e))
      go false e q = ap (cut_of i) (blame-on (walks true base) is_stopped w (walks true base w x) pre (xs ++ (here ∷ behind)) x refl e) ∙ q

root_lists : (i : ℕ) (t : Tree) (s : List Tok) → WithoutNode t s → SliceLists i t.root s (empty_root i)
root_lists i t s h =
    mem-left (root_of i (walk_nodes (walk_over t s))) (cut_of i (blame (walks true t.root) is_stopped (walk none [] false []) [] s))
    (subst⁻¹ (λ (ns : List Node). List-as-Memᴰ (empty_root i) (root_of i ns)) h (memᴰ-head refl))

cut-lists : (i o : ℕ) (t : Tree) (s : List Tok) → HaltsAt o t s → SliceLists i t.root s (cut_short i o)
cut-lists i o t s h =
    let w : Walk = walk none [] false [] in
    let e : cut_of i (blame (walks true t.root) is_stopped w [] s) ≡ cut_short i o ∷ [] =
    ap (λ (z : List Tok). cut_of i (blame (walks true t.root) is_stopped w [] z)) h.are
    ∙ cut-is t.root i w [] h.before h.here h.behind h.goes (ap is_stopped (sym (walked_on t.root w h.before (h.here ∷ []))) ∙ h.halts)
    ∙ ap (λ (z : ℕ). cut_short i z ∷ []) h.place in
    mem-right (root_of i (walk_nodes (walk_over t s))) (cut_of i (blame (walks true t.root) is_stopped w [] s))
    (subst⁻¹ (List-as-Memᴰ (cut_short i o)) e (memᴰ-head refl))

-- ---- the tail

tail-lists : (o : ℕ) (us : List Tok) (e : End) → FirstAt o us e → List-as-Memᴰ (tail_dropped o) (tail_of us e)
tail-lists o (u ∷ us) e h = memᴰ-head (ap tail_dropped (sym h))
tail-lists o [] (broken f s) h = memᴰ-head (ap tail_dropped (sym h))
tail-lists o [] done h = absurd h

drop-front : (xs ys : List Tok) → drop (length xs) (xs ++ ys) ≡ ys
drop-front xs ys = ap (λ (k : ℕ). drop k (xs ++ ys)) e ∙ drop-append-add xs ys 0
  where
    e : length xs ≡ length xs + 0
    e = omega arith

-- ---- of a text

module _ (t : List ℕ) (ts : List Tree) (h : read_lenient t ≡ accepted ts) where
  abbrev T : List Change
  T = trees_changes 0 0 0 (SS t ts h)

  abbrev U : List Tok
  U = drop (length (sliced_tokens (SS t ts h))) (L t ts h).toks

  of-prop : (c : Change) (k : ℕ) (o : Owned) → Nth (owned_trees ts) k o → Lists k o c → List-as-Memᴰ c (T ++ tail_of U (L t ts h).end)
  of-prop c k o n m =
      mem-left T (tail_of U (L t ts h).end)
      (props-listed c 0 0 0 (r t ts h).k (r t ts h).toks ts (r t ts h).grew k o n (subst (λ (i : ℕ). Lists i o c) (omega arith) m))

  of_tree : (c : Change) (i : ℕ) (u : Tree) (s : List Tok) → Nth ts i u → Nth (SS t ts h) i s → SliceLists i u.root s c → List-as-Memᴰ c (T ++ tail_of U (L t ts h).end)
  of_tree c i u s n f m =
      mem-left T (tail_of U (L t ts h).end)
      (trees-listed c 0 0 0 (r t ts h).k (r t ts h).toks ts (r t ts h).grew i u s n f (subst (λ (j : ℕ). SliceLists j u.root s c) (omega arith) m))

  all_of : (c : Change) → EntryOf (L t ts h) (SS t ts h) ts c → List-as-Memᴰ c (T ++ tail_of U (L t ts h).end)
  all_of (empty_root i) x = of_tree (empty_root i) i x.tree x.slice x.number x.from (root_lists i x.tree x.slice x.so)
  all_of (unnamed k) x = of-prop (unnamed k) k x.it x.number (lists-unnamed k x.it x.so)
  all_of (removed_gm k) x = of-prop (removed_gm k) k x.it x.number (lists-removed k x.it x.so)
  all_of (spelled_anew k) x = of-prop (spelled_anew k) k x.it x.number (lists-anew k x.it x.so)
  all_of (cut_short i o) x = of_tree (cut_short i o) i x.tree x.slice x.number x.from (cut-lists i o x.tree x.slice x.so)
  all_of (tail_dropped o) x =
      let e : U ≡ x.left = ap (drop (length (sliced_tokens (SS t ts h)))) x.are ∙ drop-front (sliced_tokens (SS t ts h)) x.left in
      mem-right T (tail_of U (L t ts h).end) (tail-lists o U (L t ts h).end (subst⁻¹ (λ (us : List Tok). FirstAt o us (L t ts h).end) e x.first))

  -- an entry that is true is in the list
  pub entries-all : (c : Change) → EntryTrue t ts c → List-as-Memᴰ c (changes_of t)
  entries-all = of-text t ts h (λ (l : Lexed) (ss : List (List Tok)). (c : Change) → EntryOf l ss ts c → List-as-Memᴰ c (changes_of t)) (λ c x. subst⁻¹ (List-as-Memᴰ c) (list-is t ts h) (all_of c x))

  -- a list of which both hold has the same entries
  pub entries-exactly : (cs : List Change) → All (EntryTrue t ts) cs → ((c : Change) → EntryTrue t ts c → List-as-Memᴰ c cs)
      → (c : Change) → (List-as-Memᴰ c cs → List-as-Memᴰ c (changes_of t)) × (List-as-Memᴰ c (changes_of t) → List-as-Memᴰ c cs)
  entries-exactly cs a b c = (λ m. entries-all c (all-mem (EntryTrue t ts) cs m a), λ m. b c (all-mem (EntryTrue t ts) (changes_of t) m (entries-true t ts h)))
