-- Every entry of the list is true. Assumes nothing.
use Rattle.lists.proofs.Prelude.{◌≡◌, refl, sym, ap, ap₂, ◌∙◌, subst, subst⁻¹, ◌⊎◌, inl, inr, ℕ, zero, suc, ◌+◌, max, Bool, true, false, false≢true, ◌&&◌, List, [], ◌∷◌, ◌++◌, length, drop, leb, pick}
use Rattle.lists.specs.All.{All}
use Rattle.lists.proofs.All.{all_append}
use Rattle.lists.specs.Same.{same}
use Rattle.lists.proofs.Tests.{and_both}
use Rattle.text_utf8.specs.Text.{Utf}
use Rattle.lexer.specs.Token.{Tok, End, done, broken, Lexed}
use Rattle.values.specs.Read.{read_identifier}
use Rattle.tables.specs.Numbers.{none}
use Rattle.tables.specs.Record.{Node, Tree, all_props}
use Rattle.parser.specs.Game.{GM}
use Rattle.parser.specs.LocalsSlice.{slice_from, rest_from, first_slices}
use Rattle.parser.specs.Split.{Slices, split_by_gametree}
use Rattle.parser.specs.Walk.{Walk, walk, walks, walked}
use Rattle.parser.specs.Read.{accepted, read_lenient, tokenize}
use Rattle.fit.proofs.RootRows.{same-equal}
use Rattle.reader_laws.proofs.Accepted.{Reading, reading-is}
use Rattle.reader_laws.proofs.Grown.{Grew}
use Rattle.why_blame.specs.Blame.{Blame, nowhere, found, blame, is_stopped}
use Rattle.why_blame.specs.Cuts.{sliced_tokens}
use Rattle.why_blame.proofs.Found.{folds-append, Says, blame-says, walk-folds}
use Rattle.salvage_mend.specs.Mend.{reads_gm}
use Rattle.salvage_mend.specs.Changes.{Change, unnamed, removed_gm, spelled_anew, prop_change, nodes_changes}
use Rattle.salvage_list.specs.Listed.{cut_of, walk_nodes, root_of, trees_changes, tail_of, changes_of}
use Rattle.salvage_laws.specs.Entries.{Nth, Owned, owned_nodes, owned_trees, walk_over, FirstAt, EntryOf, utf_tokens, text_tokens, slices_of, EntryTrue}
use Rattle.salvage_laws.proofs.Says.{OneTree, one-tree, list-is}
use Rattle.salvage_laws.proofs.Silent.{same_self}
use Rattle.salvage_laws.proofs.Owned.{Runs, runs-head, runs-tail, runs-left, runs-right, runs-all, owned_changes, owned-nodes, owned-order, nodes-length, empty-none}
use Rattle.salvage_laws.proofs.Sliced.{sliced-both, none-sliced}

-- ---- a property

module _ (l : Lexed) (ss : List (List Tok)) (ts : List Tree) where
  prop-true : (k : ℕ) (o : Owned) → Nth (owned_trees ts) k o → All (EntryOf l ss ts) (prop_change o.bad_root k o.property)
  prop-true k o n =
      go (leb (length (read_identifier o.property.name)) 0) (o.bad_root && reads_gm o.property) (same (read_identifier o.property.name) o.property.name) refl refl refl
    where
      go : (a b c : Bool) → leb (length (read_identifier o.property.name)) 0 ≡ a → o.bad_root && reads_gm o.property ≡ b → same (read_identifier o.property.name) o.property.name ≡ c
          → All (EntryOf l ss ts) (pick a (unnamed k ∷ []) (pick b (removed_gm k ∷ []) (pick c [] (spelled_anew k ∷ []))))
      go true b c ea eb ec = (record { it = o; number = n; so = empty-none (read_identifier o.property.name) ea }, tt)
      go false true c ea eb ec =
          let z = and_both o.bad_root (reads_gm o.property) eb in (record { it = o; number = n; so = (same-equal (read_identifier o.property.name) GM z.1, z.0) }, tt)
      go false false true ea eb ec = tt
      go false false false ea eb ec = (
        record {
          it = o;
          number = n;
          so = (
            λ e. false≢true (sym ea ∙ ap (λ (v : List ℕ). leb (length v) 0) e),
            λ e. false≢true (sym eb ∙ ap₂ (λ (x y : Bool). x && y) e.1 (ap (λ (v : List ℕ). same v GM) e.0)),
            λ e. false≢true (sym ec ∙ ap (λ (v : List ℕ). same v o.property.name) e ∙ same_self o.property.name),
          );
        },
        tt,
      )

  owned-true : (k : ℕ) (os : List Owned) → Runs (owned_trees ts) k os → All (EntryOf l ss ts) (owned_changes k os)
  owned-true k [] h = tt
  owned-true k (o ∷ os) h =
      all_append (EntryOf l ss ts) (prop_change o.bad_root k o.property) (owned_changes (suc k) os)
      (prop-true k o (runs-head (owned_trees ts) k o os h)) (owned-true (suc k) os (runs-tail (owned_trees ts) k o os h))

  -- ---- a tree

  root-true : (i : ℕ) (t : Tree) (s : List Tok) → Nth ts i t → Nth ss i s → All (EntryOf l ss ts) (root_of i (walk_nodes (walk_over t s)))
  root-true i t s n f = go (walk_nodes (walk_over t s)) refl
    where
      go : (ns : List Node) → walk_nodes (walk_over t s) ≡ ns → All (EntryOf l ss ts) (root_of i ns)
      go [] e = (record { tree = t; slice = s; number = n; from = f; so = e }, tt)
      go (m ∷ ns) e = tt

  cut-true : (i : ℕ) (t : Tree) (s : List Tok) → Nth ts i t → Nth ss i s
      → All (EntryOf l ss ts) (cut_of i (blame (walks true t.root) is_stopped (walk none [] false []) [] s))
  cut-true i t s n f = go (blame (walks true t.root) is_stopped (walk none [] false []) [] s) (blame-says (walks true t.root) is_stopped (walk none [] false []) s refl)
    where
      go : (b : Blame Walk) → Says (walks true t.root) is_stopped (walk none [] false []) s b → All (EntryOf l ss ts) (cut_of i b)
      go nowhere h = tt
      go (found w before x) h =
          let e : walk_over t before ≡ w = sym (walk-folds true t.root is_stopped (walk none [] false []) before) ∙ h.state in
          let g : walk_over t (before ++ (x ∷ [])) ≡ walks true t.root (walk_over t before) x =
          sym (walk-folds true t.root is_stopped (walk none [] false []) (before ++ (x ∷ [])))
          ∙ folds-append (walks true t.root) is_stopped (walk none [] false []) before (x ∷ [])
          ∙ ap (λ (z : Walk). walks true t.root z x) (walk-folds true t.root is_stopped (walk none [] false []) before) in (
            record {
              tree = t;
              slice = s;
              number = n;
              from = f;
              so = record {
                before = before;
                here = x;
                behind = h.behind;
                are = h.are;
                goes = ap is_stopped e ∙ h.sound;
                halts = ap is_stopped (g ∙ ap (λ (z : Walk). walks true t.root z x) e) ∙ h.here;
                place = refl;
              };
            },
            tt,
          )

  trees-true : (i base k n : ℕ) (us : List Tok) (rs : List Tree) → Grew true base n us rs → Runs (owned_trees ts) k (owned_trees rs) → Runs ss i (first_slices n us) → Runs ts i rs
      → All (EntryOf l ss ts) (trees_changes i base k (first_slices n us))
  unfolding first_slices
  trees-true i base k zero us rs g ho hs ht = tt
  trees-true i base k (suc n) us [] g ho hs ht = absurd g
  trees-true i base k (suc n) us (t ∷ rs) g ho hs ht =
      let S : List Tok = slice_from 0 us in
      let w : Walk = walked true base (walk none [] false []) S in
      let ns : List Node = walk_nodes w in
      let E : Change → Type 0 = EntryOf l ss ts in
      let c : List Change = cut_of i (blame (walks true base) is_stopped (walk none [] false []) [] S) in
      let r : List Change = trees_changes (suc i) (base + max 1 (length ns)) (k + length (all_props ns)) (first_slices n (rest_from 0 us)) in
      let one : OneTree ns t.nodes = subst (λ (ms : List Node). OneTree ns ms) (sym g.0.nodes) (one-tree w) in
      let own : owned_nodes t.nodes ≡ owned_nodes ns = ap owned_nodes g.0.nodes ∙ owned-order w in
      let nt : Nth ts i t = runs-head ts i t rs ht in
      let nf : Nth ss i S = runs-head ss i S (first_slices n (rest_from 0 us)) hs in
      let len : length (owned_nodes t.nodes) ≡ length (all_props ns) = ap length own ∙ nodes-length ns in
      let root : All E (root_of i ns) =
      subst (λ (b : ℕ). All E (root_of i (walk_nodes (walked true b (walk none [] false []) S)))) g.0.root (root-true i t S nt nf) in
      let props : All E (nodes_changes k ns) =
      subst⁻¹ (All E) (owned-nodes k ns)
      (owned-true k (owned_nodes ns) (subst (Runs (owned_trees ts) k) own (runs-left (owned_trees ts) k (owned_nodes t.nodes) (owned_trees rs) ho))) in
      let cut : All E c =
      subst (λ (b : ℕ). All E (cut_of i (blame (walks true b) is_stopped (walk none [] false []) [] S))) g.0.root (cut-true i t S nt nf) in
      let more : All E r =
      subst (λ (b : ℕ). All E (trees_changes (suc i) (base + b) (k + length (all_props ns)) (first_slices n (rest_from 0 us)))) one.nodes
      (trees-true (suc i) (base + length t.nodes) (k + length (all_props ns)) n (rest_from 0 us) rs g.1
      (subst (λ (z : ℕ). Runs (owned_trees ts) (k + z) (owned_trees rs)) len (runs-right (owned_trees ts) k (owned_nodes t.nodes) (owned_trees rs) ho))
      (runs-tail ss i S (first_slices n (rest_from 0 us)) hs) (runs-tail ts i t rs ht)) in
      all_append E (root_of i ns) (nodes_changes k ns ++ (c ++ r)) root
      (all_append E (nodes_changes k ns) (c ++ r) props (all_append E c r cut more))

  -- ---- the tail

  tail-true : (us : List Tok) → l.toks ≡ sliced_tokens ss ++ us → All (EntryOf l ss ts) (tail_of us l.end)
  tail-true us e = go us l.end e refl
    where
      go : (us : List Tok) (d : End) → l.toks ≡ sliced_tokens ss ++ us → l.end ≡ d → All (EntryOf l ss ts) (tail_of us d)
      go (u ∷ us) d e q = (record { left = u ∷ us; are = e; first = refl }, tt)
      go [] (broken f s) e q = (record { left = []; are = e; first = subst⁻¹ (FirstAt s []) q refl }, tt)
      go [] done e q = tt

-- ---- of a text

module _ (t : List ℕ) (ts : List Tree) (h : read_lenient t ≡ accepted ts) where
  abbrev pub r : Reading true t ts
  r = reading-is true t ts h

  abbrev pub L : Lexed
  L = tokenize r.ink t

  abbrev pub SS : List (List Tok)
  SS = first_slices r.k r.toks

  pub left_over : L.toks ≡ sliced_tokens SS ++ drop (length (sliced_tokens SS)) L.toks
  left_over = go L.toks r.from
    where
      go : (us : List Tok) → (r.toks ≡ us) ⊎ (r.toks ≡ []) → us ≡ sliced_tokens SS ++ drop (length (sliced_tokens SS)) us
      go us (inl e) = subst (λ (z : List Tok). z ≡ sliced_tokens SS ++ drop (length (sliced_tokens SS)) z) e (sym (sliced-both r.k r.toks))
      go us (inr e) =
          let q : sliced_tokens SS ≡ [] = ap (λ (z : List Tok). sliced_tokens (first_slices r.k z)) e ∙ none-sliced r.k in
          ap (λ (z : List Tok). z ++ drop (length z) us) (sym q)

  -- what is true of these tokens and slices is true of the text
  pub of-text : (P : Lexed → List (List Tok) → Type 0) → P L SS → P (text_tokens t) (slices_of (split_by_gametree true (text_tokens t).toks))
  of-text P x =
      subst⁻¹ (λ (z : Lexed). P z (slices_of (split_by_gametree true z.toks))) (ap (λ (u : Utf). utf_tokens u t) r.valid)
      (subst⁻¹ (λ (z : Slices). P L (slices_of z)) r.cuts x)

  -- every entry of the list is true
  pub entries-true : All (EntryTrue t ts) (changes_of t)
  entries-true =
      let us : List Tok = drop (length (sliced_tokens SS)) L.toks in
      of-text (λ (l : Lexed) (ss : List (List Tok)). All (EntryOf l ss ts) (changes_of t))
      (subst⁻¹ (All (EntryOf L SS ts)) (list-is t ts h)
      (all_append (EntryOf L SS ts) (trees_changes 0 0 0 SS) (tail_of us L.end)
      (trees-true L SS ts 0 0 0 r.k r.toks ts r.grew (runs-all (owned_trees ts)) (runs-all SS) (runs-all ts)) (tail-true L SS ts us left_over)))
