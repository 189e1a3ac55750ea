-- Properties of which a change is true are listed. Assumes nothing.
use Rattle.lists.proofs.Prelude.{◌≡◌, refl, sym, ap, ap₂, ◌∙◌, subst, subst⁻¹, ◌⊎◌, inl, inr, ℕ, zero, suc, ◌+◌, max, arith, Bool, true, false, true≢false, false≢true, ◌&&◌, List, [], ◌∷◌, ◌++◌, List-as-Memᴰ, memᴰ-head, memᴰ-tail, length, leb, pick}
use Rattle.lists.specs.Same.{same}
use Rattle.lists.proofs.Tests.{and_both}
use Rattle.lexer.specs.Token.{Tok}
use Rattle.values.specs.Read.{read_identifier}
use Rattle.tables.specs.Numbers.{none}
use Rattle.tables.specs.Record.{Node, Tree, all_props}
use Rattle.parser.specs.Game.{GM}
use Rattle.parser.specs.LocalsSlice.{slice_from, rest_from, first_slices}
use Rattle.parser.specs.Walk.{Walk, walk, walks, walked}
use Rattle.fit.proofs.RootRows.{same-equal}
use Rattle.reader_laws.proofs.Grown.{Grew}
use Rattle.why_blame.specs.Blame.{blame, is_stopped}
use Rattle.salvage_mend.specs.Mend.{reads_gm}
use Rattle.salvage_mend.specs.Changes.{Change, unnamed, removed_gm, spelled_anew, prop_change, nodes_changes}
use Rattle.salvage_list.specs.Listed.{cut_of, walk_nodes, root_of, trees_changes}
use Rattle.salvage_laws.specs.Entries.{Nth, Owned, owned_nodes, owned_trees, Nameless, BadGM, Misspelled}
use Rattle.salvage_laws.proofs.Says.{OneTree, one-tree}
use Rattle.salvage_laws.proofs.Owned.{owned_changes, owned-nodes, owned-order, nodes-length, empty-none}

-- ---- members and numbers of joined lists

module _ {A : Type 0} where
  pub mem-left : {a : A} (xs ys : List A) → List-as-Memᴰ a xs → List-as-Memᴰ a (xs ++ ys)
  mem-left xs ys (memᴰ-head e) = memᴰ-head e
  mem-left xs ys (memᴰ-tail {xs = zs} m) = memᴰ-tail (mem-left zs ys m)

  pub mem-right : {a : A} (xs ys : List A) → List-as-Memᴰ a ys → List-as-Memᴰ a (xs ++ ys)
  mem-right [] ys m = m
  mem-right (x ∷ xs) ys m = memᴰ-tail (mem-right xs ys m)

  nth-split : (xs ys : List A) (j : ℕ) (x : A) → Nth (xs ++ ys) j x → Nth xs j x ⊎ ((i : ℕ) × (j ≡ length xs + i) × Nth ys i x)
  nth-split [] ys j x h = inr (j, omega arith, h)
  nth-split (y ∷ xs) ys zero x h = inl h
  nth-split (y ∷ xs) ys (suc j) x h = go (nth-split xs ys j x h)
    where
      go : Nth xs j x ⊎ ((i : ℕ) × (j ≡ length xs + i) × Nth ys i x) → Nth xs j x ⊎ ((i : ℕ) × (suc j ≡ length (y ∷ xs) + i) × Nth ys i x)
      go (inl n) = inl n
      go (inr z) = inr (z.0, (let e = z.1 in omega arith), z.2)

-- ---- a property

module _ (k : ℕ) (o : Owned) where
  abbrev pub Lists : Change → Type 0
  Lists c = List-as-Memᴰ c (prop_change o.bad_root k o.property)

  -- by the three tests
  by_tests : (c : Change)
      → ((x y z : Bool) → leb (length (read_identifier o.property.name)) 0 ≡ x → o.bad_root && reads_gm o.property ≡ y → same (read_identifier o.property.name) o.property.name ≡ z
      → List-as-Memᴰ c (pick x (unnamed k ∷ []) (pick y (removed_gm k ∷ []) (pick z [] (spelled_anew k ∷ []))))) → Lists c
  by_tests c go =
      go (leb (length (read_identifier o.property.name)) 0) (o.bad_root && reads_gm o.property) (same (read_identifier o.property.name) o.property.name) refl refl refl

  pub lists-unnamed : Nameless o → Lists (unnamed k)
  lists-unnamed h = by_tests (unnamed k) go
    where
      go : (x y z : Bool) → leb (length (read_identifier o.property.name)) 0 ≡ x → o.bad_root && reads_gm o.property ≡ y → same (read_identifier o.property.name) o.property.name ≡ z
          → List-as-Memᴰ (unnamed k) (pick x (unnamed k ∷ []) (pick y (removed_gm k ∷ []) (pick z [] (spelled_anew k ∷ []))))
      go true y z ex ey ez = memᴰ-head refl
      go false y z ex ey ez = absurd (false≢true (sym ex ∙ ap (λ (v : List ℕ). leb (length v) 0) h))

  pub lists-removed : BadGM o → Lists (removed_gm k)
  lists-removed h = by_tests (removed_gm k) go
    where
      go : (x y z : Bool) → leb (length (read_identifier o.property.name)) 0 ≡ x → o.bad_root && reads_gm o.property ≡ y → same (read_identifier o.property.name) o.property.name ≡ z
          → List-as-Memᴰ (removed_gm k) (pick x (unnamed k ∷ []) (pick y (removed_gm k ∷ []) (pick z [] (spelled_anew k ∷ []))))
      go true y z ex ey ez = absurd (true≢false (sym ex ∙ ap (λ (v : List ℕ). leb (length v) 0) h.0))
      go false true z ex ey ez = memᴰ-head refl
      go false false z ex ey ez = absurd (false≢true (sym ey ∙ ap₂ (λ (a b : Bool). a && b) h.1 (ap (λ (v : List ℕ). same v GM) h.0)))

  pub lists-anew : Misspelled o → Lists (spelled_anew k)
  lists-anew h = by_tests (spelled_anew k) go
    where
      go : (x y z : Bool) → leb (length (read_identifier o.property.name)) 0 ≡ x → o.bad_root && reads_gm o.property ≡ y → same (read_identifier o.property.name) o.property.name ≡ z
          → List-as-Memᴰ (spelled_anew k) (pick x (unnamed k ∷ []) (pick y (removed_gm k ∷ []) (pick z [] (spelled_anew k ∷ []))))
      go true y z ex ey ez = absurd (h.0 (empty-none (read_identifier o.property.name) ex))
      go false true z ex ey ez =
          let b = and_both o.bad_root (reads_gm o.property) ey in absurd (h.1 (same-equal (read_identifier o.property.name) GM b.1, b.0))
      go false false true ex ey ez = absurd (h.2 (same-equal (read_identifier o.property.name) o.property.name ez))
      go false false false ex ey ez = memᴰ-head refl

owned-listed : (c : Change) (k : ℕ) (os : List Owned) (j : ℕ) (o : Owned) → Nth os j o → Lists (k + j) o c → List-as-Memᴰ c (owned_changes k os)
owned-listed c k [] j o n m = absurd n
owned-listed c k (x ∷ os) zero o n m =
    mem-left (prop_change x.bad_root k x.property) (owned_changes (suc k) os)
    (subst⁻¹ (λ (y : Owned). Lists k y c) n (subst (λ (i : ℕ). Lists i o c) (omega arith) m))
owned-listed c k (x ∷ os) (suc j) o n m =
    mem-right (prop_change x.bad_root k x.property) (owned_changes (suc k) os)
    (owned-listed c (suc k) os j o n (subst (λ (i : ℕ). Lists i o c) (omega arith) m))

-- ---- the trees

-- one tree's entries and the others', by whether it is one of the tree's properties
props-parts : (c : Change) (k j : ℕ) (o : Owned) (ns : List Node) (ms : List Owned) (fs bs ds : List Change) → Lists (k + j) o c
    → Nth (owned_nodes ns) j o ⊎ ((x : ℕ) × (j ≡ length (owned_nodes ns) + x) × Nth ms x o) → ((x : ℕ) → Nth ms x o → Lists ((k + length (all_props ns)) + x) o c → List-as-Memᴰ c ds)
    → List-as-Memᴰ c (fs ++ (nodes_changes k ns ++ (bs ++ ds)))
props-parts c k j o ns ms fs bs ds m (inl n) more =
    mem-right fs (nodes_changes k ns ++ (bs ++ ds)) (mem-left (nodes_changes k ns) (bs ++ ds) (subst⁻¹ (List-as-Memᴰ c) (owned-nodes k ns) (owned-listed c k (owned_nodes ns) j o n m)))
props-parts c k j o ns ms fs bs ds m (inr z) more =
    let l = nodes-length ns in
    let e = z.1 in
    mem-right fs (nodes_changes k ns ++ (bs ++ ds))
    (mem-right (nodes_changes k ns) (bs ++ ds) (mem-right bs ds (more z.0 z.2 (subst (λ (i : ℕ). Lists i o c) (omega arith) m))))

pub props-listed : (c : Change) (i base k n : ℕ) (us : List Tok) (rs : List Tree) → Grew true base n us rs → (j : ℕ) (o : Owned) → Nth (owned_trees rs) j o → Lists (k + j) o c
    → List-as-Memᴰ c (trees_changes i base k (first_slices n us))
unfolding first_slices
props-listed c i base k zero us [] g j o h m = absurd h
props-listed c i base k zero us (t ∷ rs) g j o h m = absurd g
props-listed c i base k (suc n) us [] g j o h m = absurd g
props-listed c i base k (suc n) us (t ∷ rs) g j o h m =
    let S : List Tok = slice_from 0 us in
    let w : Walk = walked true base (walk none [] false []) S in
    let ns : List Node = walk_nodes w in
    let one : OneTree ns t.nodes = subst (λ (ms : List Node). OneTree ns ms) (sym g.0.nodes) (one-tree w) in
    let own : owned_nodes t.nodes ≡ owned_nodes ns = ap owned_nodes g.0.nodes ∙ owned-order w in
    let r : List Change = trees_changes (suc i) (base + max 1 (length ns)) (k + length (all_props ns)) (first_slices n (rest_from 0 us)) in
    props-parts c k j o ns (owned_trees rs) (root_of i ns) (cut_of i (blame (walks true base) is_stopped (walk none [] false []) [] S)) r m
    (nth-split (owned_nodes ns) (owned_trees rs) j o (subst (λ (z : List Owned). Nth (z ++ owned_trees rs) j o) own h))
    (λ x z y. subst (λ (b : ℕ). List-as-Memᴰ c (trees_changes (suc i) (base + b) (k + length (all_props ns)) (first_slices n (rest_from 0 us)))) one.nodes
    (props-listed c (suc i) (base + length t.nodes) (k + length (all_props ns)) n (rest_from 0 us) rs g.1 x o z y))
