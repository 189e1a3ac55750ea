-- Properties by number, each beside its root, and the entries that are listed of them. Assumes nothing.
use Rattle.lists.proofs.Prelude.{◌≡◌, refl, sym, ap, ap₂, ◌∙◌, subst, ℕ, zero, suc, ◌+◌, arith, Bool, true, false, List, [], ◌∷◌, ◌++◌, append_assoc, map, length, length-append, leb, leb-true}
use Rattle.lexer.specs.Token.{Prop}
use Rattle.tables.specs.Record.{Node, Tree, all_nodes, all_props}
use Rattle.parser.specs.Walk.{Walk, walk, halted, stopped}
use Rattle.parser_tree.proofs.Flats.{props-append}
use Rattle.reader_laws.proofs.Grown.{nodes_of, in_order}
use Rattle.salvage_mend.specs.Mend.{root_game, gms_bad}
use Rattle.salvage_mend.specs.Changes.{Change, prop_change, props_changes, nodes_changes}
use Rattle.salvage_list.specs.Listed.{walk_nodes}
use Rattle.salvage_laws.specs.Entries.{Nth, Owned, owned_props, owned_nodes, owned_trees}

-- ---- numbers in joined lists

module _ {A : Type 0} where
  nth_left : (xs ys : List A) (j : ℕ) (x : A) → Nth xs j x → Nth (xs ++ ys) j x
  nth_left [] ys j x h = absurd h
  nth_left (y ∷ xs) ys zero x h = h
  nth_left (y ∷ xs) ys (suc j) x h = nth_left xs ys j x h

  nth_right : (xs ys : List A) (j : ℕ) (x : A) → Nth ys j x → Nth (xs ++ ys) (length xs + j) x
  nth_right [] ys j x h = subst (λ (i : ℕ). Nth ys i x) (omega arith) h
  nth_right (y ∷ xs) ys j x h = subst (λ (i : ℕ). Nth (y ∷ xs ++ ys) i x) e (nth_right xs ys j x h)
    where
      e : suc (length xs + j) ≡ length (y ∷ xs) + j
      e = omega arith

  -- these stand in P from number k on
  abbrev pub Runs : List A → ℕ → List A → Type 0
  Runs P k xs = (j : ℕ) (x : A) → Nth xs j x → Nth P (k + j) x

  pub runs-head : (P : List A) (k : ℕ) (x : A) (xs : List A) → Runs P k (x ∷ xs) → Nth P k x
  runs-head P k x xs h = subst (λ (i : ℕ). Nth P i x) (omega arith) (h 0 x refl)

  pub runs-tail : (P : List A) (k : ℕ) (x : A) (xs : List A) → Runs P k (x ∷ xs) → Runs P (suc k) xs
  runs-tail P k x xs h j y n = subst (λ (i : ℕ). Nth P i y) (omega arith) (h (suc j) y n)

  pub runs-left : (P : List A) (k : ℕ) (xs ys : List A) → Runs P k (xs ++ ys) → Runs P k xs
  runs-left P k xs ys h j x n = h j x (nth_left xs ys j x n)

  pub runs-right : (P : List A) (k : ℕ) (xs ys : List A) → Runs P k (xs ++ ys) → Runs P (k + length xs) ys
  runs-right P k xs ys h j x n = subst (λ (i : ℕ). Nth P i x) (omega arith) (h (length xs + j) x (nth_right xs ys j x n))

  pub runs-all : (xs : List A) → Runs xs 0 xs
  runs-all xs j x n = subst (λ (i : ℕ). Nth xs i x) (omega arith) n

-- ---- the entries of owned properties

abbrev pub owned_changes : (k : ℕ) → List Owned → List Change
owned_changes k [] = []
owned_changes k (o ∷ os) = prop_change o.bad_root k o.property ++ owned_changes (suc k) os

owned-append : (k : ℕ) (xs ys : List Owned) → owned_changes k (xs ++ ys) ≡ owned_changes k xs ++ owned_changes (k + length xs) ys
owned-append k [] ys = ap (λ (i : ℕ). owned_changes i ys) (omega arith)
owned-append k (x ∷ xs) ys =
    ap (λ (cs : List Change). prop_change x.bad_root k x.property ++ cs) (owned-append (suc k) xs ys ∙ ap (λ (i : ℕ). owned_changes (suc k) xs ++ owned_changes i ys) (omega arith))
    ∙ sym (append_assoc (prop_change x.bad_root k x.property) (owned_changes (suc k) xs) (owned_changes (k + length (x ∷ xs)) ys))

owned-length : (b : Bool) (ps : List Prop) → length (owned_props b ps) ≡ length ps
owned-length b [] = refl
owned-length b (p ∷ ps) = ap suc (owned-length b ps)

owned-props : (b : Bool) (k : ℕ) (ps : List Prop) → props_changes b k ps ≡ owned_changes k (owned_props b ps)
owned-props b k [] = refl
owned-props b k (p ∷ ps) = ap (λ (cs : List Change). prop_change b k p ++ cs) (owned-props b (suc k) ps)

pub owned-nodes : (k : ℕ) (ns : List Node) → nodes_changes k ns ≡ owned_changes k (owned_nodes ns)
owned-nodes k [] = refl
owned-nodes k (n ∷ ns) =
    let b : Bool = gms_bad (root_game (n ∷ ns)) in
    ap₂ (λ (xs ys : List Change). xs ++ ys) (owned-props b k n.props) (owned-props false (k + length n.props) (all_props ns))
    ∙ ap (λ (i : ℕ). owned_changes k (owned_props b n.props) ++ owned_changes (k + i) (owned_props false (all_props ns))) (sym (owned-length b n.props))
    ∙ sym (owned-append k (owned_props b n.props) (owned_props false (all_props ns)))

pub nodes-length : (ns : List Node) → length (owned_nodes ns) ≡ length (all_props ns)
nodes-length [] = refl
nodes-length (n ∷ ns) =
    let b : Bool = gms_bad (root_game (n ∷ ns)) in
    length-append (owned_props b n.props) (owned_props false (all_props ns))
    ∙ ap₂ (λ (x y : ℕ). x + y) (owned-length b n.props) (owned-length false (all_props ns))
    ∙ sym (length-append n.props (all_props ns))

-- the nodes of a walk, and of the tree that is made of them
pub owned-order : (w : Walk) → owned_nodes (in_order (nodes_of w)) ≡ owned_nodes (walk_nodes w)
owned-order (walk cur st g []) = refl
owned-order (walk cur st g (n ∷ ns)) = refl
owned-order (halted []) = refl
owned-order (halted (n ∷ ns)) = refl
owned-order (stopped r) = refl

-- the numbers are those of the record
props-props : (b : Bool) (ps : List Prop) → map (λ (o : Owned). o.property) (owned_props b ps) ≡ ps
props-props b [] = refl
props-props b (p ∷ ps) = ap (λ (z : List Prop). p ∷ z) (props-props b ps)

map-append : (xs ys : List Owned) → map (λ (o : Owned). o.property) (xs ++ ys) ≡ map (λ (o : Owned). o.property) xs ++ map (λ (o : Owned). o.property) ys
map-append [] ys = refl
map-append (x ∷ xs) ys = ap (λ (z : List Prop). x.property ∷ z) (map-append xs ys)

nodes-props : (ns : List Node) → map (λ (o : Owned). o.property) (owned_nodes ns) ≡ all_props ns
nodes-props [] = refl
nodes-props (n ∷ ns) =
    let b : Bool = gms_bad (root_game (n ∷ ns)) in
    map-append (owned_props b n.props) (owned_props false (all_props ns))
    ∙ ap₂ (λ (xs ys : List Prop). xs ++ ys) (props-props b n.props) (props-props false (all_props ns))

pub owned-are : (ts : List Tree) → map (λ (o : Owned). o.property) (owned_trees ts) ≡ all_props (all_nodes ts)
owned-are [] = refl
owned-are (t ∷ ts) =
    map-append (owned_nodes t.nodes) (owned_trees ts)
    ∙ ap₂ (λ (xs ys : List Prop). xs ++ ys) (nodes-props t.nodes) (owned-are ts)
    ∙ sym (props-append t.nodes (all_nodes ts))

-- ---- a property

pub empty-none : (w : List ℕ) → leb (length w) 0 ≡ true → w ≡ []
empty-none [] h = refl
empty-none (b ∷ w) h = let z = leb-true (length (b ∷ w)) 0 h in absurd (omega arith)
