-- The list tells of each property what becomes of it: the nodes with the listed changes are the mended nodes. Assumes nothing.
use Rattle.lists.proofs.Prelude.{◌≡◌, refl, sym, ap, ap₂, ◌∙◌, subst, ℕ, suc, ◌+◌, ◌≤◌, ◌<◌, arith, Bool, true, false, ◌&&◌, ◌||◌, not, List, [], ◌∷◌, ◌++◌, map, length, leb, eqb, eq-eqb, ne_eqb, pick}
use Rattle.lists.specs.Same.{same}
use Rattle.lexer.specs.Token.{Prop}
use Rattle.values.specs.Read.{read_identifier}
use Rattle.tables.specs.Record.{Node, all_props}
use Rattle.fit.proofs.RootRows.{same-equal}
use Rattle.salvage_mend.specs.Mend.{reads_gm, root_game, kept_game, gms_bad, prop_stays, respelled, mend_props, mend_node, mend_nodes}
use Rattle.salvage_mend.specs.Changes.{Change, empty_root, unnamed, removed_gm, spelled_anew, cut_short, tail_dropped, prop_change, props_changes, nodes_changes, left_out, anew, change_props, change_nodes, game_kept}
use Rattle.salvage_mend.proofs.Games.{game-kept}

-- ---- lists one after another

or_assoc : (a b c : Bool) → a || (b || c) ≡ (a || b) || c
or_assoc true b c = refl
or_assoc false b c = refl

or-false : (a : Bool) → a || false ≡ a
or-false true = refl
or-false false = refl

module _ (ys : List Change) (k : ℕ) where
  left-append : (xs : List Change) → left_out (xs ++ ys) k ≡ left_out xs k || left_out ys k
  left-append [] = refl
  left-append (empty_root i ∷ xs) = left-append xs
  left-append (unnamed j ∷ xs) = ap (λ (b : Bool). eqb j k || b) (left-append xs) ∙ or_assoc (eqb j k) (left_out xs k) (left_out ys k)
  left-append (removed_gm j ∷ xs) = ap (λ (b : Bool). eqb j k || b) (left-append xs) ∙ or_assoc (eqb j k) (left_out xs k) (left_out ys k)
  left-append (spelled_anew j ∷ xs) = left-append xs
  left-append (cut_short i o ∷ xs) = left-append xs
  left-append (tail_dropped o ∷ xs) = left-append xs

  anew-append : (xs : List Change) → anew (xs ++ ys) k ≡ anew xs k || anew ys k
  anew-append [] = refl
  anew-append (empty_root i ∷ xs) = anew-append xs
  anew-append (unnamed j ∷ xs) = anew-append xs
  anew-append (removed_gm j ∷ xs) = anew-append xs
  anew-append (spelled_anew j ∷ xs) = ap (λ (b : Bool). eqb j k || b) (anew-append xs) ∙ or_assoc (eqb j k) (anew xs k) (anew ys k)
  anew-append (cut_short i o ∷ xs) = anew-append xs
  anew-append (tail_dropped o ∷ xs) = anew-append xs

-- ---- silence

-- nothing is listed of property j
abbrev pub Silent : List Change → ℕ → Type 0
Silent cs j = (left_out cs j ≡ false) × (anew cs j ≡ false)

-- nor of any from k on; nor of any below k
abbrev pub Below : ℕ → List Change → Type 0
Below k cs = (j : ℕ) → k ≤ j → Silent cs j

abbrev pub Above : ℕ → List Change → Type 0
Above k cs = (j : ℕ) → j < k → Silent cs j

pub silent-append : (xs ys : List Change) (j : ℕ) → Silent xs j → Silent ys j → Silent (xs ++ ys) j
silent-append xs ys j x y = (left-append ys j xs ∙ rw (x.0, y.0), anew-append ys j xs ∙ rw (x.1, y.1))

silent-prop : (bad : Bool) (k : ℕ) (p : Prop) (j : ℕ) → (k ≡ j → ⊥) → Silent (prop_change bad k p) j
silent-prop bad k p j n = go (leb (length (read_identifier p.name)) 0) (bad && reads_gm p) (same (read_identifier p.name) p.name)
  where
    go : (a b c : Bool) → Silent (pick a (unnamed k ∷ []) (pick b (removed_gm k ∷ []) (pick c [] (spelled_anew k ∷ [])))) j
    go true b c = (rw (ne_eqb k j n), refl)
    go false true c = (rw (ne_eqb k j n), refl)
    go false false true = (refl, refl)
    go false false false = (refl, rw (ne_eqb k j n))

pub silent-props : (bad : Bool) (k : ℕ) (ps : List Prop) (j : ℕ) → ((i : ℕ) → i < length ps → k + i ≡ j → ⊥) → Silent (props_changes bad k ps) j
silent-props bad k [] j n = (refl, refl)
silent-props bad k (p ∷ ps) j n =
    silent-append (prop_change bad k p) (props_changes bad (suc k) ps) j (silent-prop bad k p j (λ e. n 0 (omega arith) (omega arith)))
    (silent-props bad (suc k) ps j (λ i l e. n (suc i) (omega arith) (omega arith)))

pub props-above : (bad : Bool) (k : ℕ) (ps : List Prop) → Above k (props_changes bad k ps)
props-above bad k ps j l = silent-props bad k ps j (λ i h e. omega arith)

pub props-below : (bad : Bool) (k : ℕ) (ps : List Prop) → Below (k + length ps) (props_changes bad k ps)
props-below bad k ps j l = silent-props bad k ps j (λ i h e. omega arith)

-- ---- what a list tells of properties

-- of each property from number k on it says what `prop_change` says
abbrev pub Tells : List Change → (bad : Bool) (k : ℕ) → List Prop → Type 0
Tells cs bad k [] = Unit {0}
Tells cs bad k (p ∷ ps) = (left_out cs k ≡ left_out (prop_change bad k p) k) × (anew cs k ≡ anew (prop_change bad k p) k) × Tells cs bad (suc k) ps

pub tells-behind : (xs cs : List Change) (bad : Bool) (k : ℕ) (ps : List Prop) → Below k xs → Tells cs bad k ps → Tells (xs ++ cs) bad k ps
tells-behind xs cs bad k [] b h = tt
tells-behind xs cs bad k (p ∷ ps) b h =
    let s = b k (omega arith) in (
      left-append cs k xs ∙ rw s.0 h.0,
      anew-append cs k xs ∙ rw s.1 h.1,
      tells-behind xs cs bad (suc k) ps (λ j l. b j (omega arith)) h.2,
    )

pub tells-before : (cs ys : List Change) (bad : Bool) (k : ℕ) (ps : List Prop) → Above (k + length ps) ys → Tells cs bad k ps → Tells (cs ++ ys) bad k ps
tells-before cs ys bad k [] a h = tt
tells-before cs ys bad k (p ∷ ps) a h =
    let s = a k (omega arith) in (
      left-append ys k cs ∙ ap (λ (b : Bool). left_out cs k || b) s.0 ∙ or-false (left_out cs k) ∙ h.0,
      anew-append ys k cs ∙ ap (λ (b : Bool). anew cs k || b) s.1 ∙ or-false (anew cs k) ∙ h.1,
      tells-before cs ys bad (suc k) ps (λ j l. a j (omega arith)) h.2,
    )

pub tells-props : (bad : Bool) (k : ℕ) (ps : List Prop) → Tells (props_changes bad k ps) bad k ps
tells-props bad k [] = tt
tells-props bad k (p ∷ ps) =
    let s = props-above bad (suc k) ps k (omega arith) in (
      left-append (props_changes bad (suc k) ps) k (prop_change bad k p) ∙ ap (λ (b : Bool). left_out (prop_change bad k p) k || b) s.0 ∙ or-false (left_out (prop_change bad k p) k),
      anew-append (props_changes bad (suc k) ps) k (prop_change bad k p) ∙ ap (λ (b : Bool). anew (prop_change bad k p) k || b) s.1 ∙ or-false (anew (prop_change bad k p) k),
      tells-behind (prop_change bad k p) (props_changes bad (suc k) ps) bad (suc k) ps (λ j l. silent-prop bad k p j (λ e. omega arith)) (tells-props bad (suc k) ps),
    )

pub tells-part : (cs : List Change) (bad : Bool) (k : ℕ) (xs ys : List Prop) → Tells cs bad k (xs ++ ys) → Tells cs bad k xs × Tells cs bad (k + length xs) ys
tells-part cs bad k [] ys h = (tt, subst (λ (j : ℕ). Tells cs bad j ys) (omega arith) h)
tells-part cs bad k (x ∷ xs) ys h =
    let r = tells-part cs bad (suc k) xs ys h.2 in ((h.0, h.1, r.0), subst (λ (j : ℕ). Tells cs bad j ys) (omega arith) r.1)

-- ---- so the changed properties are the mended ones

prop-told : (bad : Bool) (k : ℕ) (p : Prop) (r : List Prop)
    → pick (left_out (prop_change bad k p) k) r (pick (anew (prop_change bad k p) k) (respelled p ∷ r) (p ∷ r)) ≡ pick (prop_stays bad p) (respelled p ∷ r) r
prop-told bad k p r = go (leb (length (read_identifier p.name)) 0) (bad && reads_gm p) (same (read_identifier p.name) p.name) refl
  where
    own : same (read_identifier p.name) p.name ≡ true → p ≡ respelled p
    own h = ap (λ (w : List ℕ). record { from = p.from; to = p.to; name = w; vals = p.vals }) (sym (same-equal (read_identifier p.name) p.name h))

    go : (a b c : Bool) → same (read_identifier p.name) p.name ≡ c
        → pick (left_out (pick a (unnamed k ∷ []) (pick b (removed_gm k ∷ []) (pick c [] (spelled_anew k ∷ [])))) k) r (pick (anew (pick a (unnamed k ∷ []) (pick b (removed_gm k ∷ []) (pick c [] (spelled_anew k ∷ [])))) k) (respelled p ∷ r) (p ∷ r)) ≡ pick (not a && not b) (respelled p ∷ r) r
    go true b c e = rw (eq-eqb k k refl)
    go false true c e = rw (eq-eqb k k refl)
    go false false true e = ap (λ (q : Prop). q ∷ r) (own e)
    go false false false e = rw (eq-eqb k k refl)

pub props-told : (cs : List Change) (bad : Bool) (k : ℕ) (ps : List Prop) → Tells cs bad k ps → change_props cs k ps ≡ mend_props bad ps
props-told cs bad k [] h = refl
props-told cs bad k (p ∷ ps) h =
    ap₂ (λ (a b : Bool). pick a (change_props cs (suc k) ps) (pick b (respelled p ∷ change_props cs (suc k) ps) (p ∷ change_props cs (suc k) ps))) h.0 h.1
    ∙ prop-told bad k p (change_props cs (suc k) ps)
    ∙ ap (λ (r : List Prop). pick (prop_stays bad p) (respelled p ∷ r) r) (props-told cs bad (suc k) ps h.2)

rest-told : (cs : List Change) (k : ℕ) (ns : List Node) → Tells cs false k (all_props ns) → change_nodes cs k ns ≡ map (mend_node false) ns
rest-told cs k [] h = refl
rest-told cs k (n ∷ ns) h =
    let r = tells-part cs false k n.props (all_props ns) h in
    ap₂ (λ (ps : List Prop) (ms : List Node). record { parent = n.parent; props = ps } ∷ ms) (props-told cs false k n.props r.0) (rest-told cs (k + length n.props) ns r.1)

-- what a list tells of the nodes of a tree
abbrev pub NodesTold : List Change → (k : ℕ) → List Node → Type 0
NodesTold cs k [] = Unit {0}
NodesTold cs k (n ∷ ns) = Tells cs (gms_bad (root_game (n ∷ ns))) k n.props × Tells cs false (k + length n.props) (all_props ns)

pub nodes-told : (cs : List Change) (k : ℕ) (ns : List Node) → NodesTold cs k ns → change_nodes cs k ns ≡ mend_nodes (gms_bad (root_game ns)) ns
nodes-told cs k [] h = refl
nodes-told cs k (n ∷ ns) h =
    ap₂ (λ (ps : List Prop) (ms : List Node). record { parent = n.parent; props = ps } ∷ ms) (props-told cs (gms_bad (root_game (n ∷ ns))) k n.props h.0)
    (rest-told cs (k + length n.props) ns h.1)

pub game-told : (ns : List Node) → game_kept (mend_nodes (gms_bad (root_game ns)) ns) ≡ kept_game (root_game ns)
game-told [] = refl
game-told (n ∷ ns) = ap kept_game (game-kept n.props)

pub nodes-tell : (k : ℕ) (ns : List Node) → NodesTold (nodes_changes k ns) k ns
nodes-tell k [] = tt
nodes-tell k (n ∷ ns) =
    let bad : Bool = gms_bad (root_game (n ∷ ns)) in (
      tells-before (props_changes bad k n.props) (props_changes false (k + length n.props) (all_props ns)) bad k n.props
          (props-above false (k + length n.props) (all_props ns)) (tells-props bad k n.props),
      tells-behind (props_changes bad k n.props) (props_changes false (k + length n.props) (all_props ns)) false (k + length n.props) (all_props ns)
          (props-below bad k n.props) (tells-props false (k + length n.props) (all_props ns)),
    )
