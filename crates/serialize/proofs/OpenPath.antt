-- The open nodes of the writing are the chain of parents: what they end, and which are left. Assumes nothing.
use Rattle.lists.proofs.Prelude.{ℕ, zero, suc, ◌≤◌, ◌<◌, Bool, true, false, List, [], ◌∷◌, ◌++◌, append_assoc, inl, inr, ◌≡◌, refl, sym, ap, ap₂, ◌∙◌, subst, arith, eqb, eq-eqb, ne_eqb, pick}
use Rattle.tables.specs.Numbers.{none}
use Rattle.tables.proofs.Cases.{true-false}
use Rattle.lists.proofs.Tests.{same_or}
use Rattle.fit_nodes.proofs.Path.{has-before, has-none, path-out, path-down}
use Rattle.tables.specs.Columns.{parent_at}
use Rattle.fit_nodes.specs.Nodes.{has_parent, on_path}
use Rattle.serialize.specs.LocalsWalk.{in_brackets, end_text, climbs, ends_before}
use Rattle.serialize.specs.LocalsWrite.{Open, ends_text, path_left, shuts}
use Rattle.serialize.proofs.Branches.{On}

module _ (nd : List ℕ) where
  -- node j and those above it up to the root, which stands in its tree's brackets
  abbrev pub PathFrom : ℕ → List Open → Type 0
  PathFrom j [] = ⊥
  PathFrom j (x ∷ []) = (x.num ≡ j) × (x.brk ≡ false) × (parent_at nd j ≡ none)
  PathFrom j (x ∷ y ∷ ys) = (x.num ≡ j) × (x.brk ≡ in_brackets nd j) × (has_parent nd j ≡ true) × PathFrom (parent_at nd j) (y ∷ ys)

  root-only : (j p : ℕ) → parent_at nd j ≡ none → on_path nd j p ≡ true → j ≡ p
  root-only j p e o = same_or j p (λ z. z) (λ z. true-false (on_path nd j p) o (path-out nd j p z (has-none nd j e)))

  pub left-path : (j p : ℕ) (xs : List Open) → PathFrom j xs → on_path nd j p ≡ true → PathFrom p (path_left p xs)
  left-path j p [] h o = h
  left-path j p (x ∷ []) h o =
      let e = root-only j p h.2 o in
      rw (eq-eqb x.num p (h.0 ∙ e)) (subst (λ (z : ℕ). PathFrom z (x ∷ [])) e h)
  left-path j p (x ∷ y ∷ ys) h o =
      same_or j p (λ e. rw (eq-eqb x.num p (h.0 ∙ e)) (subst (λ (z : ℕ). PathFrom z (x ∷ y ∷ ys)) e h))
      (λ e. rw (ne_eqb x.num p (λ z. e (sym h.0 ∙ z))) (left-path (parent_at nd j) p (y ∷ ys) h.3 (path-down nd j p e o).1))

  pub path-on : (j p : ℕ) (xs : List Open) → PathFrom j xs → on_path nd j p ≡ true → On p xs
  path-on j p [] h o = h
  path-on j p (x ∷ []) h o = inl (h.0 ∙ root-only j p h.2 o)
  path-on j p (x ∷ y ∷ ys) h o =
      same_or j p (λ e. inl (h.0 ∙ e)) (λ e. inr ((λ z. e (sym h.0 ∙ z)), path-on (parent_at nd j) p (y ∷ ys) h.3 (path-down nd j p e o).1))

  shuts-end : (b : Bool) (r : List ℕ) → shuts b r ≡ pick b (0x29 ∷ []) [] ++ r
  shuts-end true r = refl
  shuts-end false r = refl

  -- up to p, with enough steps
  ends-climb : (f j p : ℕ) (xs : List Open) → PathFrom j xs → on_path nd j p ≡ true → j ≤ f → ends_text p xs ≡ pick (eqb j p) [] (climbs nd f j p)
  unfolding climbs
  ends-climb f j p [] h o l = absurd h
  ends-climb f j p (x ∷ []) h o l = let e = root-only j p h.2 o in rw (eq-eqb x.num p (h.0 ∙ e), eq-eqb j p e)
  ends-climb zero j p (x ∷ y ∷ ys) h o l = absurd (omega (arith, (has-before nd j h.2).0))
  ends-climb (suc f) j p (x ∷ y ∷ ys) h o l =
      same_or j p (λ e. rw (eq-eqb x.num p (h.0 ∙ e), eq-eqb j p e))
      (λ e.
      rw (ne_eqb x.num p (λ z. e (sym h.0 ∙ z)), ne_eqb j p e)
      (ap₂ shuts h.1 (ends-climb f (parent_at nd j) p (y ∷ ys) h.3 (path-down nd j p e o).1 (omega (arith, (has-before nd j h.2).0)))
      ∙ shuts-end (in_brackets nd j) (pick (eqb (parent_at nd j) p) [] (climbs nd f (parent_at nd j) p))))

  -- up to the root, whose end is its tree's
  ends-top : (f j : ℕ) (xs : List Open) → PathFrom j xs → j ≤ f → j < none → ends_text none xs ++ (0x29 ∷ []) ≡ climbs nd f j none
  unfolding climbs
  ends-top f j [] h l u = absurd h
  ends-top zero j (x ∷ []) h l u = rw (ne_eqb x.num none (λ z. omega (arith, h.0)), h.1, eq-eqb (parent_at nd j) none h.2)
  ends-top (suc f) j (x ∷ []) h l u = rw (ne_eqb x.num none (λ z. omega (arith, h.0)), h.1, eq-eqb (parent_at nd j) none h.2)
  ends-top zero j (x ∷ y ∷ ys) h l u = absurd (omega (arith, (has-before nd j h.2).0))
  ends-top (suc f) j (x ∷ y ∷ ys) h l u =
      let q = has-before nd j h.2 in
      let r = ends-top f (parent_at nd j) (y ∷ ys) h.3 (omega (arith, q.0)) (omega (arith, q.0)) in
      rw (ne_eqb x.num none (λ z. omega (arith, h.0)))
      (ap (λ (z : Bool). shuts z (ends_text none (y ∷ ys)) ++ (0x29 ∷ [])) h.1
      ∙ ap (λ (z : List ℕ). z ++ (0x29 ∷ [])) (shuts-end (in_brackets nd j) (ends_text none (y ∷ ys)))
      ∙ append_assoc (end_text nd j) (ends_text none (y ∷ ys)) (0x29 ∷ [])
      ∙ ap (λ (z : List ℕ). end_text nd j ++ z) r
      ∙ ap (λ (z : Bool). end_text nd j ++ pick z [] (climbs nd f (parent_at nd j) none)) (sym (ne_eqb (parent_at nd j) none q.1)))

  module _ (j : ℕ) (xs : List Open) (h : PathFrom j xs) where
    pub ends-before : (p : ℕ) → on_path nd j p ≡ true → ends_text p xs ≡ ends_before nd (suc j) p
    unfolding ends_before
    ends-before p o = ends-climb j j p xs h o (omega arith)

    pub ends_last : j < none → ends_text none xs ++ (0x29 ∷ []) ≡ ends_before nd (suc j) none
    unfolding ends_before
    ends_last u = rw (ne_eqb j none (λ z. omega arith)) (ends-top j j xs h (omega arith) u)
