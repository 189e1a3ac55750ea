-- The spine by the parents so far, the last first. Assumes nothing.
use Rattle.lists.proofs.Prelude.{◌≡◌, refl, sym, ap, ◌∙◌, subst, ℕ, suc, ◌+◌, ◌≤◌, arith, Bool, true, false, List, [], ◌∷◌, ◌++◌, reverse, reverse-cons, length, length-reverse, eqb, ne_eqb, pick}
use Rattle.tables.specs.Numbers.{none}
use Rattle.salvage_shape.specs.LocalsShape.{Fork, closed_into, shut_from, shut_to, leaf, spine_of, Heads, Meets}
use Rattle.salvage_shape.proofs.Spines.{Falls, Off, falls-off, off-shut}

-- ---- the last parent first

abbrev pub spine_r : (base : ℕ) → List ℕ → List Fork
spine_r base [] = leaf none ∷ []
spine_r base (q ∷ ds) = leaf (base + length ds) ∷ shut_to q (spine_r base ds)

abbrev pub MeetsR : (base : ℕ) → List ℕ → Type 0
MeetsR base [] = Unit {0}
MeetsR base (q ∷ ds) = Heads q (shut_to q (spine_r base ds)) × MeetsR base ds

spine-last : (k : ℕ) (xs : List Fork) (ps : List ℕ) (q : ℕ) → spine_of k xs (ps ++ (q ∷ [])) ≡ leaf (k + length ps) ∷ shut_to q (spine_of k xs ps)
spine-last k xs [] q = let e : k ≡ k + 0 = omega arith in ap (λ (z : ℕ). leaf z ∷ shut_to q xs) e
spine-last k xs (p ∷ ps) q =
    let e : suc k + length ps ≡ k + suc (length ps) = omega arith in
    spine-last (suc k) (leaf k ∷ shut_to p xs) ps q ∙ ap (λ (z : ℕ). leaf z ∷ shut_to q (spine_of (suc k) (leaf k ∷ shut_to p xs) ps)) e

meets-last : (k : ℕ) (xs : List Fork) (ps : List ℕ) (q : ℕ) → Meets k xs ps → Heads q (shut_to q (spine_of k xs ps)) → Meets k xs (ps ++ (q ∷ []))
meets-last k xs [] q m h = (h, tt)
meets-last k xs (p ∷ ps) q m h = (m.0, meets-last (suc k) (leaf k ∷ shut_to p xs) ps q m.1 h)

module _ (base : ℕ) where
  pub spine-forward : (ds : List ℕ) → spine_of base (leaf none ∷ []) (reverse ds) ≡ spine_r base ds
  spine-forward [] = refl
  spine-forward (q ∷ ds) =
      ap (spine_of base (leaf none ∷ [])) (reverse-cons q ds)
      ∙ spine-last base (leaf none ∷ []) (reverse ds) q
      ∙ ap (λ (z : ℕ). leaf (base + z) ∷ shut_to q (spine_of base (leaf none ∷ []) (reverse ds))) (length-reverse ds)
      ∙ ap (λ (z : List Fork). leaf (base + length ds) ∷ shut_to q z) (spine-forward ds)

  pub meets-forward : (ds : List ℕ) → MeetsR base ds → Meets base (leaf none ∷ []) (reverse ds)
  meets-forward [] m = tt
  meets-forward (q ∷ ds) m =
      subst (Meets base (leaf none ∷ [])) (sym (reverse-cons q ds))
      (meets-last base (leaf none ∷ []) (reverse ds) q (meets-forward ds m.1) (subst (λ (z : List Fork). Heads q (shut_to q z)) (sym (spine-forward ds)) m.0))

-- ---- down to one node and on to another

again-from : (k q p : ℕ) (r : Fork) (rs : List Fork) → k ≤ none → Falls k (r ∷ rs) → (Off p (shut_from q r rs) → ⊥) → shut_to p (shut_from q r rs) ≡ shut_from p r rs
again-from k q p r [] l f o = refl
again-from k q p r (s ∷ rs) l f o = go (eqb r.num q) refl (λ w. again-from k q p (closed_into r s) rs l (closed rs f) w)
  where
    closed : (ys : List Fork) → Falls k (r ∷ s ∷ ys) → Falls k (closed_into r s ∷ ys)
    closed [] g = g.1
    closed (y ∷ ys) g = (omega (arith, g.0, g.1.0), g.1.1)

    apart : Off r.num (closed_into r s ∷ rs)
    apart = falls-off r.num r.num (s ∷ rs) f.1 (omega arith) (omega (arith, f.0))

    go : (b : Bool) → eqb r.num q ≡ b → ((Off p (shut_from q (closed_into r s) rs) → ⊥) → shut_to p (shut_from q (closed_into r s) rs) ≡ shut_from p (closed_into r s) rs)
        → shut_to p (pick b (r ∷ s ∷ rs) (shut_from q (closed_into r s) rs)) ≡ pick (eqb r.num p) (r ∷ s ∷ rs) (shut_from p (closed_into r s) rs)
    go true e i = refl
    go false e i =
        let o2 : Off p (shut_from q (closed_into r s) rs) → ⊥ = λ w. o (subst (λ (b : Bool). Off p (pick b (r ∷ s ∷ rs) (shut_from q (closed_into r s) rs))) (sym e) w) in
        let n : r.num ≡ p → ⊥ = λ w. o2 (subst (λ (z : ℕ). Off z (shut_from q (closed_into r s) rs)) w (off-shut q r.num (closed_into r s ∷ rs) apart)) in
        i o2 ∙ sym (ap (λ (b : Bool). pick b (r ∷ s ∷ rs) (shut_from p (closed_into r s) rs)) (ne_eqb r.num p n))

pub shut-again : (k q p : ℕ) (xs : List Fork) → k ≤ none → Falls k xs → (Off p (shut_to q xs) → ⊥) → shut_to p (shut_to q xs) ≡ shut_to p xs
shut-again k q p [] l f o = refl
shut-again k q p (r ∷ rs) l f o = again-from k q p r rs l f o
