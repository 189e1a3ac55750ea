-- Values changed one after another, those that pass a test. Assumes nothing.
use Rattle.lists.proofs.Prelude.{ℕ, zero, suc, ◌≤◌, Bool, true, false, ◌&&◌, and-false, ◌≡◌, refl, sym, ap, ap₂, ◌∙◌, arith, List, ltb, eq-eqb, ne_eqb, lt-ltb, le-ltb, pick}
use Rattle.lists.proofs.Tests.{same_or}
use Rattle.tables.proofs.Cases.{below_or}
use Rattle.feed_laid.specs.Laid.{with}

module _ (f : ℕ → List ℕ) (test : ℕ → Bool) (g : ℕ → List ℕ) where
  abbrev pub swept : ℕ → ℕ → List ℕ
  swept zero = g
  swept (suc k) = pick (test k) (with (swept k) k (f k)) (swept k)

  last-below : (j k : ℕ) → (j ≡ k → ⊥) → ltb j (suc k) ≡ ltb j k
  last-below j k d = below_or j k (λ l. lt-ltb j (suc k) (omega arith) ∙ sym (lt-ltb j k l)) (λ l. le-ltb j (suc k) (other j k l d) ∙ sym (le-ltb j k l))
    where
      other : (j k : ℕ) → k ≤ j → (j ≡ k → ⊥) → suc k ≤ j
      other j k l d = below_or k j (λ z. z) (λ z. absurd (d (omega arith)))

  pub swept-is : (k j : ℕ) → swept k j ≡ pick (test j && ltb j k) (f j) (g j)
  swept-is zero j = sym (ap (λ (b : Bool). pick (test j && b) (f j) (g j)) (le-ltb j 0 (omega arith)) ∙ ap (λ (b : Bool). pick b (f j) (g j)) (and-false (test j)))
  swept-is (suc k) j = go (test k) refl (swept-is k j)
    where
      go : (b : Bool) → test k ≡ b → swept k j ≡ pick (test j && ltb j k) (f j) (g j) → pick b (with (swept k) k (f k)) (swept k) j ≡ pick (test j && ltb j (suc k)) (f j) (g j)
      go true e h =
          same_or j k
          (λ z. ap (λ (b : Bool). pick b (f k) (swept k j)) (eq-eqb j k z)
          ∙ ap f (sym z)
          ∙ sym (ap₂ (λ (x y : Bool). pick (x && y) (f j) (g j)) (ap test z ∙ e) (lt-ltb j (suc k) (omega (arith, z)))))
          (λ d. ap (λ (b : Bool). pick b (f k) (swept k j)) (ne_eqb j k d) ∙ h ∙ ap (λ (b : Bool). pick (test j && b) (f j) (g j)) (sym (last-below j k d)))
      go false e h =
          same_or j k
          (λ z. h ∙ ap (λ (b : Bool). pick (b && ltb j k) (f j) (g j)) (ap test z ∙ e) ∙ sym (ap (λ (b : Bool). pick (b && ltb j (suc k)) (f j) (g j)) (ap test z ∙ e)))
          (λ d. h ∙ ap (λ (b : Bool). pick (test j && b) (f j) (g j)) (sym (last-below j k d)))
