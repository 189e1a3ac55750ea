-- Where nodes stand in brackets, and the climb over their ends. Assumes nothing.
use Rattle.lists.proofs.Prelude.{ℕ, zero, suc, ◌^◌, ◌≤◌, ◌<◌, ◌-◌, Bool, true, not, List, [], ◌∷◌, ◌++◌, append-nil, ◌≡◌, refl, sym, ap, ◌∙◌, subst, arith, eqb, length, eq-eqb, ne_eqb, pick}
use Rattle.store_bytes.specs.LocalsWrote.{Wrote}
use Rattle.tables.specs.Numbers.{none}
use Rattle.tables.specs.Columns.{parent_at, child_at, sibling_at}
use Rattle.fit_nodes.specs.Nodes.{on_path}
use Rattle.lists.proofs.Tests.{same_or}
use Rattle.fit_nodes.proofs.Path.{has-before, path-down, path-le}
use Rattle.fit_nodes.proofs.Rule.{rule-before}
use Rattle.serialize.specs.Locals.{Placed, Above}
use Rattle.serialize.specs.LocalsWalk.{in_brackets, end_text, start_text, climbs, ends_before}
use Rattle.serialize_values.proofs.Writing.{Writing, writing-first, writing-is, writing-next, writing-last}

module _ (nd : List ℕ) (k : ℕ) where
  pub brackets-root : parent_at nd k ≡ none → true ≡ in_brackets nd k
  brackets-root h = rw (eq-eqb (parent_at nd k) none h)

  pub brackets-later : (parent_at nd k ≡ none → ⊥) → (child_at nd (parent_at nd k) ≡ k → ⊥) → true ≡ in_brackets nd k
  brackets-later h c = rw (ne_eqb (parent_at nd k) none h, ne_eqb (child_at nd (parent_at nd k)) k c)

  pub brackets-first : (parent_at nd k ≡ none → ⊥) → child_at nd (parent_at nd k) ≡ k → not (eqb (sibling_at nd k) none) ≡ in_brackets nd k
  brackets-first h c = rw (ne_eqb (parent_at nd k) none h, eq-eqb (child_at nd (parent_at nd k)) k c)

  -- what is written where the answer r to that question is b
  module _ {r b : Bool} (e : r ≡ in_brackets nd k) (h : r ≡ b) where
    pub shut_by : pick b (0x29 ∷ []) [] ≡ end_text nd k
    shut_by = ap (λ (z : Bool). pick z (0x29 ∷ []) []) (sym h ∙ e)

    pub begun-by : pick b (0x28 ∷ []) [] ≡ start_text nd k
    begun-by = ap (λ (z : Bool). pick z (0x28 ∷ []) []) (sym h ∙ e)

-- ---- the climb

module _ (nd : List ℕ) where
  pub ends-none : (k p : ℕ) → k ≡ 0 → [] ≡ ends_before nd k p
  unfolding ends_before
  ends-none zero p e = refl
  ends-none (suc k) p e = absurd (omega arith)

  pub ends-self : (k p : ℕ) → (k ≡ 0 → ⊥) → k - 1 ≡ p → [] ≡ ends_before nd k p
  unfolding ends_before
  ends-self zero p h e = absurd (h refl)
  ends-self (suc k) p h e = let z : k ≡ p = omega arith in rw (eq-eqb k p z)

  ends-climbs : (k p : ℕ) → (k ≡ 0 → ⊥) → (k - 1 ≡ p → ⊥) → ends_before nd k p ≡ climbs nd (k - 1) (k - 1) p
  unfolding ends_before
  ends-climbs zero p h e = absurd (h refl)
  ends-climbs (suc k) p h e = let z : suc k - 1 ≡ k = omega arith in rw (z, ne_eqb k p (λ w. e (omega arith)))

  climbs-last : (f j p : ℕ) → parent_at nd j ≡ p → climbs nd f j p ≡ end_text nd j
  unfolding climbs
  climbs-last zero j p e = refl
  climbs-last (suc f) j p e = rw (eq-eqb (parent_at nd j) p e) (append-nil (end_text nd j))

  climbs-more : (f j p : ℕ) → 0 < f → (parent_at nd j ≡ p → ⊥) → climbs nd f j p ≡ end_text nd j ++ climbs nd (f - 1) (parent_at nd j) p
  unfolding climbs
  climbs-more zero j p h e = absurd (omega arith)
  climbs-more (suc f) j p h e = let z : suc f - 1 ≡ f = omega arith in rw (z, ne_eqb (parent_at nd j) p e)

-- node j is the next to end
pub record Ends (nd : List ℕ) (k p j : ℕ) (out₀ : List ℕ) (at : ℕ) (out : List ℕ) (to : ℕ) : Type 0 where
  pub under : j < k
  pub above : (p ≡ none → ⊥) → (on_path nd j p ≡ true) × (p < j)
  pub fuel : ℕ
  pub enough : j ≤ fuel
  pub writing : Writing (ends_before nd k p) (climbs nd fuel j p) out₀ at out to

module _ {nd : List ℕ} {k p : ℕ} (x : Above nd k p) where
  pub ends-first : (k ≡ 0 → ⊥) → (k - 1 ≡ p → ⊥) → (out : List ℕ) (at : ℕ) → length out < 2 ^ 64 → at < 2 ^ 64 → Ends nd k p (k - 1) out at out at
  ends-first z h out at s b =
      let l : 0 < k = omega arith in
      record {
        under = omega arith;
        above = λ w. (x.above l w, (let q = path-le nd (k - 1) p (x.above l w) in omega arith));
        fuel = k - 1;
        enough = omega arith;
        writing = writing-is (ends-climbs nd k p z h) (writing-first (ends_before nd k p) out at s b);
      }

  module _ {j : ℕ} {out₀ : List ℕ} {at : ℕ} {out : List ℕ} {to : ℕ} (y : Ends nd k p j out₀ at out to) where
    pub ends-placed : Placed nd j
    ends-placed =
        let u = y.under in
        let r = x.lent in
        record { row = omega arith; above = λ w. (let b = rule-before x.ruled j u w in omega arith) }

    pub ends-before : (parent_at nd j ≡ p → ⊥) → parent_at nd j < j
    ends-before h =
        same_or p none (λ z. rule-before x.ruled j y.under (λ v. h (v ∙ sym z)))
        (λ z. let a = y.above z in (has-before nd j (path-down nd j p (λ v. let b = a.1 in omega arith) a.0).0).0)

    module _ {out' : List ℕ} {to' : ℕ} (w : Wrote (end_text nd j) out to out' to') where
      pub ends-done : parent_at nd j ≡ p → Wrote (ends_before nd k p) out₀ at out' to'
      ends-done e = writing-last w (writing-is (climbs-last nd y.fuel j p e) y.writing)

      more : (parent_at nd j ≡ p → ⊥) → Ends nd k p (parent_at nd j) out₀ at out' to'
      more h =
          let b = ends-before h in
          let u = y.under in
          let f = y.enough in
          record {
            under = omega arith;
            above = λ z.
                let a = y.above z in
                let d = path-down nd j p (λ v. let c = a.1 in omega arith) a.0 in
                (d.1, (let g = path-le nd (parent_at nd j) p d.1 in same_or (parent_at nd j) p (λ v. absurd (h v)) (λ v. omega arith)));
            fuel = y.fuel - 1;
            enough = omega arith;
            writing = writing-next w (writing-is (climbs-more nd y.fuel j p (omega arith) h) y.writing);
          }

      pub ends_more : (parent_at nd j ≡ p → ⊥) → {q : ℕ} → q ≡ parent_at nd j → Ends nd k p q out₀ at out' to'
      ends_more h e = subst (λ (z : ℕ). Ends nd k p z out₀ at out' to') (sym e) (more h)
