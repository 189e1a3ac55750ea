-- An accepted feed is a run of accepted edits: the corrections that do not lengthen, then those that do. Assumes nothing.
use Rattle.lists.proofs.Prelude.{ℕ, zero, suc, ◌+◌, ◌-◌, ◌≤◌, ◌<◌, true, ◌≡◌, refl, sym, ap, ◌∙◌, subst, subst⁻¹, subst₂, arith, List, [], ◌∷◌, ◌++◌, length, slice, leb, leb-true, leb-false, ltb, ltb-true, ltb-false, length-take, length-take-le}
use Rattle.tables.specs.Memory.{Memory}
use Rattle.tables.specs.Numbers.{text_limit}
use Rattle.tables.proofs.Cases.{either-bool}
use Rattle.fit.specs.Fit.{Fit}
use Rattle.fit.specs.Record.{text_in}
use Rattle.fit.proofs.Clauses.{fit-short}
use Rattle.fit.proofs.Whole.{fit-lent}
use Rattle.edit_laws.specs.Calls.{Calls, none, call}
use Rattle.edit_laws.specs.Run.{Order}
use Rattle.edit_laws.proofs.CallsRun.{calls-fit}
use Rattle.feed.specs.Feed.{listing}
use Rattle.feed.specs.Find.{found_in}
use Rattle.feed_check.specs.Check.{feed_checked}
use Rattle.feed_laid.specs.Laid.{with}
use Rattle.feed_laid.specs.OfMemory.{laid_text, own_bytes}
use Rattle.feed_laws.specs.Corrected.{bytes_for, new_bytes}
use Rattle.feed_laws.specs.LocalsSweep.{until, lesser}
use Rattle.feed_laws.proofs.Holds.{held, held_same, held-own, held-call, held_fits}
use Rattle.feed_laws.proofs.Judged.{corrected-fine}
use Rattle.feed_laws.proofs.Partly.{until-below, until-from, until-with, until_skip, laid_same, laid-least, lesser-new, lesser-own, lesser-same, lesser-size, way-shorter, way-longer}
use Rattle.std.specs.Prelude.{Option, Some, None, Ok}

-- one memory from another by a run of calls of the edit
pub record Ran (x y : Memory) : Type 0 where
  pub orders : List Order
  pub calls : Calls x orders y

ran-none : (x : Memory) → Ran x x
ran-none x = record { orders = []; calls = none }

calls-then : {x y z : Memory} (xs ys : List Order) → Calls x xs y → Calls y ys z → Calls x (xs ++ ys) z
calls-then [] ys none d = d
calls-then (x ∷ xs) ys (call r l h c) d = call r l h (calls-then xs ys c d)

module _ (m : Memory) (w : List ℕ) (fit : Fit m ≡ true) (passed : feed_checked m w ≡ Ok tt) where
  abbrev n : ℕ
  n = m.counts.values

  abbrev new : ℕ → List ℕ
  new = new_bytes m w

  abbrev own : ℕ → List ℕ
  own = own_bytes m

  abbrev less : ℕ → List ℕ
  less = lesser m w

  lent : length (text_in m) ≤ length m.text
  lent = omega (arith, length-take m.used m.text)

  used-is : length (text_in m) ≡ m.used
  used-is = length-take-le m.used m.text (fit-lent m fit).0

  -- ---- a sweep: each value in turn has its new bytes in both, or is edited

  module _ (g h : ℕ → List ℕ) where
    abbrev at : ℕ → Memory
    at k = held m fit (until k g h)

    abbrev End : Memory
    End = at n

    kept : (k : ℕ) → g k ≡ h k → at k ≡ at (suc k)
    kept k e = held_same m fit (until k g h) (until (suc k) g h) (λ j _. until_skip g h k (suc k) (omega arith) (λ i x y. let q : i ≡ k = omega arith in ap g q ∙ e ∙ ap h (sym q)) j)

    one_more : (k : ℕ) → at k ≡ at (suc k) → (Fit (at (suc k)) ≡ true → Ran (at (suc k)) End) → Fit (at k) ≡ true → Ran (at k) End
    one_more k e r f = subst⁻¹ (λ (x : Memory). Ran x End) e (r (ap Fit (sym e) ∙ f))

    -- value k edited
    module _ (k b z : ℕ) (below : k < n) (found : found_in (listing w).entries k ≡ Some (b, z)) (is : g k ≡ slice b z w)
        (long : length (laid_text m (until k g h)) ≤ length m.text) (short : length (laid_text m (until (suc k) g h)) ≤ text_limit) (room : length (laid_text m (until (suc k) g h)) ≤ length m.text)
        (last : length (laid_text m (until k g h)) ≤ length (laid_text m (until (suc k) g h)) + (m.used - length (laid_text m (until (suc k) g h)))) where
      same : (j : ℕ) → j < n → with (until k g h) k (slice b z w) j ≡ until (suc k) g h j
      same j _ = ap (λ (y : List ℕ). with (until k g h) k y j) (sym is) ∙ until-with g h k j

      edited : (Fit (at (suc k)) ≡ true → Ran (at (suc k)) End) → Fit (at k) ≡ true → Ran (at k) End
      edited r f =
          let e = held_same m fit (with (until k g h) k (slice b z w)) (until (suc k) g h) same in
          let u = ap length (laid_same m fit (with (until k g h) k (slice b z w)) (until (suc k) g h) same) in
          let fine = corrected-fine m w passed k b z found in
          let i : length (laid_text m (with (until k g h) k (slice b z w))) ≤ text_limit = omega (arith, u, short) in
          let o : length (laid_text m (with (until k g h) k (slice b z w))) ≤ length m.text = omega (arith, u, room) in
          let l : length (laid_text m (until k g h)) ≤ length (laid_text m (with (until k g h) k (slice b z w))) + (m.used - length (laid_text m (with (until k g h) k (slice b z w)))) = omega (arith, u, last) in
          let ok = held_fits m fit (until k g h) k below (slice b z w) f fine long i o l in
          let q = r (ap Fit (sym e) ∙ ok) in
          record { orders = record { value = k; bytes = slice b z w } ∷ q.orders; calls = held-call m fit (until k g h) k below (slice b z w) f fine long i o l q.orders End (subst⁻¹ (λ (x : Memory). Calls x q.orders End) e q.calls) }

  -- ---- the first sweep

  new-at : (k b z : ℕ) → found_in (listing w).entries k ≡ Some (b, z) → new k ≡ slice b z w
  new-at k b z f = ap (λ (x : Option (ℕ × ℕ)). bytes_for w x (own k)) f

  new-own : (k : ℕ) → found_in (listing w).entries k ≡ None → new k ≡ own k
  new-own k f = ap (λ (x : Option (ℕ × ℕ)). bytes_for w x (own k)) f

  less-run : (i k : ℕ) → k + i ≡ n → Fit (held m fit (until k less own)) ≡ true → Ran (held m fit (until k less own)) (held m fit (until n less own))
  less-run zero k h f = let z : k ≡ n = omega arith in subst (λ (j : ℕ). Ran (held m fit (until k less own)) (held m fit (until j less own))) z (ran-none (held m fit (until k less own)))
  less-run (suc i) k h f = go (found_in (listing w).entries k) refl (less-run i (suc k) (omega arith))
    where
      go : (x : Option (ℕ × ℕ)) → found_in (listing w).entries k ≡ x → (Fit (held m fit (until (suc k) less own)) ≡ true → Ran (held m fit (until (suc k) less own)) (held m fit (until n less own)))
          → Ran (held m fit (until k less own)) (held m fit (until n less own))
      go None e r = one_more less own k (kept less own k (lesser-same m fit w k (new-own k e))) r f
      go (Some (b, z)) e r =
          either-bool (leb (length (new k)) (length (own k)))
          (λ c. edited less own k b z (omega arith) e (lesser-new m fit w k (leb-true _ _ c) ∙ new-at k b z e)
          (omega (arith, way-shorter m fit w k, lent)) (omega (arith, way-shorter m fit w (suc k), used-is, fit-short m fit)) (omega (arith, way-shorter m fit w (suc k), lent))
          (omega (arith, way-shorter m fit w k, used-is)) r f)
          (λ c. one_more less own k (kept less own k (lesser-own m fit w k (leb-false _ _ c))) r f)

  -- ---- the second

  way_up : (k : ℕ) → length (laid_text m (until k new less)) ≤ length (laid_text m (until (suc k) new less))
  way_up k =
      laid-least m fit (until k new less) (until (suc k) new less) (λ j _. either-bool (ltb j k)
      (λ b. let l = ltb-true j k b in omega (arith, ap length (until-below new less k j l), ap length (until-below new less (suc k) j (omega arith))))
      (λ b. let l = ltb-false j k b in let x = ap length (until-from new less k j l) in let z = lesser-size m fit w j in
      either-bool (ltb j (suc k)) (λ c. omega (arith, x, z, ap length (until-below new less (suc k) j (ltb-true j (suc k) c)))) (λ c. omega (arith, x, ap length (until-from new less (suc k) j (ltb-false j (suc k) c))))))

  module _ (short : length (laid_text m new) ≤ text_limit) (room : length (laid_text m new) ≤ length m.text) where
    new-run : (i k : ℕ) → k + i ≡ n → Fit (held m fit (until k new less)) ≡ true → Ran (held m fit (until k new less)) (held m fit (until n new less))
    new-run zero k h f = let z : k ≡ n = omega arith in subst (λ (j : ℕ). Ran (held m fit (until k new less)) (held m fit (until j new less))) z (ran-none (held m fit (until k new less)))
    new-run (suc i) k h f = go (found_in (listing w).entries k) refl (new-run i (suc k) (omega arith))
      where
        go : (x : Option (ℕ × ℕ)) → found_in (listing w).entries k ≡ x → (Fit (held m fit (until (suc k) new less)) ≡ true → Ran (held m fit (until (suc k) new less)) (held m fit (until n new less)))
            → Ran (held m fit (until k new less)) (held m fit (until n new less))
        go None e r = let o = new-own k e in one_more new less k (kept new less k (o ∙ sym (lesser-same m fit w k o))) r f
        go (Some (b, z)) e r =
            either-bool (leb (length (new k)) (length (own k)))
            (λ c. one_more new less k (kept new less k (sym (lesser-new m fit w k (leb-true _ _ c)))) r f)
            (λ c. edited new less k b z (omega arith) e (new-at k b z e)
            (omega (arith, way-longer m fit w k, room)) (omega (arith, way-longer m fit w (suc k), short)) (omega (arith, way-longer m fit w (suc k), room)) (omega (arith, way_up k)) r f)

    -- an accepted feed is an accepted run
    pub feed-runs : Ran m (held m fit new)
    feed-runs =
        let s : held m fit (until 0 less own) ≡ m = held_same m fit (until 0 less own) own (λ j _. until-from less own 0 j (omega arith)) ∙ held-own m fit in
        let t : held m fit (until n less own) ≡ held m fit (until 0 new less) =
        held_same m fit (until n less own) (until 0 new less) (λ j l. until-below less own n j l ∙ sym (until-from new less 0 j (omega arith))) in
        let u : held m fit (until n new less) ≡ held m fit new = held_same m fit (until n new less) new (λ j l. until-below new less n j l) in
        let x = less-run n 0 (omega arith) (ap Fit s ∙ fit) in
        let c = subst₂ (λ (p q : Memory). Calls p x.orders q) s t x.calls in
        let y = new-run n 0 (omega arith) (calls-fit m (held m fit (until 0 new less)) x.orders fit c) in
        record { orders = x.orders ++ y.orders; calls = calls-then x.orders y.orders c (subst (Calls (held m fit (until 0 new less)) y.orders) u y.calls) }
