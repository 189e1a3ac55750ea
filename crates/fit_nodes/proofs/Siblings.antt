-- The loop of climbs: past node k, every node before it that is not on the path of k - 1 has the right next sibling. Assumes nothing.
use Rattle.lists.proofs.Prelude.{ℕ, ◌+◌, ◌-◌, ◌≤◌, ◌<◌, Bool, true, false, List, ◌≡◌, refl, sym, ◌∙◌, subst, arith}
use Rattle.tables.specs.Numbers.{none}
use Rattle.tables.specs.Columns.{parent_at}
use Rattle.tables.specs.Each.{each}
use Rattle.fit_nodes.specs.Locals.{Ruled, NextParent, Climbed}
use Rattle.fit_nodes.specs.Nodes.{on_path, sibling_right}
use Rattle.tables.proofs.Cases.{either-bool, true-false}
use Rattle.lists.proofs.Tests.{same_or}
use Rattle.tables.proofs.Each.{each_all}
use Rattle.fit_nodes.proofs.Path.{path-self, path-up}
use Rattle.fit_nodes.proofs.Rule.{rule-has}

pub record Past (nd : List ℕ) (n k : ℕ) : Type 0 where
  pub ruled : Ruled nd n
  pub some : 0 < k
  pub in-range : k ≤ n
  pub right : (i : ℕ) → i < k → on_path nd (k - 1) i ≡ false → sibling_right nd n i ≡ true

pub past_first : {nd : List ℕ} {n : ℕ} → Ruled nd n → 0 < n → Past nd n 1
past_first {nd} ruled h =
    record {
      ruled = ruled;
      some = omega arith;
      in-range = omega arith;
      right = λ i l o. let e : 0 ≡ i = omega arith in true-false (on_path nd 0 i) (subst (λ (z : ℕ). on_path nd 0 z ≡ true) e (path-self nd 0)) o;
    }

module _ {nd : List ℕ} {n k : ℕ} (x : Past nd n k) where
  pub past_next : k < n → NextParent nd n k (parent_at nd k)
  past_next h = record { ruled = x.ruled; some = x.some; in-range = x.in-range; more = λ l. refl; last = λ l. absurd (omega arith) }

  pub past-last : n ≤ k → NextParent nd n k none
  past-last h = record { ruled = x.ruled; some = x.some; in-range = x.in-range; more = λ l. absurd (omega arith); last = λ l. refl }

  pub past_more : k < n → {r : Bool} → Climbed nd n k (parent_at nd k) r → r ≡ true → Past nd n (k + 1)
  past_more h y e =
      let s : (k + 1) - 1 ≡ k = omega arith in
      record {
        ruled = x.ruled;
        some = omega arith;
        in-range = omega arith;
        right = λ i l o.
            let w : on_path nd k i ≡ false = subst (λ (z : ℕ). on_path nd z i ≡ false) s o in
            same_or k i (λ v. true-false (on_path nd k i) (subst (λ (z : ℕ). on_path nd k z ≡ true) v (path-self nd k)) w)
            (λ v. either-bool (on_path nd (k - 1) i)
            (λ u. y.right e i (omega arith) u (λ g. sym (path-up nd k i v (rule-has x.ruled k h g)) ∙ w))
            (λ u. x.right i (omega arith) u));
      }

  pub past_end : n ≤ k → (r : Bool) → Climbed nd n k none r → r ≡ each n (sibling_right nd n)
  past_end h true y =
      sym (each_all (sibling_right nd n) n
      (λ i l. either-bool (on_path nd (k - 1) i)
      (λ u. y.right refl i (omega (arith, x.in-range)) u (λ g. absurd (g refl)))
      (λ u. x.right i (omega (arith, x.in-range)) u)))
  past_end h false y = y.wrong refl
