-- The rule of a tree, asked at its root and kept for the nodes behind it. Assumes nothing.
use Rattle.lists.proofs.Prelude.{ℕ, suc, ◌+◌, ◌<◌, ◌-◌, Bool, true, false, List, ◌≡◌, refl, sym, ap, ap₂, ◌∙◌, add-one, arith, eqb, eq-eqb, ne_eqb, pick}
use Rattle.lists.proofs.Pick.{pick-elim}
use Rattle.lists.proofs.Tests.{same_or}
use Rattle.tables.specs.Numbers.{none}
use Rattle.tables.specs.Columns.{game_at, parent_at}
use Rattle.fit_nodes.proofs.Rule.{rule-at}
use Rattle.fit_nodes.specs.Locals.{Ruled}
use Rattle.go_size.specs.declared.RootSize.{RootSize}
use Rattle.go_size.specs.declared.RootSize.TheVariants.{Absent}
use Rattle.fit_rule.specs.Rule.{tt_passes, rule_by, size_at}
use Rattle.salvage_rows.specs.LocalsGM.{kept_at}
use Rattle.serialize.specs.LocalsWalk.{roots_below, type_told, rule_told, tree_rule}

-- ---- how many roots

module _ (nd : List ℕ) (k : ℕ) {r : ℕ} (e : r ≡ roots_below nd k) where
  pub roots-more : parent_at nd k ≡ none → r + 1 ≡ roots_below nd (suc k)
  unfolding roots_below
  roots-more h = rw (eq-eqb (parent_at nd k) none h, ← e) (omega arith)

  pub roots-same : (parent_at nd k ≡ none → ⊥) → r ≡ roots_below nd (suc k)
  unfolding roots_below
  roots-same h = rw (ne_eqb (parent_at nd k) none h) e

pub roots-next : (nd : List ℕ) (k : ℕ) {r : ℕ} → r ≡ roots_below nd (suc k) → r ≡ roots_below nd (k + 1)
roots-next nd k e = e ∙ ap (roots_below nd) (sym (add-one k))

-- what is asked at a root, and kept for the nodes behind it
module _ (ask : ℕ → ℕ) (nd : List ℕ) (k : ℕ) where
  pub rule-asked : (roots rule : ℕ) {r : ℕ} → parent_at nd k ≡ none → r ≡ ask roots → r ≡ pick (eqb (parent_at nd k) none) (ask roots) rule
  rule-asked roots rule h e = rw (eq-eqb (parent_at nd k) none h) e

  pub rule-stays : (roots rule : ℕ) → (parent_at nd k ≡ none → ⊥) → rule ≡ pick (eqb (parent_at nd k) none) (ask roots) rule
  rule-stays roots rule h = rw (ne_eqb (parent_at nd k) none h)

  -- node 0 is a root
  pub rule-kept : {roots rule r : ℕ} → Ruled nd (suc k) → roots ≡ roots_below nd k → (0 < k → rule ≡ ask (roots_below nd k - 1))
      → r ≡ pick (eqb (parent_at nd k) none) (ask roots) rule → r ≡ ask (roots_below nd (suc k) - 1)
  rule-kept {roots} {rule} {r} x e before h =
      same_or (parent_at nd k) none
      (λ p.
      let a : r ≡ ask roots = h ∙ rw (eq-eqb (parent_at nd k) none p) in
      let b : roots ≡ roots_below nd (suc k) - 1 = omega (arith, roots-more nd k e p) in
      a ∙ ap ask b)
      (λ p.
      let a : r ≡ rule = h ∙ rw (ne_eqb (parent_at nd k) none p) in
      let z : 0 < k = (rule-at x k (omega arith) p).0 in
      let b : roots_below nd k ≡ roots_below nd (suc k) = roots-same nd k refl p in
      a ∙ before z ∙ ap (λ (n : ℕ). ask (n - 1)) b)

  pub rule-next : {r : ℕ} → r ≡ ask (roots_below nd (suc k) - 1) → 0 < k + 1 → r ≡ ask (roots_below nd (k + 1) - 1)
  rule-next e h = e ∙ ap (λ (n : ℕ). ask (roots_below nd n - 1)) (sym (add-one k))

-- by the type alone, where both rules of Go write the same
type-writes : (g : ℕ) (s : RootSize) (w : ℕ → List ℕ) → w 0 ≡ w 2 → w (rule_by g Absent) ≡ w (rule_by g s)
unfolding rule_by tt_passes
type-writes g s w h =
    same_or g 0
    (λ e. rw (eq-eqb g 0 e) (pick-elim (λ (n : ℕ). w 0 ≡ w n) (tt_passes s) (λ z. refl) (λ z. h)))
    (λ e. rw (ne_eqb g 0 e))

module _ (mends : Bool) (t tr nd pr vl : List ℕ) (r : ℕ) where
  pub type-kept : {k : ℕ} → mends ≡ true → k ≡ kept_at t tr nd pr vl r → k ≡ type_told mends t tr nd pr vl r
  type-kept h e = rw h e

  pub type-own : {k : ℕ} → mends ≡ false → k ≡ game_at tr r → k ≡ type_told mends t tr nd pr vl r
  type-own h e = rw h e

  module _ {b : Bool} {g k : ℕ} (e : g ≡ type_told mends t tr nd pr vl r) where
    pub told-asked : {s : RootSize} → b ≡ true → s ≡ size_at t tr nd pr vl r → k ≡ rule_by g s → k ≡ rule_told b mends t tr nd pr vl r
    unfolding rule_told
    told-asked h q f = f ∙ ap₂ rule_by e (q ∙ ap (λ (z : Bool). pick z (size_at t tr nd pr vl r) Absent) (sym h))

    pub told-game : b ≡ false → k ≡ rule_by g Absent → k ≡ rule_told b mends t tr nd pr vl r
    unfolding rule_told
    told-game h f = f ∙ ap₂ rule_by e (ap (λ (z : Bool). pick z (size_at t tr nd pr vl r) Absent) (sym h))

  -- what is written by it, of a node that both rules of Go write the same
  pub told_writes : (b : Bool) (w : ℕ → List ℕ) → (b ≡ false → w 0 ≡ w 2) → w (rule_told b mends t tr nd pr vl r) ≡ w (tree_rule mends t tr nd pr vl r)
  unfolding rule_told
  told_writes true w h = refl
  told_writes false w h = type-writes (type_told mends t tr nd pr vl r) (size_at t tr nd pr vl r) w (h refl)
