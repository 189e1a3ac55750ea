-- What the code has counted when it stops or goes on. Assumes nothing.
use Rattle.lists.proofs.Prelude.{ℕ, zero, suc, ◌+◌, ◌-◌, ◌≤◌, ◌<◌, max, Bool, true, false, not, List, ◌≡◌, refl, sym, ap, ap₂, ◌∙◌, arith, eqb, pick, ne_eqb, eq-eqb}
use Rattle.tables.specs.Numbers.{none}
use Rattle.tables.specs.Columns.{parent_at, child_at, sibling_at}
use Rattle.serialize.specs.LocalsWalk.{in_brackets}
use Rattle.serialize.proofs.Climbs.{brackets-root, brackets-later, brackets-first}
use Rattle.salvage_depth.specs.LocalsDepth.{bracket_at, shut_below, open_at, most_open}
use Rattle.salvage_depth.proofs.Climbed.{shut-met, shut-last, shut-more}

one-least : (b : Bool) → pick b 1 0 ≤ 1
one-least true = omega arith
one-least false = omega arith

module _ (nd : List ℕ) (k : ℕ) where
  pub bracket-least : bracket_at nd k ≤ 1
  bracket-least = one-least (in_brackets nd k)

  pub bracket-root : parent_at nd k ≡ none → 1 ≡ bracket_at nd k
  bracket-root h = ap (λ (b : Bool). pick b 1 0) (brackets-root nd k h)

  module _ (h : parent_at nd k ≡ none → ⊥) where
    pub bracket-later : {r : ℕ} → r ≡ child_at nd (parent_at nd k) → (r ≡ k → ⊥) → 1 ≡ bracket_at nd k
    bracket-later e d = ap (λ (b : Bool). pick b 1 0) (brackets-later nd k h (λ z. d (e ∙ z)))

    bracket-first : {r : ℕ} → r ≡ child_at nd (parent_at nd k) → r ≡ k → (b : Bool) → not (eqb (sibling_at nd k) none) ≡ b → pick b 1 0 ≡ bracket_at nd k
    bracket-first e d b f = ap (λ (c : Bool). pick c 1 0) (sym f ∙ brackets-first nd k h (sym e ∙ d))

    pub bracket-sibling : {r : ℕ} → r ≡ child_at nd (parent_at nd k) → r ≡ k → (sibling_at nd k ≡ none → ⊥) → 1 ≡ bracket_at nd k
    bracket-sibling e d f = bracket-first e d true (ap not (ne_eqb (sibling_at nd k) none f))

    pub bracket-none : {r : ℕ} → r ≡ child_at nd (parent_at nd k) → r ≡ k → sibling_at nd k ≡ none → 0 ≡ bracket_at nd k
    bracket-none e d f = bracket-first e d false (ap not (eq-eqb (sibling_at nd k) none f))

-- ---- the climb

-- node j is the next of the climb from node k, and `count` brackets are counted
pub record Climbing (nd : List ℕ) (k p j count : ℕ) : Type 0 where
  pub under : count + j ≤ k
  pub fuel : ℕ
  pub enough : j ≤ fuel
  pub counts : count + shut_below nd fuel j p ≡ shut_below nd k k p

pub climb-first : (nd : List ℕ) (k p : ℕ) → Climbing nd k p k 0
climb-first nd k p = record { under = omega arith; fuel = k; enough = omega arith; counts = omega arith }

module _ {nd : List ℕ} {k p j count : ℕ} (x : Climbing nd k p j count) where
  pub climb-met : j ≡ p → count ≡ shut_below nd k k p
  climb-met e = omega (arith, x.counts, shut-met nd x.fuel j p e)

  module _ (h : j ≡ p → ⊥) {b up : ℕ} (e : b ≡ bracket_at nd j) (u : up ≡ parent_at nd j) where
    pub climb-last : j ≤ up → count + b ≡ shut_below nd k k p
    climb-last l = omega (arith, x.counts, shut-last nd x.fuel j p h (omega arith))

    pub climb-more : up < j → Climbing nd k p up (count + b)
    climb-more l =
        let s = shut-more nd x.fuel j p h (omega arith) x.enough in
        let w = x.under in
        let v = x.enough in
        let o = bracket-least nd j in
        let z : shut_below nd (x.fuel - 1) up p ≡ shut_below nd (x.fuel - 1) (parent_at nd j) p = ap (λ (i : ℕ). shut_below nd (x.fuel - 1) i p) u in
        record { under = omega arith; fuel = x.fuel - 1; enough = omega arith; counts = omega (arith, x.counts) }

-- ---- the nodes

module _ (nd : List ℕ) where
  pub open-first : (k : ℕ) {r : ℕ} → k ≡ 0 → r ≡ bracket_at nd k → (r ≡ open_at nd k) × (r ≤ suc k)
  unfolding open_at
  open-first zero e h = (h, omega (arith, bracket-least nd 0))
  open-first (suc k) e h = absurd (omega arith)

  pub open_next : (k : ℕ) {before p ended left b : ℕ} → (k ≡ 0 → ⊥) → before ≤ k → (0 < k → before ≡ open_at nd (k - 1)) → p ≡ parent_at nd k
      → ended ≡ shut_below nd (k - 1) (k - 1) p → left ≡ before - ended → b ≡ bracket_at nd k → (left + b ≡ open_at nd k) × (left + b ≤ suc k)
  unfolding open_at
  open_next zero n l h u e d c = absurd (n refl)
  open_next (suc k) {before} {p} {ended} {left} {b} n l h u e d c =
      let z : suc k - 1 ≡ k = omega arith in
      let x : before ≡ open_at nd k = h (omega arith) ∙ ap (open_at nd) z in
      let y : ended ≡ shut_below nd k k (parent_at nd (suc k)) = e ∙ ap₂ (λ (i q : ℕ). shut_below nd i i q) z u in
      (ap₂ (λ (i q : ℕ). i + q) (d ∙ ap₂ (λ (i q : ℕ). i - q) x y) c, omega (arith, bracket-least nd (suc k)))

-- of k nodes: `here` are open at the last, and `deepest` at the one with the most
pub record Counting (nd : List ℕ) (k here deepest : ℕ) : Type 0 where
  pub few : here ≤ k
  pub open_is : 0 < k → here ≡ open_at nd (k - 1)
  pub most-is : deepest ≡ most_open nd k

pub count-first : (nd : List ℕ) → Counting nd 0 0 0
unfolding most_open
count-first nd = record { few = omega arith; open_is = λ l. absurd (omega arith); most-is = refl }

module _ {nd : List ℕ} {k here deepest : ℕ} (x : Counting nd k here deepest) where
  pub count_next : {r d : ℕ} → (r ≡ open_at nd k) × (r ≤ suc k) → d ≡ max deepest r → Counting nd (k + 1) r d
  unfolding most_open
  count_next h e =
      let z : suc k ≡ k + 1 = omega arith in
      let y : k ≡ k + 1 - 1 = omega arith in
      record { few = omega (arith, h.1); open_is = λ l. h.0 ∙ ap (open_at nd) y; most-is = e ∙ ap₂ max x.most-is h.0 ∙ ap (most_open nd) z }

  pub count-last : {n : ℕ} → k ≡ n → deepest ≡ most_open nd n
  count-last e = x.most-is ∙ ap (most_open nd) e
