-- The depths of the nodes, by one pass forward. Assumes nothing.
use Rattle.lists.proofs.Prelude.{◌≡◌, refl, sym, ap, ◌∙◌, subst, subst⁻¹, List, ℕ, suc, ◌+◌, ◌-◌, ◌*◌, ◌≤◌, ◌<◌, arith, add-one, length, get_or, set, length-set, get_or-set_same, get_or-set_other}
use Rattle.lists.proofs.Tests.{same_or}
use Rattle.tables.specs.Columns.{node_stride, parent_at, depth_at}
use Rattle.tables.specs.Each.{tabulate}
use Rattle.tables.specs.LocalsLinks.{HasRows}
use Rattle.tables.specs.LocalsDepths.{LevelledTo, LevelsIs}
use Rattle.tables.specs.Rows.{depths}
use Rattle.tables.proofs.Depths.{depths-root, depths-child}
use Rattle.tables.proofs.Tabulate.{tabulate-length, tabulate-at}

-- the depths so far are put, and none is above the number of its node; `last` is that of the last
pub record Levelling (n : ℕ) (t₀ t : List ℕ) (k last : ℕ) : Type 0 where
  pub to : LevelledTo n t₀ t k
  pub low : (i : ℕ) → i < k → depth_at t i ≤ i
  pub before : 0 < k → last ≡ depth_at t (k - 1)

pub levels-none : (n : ℕ) (t : List ℕ) → Levelling n t t 0 0
levels-none n t =
    record {
      to = record { len = refl; level = λ i h. absurd (omega arith); kept = λ i o. refl };
      low = λ i h. absurd (omega arith);
      before = λ h. absurd (omega arith);
    }

module _ {n : ℕ} {t₀ t : List ℕ} {k last : ℕ} (p : Levelling n t₀ t k last) (hk : k < n) (r : n * node_stride ≤ length t₀) where
  abbrev ds : List ℕ
  ds = depths (tabulate (parent_at t₀) 0 n)

  is-parent : parent_at t₀ k ≡ parent_at t k
  is-parent = sym (p.to.kept (k * node_stride) (λ i h e. omega arith))

  told : get_or (tabulate (parent_at t₀) 0 n) k 0 ≡ parent_at t k
  told = let z : 0 + k ≡ k = omega arith in tabulate-at (parent_at t₀) 0 n k 0 hk ∙ ap (parent_at t₀) z ∙ is-parent

  inside : k < length (tabulate (parent_at t₀) 0 n)
  inside = omega (arith, tabulate-length (parent_at t₀) 0 n)

  -- the depth d put at node k
  put-level : (d : ℕ) → d ≡ get_or ds k 0 → d ≤ k → Levelling n t₀ (set t (k * node_stride + 5) d) (k + 1) d
  put-level d e l =
      let len = p.to.len in
      let same : depth_at (set t (k * node_stride + 5) d) k ≡ d = get_or-set_same t (k * node_stride + 5) d 0 (omega arith) in
      let other : (i : ℕ) → (i ≡ k → ⊥) → depth_at (set t (k * node_stride + 5) d) i ≡ depth_at t i =
      λ i z. get_or-set_other t (k * node_stride + 5) (i * node_stride + 5) d 0 (λ w. z (omega arith)) in
      record {
        to = record {
          len = length-set t (k * node_stride + 5) d ∙ len;
          level = λ i h. same_or i k (λ z. rw z (same ∙ e)) (λ z. other i z ∙ p.to.level i (omega arith));
          kept = λ i o. get_or-set_other t (k * node_stride + 5) i d 0 (o k (omega arith)) ∙ p.to.kept i (λ s h. o s (omega arith));
        };
        low = λ i h. same_or i k (λ z. rw z (omega (arith, same))) (λ z. omega (arith, other i z, p.low i (omega arith)));
        before = λ h. let s : k + 1 - 1 ≡ k = omega arith in sym (ap (depth_at (set t (k * node_stride + 5) d)) s ∙ same);
      }

  pub level-root : k ≤ parent_at t k → Levelling n t₀ (set t (k * node_stride + 5) 0) (k + 1) 0
  level-root h = put-level 0 (sym (depths-root (tabulate (parent_at t₀) 0 n) k inside (omega (arith, told)))) (omega arith)

  pub level-child : parent_at t k < k → Levelling n t₀ (set t (k * node_stride + 5) (depth_at t (parent_at t k) + 1)) (k + 1) (depth_at t (parent_at t k) + 1)
  level-child h =
      put-level (depth_at t (parent_at t k) + 1)
      (add-one (depth_at t (parent_at t k)) ∙ ap suc (p.to.level (parent_at t k) h ∙ ap (λ (z : ℕ). get_or ds z 0) (sym told))
      ∙ sym (depths-child (tabulate (parent_at t₀) 0 n) k inside (omega (arith, told))))
      (omega (arith, p.low (parent_at t k) h))

  -- the parent is the node before
  last-is : parent_at t k + 1 ≡ k → last ≡ depth_at t (parent_at t k)
  last-is e = let s : k - 1 ≡ parent_at t k = omega arith in p.before (omega arith) ∙ ap (depth_at t) s

  pub level-next : parent_at t k + 1 ≡ k → Levelling n t₀ (set t (k * node_stride + 5) (last + 1)) (k + 1) (last + 1)
  level-next e = subst⁻¹ (λ (d : ℕ). Levelling n t₀ (set t (k * node_stride + 5) (d + 1)) (k + 1) (d + 1)) (last-is e) (level-child (omega arith))

  pub next_low : parent_at t k + 1 ≡ k → last + 1 ≤ k
  next_low e = omega (arith, last-is e, p.low (parent_at t k) (omega arith))

  -- the number put goes into a cell
  pub level-low : parent_at t k < k → depth_at t (parent_at t k) + 1 ≤ k
  level-low h = omega (arith, p.low (parent_at t k) h)

pub levels-all : {n : ℕ} {t₀ t : List ℕ} {k last : ℕ} → Levelling n t₀ t k last → k ≤ n → n ≤ k → HasRows n t₀ → LevelsIs n t₀ t
levels-all {n} {t₀} {t} {k} {last} p a b g =
    let e : k ≡ n = omega arith in
    record { made = λ _. subst (λ (m : ℕ). LevelledTo n t₀ t m) e p.to; left = λ f. absurd (f g) }

pub levels-left : (n : ℕ) (t : List ℕ) → (HasRows n t → ⊥) → LevelsIs n t t
levels-left n t h = record { made = λ g. absurd (h g); left = λ _. refl }
