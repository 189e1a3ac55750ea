-- One group more of a number that is spelled, and how many there are. Assumes nothing.
use Rattle.lists.proofs.Prelude.{ℕ, zero, suc, ◌+◌, ◌-◌, ◌/◌, ◌%◌, ◌≤◌, ◌<◌, ◌≡◌, refl, sym, ap, ◌∙◌, Bool, true, false, [], ◌∷◌, arith, length, ltb, lt-ltb, le-ltb, pick}
use Rattle.feed_numerals.specs.Numeral.{groups_of, spelled}

pub groups-last : (g n : ℕ) → 0 < g → n < 0x80 → n ∷ [] ≡ groups_of g n
unfolding groups_of
groups-last zero n k h = absurd (omega arith)
groups-last (suc g) n k h = sym (rw (lt-ltb n 0x80 h) refl)

pub groups-more : (g n : ℕ) → 0 < g → 0x80 ≤ n → (0x80 + n % 0x80) ∷ groups_of (g - 1) (n / 0x80) ≡ groups_of g n
unfolding groups_of
groups-more zero n k h = absurd (omega arith)
groups-more (suc g) n k h =
    let e : suc g - 1 ≡ g = omega arith in
    ap (λ (m : ℕ). (0x80 + n % 0x80) ∷ groups_of m (n / 0x80)) e ∙ sym (rw (le-ltb n 0x80 h) refl)

pub groups_none : (g n : ℕ) → g ≡ 0 → groups_of g n ≡ []
unfolding groups_of
groups_none g n e = ap (λ (m : ℕ). groups_of m n) e

-- how many there are
size-last : (g n : ℕ) → n < 0x80 → length (groups_of (suc g) n) ≡ 1
size-last g n h = sym (ap length (groups-last (suc g) n (omega arith) h))

size-more : (g n : ℕ) → 0x80 ≤ n → length (groups_of (suc g) n) ≡ suc (length (groups_of g (n / 0x80)))
size-more g n h =
    let e : suc g - 1 ≡ g = omega arith in
    sym (ap length (groups-more (suc g) n (omega arith) h)) ∙ ap (λ (m : ℕ). suc (length (groups_of m (n / 0x80)))) e

size_none : (n : ℕ) → length (groups_of 0 n) ≡ 0
size_none n = ap length (groups_none 0 n refl)

groups-few : (g n : ℕ) → length (groups_of g n) ≤ g
unfolding groups_of
groups-few zero n = omega arith
groups-few (suc g) n = go (ltb n 0x80) (groups-few g (n / 0x80))
  where
    go : (b : Bool) → length (groups_of g (n / 0x80)) ≤ g → length (pick b (n ∷ []) ((0x80 + n % 0x80) ∷ groups_of g (n / 0x80))) ≤ suc g
    go true h = omega arith
    go false h = omega (arith, h)

pub spelled-few : (n : ℕ) → length (spelled n) ≤ 4
unfolding spelled
spelled-few n = groups-few 4 n

size-one : (n : ℕ) → length (groups_of 1 n) ≡ 1
unfolding groups_of
size-one n = go (ltb n 0x80)
  where
    go : (b : Bool) → length (pick b (n ∷ []) ((0x80 + n % 0x80) ∷ [])) ≡ 1
    go true = refl
    go false = refl

module _ (n : ℕ) where
  pub size-1 : n < 0x80 → 1 ≡ length (spelled n)
  unfolding spelled
  size-1 h = sym (size-last 3 n h)

  pub size-2 : 0x80 ≤ n → n < 0x4000 → 2 ≡ length (spelled n)
  unfolding spelled
  size-2 h l = let a : n / 0x80 < 0x80 = omega arith in omega (arith, size-more 3 n h, size-last 2 (n / 0x80) a)

  pub size-3 : 0x4000 ≤ n → n < 0x200000 → 3 ≡ length (spelled n)
  unfolding spelled
  size-3 h l =
      let a : 0x80 ≤ n / 0x80 = omega arith in
      let b : n / 0x80 / 0x80 < 0x80 = omega arith in
      omega (arith, size-more 3 n (omega arith), size-more 2 (n / 0x80) a, size-last 1 (n / 0x80 / 0x80) b)

  pub size-4 : 0x200000 ≤ n → 4 ≡ length (spelled n)
  unfolding spelled
  size-4 h =
      let a : 0x80 ≤ n / 0x80 = omega arith in
      let b : 0x80 ≤ n / 0x80 / 0x80 = omega arith in
      let c = size-more 3 n (omega arith) in
      let d = size-more 2 (n / 0x80) a in
      let e = size-more 1 (n / 0x80 / 0x80) b in
      omega (arith, c, d, e, size-one (n / 0x80 / 0x80 / 0x80))

pub spelled-groups : (n : ℕ) → groups_of 4 n ≡ spelled n
unfolding spelled
spelled-groups n = refl
