-- One group more of a number that is read. Assumes nothing.
use Rattle.lists.proofs.Prelude.{ℕ, zero, suc, ◌+◌, ◌-◌, ◌*◌, ◌≤◌, ◌<◌, ◌≡◌, refl, sym, ap, ap₂, ◌∙◌, Bool, true, false, not, ◌&&◌, List, [], ◌∷◌, arith, add-one, length, drop, get_or, drop-cons, drop_of_length-le, length-drop, leb, leb-true, leb-false, ltb, eqb, lt-ltb, le-ltb, ne_eqb, pick}
use Rattle.lists.proofs.Tests.{never}
use native.Mathlib.Nat.{mul-add, mul_assoc, mul-le-mul_left}
use Rattle.feed_numerals.specs.Numeral.{grouped, groups_from, numeral_at, numeral_limit}
use Rattle.std.specs.Prelude.{Option, Some, None}

-- a number read so far, the weight of what follows, and how many bytes it has had
abbrev pub weighted : (value weight size : ℕ) → Option (ℕ × ℕ) → Option (ℕ × ℕ)
weighted a w n (Some (v, m)) = Some (a + w * v, n + m)
weighted a w n None = None

weighted-first : (r : Option (ℕ × ℕ)) → r ≡ weighted 0 1 0 r
weighted-first (Some (v, m)) = let a : v ≡ 0 + 1 * v = omega arith in let b : m ≡ 0 + m = omega arith in ap₂ (λ (x : ℕ) (y : ℕ). Some (x, y)) a b
weighted-first None = refl

weighted-more : (a w n d : ℕ) (r : Option (ℕ × ℕ)) → weighted a w n (grouped d r) ≡ weighted (a + w * d) (w * 0x80) (n + 1) r
weighted-more a w n d (Some (v, m)) =
    let x : w * (d + 0x80 * v) ≡ w * d + w * (0x80 * v) = mul-add w d (0x80 * v) in
    let y : w * 0x80 * v ≡ w * (0x80 * v) = mul_assoc w 0x80 v in
    let e : a + w * (d + 0x80 * v) ≡ a + w * d + w * 0x80 * v = omega (arith, x, y) in
    let f : n + suc m ≡ n + 1 + m = omega arith in
    ap₂ (λ (x : ℕ) (y : ℕ). Some (x, y)) e f
weighted-more a w n d None = refl

abbrev shape : Option (ℕ × ℕ) → ℕ
shape (Some (v, m)) = 1
shape None = 0

abbrev bytes_of : Option (ℕ × ℕ) → ℕ
bytes_of (Some (v, m)) = m
bytes_of None = 0

-- so many groups suffice
abbrev pub power : ℕ → ℕ
power zero = 1
power (suc g) = 0x80 * power g

power_small : (n : ℕ) → n < 4 → power n ≤ 2097152
power_small zero h = omega arith
power_small (suc zero) h = omega arith
power_small (suc (suc zero)) h = omega arith
power_small (suc (suc (suc zero))) h = omega arith
power_small (suc (suc (suc (suc n)))) h = absurd (omega arith)

pub weight-small : (w n : ℕ) → w ≤ power n → n < 4 → w ≤ 2097152
weight-small w n h k = omega (arith, h, power_small n k)

-- the product of a weight and a group
pub product_small : (w d n : ℕ) → w ≤ power n → n < 4 → d ≤ 0x80 → w * d ≤ 268435456
product_small w d n h k l = let p = power_small n k in let x : w * d ≤ w * 0x80 = mul-le-mul_left w l in omega (arith, x, h, p)

pub weight-more : (w n : ℕ) → w ≤ power n → w * 0x80 ≤ power (n + 1)
weight-more w n h = let e : power (n + 1) ≡ 0x80 * power n = ap power (add-one n) in omega (arith, e, h)

pub value-more : (a w d : ℕ) → a < w → d < 0x80 → a + w * d < w * 0x80
value-more a w d h l =
    let s : suc d ≤ 0x80 = l in
    let x : w * suc d ≤ w * 0x80 = mul-le-mul_left w s in
    let y : w * (1 + d) ≡ w * 1 + w * d = mul-add w 1 d in
    let z : w * suc d ≡ w * (1 + d) = let o : suc d ≡ 1 + d = omega arith in ap (λ (n : ℕ). w * n) o in
    omega (arith, x, y, z, h)

pub value-below : (a w d n : ℕ) → a < w → w ≤ power n → n < 4 → d < 0x80 → a + w * d < numeral_limit
value-below a w d n h l k e = omega (arith, value-more a w d h e, weight-small w n l k)

-- at the loop's head: the whole is what was read, and what is left to read
module _ (s : List ℕ) (at value weight size place : ℕ) (inv : numeral_at s at ≡ weighted value weight size (groups_from (4 - size) (eqb size 0) (drop place s))) where
  short : (k : ℕ) → 4 - size ≡ suc k → length s ≤ place → numeral_at s at ≡ None
  unfolding groups_from
  short k e h = inv ∙ ap₂ (λ (g : ℕ) (bs : List ℕ). weighted value weight size (groups_from g (eqb size 0) bs)) e (drop_of_length-le s h)

  less : size < 4 → 4 - size ≡ suc (3 - size)
  less h = omega arith

  pub numeral-short : size < 4 → length s ≤ place → None ≡ numeral_at s at
  numeral-short k h = sym (short (3 - size) (less k) h)

  pub numeral-end : 4 ≤ size → None ≡ numeral_at s at
  unfolding groups_from
  numeral-end h = let e : 4 - size ≡ 0 = omega arith in sym (inv ∙ ap (λ (g : ℕ). weighted value weight size (groups_from g (eqb size 0) (drop place s))) e)

  -- by the byte there
  module _ (byte : ℕ) (own : byte ≡ get_or s place 0) where
    group : (k : ℕ) → 4 - size ≡ suc k → place < length s
        → numeral_at s at ≡ weighted value weight size
        (pick (ltb byte 0x80) (pick (not (eqb size 0) && eqb byte 0) None (Some (byte, 1))) (grouped (byte - 0x80) (groups_from k false (drop (suc place) s))))
    unfolding groups_from
    group k e h = inv ∙ ap₂ (λ (g : ℕ) (bs : List ℕ). weighted value weight size (groups_from g (eqb size 0) bs)) e (drop-cons s place 0 h ∙ ap (λ (z : ℕ). z ∷ drop (suc place) s) (sym own))

    pub numeral-long : size < 4 → place < length s → byte < 0x80 → not (eqb size 0) && eqb byte 0 ≡ true → None ≡ numeral_at s at
    numeral-long k h l z =
        sym
        (group (3 - size) (less k) h
        ∙ ap₂ (λ (x y : Bool). weighted value weight size (pick x (pick y None (Some (byte, 1))) (grouped (byte - 0x80) (groups_from (3 - size) false (drop (suc place) s)))))
        (lt-ltb byte 0x80 l) z)

    pub numeral-last : size < 4 → place < length s → byte < 0x80 → not (eqb size 0) && eqb byte 0 ≡ false → Some (value + weight * byte, size + 1) ≡ numeral_at s at
    numeral-last k h l z =
        sym
        (group (3 - size) (less k) h
        ∙ ap₂ (λ (x y : Bool). weighted value weight size (pick x (pick y None (Some (byte, 1))) (grouped (byte - 0x80) (groups_from (3 - size) false (drop (suc place) s)))))
        (lt-ltb byte 0x80 l) z)

    pub numeral-more : size < 4 → place < length s → 0x80 ≤ byte
        → numeral_at s at ≡ weighted (value + weight * (byte - 0x80)) (weight * 0x80) (size + 1) (groups_from (4 - (size + 1)) (eqb (size + 1) 0) (drop (place + 1) s))
    numeral-more k h l =
        let e : 3 - size ≡ 4 - (size + 1) = omega arith in
        let o : eqb (size + 1) 0 ≡ false = ne_eqb (size + 1) 0 (λ z. absurd (omega (arith, z))) in
        let p : suc place ≡ place + 1 = sym (add-one place) in
        group (3 - size) (less k) h
        ∙ ap
        (λ (x : Bool). weighted value weight size
        (pick x (pick (not (eqb size 0) && eqb byte 0) None (Some (byte, 1))) (grouped (byte - 0x80) (groups_from (3 - size) false (drop (suc place) s)))))
        (le-ltb byte 0x80 l)
        ∙ weighted-more value weight size (byte - 0x80) (groups_from (3 - size) false (drop (suc place) s))
        ∙ ap₂ (λ (g q : ℕ). weighted (value + weight * (byte - 0x80)) (weight * 0x80) (size + 1) (groups_from g false (drop q s))) e p
        ∙ ap (λ (x : Bool). weighted (value + weight * (byte - 0x80)) (weight * 0x80) (size + 1) (groups_from (4 - (size + 1)) x (drop (place + 1) s))) (sym o)

-- before the first group
pub numeral-first : (s : List ℕ) (at : ℕ) → numeral_at s at ≡ weighted 0 1 0 (groups_from 4 true (drop at s))
unfolding numeral_at
numeral-first s at = weighted-first (groups_from 4 true (drop at s))

-- a number lies within the bytes
groups-within : (g : ℕ) (only : Bool) (bs : List ℕ) (v m : ℕ) → groups_from g only bs ≡ Some (v, m) → m ≤ length bs
unfolding groups_from
groups-within zero only bs v m e = never (ap shape e)
groups-within (suc g) only [] v m e = never (ap shape e)
groups-within (suc g) only (b ∷ bs) v m e = go (ltb b 0x80) (not only && eqb b 0) (groups_from g false bs) (λ u n. groups-within g false bs u n) e
  where
    go : (x y : Bool) (r : Option (ℕ × ℕ)) → ((u n : ℕ) → r ≡ Some (u, n) → n ≤ length bs) → pick x (pick y None (Some (b, 1))) (grouped (b - 0x80) r) ≡ Some (v, m) → m ≤ suc (length bs)
    go true true r h k = never (ap shape k)
    go true false r h k = let q : 1 ≡ m = ap bytes_of k in omega (arith, q)
    go false y None h k = never (ap shape k)
    go false y (Some (u, n)) h k = let q : suc n ≡ m = ap bytes_of k in omega (arith, q, h u n refl)

pub numeral-within : (s : List ℕ) (at v m : ℕ) → numeral_at s at ≡ Some (v, m) → at + m ≤ length s
unfolding numeral_at groups_from
numeral-within s at v m e = go (leb (length s) at) refl
  where
    go : (b : Bool) → leb (length s) at ≡ b → at + m ≤ length s
    go true l = never (ap shape (sym (ap (groups_from 4 true) (drop_of_length-le s (leb-true (length s) at l))) ∙ e))
    go false l = let x = groups-within 4 true (drop at s) v m e in omega (arith, x, length-drop at s, leb-false (length s) at l)
