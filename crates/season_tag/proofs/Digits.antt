-- The digits of a number: how many, and read back. Assumes nothing.
use Rattle.lists.proofs.Prelude.{ℕ, zero, suc, ◌+◌, ◌-◌, ◌*◌, ◌/◌, ◌%◌, ◌^◌, ◌<◌, ◌≤◌, ◌≡◌, refl, ap, ◌∙◌, Bool, true, false, length, ltb, ltb-true, ltb-false, lt-ltb, le-ltb, arith, pow-suc, div-add-mod', pick}
use Rattle.std.proofs.Common.{zero-lt-suc, mul_assoc, mul_comm, add-mul}
use native.Mathlib.Nat.{div-div-eq-div-mul, one-le-pow}
use Rattle.season_tag.specs.Hex.{hex_digit, hex_digits, hex_of, digit_back, hex_from}

digits-length : (k n : ℕ) → length (hex_digits k n) ≡ k
digits-length zero n = refl
digits-length (suc k) n = ap suc (digits-length k n)

pub hex-length : (n : ℕ) → length (hex_of n) ≡ 16
unfolding hex_of
hex-length n = digits-length 16 n

pub digit-back : (d : ℕ) → d < 16 → digit_back (hex_digit d) ≡ d
unfolding hex_digit digit_back
digit-back d h = go (ltb d 10) refl
  where
    go : (t : Bool) → ltb d 10 ≡ t → pick (ltb (pick t (48 + d) (87 + d)) 58) (pick t (48 + d) (87 + d) - 48) (pick t (48 + d) (87 + d) - 87) ≡ d
    go true e = let l = ltb-true d 10 e in let f : 48 + d < 58 = omega arith in rw (lt-ltb (48 + d) 58 f) (omega arith)
    go false e = let l = ltb-false d 10 e in let f : 58 ≤ 87 + d = omega arith in rw (le-ltb (87 + d) 58 f) (omega arith)

-- n below P * 16, by its digit at P and what is below
split : (n P : ℕ) → 0 < P → n % (P * 16) ≡ n / P % 16 * P + n % P
split n P h =
    let a = div-add-mod' n P in
    let b = div-add-mod' n (P * 16) in
    let q : n / P / 16 ≡ n / (P * 16) = div-div-eq-div-mul n P 16 in
    let e : n / P ≡ n / (P * 16) * 16 + n / P % 16 = omega arith in
    let f : n / P * P ≡ n / (P * 16) * 16 * P + n / P % 16 * P = ap (λ (v : ℕ). v * P) e ∙ add-mul (n / (P * 16) * 16) (n / P % 16) P in
    let g : n / (P * 16) * 16 * P ≡ n / (P * 16) * (P * 16) = mul_assoc (n / (P * 16)) 16 P ∙ ap (λ (v : ℕ). n / (P * 16) * v) (mul_comm 16 P) in
    omega arith

back : (k n m : ℕ) → hex_from m (hex_digits k n) ≡ m * 16 ^ k + n % 16 ^ k
back zero n m = omega arith
back (suc k) n m =
    let p : 0 < 16 ^ k = one-le-pow k 16 (zero-lt-suc 15) in
    let d : digit_back (hex_digit (n / 16 ^ k % 16)) ≡ n / 16 ^ k % 16 = digit-back (n / 16 ^ k % 16) (omega arith) in
    let s = split n (16 ^ k) p in
    let e : (m * 16 + n / 16 ^ k % 16) * 16 ^ k ≡ m * 16 * 16 ^ k + n / 16 ^ k % 16 * 16 ^ k = add-mul (m * 16) (n / 16 ^ k % 16) (16 ^ k) in
    let f : m * 16 * 16 ^ k ≡ m * (16 ^ k * 16) = mul_assoc m 16 (16 ^ k) ∙ ap (λ (v : ℕ). m * v) (mul_comm 16 (16 ^ k)) in
    let g : (m * 16 + n / 16 ^ k % 16) * 16 ^ k + n % 16 ^ k ≡ m * (16 ^ k * 16) + n % (16 ^ k * 16) = omega arith in
    ap (λ (v : ℕ). hex_from (m * 16 + v) (hex_digits k n)) d ∙ back k n (m * 16 + n / 16 ^ k % 16) ∙ g ∙ rw (pow-suc 16 k)

-- read from the highest digit on, the digits are the number
pub hex-back : (n : ℕ) → n < 2 ^ 64 → hex_from 0 (hex_of n) ≡ n
unfolding hex_of
hex-back n h = back 16 n 0 ∙ omega arith
