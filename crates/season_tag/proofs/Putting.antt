-- Digits put one by one: what is put so far and what is to come. Assumes nothing.
use Rattle.lists.proofs.Prelude.{ℕ, zero, suc, ◌*◌, ◌/◌, ◌%◌, ◌^◌, ◌<◌, ◌≡◌, ap, ◌∙◌, List, [], ◌∷◌, length, refl, arith, pow-suc}
use Rattle.store_bytes.specs.LocalsWrote.{Wrote}
use Rattle.store_bytes.proofs.Written.{wrote_none, wrote-more, wrote-length, wrote-is}
use Rattle.season_tag.specs.Hex.{hex_digit, hex_digits, hex_of}

module _ (n : ℕ) (out₀ : List ℕ) (at : ℕ) where
  -- k digits are to come
  pub record Putting (out : List ℕ) (next k : ℕ) : Type 0 where
    pub len : length out ≡ length out₀
    pub below : next < 2 ^ 64
    pub rest : (out2 : List ℕ) (s : ℕ) → Wrote (hex_digits k n) out next out2 s → Wrote (hex_of n) out₀ at out2 s

  pub putting-next : {out : List ℕ} {next k : ℕ} → Putting out next (suc k) → length out₀ < 2 ^ 64
      → {b : ℕ} → b ≡ hex_digit (n / 16 ^ k % 16) → {out1 : List ℕ} {r : ℕ} → Wrote (b ∷ []) out next out1 r → Putting out1 r k
  putting-next {out} {next} {k} p fits {b} e w =
      let l = p.len in
      record {
        len = wrote-length w ∙ l;
        below = let q = w.place in omega arith;
        rest = λ out2 s x. p.rest out2 s (wrote-more (omega arith) (wrote-is (ap (λ (v : ℕ). v ∷ []) e) w) x);
      }

pub putting-end : {n at : ℕ} {out₀ out : List ℕ} {next : ℕ} → Putting n out₀ at out next 0 → Wrote (hex_of n) out₀ at out next
putting-end {n} {at} {out₀} {out} {next} p = p.rest out next (wrote_none out next p.below)

pub putting-first : (n : ℕ) (out₀ : List ℕ) (at : ℕ) → at < 2 ^ 64 → Putting n out₀ at out₀ at 16
unfolding hex_of
putting-first n out₀ at h = record { len = refl; below = h; rest = λ out2 s w. w }

-- a shift by four bits is a digit less
pub pow-four : (k : ℕ) → 2 ^ (4 * k) ≡ 16 ^ k
pow-four zero = refl
pow-four (suc k) =
    let e : 4 * suc k ≡ suc (suc (suc (suc (4 * k)))) = omega arith in
    let a = pow-suc 2 (suc (suc (suc (4 * k)))) in
    let b = pow-suc 2 (suc (suc (4 * k))) in
    let c = pow-suc 2 (suc (4 * k)) in
    let d = pow-suc 2 (4 * k) in
    let f = pow-suc 16 k in
    let g = pow-four k in
    ap (λ (z : ℕ). 2 ^ z) e ∙ omega arith
