-- Plain text byte by byte. Assumes nothing.
use Rattle.lists.proofs.Prelude.{ℕ, ◌+◌, ◌<◌, ◌≤◌, true, false, ◌||◌, eqb, ◌^◌, ◌≡◌, refl, sym, ap, ◌∙◌, List, [], ◌∷◌, ◌++◌, append_assoc, append-nil, arith, add-one, length, take, get_or, take-suc, take_all}
use Rattle.store_bytes.specs.LocalsWrote.{Wrote}
use Rattle.store_bytes.proofs.Written.{wrote_none, wrote-more, wrote-is}
use Rattle.value_escape.specs.Escape.{escaped_byte, escaped_text}

pub escaped-append : (xs ys : List ℕ) → escaped_text (xs ++ ys) ≡ escaped_text xs ++ escaped_text ys
unfolding escaped_text
escaped-append [] ys = refl
escaped-append (x ∷ xs) ys = ap (λ (z : List ℕ). escaped_byte x ++ z) (escaped-append xs ys) ∙ sym (append_assoc (escaped_byte x) (escaped_text xs) (escaped_text ys))

pub escaped-next : (t : List ℕ) (i : ℕ) → i < length t → escaped_text (take (i + 1) t) ≡ escaped_text (take i t) ++ escaped_byte (get_or t i 0)
unfolding escaped_text
escaped-next t i h =
    ap escaped_text (ap (λ (n : ℕ). take n t) (add-one i) ∙ take-suc t i 0 h)
    ∙ escaped-append (take i t) (get_or t i 0 ∷ [])
    ∙ ap (λ (z : List ℕ). escaped_text (take i t) ++ z) (append-nil (escaped_byte (get_or t i 0)))

-- a byte that wants a backslash, and one that wants none
pub escaped-mark : {b at m n : ℕ} {out out1 out2 : List ℕ} → length out < 2 ^ 64 → (eqb b 0x5c || eqb b 0x5d) ≡ true
    → Wrote (0x5c ∷ []) out at out1 m → Wrote (b ∷ []) out1 m out2 n → Wrote (escaped_byte b) out at out2 n
escaped-mark h t x y = wrote-is (rw t) (wrote-more h x y)

pub escaped-plain : {b at n : ℕ} {out out1 : List ℕ} → (eqb b 0x5c || eqb b 0x5d) ≡ false → Wrote (b ∷ []) out at out1 n → Wrote (escaped_byte b) out at out1 n
escaped-plain t x = wrote-is (rw t) x

module _ (t out : List ℕ) where
  pub escaped-first : length out < 2 ^ 64 → Wrote (escaped_text (take 0 t)) out 0 out 0
  unfolding escaped_text
  escaped-first h = wrote_none out 0 (omega arith)

  pub escaped-step : {out1 out2 : List ℕ} {i m n : ℕ} → length out < 2 ^ 64 → i < length t
      → Wrote (escaped_text (take i t)) out 0 out1 m → Wrote (escaped_byte (get_or t i 0)) out1 m out2 n → Wrote (escaped_text (take (i + 1) t)) out 0 out2 n
  escaped-step {i = i} h l x y = wrote-is (sym (escaped-next t i l)) (wrote-more h x y)

  pub escaped-last : {out1 : List ℕ} {i m : ℕ} → length t ≤ i → Wrote (escaped_text (take i t)) out 0 out1 m → Wrote (escaped_text t) out 0 out1 m
  escaped-last {i = i} l x = wrote-is (ap escaped_text (take_all i t l)) x
