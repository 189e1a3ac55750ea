-- What plain text is as a raw value: it reads as the text, it is closed, and at most twice as long. Assumes nothing.
use Rattle.lists.proofs.Prelude.{ℕ, ◌≤◌, ◌*◌, ◌≡◌, refl, ap, ◌∙◌, Bool, true, false, ◌||◌, List, [], ◌∷◌, ◌++◌, eqb, length, arith}
use Rattle.values.specs.Read.{read_from, read_value}
use Rattle.lexer.specs.Closed.{closed_from, closed}
use Rattle.value_escape.specs.Escape.{escaped_byte, escaped_text}

module _ (b : ℕ) (u : List ℕ) (e : eqb b 0x5c ≡ false) where
  plain-read : read_from false (b ∷ u) ≡ b ∷ read_from false u
  unfolding read_from
  plain-read = rw e refl

  plain_closed : eqb b 0x5d ≡ false → closed_from false (b ∷ u) ≡ closed_from false u
  plain_closed f = rw (e, f) refl

  plain_byte : eqb b 0x5d ≡ false → escaped_byte b ++ u ≡ b ∷ u
  plain_byte f = rw (e, f) refl

pub escape-read : (t : List ℕ) → read_value (escaped_text t) ≡ t
unfolding escaped_text read_from
escape-read [] = refl
escape-read (b ∷ t) = go (eqb b 0x5c) (eqb b 0x5d) refl refl (escape-read t)
  where
    go : (x y : Bool) → eqb b 0x5c ≡ x → eqb b 0x5d ≡ y → read_value (escaped_text t) ≡ t → read_from false (escaped_byte b ++ escaped_text t) ≡ b ∷ t
    go true y e f h = rw e (ap (λ (z : List ℕ). b ∷ z) h)
    go false true e f h = rw (e, f) (ap (λ (z : List ℕ). b ∷ z) h)
    go false false e f h = ap (read_from false) (plain_byte b (escaped_text t) e f) ∙ plain-read b (escaped_text t) e ∙ ap (λ (z : List ℕ). b ∷ z) h

pub escape-closed : (t : List ℕ) → closed (escaped_text t) ≡ true
unfolding escaped_text
escape-closed [] = refl
escape-closed (b ∷ t) = go (eqb b 0x5c) (eqb b 0x5d) refl refl (escape-closed t)
  where
    go : (x y : Bool) → eqb b 0x5c ≡ x → eqb b 0x5d ≡ y → closed (escaped_text t) ≡ true → closed_from false (escaped_byte b ++ escaped_text t) ≡ true
    go true y e f h = rw e h
    go false true e f h = rw (e, f) h
    go false false e f h = ap (closed_from false) (plain_byte b (escaped_text t) e f) ∙ plain_closed b (escaped_text t) e f ∙ h

pub escape-length : (t : List ℕ) → (length t ≤ length (escaped_text t)) × (length (escaped_text t) ≤ 2 * length t)
unfolding escaped_text
escape-length [] = (omega arith, omega arith)
escape-length (b ∷ t) = go (eqb b 0x5c || eqb b 0x5d) refl (escape-length t).0 (escape-length t).1
  where
    go : (x : Bool) → (eqb b 0x5c || eqb b 0x5d) ≡ x → length t ≤ length (escaped_text t) → length (escaped_text t) ≤ 2 * length t
        → (length (b ∷ t) ≤ length (escaped_byte b ++ escaped_text t)) × (length (escaped_byte b ++ escaped_text t) ≤ 2 * length (b ∷ t))
    go true e h k = rw e (omega arith, omega arith)
    go false e h k = rw e (omega arith, omega arith)
