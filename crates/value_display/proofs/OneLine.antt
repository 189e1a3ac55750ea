-- The replacements of `SimpleText`, by the first bytes: CR LF, then LF CR, then single line breaks. Assumes nothing.
use Rattle.lists.proofs.Prelude.{ℕ, ◌≡◌, refl, ap, ◌∙◌, Bool, true, false, ◌&&◌, and-false, List, [], ◌∷◌, map, arith, eqb, get_or, drop, ne_eqb, eqb-true, pick}
use Rattle.lists.proofs.Pick.{pick-elim}
use Rattle.value_display.specs.Display.{pairs_spaced, spaced, one_line}
use Rattle.value_display.specs.LocalsShowing.{other_break}

module _ (a b : ℕ) where
  -- a byte that is not the first of a pair, or has not the second behind it
  replaced-first : (x : ℕ) (ys : List ℕ) → eqb x a ≡ false → pairs_spaced a b (x ∷ ys) ≡ x ∷ pairs_spaced a b ys
  unfolding pairs_spaced
  replaced-first x [] e = refl
  replaced-first x (y ∷ zs) e = rw e

  replaced-second : (x : ℕ) (ys : List ℕ) → eqb (get_or ys 0 0) b ≡ false → pairs_spaced a b (x ∷ ys) ≡ x ∷ pairs_spaced a b ys
  unfolding pairs_spaced
  replaced-second x [] e = refl
  replaced-second x (y ∷ zs) e = rw (e, and-false (eqb x a))

  -- what is replaced begins with a space or as before
  replaced-head : (k : ℕ) (ys : List ℕ) → eqb (get_or ys 0 0) k ≡ false → eqb 0x20 k ≡ false → eqb (get_or (pairs_spaced a b ys) 0 0) k ≡ false
  unfolding pairs_spaced
  replaced-head k [] e f = e
  replaced-head k (x ∷ []) e f = e
  replaced-head k (x ∷ y ∷ zs) e f = pick-elim (λ (z : List ℕ). eqb (get_or z 0 0) k ≡ false) (eqb x a && eqb y b) (λ h. f) (λ h. e)

pub line-empty : one_line [] ≡ []
unfolding one_line pairs_spaced
line-empty = refl

break-none : (b : ℕ) → other_break b ≡ 0 → (eqb b 0xa ≡ false) × (eqb b 0xd ≡ false)
unfolding other_break
break-none b e = go (eqb b 0xa) (eqb b 0xd) e
  where
    go : (p q : Bool) → pick {A = ℕ} p 0xd (pick q 0xa 0) ≡ 0 → (p ≡ false) × (q ≡ false)
    go true q e = absurd (omega arith)
    go false true e = absurd (omega arith)
    go false false e = (refl, refl)

pub break-line : (b : ℕ) → (other_break b ≡ 0 → ⊥) → (b ≡ 0xd → ⊥) → b ≡ 0xa
unfolding other_break
break-line b h n = go (eqb b 0xa) refl
  where
    go : (p : Bool) → eqb b 0xa ≡ p → b ≡ 0xa
    go true e = eqb-true b 0xa e
    go false e = absurd (h (rw (e, ne_eqb b 0xd n)))

pub line_other : (b : ℕ) (bs : List ℕ) → other_break b ≡ 0 → one_line (b ∷ bs) ≡ b ∷ one_line bs
unfolding one_line
line_other b bs e =
    let n = break-none b e in
    ap (λ z. map spaced (pairs_spaced 0xa 0xd z)) (replaced-first 0xd 0xa b bs n.1)
    ∙ ap (map spaced) (replaced-first 0xa 0xd b (pairs_spaced 0xd 0xa bs) n.0)
    ∙ rw (n.0, n.1)

pub line-cr-lf : (bs : List ℕ) → get_or bs 0 0 ≡ 0xa → one_line (0xd ∷ bs) ≡ 0x20 ∷ one_line (drop 1 bs)
unfolding one_line pairs_spaced
line-cr-lf [] e = absurd (omega arith)
line-cr-lf (c ∷ bs) e = ap (λ z. one_line (0xd ∷ z ∷ bs)) e ∙ ap (map spaced) (replaced-first 0xa 0xd 0x20 (pairs_spaced 0xd 0xa bs) refl)

pub line-cr : (bs : List ℕ) → (get_or bs 0 0 ≡ 0xa → ⊥) → one_line (0xd ∷ bs) ≡ 0x20 ∷ one_line bs
unfolding one_line
line-cr bs n =
    ap (λ z. map spaced (pairs_spaced 0xa 0xd z)) (replaced-second 0xd 0xa 0xd bs (ne_eqb (get_or bs 0 0) 0xa n))
    ∙ ap (map spaced) (replaced-first 0xa 0xd 0xd (pairs_spaced 0xd 0xa bs) refl)

pub line-lf : (bs : List ℕ) → (get_or bs 0 0 ≡ 0xd → ⊥) → one_line (0xa ∷ bs) ≡ 0x20 ∷ one_line bs
unfolding one_line
line-lf bs n =
    ap (λ z. map spaced (pairs_spaced 0xa 0xd z)) (replaced-first 0xd 0xa 0xa bs refl)
    ∙ ap (map spaced) (replaced-second 0xa 0xd 0xa (pairs_spaced 0xd 0xa bs) (replaced-head 0xd 0xa 0xd bs (ne_eqb (get_or bs 0 0) 0xd n) refl))

-- CR LF goes first, so that the LF before it stands alone
pub line-lf-cr-lf : (bs : List ℕ) → get_or bs 0 0 ≡ 0xd → get_or bs 1 0 ≡ 0xa → one_line (0xa ∷ bs) ≡ 0x20 ∷ one_line bs
unfolding one_line pairs_spaced
line-lf-cr-lf [] e f = absurd (omega arith)
line-lf-cr-lf (c ∷ []) e f = absurd (omega arith)
line-lf-cr-lf (c ∷ d ∷ bs) e f = rw (e, f)

pub line-lf-cr : (bs : List ℕ) → get_or bs 0 0 ≡ 0xd → (get_or bs 1 0 ≡ 0xa → ⊥) → one_line (0xa ∷ bs) ≡ 0x20 ∷ one_line (drop 1 bs)
unfolding one_line pairs_spaced
line-lf-cr [] e n = absurd (omega arith)
line-lf-cr (c ∷ bs) e n =
    ap (λ z. one_line (0xa ∷ z ∷ bs)) e ∙ ap (λ z. map spaced (pairs_spaced 0xa 0xd (0xa ∷ z))) (replaced-second 0xd 0xa 0xd bs (ne_eqb (get_or bs 0 0) 0xa n))
