-- The cursor over read values: what a step says of the read value from its place on. Assumes nothing.
use Rattle.lists.proofs.Prelude.{ℕ, suc, ◌+◌, ◌≤◌, ◌<◌, ◌≡◌, sym, ap, ◌∙◌, subst, true, false, List, [], ◌∷◌, add-one, add-two, arith, ltb, eqb, length, get_or, drop, drop_of_length-le, drop-cons, ltb-true, ltb-false, pick}
use Rattle.lists.proofs.Pick.{pick-elim}
use Rattle.values.specs.Read.{read_from, read_value, next_read}
use Rattle.std.specs.Prelude.{Option, Some, None}

-- a byte is the first of the read value from `at` on, and the next place is further on
abbrev pub Steps : List ℕ → ℕ → Option (ℕ × ℕ) → Type 0
Steps s at (Some (b, n)) = (read_value (drop at s) ≡ b ∷ read_value (drop n s)) × (at < n) × (n ≤ length s)
Steps s at None = read_value (drop at s) ≡ []

module _ (s : List ℕ) (at : ℕ) where
  read_past : length s ≤ at → Steps s at None
  unfolding read_from
  read_past h = rw (drop_of_length-le s h)

  module _ (h : at < length s) where
    read-escaped : eqb (get_or s at 0) 0x5c ≡ true → Steps s at (pick (ltb (at + 1) (length s)) (Some (get_or s (at + 1) 0, at + 2)) None)
    unfolding read_from
    read-escaped e =
        pick-elim (Steps s at) (ltb (at + 1) (length s))
        (λ m.
        let l = ltb-true (at + 1) (length s) m in
        let l2 : suc at < length s = omega arith in
        (rw (add-one, add-two, drop-cons s at 0 h, drop-cons s (suc at) 0 l2, e), omega arith, omega arith))
        (λ m.
        let l = ltb-false (at + 1) (length s) m in
        let l2 : length s ≤ suc at = omega arith in
        rw (drop-cons s at 0 h, e, drop_of_length-le s l2))

    read_plain : eqb (get_or s at 0) 0x5c ≡ false → Steps s at (Some (get_or s at 0, at + 1))
    unfolding read_from
    read_plain e = (rw (add-one, drop-cons s at 0 h, e), omega arith, omega arith)

  pub next-read-steps : Steps s at (next_read s at)
  unfolding next_read
  next-read-steps =
      pick-elim (Steps s at) (ltb at (length s))
      (λ l. let h = ltb-true at (length s) l in pick-elim (Steps s at) (eqb (get_or s at 0) 0x5c) (read-escaped h) (read_plain h))
      (λ l. read_past (ltb-false at (length s) l))

  -- what a call of `next_read` gave
  pub stepped : {r q : Option (ℕ × ℕ)} → r ≡ next_read s at → r ≡ q → Steps s at q
  stepped e f = subst (Steps s at) (sym e ∙ f) next-read-steps

-- a byte, and what is read behind it
pub read-cons : (s : List ℕ) {at b n : ℕ} {bs : List ℕ} → Steps s at (Some (b, n)) → read_value (drop n s) ≡ bs → read_value (drop at s) ≡ b ∷ bs
read-cons s {b = b} st e = st.0 ∙ ap (λ (z : List ℕ). b ∷ z) e
