-- `format_text`, item by item. Assumes nothing.
use Rattle.lists.proofs.Prelude.{ℕ, zero, suc, ◌≡◌, refl, sym, ap, ◌∙◌, Bool, true, false, List, [], ◌∷◌, ◌++◌, arith, eqb, get_or, drop, ne_eqb, pick}
use Rattle.value_display.specs.Display.{blank1, blank2, blank3, item, plain, removed, escaped, item_of, format_from, format_text}
use Rattle.value_display.specs.LocalsShowing.{other_break}

-- bytes that were taken are gone
format-taken : (n : ℕ) (bs : List ℕ) → format_from n bs ≡ format_text (drop n bs)
unfolding format_from
format-taken zero bs = refl
format-taken (suc n) [] = refl
format-taken (suc n) (b ∷ bs) = format-taken n bs

format-item : (b : ℕ) (bs : List ℕ) → format_text (b ∷ bs) ≡ (item_of b bs).shows ++ format_text (drop (item_of b bs).more bs)
unfolding format_from
format-item b bs = ap (λ (z : List ℕ). (item_of b bs).shows ++ z) (format-taken (item_of b bs).more bs)

pub format-empty : format_text [] ≡ []
unfolding format_from
format-empty = refl

module _ (b : ℕ) (bs : List ℕ) (h : b ≡ 0x5c → ⊥) where
  pub format-blank1 : blank1 b ≡ true → format_text (b ∷ bs) ≡ 0x20 ∷ format_text bs
  unfolding item_of plain
  format-blank1 e = format-item b bs ∙ rw (ne_eqb b 0x5c h, e)

  module _ (n1 : blank1 b ≡ false) where
    pub format-blank2 : blank2 b (get_or bs 0 0) ≡ true → format_text (b ∷ bs) ≡ 0x20 ∷ format_text (drop 1 bs)
    unfolding item_of plain
    format-blank2 e = format-item b bs ∙ rw (ne_eqb b 0x5c h, n1, e)

    module _ (n2 : blank2 b (get_or bs 0 0) ≡ false) where
      pub format-blank3 : blank3 b (get_or bs 0 0) (get_or bs 1 0) ≡ true → format_text (b ∷ bs) ≡ 0x20 ∷ format_text (drop 2 bs)
      unfolding item_of plain
      format-blank3 e = format-item b bs ∙ rw (ne_eqb b 0x5c h, n1, n2, e)

      pub format-plain : blank3 b (get_or bs 0 0) (get_or bs 1 0) ≡ false → format_text (b ∷ bs) ≡ b ∷ format_text bs
      unfolding item_of plain
      format-plain e = format-item b bs ∙ rw (ne_eqb b 0x5c h, n1, n2, e)

pub format-last : format_text (0x5c ∷ []) ≡ 0x5c ∷ []
unfolding format_from item_of escaped
format-last = refl

module _ (c : ℕ) (bs : List ℕ) {other : ℕ} (e : other ≡ other_break c) where
  -- a character behind a backslash
  pub format-shown : other ≡ 0 → format_text (0x5c ∷ c ∷ bs) ≡ c ∷ format_text bs
  unfolding item_of escaped other_break
  format-shown z = format-item 0x5c (c ∷ bs) ∙ go (eqb c 0xa) (eqb c 0xd) (sym e ∙ z)
    where
      go : (p q : Bool) → pick {A = ℕ} p 0xd (pick q 0xa 0) ≡ 0
          → ((pick p (removed 0xd bs) (pick q (removed 0xa bs) (item (c ∷ []) 1))).shows ++ format_text (drop (pick p (removed 0xd bs) (pick q (removed 0xa bs) (item (c ∷ []) 1))).more (c ∷ bs)))
          ≡ c ∷ format_text bs
      go true q w = absurd (omega arith)
      go false true w = absurd (omega arith)
      go false false w = refl

  -- a line break behind a backslash, alone or with the other
  pub format-removed : (other ≡ 0 → ⊥) → format_text (0x5c ∷ c ∷ bs) ≡ format_text (pick (eqb (get_or bs 0 0) other) (drop 1 bs) bs)
  unfolding item_of escaped removed other_break
  format-removed n = format-item 0x5c (c ∷ bs) ∙ go (eqb c 0xa) (eqb c 0xd) e
    where
      gone : (t : Bool) → ((pick t (item [] 2) (item [] 1)).shows ++ format_text (drop (pick t (item [] 2) (item [] 1)).more (c ∷ bs))) ≡ format_text (pick t (drop 1 bs) bs)
      gone true = refl
      gone false = refl

      go : (p q : Bool) → other ≡ pick p 0xd (pick q 0xa 0)
          → ((pick p (removed 0xd bs) (pick q (removed 0xa bs) (item (c ∷ []) 1))).shows ++ format_text (drop (pick p (removed 0xd bs) (pick q (removed 0xa bs) (item (c ∷ []) 1))).more (c ∷ bs)))
          ≡ format_text (pick (eqb (get_or bs 0 0) other) (drop 1 bs) bs)
      go true q w = rw w (gone (eqb (get_or bs 0 0) 0xd))
      go false true w = rw w (gone (eqb (get_or bs 0 0) 0xa))
      go false false w = absurd (n w)
