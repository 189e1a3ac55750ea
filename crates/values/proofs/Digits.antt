-- Digits, one byte of the read value at a time, over the bound `most`. Assumes nothing.
use Rattle.lists.proofs.Prelude.{ℕ, ◌+◌, ◌*◌, ◌≤◌, ◌<◌, ◌≡◌, refl, Bool, true, false, and-false, List, [], ◌∷◌, arith, leb, drop, lt-leb, le-leb, eq-eqb, ne_eqb, pick}
use Rattle.values.specs.Read.{read_value}
use Rattle.values.specs.Decimal.{signed, digit_of, digits_from, decimal_of}
use Rattle.values.specs.declared.decimal.Number.{Number}
use Rattle.values.specs.declared.decimal.Number.TheVariants.{Bad}
use Rattle.values.proofs.Steps.{Steps}
use Rattle.std.specs.Prelude.{Some, None}

pick_same : (b : Bool) (n : Number) → pick b n n ≡ n
pick_same true n = refl
pick_same false n = refl

-- once the digits have passed the bound, nothing after them brings the number back
pub digits-over : (any minus : Bool) (most acc : ℕ) (bs : List ℕ) → most < acc → digits_from any minus most acc bs ≡ Bad
unfolding digits_from
digits-over any minus most acc [] h = rw (lt-leb acc most h, and-false any)
digits-over any minus most acc (b ∷ bs) h =
    rw (digits-over true minus most (acc * 10 + digit_of b) bs (omega arith), pick_same (leb (digit_of b) 9) Bad)

-- a loop's head: the digits from `at` on lead from acc to the answer
pub record Head : Type 0 where
  pub any : Bool
  pub minus : Bool
  pub most : ℕ
  pub acc : ℕ
  pub s : List ℕ
  pub at : ℕ
  pub answer : Number
  pub inv : digits_from any minus most acc (read_value (drop at s)) ≡ answer

module _ (h : Head) where
  pub digits-end : Steps h.s h.at None → h.any ≡ true → h.acc ≤ h.most → signed h.minus h.acc ≡ h.answer
  unfolding digits_from
  digits-end st a l = rw (st, a, le-leb h.acc h.most l) at h.inv

  pub digits-none : Steps h.s h.at None → h.any ≡ false → Bad ≡ h.answer
  unfolding digits_from
  digits-none st a = rw (st, a) at h.inv

  module _ (b n d : ℕ) (st : Steps h.s h.at (Some (b, n))) (e : d ≡ digit_of b) where
    digits-turn : pick (leb d 9) (digits_from true h.minus h.most (h.acc * 10 + d) (read_value (drop n h.s))) Bad ≡ h.answer
    unfolding digits_from
    digits-turn = rw e (rw st.0 at h.inv)

    pub digits-bad : 9 < d → Bad ≡ h.answer
    digits-bad l = rw (lt-leb d 9 l) at digits-turn

    pub digits-large : h.most < h.acc * 10 + d → Bad ≡ h.answer
    digits-large l =
        rw (digits-over true h.minus h.most (h.acc * 10 + d) (read_value (drop n h.s)) l, pick_same (leb d 9) Bad) at digits-turn

    pub digits-on : d ≤ 9 → digits_from true h.minus h.most (h.acc * 10 + d) (read_value (drop n h.s)) ≡ h.answer
    digits-on l = rw (le-leb d 9 l) at digits-turn

module _ (most : ℕ) (s : List ℕ) where
  pub decimal-empty : Steps s 0 None → Bad ≡ decimal_of most (read_value s)
  unfolding decimal_of
  decimal-empty st = rw st

  module _ (b n : ℕ) (st : Steps s 0 (Some (b, n))) where
    pub decimal-plus : b ≡ 0x2b → digits_from false false most 0 (read_value (drop n s)) ≡ decimal_of most (read_value s)
    unfolding decimal_of
    decimal-plus e = rw (st.0, eq-eqb b 0x2b e)

    pub decimal-minus : (b ≡ 0x2b → ⊥) → b ≡ 0x2d → digits_from false true (most + 1) 0 (read_value (drop n s)) ≡ decimal_of most (read_value s)
    unfolding decimal_of
    decimal-minus x e = rw (st.0, ne_eqb b 0x2b x, eq-eqb b 0x2d e)

    pub decimal-plain : (b ≡ 0x2b → ⊥) → (b ≡ 0x2d → ⊥) → digits_from false false most 0 (read_value s) ≡ decimal_of most (read_value s)
    unfolding decimal_of
    decimal-plain x y = rw (st.0, ne_eqb b 0x2b x, ne_eqb b 0x2d y)
