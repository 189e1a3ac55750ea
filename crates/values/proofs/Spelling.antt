-- Digits before digits: a turn of the loop that spells. Assumes nothing.
use Rattle.lists.proofs.Prelude.{ℕ, zero, suc, ◌+◌, ◌-◌, ◌/◌, ◌%◌, ◌<◌, ◌≤◌, ◌≡◌, ◌∙◌, List, ◌∷◌, sub-one, not-suc-le-zero, arith, ltb, length, take, drop, set, length-drop, take_all, drop-cons, get_or-set_same, drop-set-lt, lt-length-set, pick}
use Rattle.values.specs.Decimal.{spell}

drop-set : (l : List ℕ) (k v : ℕ) → k < length l → drop k (set l k v) ≡ v ∷ drop (suc k) l
drop-set l k v h = rw (drop-cons (set l k v) k 0 (lt-length-set l k v h), get_or-set_same l k v 0 h, drop-set-lt (suc k) l k v (omega arith))

-- one digit more, in front
pub spell-turn : (i n : ℕ) (l : List ℕ) → 0 < i → i ≤ length l
    → spell i n (drop i l)
    ≡ pick (ltb n 10) (drop (i - 1) (set l (i - 1) (0x30 + n % 10))) (spell (i - 1) (n / 10) (drop (i - 1) (set l (i - 1) (0x30 + n % 10))))
unfolding spell
spell-turn zero n l p h = absurd (not-suc-le-zero p)
spell-turn (suc k) n l p h = rw (sub-one, drop-set l k (0x30 + n % 10))

pub spell-none : (i n : ℕ) (l : List ℕ) {x : List ℕ} → i ≡ 0 → spell i n (drop i l) ≡ x → drop i l ≡ x
unfolding spell
spell-none zero n l e h = h
spell-none (suc i) n l e h = absurd (omega arith)

-- the digits are all that stands behind the first of them
pub digits-part : (l : List ℕ) (from : ℕ) {x : List ℕ} → length l ≡ 20 → drop from l ≡ x → take (20 - from) (drop from l) ≡ x
digits-part l from e d = take_all (20 - from) (drop from l) (omega (arith, length-drop from l)) ∙ d
