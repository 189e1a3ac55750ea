-- The bytes of a short name or value. Assumes nothing.
use Rattle.lists.proofs.Prelude.{ℕ, suc, ◌+◌, ◌-◌, ◌/◌, ◌<◌, ◌≤◌, ◌≡◌, sym, ap, ap₂, ◌∙◌, List, [], ◌∷◌, length, get_or, take, drop, drop-cons, lt-ltb, arith}
use Rattle.tables.specs.Columns.{property_stride, name_from_at, name_to_at}
use Rattle.parts.specs.Rows.{cut}
use Rattle.parts_props.specs.Props.{identifier_at}

-- a cut of one byte, and of two
pub one-cut : (s : List ℕ) (from to : ℕ) → to - from ≡ 1 → from < length s → cut s from to ≡ get_or s from 0 ∷ []
one-cut s from to e h = ap (λ (n : ℕ). take n (drop from s)) e ∙ ap (take 1) (drop-cons s from 0 h)

pub two-cut : (s : List ℕ) (from to : ℕ) → to - from ≡ 2 → to ≤ length s → cut s from to ≡ get_or s from 0 ∷ get_or s (from + 1) 0 ∷ []
two-cut s from to e h =
    let k : suc from ≡ from + 1 = omega arith in
    ap (λ (n : ℕ). take n (drop from s)) e
    ∙ (ap (take 2) (drop-cons s from 0 (omega arith))
    ∙ (ap (λ (z : ℕ). get_or s from 0 ∷ take 1 (drop z s)) k
    ∙ ap (λ (z : List ℕ). get_or s from 0 ∷ take 1 z) (drop-cons s (from + 1) 0 (omega arith))))

-- the identifier of a row, where it has one byte, and two
module _ (text pr : List ℕ) (p : ℕ) {at end : ℕ} (d : at ≡ name_from_at pr p) (e : end ≡ name_to_at pr p) where
  pub name-one : end - at ≡ 1 → at < length text → p < length pr / property_stride → get_or text at 0 ∷ [] ≡ identifier_at text pr p
  unfolding identifier_at
  name-one one h l = rw (lt-ltb p (length pr / property_stride) l) (sym (ap₂ (cut text) (sym d) (sym e) ∙ one-cut text at end one h))

  pub name-two : end - at ≡ 2 → end ≤ length text → p < length pr / property_stride → get_or text at 0 ∷ get_or text (at + 1) 0 ∷ [] ≡ identifier_at text pr p
  unfolding identifier_at
  name-two two h l = rw (lt-ltb p (length pr / property_stride) l) (sym (ap₂ (cut text) (sym d) (sym e) ∙ two-cut text at end two h))
