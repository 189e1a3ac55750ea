-- One value of two small letters, the first before `t`, is a point under every rule. Assumes nothing.
use Rattle.lists.proofs.Prelude.{ℕ, ◌+◌, ◌-◌, ◌≤◌, ◌<◌, ◌≡◌, refl, sym, ap, ap₂, ◌∙◌, List, [], ◌∷◌, arith, length, get_or, ne_eqb, and-false}
use Rattle.values.specs.Read.{read_value}
use Rattle.parts.specs.Rows.{value_at, values_at}
use Rattle.go_points.specs.Area.{letter, move_of}
use Rattle.go_points.specs.declared.Value.TheVariants.{Move}
use Rattle.go_points.proofs.Letters.{move-back}
use Rattle.go.specs.Value.{move_under}
use Rattle.go.proofs.Choosing.{by_move}
use Rattle.serialize_values.proofs.Boxed.{letter-low}
use Rattle.season_tally.specs.Tally.{moved_by}
use Rattle.season_tally.specs.Locals.{AlwaysMoves}

small : (a : ℕ) → 0x61 ≤ a → a ≤ 0x7a → a ≡ letter (a - 0x61)
small a l m = let e : a ≡ 0x61 + (a - 0x61) = omega arith in e ∙ letter-low (a - 0x61) (omega arith)

-- two bytes
two : (v : List ℕ) → length v ≡ 2 → v ≡ get_or v 0 0 ∷ get_or v 1 0 ∷ []
two [] e = absurd (omega (arith, e))
two (a ∷ []) e = absurd (omega (arith, e))
two (a ∷ b ∷ []) e = refl
two (a ∷ b ∷ d ∷ v) e = absurd (omega (arith, e))

-- a point of the first columns is no pass
no-pass : (rule x y : ℕ) → x < 19 → Move x y ≡ move_under rule (Move x y)
unfolding move_under
no-pass rule x y l = rw (ne_eqb x 19 (λ e. omega (arith, e)), and-false)

pub always-moves : (text vl : List ℕ) (first count : ℕ) {v : List ℕ} → count ≡ 1 → v ≡ value_at text vl (first + 0) → length v ≡ 2
    → 0x61 ≤ get_or v 0 0 → get_or v 0 0 ≤ 0x73 → 0x61 ≤ get_or v 1 0 → get_or v 1 0 ≤ 0x7a → AlwaysMoves (values_at text vl first count)
always-moves text vl first count {v} h q n la ma lb mb rule mine =
    let x = get_or v 0 0 - 0x61 in
    let y = get_or v 1 0 - 0x61 in
    let w : v ≡ letter x ∷ letter y ∷ [] = two v n ∙ ap₂ (λ (i j : ℕ). i ∷ j ∷ []) (small (get_or v 0 0) la (omega arith)) (small (get_or v 1 0) lb mb) in
    let m : move_of (read_value v) ≡ Move x y = ap (λ (z : List ℕ). move_of (read_value z)) w ∙ move-back x y (omega arith) (omega arith) in
    sym (ap (moved_by mine) (by_move rule text vl first count h q refl (no-pass rule x y (omega arith) ∙ ap (move_under rule) (sym m))))
