-- What a move, a number of stones and a set can be. Assumes nothing.
use Rattle.lists.proofs.Prelude.{ℕ, ◌-◌, ◌^◌, ◌≤◌, ◌≡◌, refl, Bool, true, false, ◌&&◌, List, [], ◌∷◌, eqb, leb, leb-true, pick}
use Rattle.lists.proofs.Pick.{pick-elim}
use Rattle.values.specs.Read.{read_value}
use Rattle.values.specs.Decimal.{decimal_of}
use Rattle.values.specs.declared.decimal.Number.{Number}
use Rattle.values.specs.declared.decimal.Number.TheVariants.{Bad, Plus, Minus}
use Rattle.values.proofs.Bounds.{Within, decimal-within}
use Rattle.go_points.specs.Area.{letter_of, move_to, move_of}
use Rattle.go.specs.Marks.{all_good, in_some, marks_of}
use Rattle.go.specs.Value.{move_under, one_by, unmarked, marked, areas_of, points_of}
use Rattle.go_points.specs.Handicap.{handicap_of}
use Rattle.go_points.specs.declared.Value.{Value}
use Rattle.go_points.specs.declared.Value.TheVariants.{Other, Invalid, Pass, Move, Handicap, Points}

-- `tt` is not a point under this rule
abbrev pub tt_gone : (rule x y : ℕ) → Bool
tt_gone rule x y = eqb rule 0 && (eqb x 19 && eqb y 19)

-- what a move can be under a rule
abbrev pub Moved : (rule : ℕ) → Value → Type 0
Moved rule Other = ⊥
Moved rule Invalid = Unit {0}
Moved rule Pass = Unit {0}
Moved rule (Move x y) = (x ≤ 51) × (y ≤ 51) × (tt_gone rule x y ≡ false)
Moved rule (Handicap n) = ⊥
Moved rule Points = ⊥

module _ (rule : ℕ) where
  point-moved : (x y : ℕ) → x ≤ 51 → y ≤ 51 → Moved rule (move_under rule (Move x y))
  unfolding move_under
  point-moved x y p q = pick-elim (Moved rule) (tt_gone rule x y) (λ e. tt) (λ e. (p, q, e))

  move-moved : (l : List ℕ) → Moved rule (move_under rule (move_of l))
  unfolding move_of move_to move_under
  move-moved [] = tt
  move-moved (a ∷ []) = tt
  move-moved (a ∷ b ∷ []) = go (leb (letter_of a) 51) (leb (letter_of b) 51) refl refl
    where
      go : (p q : Bool) → leb (letter_of a) 51 ≡ p → leb (letter_of b) 51 ≡ q → Moved rule (move_under rule (pick (p && q) (Move (letter_of a) (letter_of b)) Invalid))
      go true true e f = point-moved (letter_of a) (letter_of b) (leb-true (letter_of a) 51 e) (leb-true (letter_of b) 51 f)
      go true false e f = tt
      go false q e f = tt
  move-moved (a ∷ b ∷ c ∷ r) = tt

abbrev pub Numbered : Value → Type 0
Numbered Other = ⊥
Numbered Invalid = Unit {0}
Numbered Pass = ⊥
Numbered (Move x y) = ⊥
Numbered (Handicap n) = (2 ≤ n) × (n ≤ 2 ^ 63 - 1)
Numbered Points = ⊥

handicap-numbered : (r : Number) → Within (2 ^ 63 - 1) r → Numbered (handicap_of r)
unfolding handicap_of
handicap-numbered Bad h = tt
handicap-numbered (Plus n) h = pick-elim Numbered (leb 2 n) (λ e. (leb-true 2 n e, h)) (λ e. tt)
handicap-numbered (Minus n) h = tt

one_holds : (P : Value → Type 0) (f : List ℕ → Value) → P Invalid → ((v : List ℕ) → P (f v)) → (vs : List (List ℕ)) → P (one_by f vs)
one_holds P f p q [] = p
one_holds P f p q (v ∷ []) = q v
one_holds P f p q (v ∷ w ∷ ws) = p

abbrev pub moves : (rule : ℕ) → List (List ℕ) → Value
moves rule vs = one_by (λ v. move_under rule (move_of (read_value v))) vs

abbrev pub numbers : List (List ℕ) → Value
numbers vs = one_by (λ v. handicap_of (decimal_of (2 ^ 63 - 1) (read_value v))) vs

pub moves-moved : (rule : ℕ) (vs : List (List ℕ)) → Moved rule (moves rule vs)
moves-moved rule vs = one_holds (Moved rule) (λ v. move_under rule (move_of (read_value v))) tt (λ v. move-moved rule (read_value v)) vs

pub numbers-numbered : (vs : List (List ℕ)) → Numbered (numbers vs)
numbers-numbered vs =
    one_holds Numbered (λ v. handicap_of (decimal_of (2 ^ 63 - 1) (read_value v))) tt
    (λ v. handicap-numbered (decimal_of (2 ^ 63 - 1) (read_value v)) (decimal-within (2 ^ 63 - 1) (read_value v))) vs

module _ (vs : List (List ℕ)) where
  pub points-valid : all_good (areas_of vs) ≡ true → points_of vs ≡ marked (marks_of (in_some (areas_of vs)))
  unfolding points_of
  points-valid e = rw e

  pub points-invalid : all_good (areas_of vs) ≡ false → points_of vs ≡ unmarked Invalid
  unfolding points_of
  points-invalid e = rw e
