-- What a move plays, by its value. Assumes nothing.
use Rattle.lists.proofs.Prelude.{ℕ, ◌+◌, ◌*◌, ◌<◌, ◌≤◌, Bool, true, false, true≢false, ◌≡◌, refl, sym, ap, ◌∙◌, List, [], ◌∷◌, pick, eqb, eqb-true, lt-ltb, le-ltb, arith}
use Rattle.lists.proofs.Tests.{and_both}
use types.Run.{OneOf, miss}
use denote.Enum.Declared.{tag_of}
use Rattle.go_points.specs.contracts.Value as value-type
use Rattle.go_points.specs.declared.Value.{Value}
use Rattle.go_points.specs.declared.Value.TheVariants.{Other, Invalid, Pass, Move, Handicap, Points}
use Rattle.go_shape.specs.Shape.{shape_of}
use Rattle.go_shape.specs.declared.Shape.TheVariants.{OneMove}
use Rattle.go.specs.Value.{value_by, go_value}
use Rattle.parts_props.specs.Props.{Property}
use Rattle.board_play.specs.Play.{Player}
use Rattle.board_play.specs.Steps.{plays}
use Rattle.lists.specs.Same.{same}
use Rattle.board_node.specs.Node.{setup_colour, move_colour, sets_from, tt_pass, move_acts, setups_of, moves_of}

module _ (w h c x y : ℕ) where
  pub move-pass : tt_pass w h x y ≡ true → [] ≡ move_acts w h c (Move x y)
  unfolding move_acts
  move-pass e = rw e

  pub move-plays : tt_pass w h x y ≡ false → plays c (52 * x + y) ∷ [] ≡ move_acts w h c (Move x y)
  unfolding move_acts
  move-plays e = rw e

-- what is no move plays nothing
pub move-none : (w h c : ℕ) (v : Value) → OneOf (0 ∷ 1 ∷ 2 ∷ 4 ∷ 5 ∷ []) (tag_of value-type.the_type v) → [] ≡ move_acts w h c v
unfolding move_acts
move-none w h c Other z = refl
move-none w h c Invalid z = refl
move-none w h c Pass z = refl
move-none w h c (Move x y) z = absurd (miss (0 ∷ 1 ∷ 2 ∷ 4 ∷ 5 ∷ []) 3 tt z)
move-none w h c (Handicap k) z = refl
move-none w h c Points z = refl

module _ (w h : ℕ) (p : Property) where
  pub setups-none : 2 < setup_colour p.name → [] ≡ setups_of p
  unfolding setups_of
  setups-none l = rw (le-ltb (setup_colour p.name) 3 (omega arith))

  pub setups-are : {c : ℕ} → c ≡ setup_colour p.name → c ≤ 2 → {marks : List Bool} → marks ≡ (go_value 0 p.name p.raws).marks → sets_from c 0 marks ≡ setups_of p
  unfolding setups_of
  setups-are e l f = let k : setup_colour p.name < 3 = omega arith in rw (lt-ltb (setup_colour p.name) 3 k, e, f)

  pub moves-none : move_colour p.name < 1 → [] ≡ moves_of w h p
  unfolding moves_of
  moves-none l = rw (le-ltb 0 (move_colour p.name) (omega arith))

  pub moves-are : {c : ℕ} → c ≡ move_colour p.name → 1 ≤ c → {v : Value} → v ≡ (go_value 2 p.name p.raws).value → move_acts w h c v ≡ moves_of w h p
  unfolding moves_of
  moves-are e l f = let k : 0 < move_colour p.name = omega arith in rw (lt-ltb 0 (move_colour p.name) k, e, f)

pub one-letter : (id : List ℕ) (a : ℕ) → same id (a ∷ []) ≡ true → id ≡ a ∷ []
one-letter [] a e = absurd (true≢false (sym e))
one-letter (x ∷ []) a e = ap (λ (z : ℕ). z ∷ []) (eqb-true x a (and_both (eqb x a) true e).0)
one-letter (x ∷ y ∷ r) a e = absurd (true≢false (sym (and_both (eqb x a) false e).1))

-- the Go value of B and of W is that of one move
pub move-value : (id : List ℕ) (vs : List (List ℕ)) → 1 ≤ move_colour id → (value_by 2 OneMove vs).value ≡ (go_value 2 id vs).value
unfolding move_colour go_value shape_of
move-value id vs l = go (same id (0x42 ∷ [])) (same id (0x57 ∷ [])) refl refl l
  where
    go : (s t : Bool) → same id (0x42 ∷ []) ≡ s → same id (0x57 ∷ []) ≡ t → 1 ≤ pick s 1 (pick t 2 0) → (value_by 2 OneMove vs).value ≡ (go_value 2 id vs).value
    go true t e f k = let n : id ≡ 0x42 ∷ [] = one-letter id 0x42 e in rw n
    go false true e f k = let n : id ≡ 0x57 ∷ [] = one-letter id 0x57 f in rw n
    go false false e f k = absurd (omega arith)

module _ (w h : ℕ) (p : Property) where
  pub moves-by : {c : ℕ} → c ≡ move_colour p.name → 1 ≤ c → {v : Value} → v ≡ (value_by 2 OneMove p.raws).value → move_acts w h c v ≡ moves_of w h p
  moves-by e l f = moves-are w h p e l (f ∙ move-value p.name p.raws (omega arith))

move-small : (id : List ℕ) → move_colour id < 3
unfolding move_colour
move-small id = go (same id (0x42 ∷ [])) (same id (0x57 ∷ []))
  where
    go : (s t : Bool) → pick s 1 (pick t 2 0) < 3
    go true t = omega arith
    go false true = omega arith
    go false false = omega arith

pub move-player : (id : List ℕ) {c : ℕ} → c ≡ move_colour id → 1 ≤ c → Player c
move-player id e l = record { most = omega (arith, move-small id); least = omega arith }
