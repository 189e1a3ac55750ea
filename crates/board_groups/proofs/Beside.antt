-- Being beside goes both ways; what on the board and beside say in numbers. Assumes nothing.
use Rattle.lists.proofs.Prelude.{ℕ, suc, ◌/◌, ◌%◌, ◌<◌, Bool, true, false, ◌&&◌, ◌||◌, ◌⊎◌, inl, inr, ◌≡◌, refl, ap₂, eqb, ltb, or_comm, eqb-true, eq-eqb, ltb-true, lt-ltb}
use Rattle.lists.proofs.Tests.{and_both, eqb-sym}
use Rattle.board_groups.specs.Board.{on_board, next_to, beside}

next-swap : (x y : ℕ) → next_to x y ≡ next_to y x
next-swap x y = or_comm (eqb x (suc y)) (eqb y (suc x))

pub beside-swap : (p q : ℕ) → beside p q ≡ beside q p
unfolding beside
beside-swap p q =
    ap₂ {A = Bool} {B = Bool} {C = Bool} (λ x y. x || y)
    (ap₂ {A = Bool} {B = Bool} {C = Bool} (λ x y. x && y) (eqb-sym (p / 52) (q / 52)) (next-swap (p % 52) (q % 52)))
    (ap₂ {A = Bool} {B = Bool} {C = Bool} (λ x y. x && y) (eqb-sym (p % 52) (q % 52)) (next-swap (p / 52) (q / 52)))

pub beside-sym : (p q : ℕ) → beside p q ≡ true → beside q p ≡ true
beside-sym p q h = rw beside-swap h

-- the place is on the board, in numbers
pub record On (w h p : ℕ) : Type 0 where
  pub column : p / 52 < w
  pub row : p % 52 < h
  pub place : p < 2704

pub board-on : (w h p : ℕ) → on_board w h p ≡ true → On w h p
unfolding on_board
board-on w h p e =
    let x = and_both (ltb (p / 52) w && ltb (p % 52) h) (ltb p 2704) e in
    let y = and_both (ltb (p / 52) w) (ltb (p % 52) h) x.0 in
    record { column = ltb-true (p / 52) w y.0; row = ltb-true (p % 52) h y.1; place = ltb-true p 2704 x.1 }

pub on-board : (w h p : ℕ) → On w h p → on_board w h p ≡ true
unfolding on_board
on-board w h p o = rw (lt-ltb (p / 52) w o.column, lt-ltb (p % 52) h o.row, lt-ltb p 2704 o.place)

-- a step within one column or within one row, in numbers
pub data Step (p q : ℕ) : Type 0 where
  up : p / 52 ≡ q / 52 → p % 52 ≡ suc (q % 52) → Step p q
  down : p / 52 ≡ q / 52 → q % 52 ≡ suc (p % 52) → Step p q
  left : p % 52 ≡ q % 52 → p / 52 ≡ suc (q / 52) → Step p q
  right : p % 52 ≡ q % 52 → q / 52 ≡ suc (p / 52) → Step p q

or_cases : (x y : Bool) → x || y ≡ true → (x ≡ true) ⊎ (y ≡ true)
or_cases true y h = inl refl
or_cases false y h = inr h

pub beside-step : (p q : ℕ) → beside p q ≡ true → Step p q
unfolding beside
beside-step p q e = whole (or_cases (eqb (p / 52) (q / 52) && next_to (p % 52) (q % 52)) (eqb (p % 52) (q % 52) && next_to (p / 52) (q / 52)) e)
  where
    whole : (eqb (p / 52) (q / 52) && next_to (p % 52) (q % 52) ≡ true) ⊎ (eqb (p % 52) (q % 52) && next_to (p / 52) (q / 52) ≡ true) → Step p q
    whole (inl x) =
        let b = and_both (eqb (p / 52) (q / 52)) (next_to (p % 52) (q % 52)) x in
        go (or_cases (eqb (p % 52) (suc (q % 52))) (eqb (q % 52) (suc (p % 52))) b.1)
      where
        go : (eqb (p % 52) (suc (q % 52)) ≡ true) ⊎ (eqb (q % 52) (suc (p % 52)) ≡ true) → Step p q
        go (inl y) = up (eqb-true (p / 52) (q / 52) (and_both (eqb (p / 52) (q / 52)) (next_to (p % 52) (q % 52)) x).0) (eqb-true (p % 52) (suc (q % 52)) y)
        go (inr y) = down (eqb-true (p / 52) (q / 52) (and_both (eqb (p / 52) (q / 52)) (next_to (p % 52) (q % 52)) x).0) (eqb-true (q % 52) (suc (p % 52)) y)
    whole (inr x) =
        let b = and_both (eqb (p % 52) (q % 52)) (next_to (p / 52) (q / 52)) x in
        go (or_cases (eqb (p / 52) (suc (q / 52))) (eqb (q / 52) (suc (p / 52))) b.1)
      where
        go : (eqb (p / 52) (suc (q / 52)) ≡ true) ⊎ (eqb (q / 52) (suc (p / 52)) ≡ true) → Step p q
        go (inl y) = left (eqb-true (p % 52) (q % 52) (and_both (eqb (p % 52) (q % 52)) (next_to (p / 52) (q / 52)) x).0) (eqb-true (p / 52) (suc (q / 52)) y)
        go (inr y) = right (eqb-true (p % 52) (q % 52) (and_both (eqb (p % 52) (q % 52)) (next_to (p / 52) (q / 52)) x).0) (eqb-true (q / 52) (suc (p / 52)) y)

or_right : (x : Bool) → x || true ≡ true
or_right true = refl
or_right false = refl

pub step-beside : (p q : ℕ) → Step p q → beside p q ≡ true
unfolding beside
step-beside p q (up e f) = rw (eq-eqb (p / 52) (q / 52) e, eq-eqb (p % 52) (suc (q % 52)) f)
step-beside p q (down e f) = rw (eq-eqb (p / 52) (q / 52) e, eq-eqb (q % 52) (suc (p % 52)) f, or_right (eqb (p % 52) (suc (q % 52))))
step-beside p q (left e f) =
    rw (eq-eqb (p % 52) (q % 52) e, eq-eqb (p / 52) (suc (q / 52)) f) (or_right (eqb (p / 52) (q / 52) && next_to (p % 52) (q % 52)))
step-beside p q (right e f) =
    rw (eq-eqb (p % 52) (q % 52) e, eq-eqb (q / 52) (suc (p / 52)) f, or_right (eqb (p / 52) (suc (q / 52))))
    (or_right (eqb (p / 52) (q / 52) && next_to (p % 52) (q % 52)))
