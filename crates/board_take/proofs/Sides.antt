-- The four places beside a point are the ones that code visits. Assumes nothing.
use Rattle.lists.proofs.Prelude.{ℕ, suc, ◌+◌, ◌-◌, ◌/◌, ◌%◌, ◌<◌, ◌≤◌, true, ◌&&◌, ◌≡◌, ltb, leb, arith, ltb-true, leb-true, lt-ltb, le-leb}
use Rattle.lists.proofs.Tests.{and_both}
use Rattle.lists.proofs.Pick.{pick-elim}
use Rattle.board_groups.specs.Board.{on_board, beside}
use Rattle.board_groups.proofs.Beside.{On, on-board, Step, up, down, left, right, step-beside}
use Rattle.board_take.specs.LocalsSides.{right_of, left_of, down_of, up_of}

-- q is no place, or a point of the board beside p
pub record Side (w h p q : ℕ) : Type 0 where
  pub near : q < 2704 → beside p q ≡ true
  pub on : q < 2704 → on_board w h q ≡ true

nowhere : (w h p : ℕ) → Side w h p 2704
nowhere w h p = record { near = λ l. absurd (omega arith); on = λ l. absurd (omega arith) }

module _ (w h p : ℕ) (o : On w h p) where
  column : p / 52 < w
  column = o.column

  row : p % 52 < h
  row = o.row

  place : p < 2704
  place = o.place

  pub right_side : Side w h p (right_of w p)
  unfolding right_of
  right_side =
      pick-elim (Side w h p) (ltb (p / 52 + 1) w && ltb (p + 52) 2704)
      (λ e.
      let b = and_both (ltb (p / 52 + 1) w) (ltb (p + 52) 2704) e in
      let x : p / 52 + 1 < w = ltb-true (p / 52 + 1) w b.0 in
      let y : p + 52 < 2704 = ltb-true (p + 52) 2704 b.1 in
      let z = row in
      let k : p % 52 ≡ (p + 52) % 52 = omega arith in
      let l : (p + 52) / 52 ≡ suc (p / 52) = omega arith in
      record { near = λ _. step-beside p (p + 52) (right k l); on = λ _. on-board w h (p + 52) (record { column = omega arith; row = omega arith; place = y }) })
      (λ e. nowhere w h p)

  pub left-side : Side w h p (left_of p)
  unfolding left_of
  left-side =
      pick-elim (Side w h p) (leb 52 p)
      (λ e.
      let x : 52 ≤ p = leb-true 52 p e in
      let z = row in
      let y = column in
      let u = place in
      let k : p % 52 ≡ (p - 52) % 52 = omega arith in
      let l : p / 52 ≡ suc ((p - 52) / 52) = omega arith in
      record { near = λ _. step-beside p (p - 52) (left k l); on = λ _. on-board w h (p - 52) (record { column = omega arith; row = omega arith; place = omega arith }) })
      (λ e. nowhere w h p)

  pub down-side : Side w h p (down_of h p)
  unfolding down_of
  down-side =
      pick-elim (Side w h p) (ltb (p % 52 + 1) h && ltb (p % 52 + 1) 52)
      (λ e.
      let b = and_both (ltb (p % 52 + 1) h) (ltb (p % 52 + 1) 52) e in
      let x : p % 52 + 1 < h = ltb-true (p % 52 + 1) h b.0 in
      let y : p % 52 + 1 < 52 = ltb-true (p % 52 + 1) 52 b.1 in
      let z = column in
      let u = place in
      let k : p / 52 ≡ (p + 1) / 52 = omega arith in
      let l : (p + 1) % 52 ≡ suc (p % 52) = omega arith in
      record { near = λ _. step-beside p (p + 1) (down k l); on = λ _. on-board w h (p + 1) (record { column = omega arith; row = omega arith; place = omega arith }) })
      (λ e. nowhere w h p)

  pub up-side : Side w h p (up_of p)
  unfolding up_of
  up-side =
      pick-elim (Side w h p) (ltb 0 (p % 52))
      (λ e.
      let x : 0 < p % 52 = ltb-true 0 (p % 52) e in
      let z = column in
      let y = row in
      let u = place in
      let k : p / 52 ≡ (p - 1) / 52 = omega arith in
      let l : p % 52 ≡ suc ((p - 1) % 52) = omega arith in
      record { near = λ _. step-beside p (p - 1) (up k l); on = λ _. on-board w h (p - 1) (record { column = omega arith; row = omega arith; place = omega arith }) })
      (λ e. nowhere w h p)

-- q is one of the four
pub data Four (w h p q : ℕ) : Type 0 where
  is_right : q ≡ right_of w p → Four w h p q
  is-left : q ≡ left_of p → Four w h p q
  is_down : q ≡ down_of h p → Four w h p q
  is_up : q ≡ up_of p → Four w h p q

pub four : (w h p q : ℕ) → On w h q → Step p q → Four w h p q
unfolding right_of left_of down_of up_of
four w h p q o (right e f) =
    let x = o.column in
    let y = o.place in
    let s : p / 52 + 1 < w = omega arith in
    let t : p + 52 < 2704 = omega arith in
    let k : q ≡ p + 52 = omega arith in
    is_right (rw (lt-ltb (p / 52 + 1) w s, lt-ltb (p + 52) 2704 t) k)
four w h p q o (left e f) =
    let s : 52 ≤ p = omega arith in
    let k : q ≡ p - 52 = omega arith in
    is-left (rw (le-leb 52 p s) k)
four w h p q o (down e f) =
    let x = o.row in
    let s : p % 52 + 1 < h = omega arith in
    let t : p % 52 + 1 < 52 = omega arith in
    let k : q ≡ p + 1 = omega arith in
    is_down (rw (lt-ltb (p % 52 + 1) h s, lt-ltb (p % 52 + 1) 52 t) k)
four w h p q o (up e f) =
    let s : 0 < p % 52 = omega arith in
    let k : q ≡ p - 1 = omega arith in
    is_up (rw (lt-ltb 0 (p % 52) s) k)
