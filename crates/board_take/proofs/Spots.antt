-- A point by its column and row, and the stones at its four sides. Assumes nothing.
use Rattle.lists.proofs.Prelude.{ℕ, ◌+◌, ◌-◌, ◌/◌, ◌%◌, ◌≤◌, ◌<◌, Bool, true, false, ◌&&◌, false≢true, true≢false, ◌≡◌, refl, sym, ◌∙◌, subst, List, ltb, leb, pick, arith, ltb-true, leb-true}
use Rattle.lists.proofs.Tests.{and_both}
use Rattle.board_groups.specs.Board.{on_board}
use Rattle.board_groups.specs.Groups.{Stone, TakesGroup}
use Rattle.board_groups.proofs.Beside.{On, board-on}
use Rattle.board_take.specs.LocalsSides.{right_of, left_of, down_of, up_of, colour_at, Spot}
use Rattle.board_take.proofs.Empties.{side-stone, stone-found}
use Rattle.board_take.proofs.Sides.{Side, right_side, left-side, down-side, up-side}
use Rattle.board_take.proofs.Taking.{takes-nothing}

-- the side `near` is q, the point of column x and row y, and c stands there
pub record Sided (w h : ℕ) (b : List ℕ) (c near q x y : ℕ) : Type 0 where
  pub is : near ≡ q
  pub stone : Stone w h b c q
  pub spot : Spot x y q

-- c stands at the place that a test picks, so the test is true
picked : (b : List ℕ) (c q : ℕ) (t : Bool) → colour_at b c (pick t q 2704) ≡ true → t ≡ true
unfolding colour_at
picked b c q true e = refl
picked b c q false e = absurd (false≢true e)

module _ (w h : ℕ) (b : List ℕ) (c p : ℕ) where
  sided : (near q : ℕ) → Side w h p near → near ≡ q → colour_at b c near ≡ true → Stone w h b c q
  sided near q s e t = subst (λ (z : ℕ). Stone w h b c z) e (side-stone w h b p c near s t)

  module _ (x y : ℕ) (on : on_board w h p ≡ true) (s : Spot x y p) where
    o : On w h p
    o = board-on w h p on

    pub right-sided : colour_at b c (right_of w p) ≡ true → Sided w h b c (right_of w p) (p + 52) (x + 1) y
    unfolding right_of
    right-sided e =
        let t = picked b c (p + 52) (ltb (p / 52 + 1) w && ltb (p + 52) 2704) e in
        let i : right_of w p ≡ p + 52 = rw t in
        let k = s.column in
        let l = s.row in
        record { is = i; stone = sided (right_of w p) (p + 52) (right_side w h p o) i e; spot = record { column = omega arith; row = omega arith } }

    pub left_far : colour_at b c (left_of p) ≡ true → (52 ≤ p) × (1 ≤ x)
    unfolding left_of
    left_far e =
        let l : 52 ≤ p = leb-true 52 p (picked b c (p - 52) (leb 52 p) e) in
        let k = s.column in
        (l, omega arith)

    pub left-sided : colour_at b c (left_of p) ≡ true → Sided w h b c (left_of p) (p - 52) (x - 1) y
    unfolding left_of
    left-sided e =
        let i : left_of p ≡ p - 52 = rw (picked b c (p - 52) (leb 52 p) e) in
        let f = (left_far e).0 in
        let k = s.column in
        let l = s.row in
        record { is = i; stone = sided (left_of p) (p - 52) (left-side w h p o) i e; spot = record { column = omega arith; row = omega arith } }

    pub down-sided : colour_at b c (down_of h p) ≡ true → Sided w h b c (down_of h p) (p + 1) x (y + 1)
    unfolding down_of
    down-sided e =
        let t = picked b c (p + 1) (ltb (p % 52 + 1) h && ltb (p % 52 + 1) 52) e in
        let i : down_of h p ≡ p + 1 = rw t in
        let m : p % 52 + 1 < 52 = ltb-true (p % 52 + 1) 52 (and_both (ltb (p % 52 + 1) h) (ltb (p % 52 + 1) 52) t).1 in
        let k = s.column in
        let l = s.row in
        record { is = i; stone = sided (down_of h p) (p + 1) (down-side w h p o) i e; spot = record { column = omega arith; row = omega arith } }

    pub up-far : colour_at b c (up_of p) ≡ true → (1 ≤ p) × (1 ≤ y)
    unfolding up_of
    up-far e =
        let m : 0 < p % 52 = ltb-true 0 (p % 52) (picked b c (p - 1) (ltb 0 (p % 52)) e) in
        let l = s.row in
        (omega arith, omega arith)

    pub up-sided : colour_at b c (up_of p) ≡ true → Sided w h b c (up_of p) (p - 1) x (y - 1)
    unfolding up_of
    up-sided e =
        let i : up_of p ≡ p - 1 = rw (picked b c (p - 1) (ltb 0 (p % 52)) e) in
        let f = (up-far e).1 in
        let k = s.column in
        let l = s.row in
        record { is = i; stone = sided (up_of p) (p - 1) (up-side w h p o) i e; spot = record { column = omega arith; row = omega arith } }

-- the group of a side, by that of its point
pub sided-takes : (w h c near q x y : ℕ) (b b' : List ℕ) (n : ℕ) → Sided w h b c near q x y → TakesGroup w h c q b b' n × (n ≤ 2704)
    → TakesGroup w h c near b b' n × (n ≤ 2704)
sided-takes w h c near q x y b b' n s t = subst (λ (z : ℕ). TakesGroup w h c z b b' n × (n ≤ 2704)) (sym s.is) t

-- nothing goes where c does not stand
pub unsided-takes : (w h c near : ℕ) (b : List ℕ) → colour_at b c near ≡ false → TakesGroup w h c near b b 0 × (0 ≤ 2704)
unsided-takes w h c near b e =
    (takes-nothing w h c near b (λ s. absurd (true≢false (sym (stone-found w h b near c near s) ∙ e))), omega arith)
