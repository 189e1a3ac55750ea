-- Every stone before a place has a liberty, and what is seen at that place. Assumes nothing.
use Rattle.lists.proofs.Prelude.{ℕ, ◌+◌, ◌*◌, ◌%◌, min, ◌<◌, ◌≤◌, Bool, true, false, ◌||◌, ◌⊎◌, inl, inr, ⊎_elim, ◌≡◌, refl, sym, ◌∙◌, subst, List, ltb, eqb, leb, leb-true, ltb-true, ltb-false, eqb-true, arith}
use Rattle.lists.proofs.Tests.{and_both, same_or}
use Rattle.lists.proofs.Pick.{pick-elim}
use Rattle.board_groups.specs.Board.{at, on_board}
use Rattle.board_groups.specs.Groups.{Stone, self, more, Liberty, Settled}
use Rattle.board_groups.proofs.Beside.{On, board-on, on-board, beside-sym}
use Rattle.board_groups.proofs.Others.{liberty-shared}
use Rattle.board_take.specs.LocalsSides.{right_of, left_of, down_of, up_of, empty_at, held_at, Free}
use Rattle.board_take.specs.LocalsShort.{SettledTo}
use Rattle.board_take.proofs.Sides.{Side, right_side, left-side, down-side, up-side}
use Rattle.board_take.proofs.Empties.{side-free}
use Rattle.board_take.proofs.Taking.{free-lives}

-- the sides above and to the left are before p
up-less : (p q : ℕ) → q ≡ up_of p → q < 2704 → q < p
unfolding up_of
up-less p q e l =
    pick-elim (λ (z : ℕ). q ≡ z → q < p) (ltb 0 (p % 52)) (λ t f. let x = ltb-true 0 (p % 52) t in omega arith) (λ t f. absurd (omega arith)) e

left_less : (p q : ℕ) → q ≡ left_of p → q < 2704 → q < p
unfolding left_of
left_less p q e l =
    pick-elim (λ (z : ℕ). q ≡ z → q < p) (leb 52 p) (λ t f. let x = leb-true 52 p t in omega arith) (λ t f. absurd (omega arith)) e

module _ (w h : ℕ) (b : List ℕ) where
  either : (x y : Bool) → x || y ≡ true → (x ≡ true) ⊎ (y ≡ true)
  either true y e = inl refl
  either false y e = inr e

  pub settled-none : SettledTo w h b 0
  settled-none p l = absurd (omega arith)

  module _ (p : ℕ) (x : SettledTo w h b p) where
    -- one place more
    pub settled-next : ((c : ℕ) → (c ≡ 0 → ⊥) → Stone w h b c p → Liberty w h b c p) → SettledTo w h b (p + 1)
    settled-next f q l c z s =
        same_or q p
        (λ e. subst (λ (k : ℕ). Liberty w h b c k) (sym e) (f c z (subst (λ (k : ℕ). Stone w h b c k) e s)))
        (λ e. x q (omega arith) c z s)

    -- places that are not on the board
    pub settled-off : (n : ℕ) → ((q : ℕ) → p ≤ q → q < n → on_board w h q ≡ true → ⊥) → SettledTo w h b n
    settled-off n f q l c z s = go (ltb q p) refl
      where
        go : (v : Bool) → ltb q p ≡ v → Liberty w h b c q
        go true e = x q (ltb-true q p e) c z s
        go false e = absurd (f q (ltb-false q p e) l s.on)

    pub settled-empty : at b p ≡ 0 → SettledTo w h b (p + 1)
    settled-empty e = settled-next (λ c z s. absurd (z (sym s.is ∙ e)))

    pub settled-free : Free w h b p → SettledTo w h b (p + 1)
    settled-free f = settled-next (λ c z s. free-lives w h c p b f s)

    pub settled-side : (q : ℕ) → Side w h p q → empty_at b q ≡ true → SettledTo w h b (p + 1)
    settled-side q s e = settled-free (side-free w h b p q s e)

    -- a side before p that is empty or of the colour of p
    pub settled-held : (q : ℕ) → (q < 2704 → q < p) → Side w h p q → held_at b (at b p) q ≡ true → (at b p ≡ 0 → ⊥) → SettledTo w h b (p + 1)
    unfolding held_at
    settled-held q before s e z =
        let y = and_both (ltb q 2704) (eqb (at b q) 0 || eqb (at b q) (at b p)) e in
        let l : q < 2704 = ltb-true q 2704 y.0 in
        ⊎_elim
        (λ k. settled-free (record { point = q; near = s.near l; empty = record { on = s.on l; is = eqb-true (at b q) 0 k } }))
        (λ k.
        let same : at b q ≡ at b p = eqb-true (at b q) (at b p) k in
        settled-next (λ c u t.
        let there : Stone w h b c q = record { on = s.on l; is = same ∙ t.is } in
        liberty-shared (more (self there) (beside-sym p q (s.near l)) t) (x q (before l) c u there)))
        (either (eqb (at b q) 0) (eqb (at b q) (at b p)) y.1)

    module _ (o : On w h p) (z : at b p ≡ 0 → ⊥) (q : ℕ) {v : Bool} (t : v ≡ true) where
      pub settled_up : q ≡ up_of p → v ≡ held_at b (at b p) q → SettledTo w h b (p + 1)
      settled_up e f = settled-held q (up-less p q e) (subst (λ (k : ℕ). Side w h p k) (sym e) (up-side w h p o)) (sym f ∙ t) z

      pub settled-left : q ≡ left_of p → v ≡ held_at b (at b p) q → SettledTo w h b (p + 1)
      settled-left e f = settled-held q (left_less p q e) (subst (λ (k : ℕ). Side w h p k) (sym e) (left-side w h p o)) (sym f ∙ t) z

      pub settled-down : q ≡ down_of h p → v ≡ empty_at b q → SettledTo w h b (p + 1)
      settled-down e f = settled-side q (subst (λ (k : ℕ). Side w h p k) (sym e) (down-side w h p o)) (sym f ∙ t)

      pub settled-right : q ≡ right_of w p → v ≡ empty_at b q → SettledTo w h b (p + 1)
      settled-right e f = settled-side q (subst (λ (k : ℕ). Side w h p k) (sym e) (right_side w h p o)) (sym f ∙ t)

    pub settled-lives : Liberty w h b (at b p) p → SettledTo w h b (p + 1)
    settled-lives y = settled-next (λ c z s. subst (λ (k : ℕ). Liberty w h b k p) s.is y)

  -- point (x, y), where both are below the sides of the board and below 52
  pub settled-on : (x y : ℕ) → x < min w 52 → y < min h 52 → on_board w h (52 * x + y) ≡ true
  settled-on x y i j = on-board w h (52 * x + y) (record { column = omega arith; row = omega arith; place = omega arith })

  -- a column, once its rows are done
  pub settled-column : (x y : ℕ) → min h 52 ≤ y → SettledTo w h b (52 * x + y) → SettledTo w h b (52 * (x + 1))
  settled-column x y i t =
      settled-off (52 * x + y) t (52 * (x + 1)) (λ q m n on. let k = (board-on w h q on).row in absurd (omega arith))

  -- all, once the columns are done
  pub settled-all : (x : ℕ) → min w 52 ≤ x → SettledTo w h b (52 * x) → (c : ℕ) → (c ≡ 0 → ⊥) → Settled w h b c
  settled-all x i t c z q s =
      let k = (board-on w h q s.on).column in
      let l = (board-on w h q s.on).place in
      t q (omega arith) c z s
