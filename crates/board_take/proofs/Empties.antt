-- Whether a point has an empty one beside it. Assumes nothing.
use Rattle.lists.proofs.Prelude.{ℕ, true, false, true≢false, ◌≡◌, sym, ap, ◌∙◌, List, ltb, eqb, ltb-true, lt-ltb, eqb-true, eq-eqb}
use Rattle.lists.proofs.Tests.{and_both}
use Rattle.board_groups.specs.Board.{at}
use Rattle.board_groups.specs.Groups.{Stone}
use Rattle.board_groups.proofs.Beside.{board-on, beside-step}
use Rattle.board_take.specs.LocalsSides.{right_of, left_of, down_of, up_of, colour_at, empty_at, Free}
use Rattle.board_take.proofs.Sides.{Side, Four, is_right, is-left, is_down, is_up, four}

module _ (w h : ℕ) (b : List ℕ) (p : ℕ) where
  -- a side where c stands
  pub side-stone : (c q : ℕ) → Side w h p q → colour_at b c q ≡ true → Stone w h b c q
  unfolding colour_at
  side-stone c q s e =
      let x = and_both (ltb q 2704) (eqb (at b q) c) e in
      record { on = s.on (ltb-true q 2704 x.0); is = eqb-true (at b q) c x.1 }

  -- a side that is empty
  pub side-free : (q : ℕ) → Side w h p q → empty_at b q ≡ true → Free w h b p
  side-free q s e =
      let t = side-stone 0 q s e in
      record { point = q; near = s.near (board-on w h q t.on).place; empty = t }

  -- a stone is found where it stands
  pub stone-found : (c q : ℕ) → Stone w h b c q → colour_at b c q ≡ true
  unfolding colour_at
  stone-found c q s = rw (lt-ltb q 2704 (board-on w h q s.on).place, eq-eqb (at b q) c s.is)

  pub none_free : empty_at b (right_of w p) ≡ false → empty_at b (left_of p) ≡ false → empty_at b (down_of h p) ≡ false → empty_at b (up_of p) ≡ false
      → Free w h b p → ⊥
  none_free er el ed eu f = go (four w h p f.point (board-on w h f.point f.empty.on) (beside-step p f.point f.near))
    where
      not-here : (q : ℕ) → f.point ≡ q → empty_at b q ≡ false → ⊥
      not-here q e n = true≢false (sym (stone-found 0 f.point f.empty) ∙ (ap (empty_at b) e ∙ n))

      go : Four w h p f.point → ⊥
      go (is_right e) = not-here (right_of w p) e er
      go (is-left e) = not-here (left_of p) e el
      go (is_down e) = not-here (down_of h p) e ed
      go (is_up e) = not-here (up_of p) e eu
