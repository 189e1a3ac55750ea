-- The groups of the four sides of a point are the groups beside it. Assumes nothing.
use Rattle.lists.proofs.Prelude.{ℕ, ◌+◌, true, ◌⊎◌, inl, inr, ⊎_elim, ◌≡◌, sym, ◌∙◌, subst, List, zero-add}
use Rattle.board_groups.specs.Board.{on_board}
use Rattle.board_groups.specs.Groups.{Joined, TakesGroup, TakesBeside, Touches}
use Rattle.board_groups.proofs.Beside.{On, board-on, on-board, beside-sym, beside-step}
use Rattle.board_groups.proofs.Others.{joined-last, joined-sym, joined-trans}
use Rattle.board_groups.proofs.Partly.{takes-of-none, takes-of-as, takes-of-more}
use Rattle.board_take.specs.LocalsSides.{right_of, left_of, down_of, up_of}
use Rattle.board_take.proofs.Sides.{Side, right_side, left-side, down-side, up-side, Four, is_right, is-left, is_down, is_up, four}

module _ (w h c p : ℕ) (b : List ℕ) where
  closed-more : (Q : ℕ → Type 0) (s : ℕ) → ((r t : ℕ) → Q r → Joined w h b c r t → Q t) → (r t : ℕ) → Q r ⊎ Joined w h b c s r → Joined w h b c r t
      → Q t ⊎ Joined w h b c s t
  closed-more Q s f r t x j = ⊎_elim (λ y. inl (f r t y j)) (λ y. inr (joined-trans y j)) x

  -- nothing is beside a point that is not on the board
  pub beside_none : (on_board w h p ≡ true → ⊥) → TakesBeside w h c p b b 0
  beside_none f = takes-of-none (Touches w h b c p) w h c b (λ r t. f t.on)

  module _ (o : On w h p) (qr ql qd qu : ℕ) (er : qr ≡ right_of w p) (el : ql ≡ left_of p) (ed : qd ≡ down_of h p) (eu : qu ≡ up_of p) where
    abbrev Q1 : ℕ → Type 0
    Q1 r = ⊥ ⊎ Joined w h b c qr r

    abbrev Q2 : ℕ → Type 0
    Q2 r = Q1 r ⊎ Joined w h b c ql r

    abbrev Q3 : ℕ → Type 0
    Q3 r = Q2 r ⊎ Joined w h b c qd r

    abbrev Q4 : ℕ → Type 0
    Q4 r = Q3 r ⊎ Joined w h b c qu r

    side-touches : (q r : ℕ) → Side w h p q → Joined w h b c q r → Touches w h b c p r
    side-touches q r s j =
        let k = joined-sym j in
        let l = (board-on w h q (joined-last k).on).place in
        record { on = on-board w h p o; last = q; joined = k; near = beside-sym p q (s.near l) }

    touches : (r : ℕ) → Q4 r → Touches w h b c p r
    touches r = ⊎_elim
        (⊎_elim
        (⊎_elim
        (⊎_elim (λ x. absurd x) (side-touches qr r (subst (λ (z : ℕ). Side w h p z) (sym er) (right_side w h p o))))
        (side-touches ql r (subst (λ (z : ℕ). Side w h p z) (sym el) (left-side w h p o))))
        (side-touches qd r (subst (λ (z : ℕ). Side w h p z) (sym ed) (down-side w h p o))))
        (side-touches qu r (subst (λ (z : ℕ). Side w h p z) (sym eu) (up-side w h p o)))

    touched : (r : ℕ) → Touches w h b c p r → Q4 r
    touched r t = go (four w h p t.last (board-on w h t.last (joined-last t.joined).on) (beside-step p t.last (beside-sym t.last p t.near)))
      where
        from : (q : ℕ) → t.last ≡ q → Joined w h b c q r
        from q e = subst (λ (z : ℕ). Joined w h b c z r) e (joined-sym t.joined)

        go : Four w h p t.last → Q4 r
        go (is_right e) = inl (inl (inl (inr (from qr (e ∙ sym er)))))
        go (is-left e) = inl (inl (inr (from ql (e ∙ sym el))))
        go (is_down e) = inl (inr (from qd (e ∙ sym ed)))
        go (is_up e) = inr (from qu (e ∙ sym eu))

    pub beside-took : (c ≡ 0 → ⊥) → {b1 b2 b3 b4 : List ℕ} {n1 n2 n3 n4 : ℕ} → TakesGroup w h c qr b b1 n1 → TakesGroup w h c ql b1 b2 n2
        → TakesGroup w h c qd b2 b3 n3 → TakesGroup w h c qu b3 b4 n4 → TakesBeside w h c p b b4 (n1 + n2 + n3 + n4)
    beside-took f {b1} {b2} {b3} {b4} {n1} {n2} {n3} {n4} t1 t2 t3 t4 =
        let none : (r t : ℕ) → ⊥ → Joined w h b c r t → ⊥ = λ r t x j. x in
        let x0 = takes-of-none (λ (r : ℕ). ⊥) w h c b (λ r x. x) in
        let x1 = takes-of-more (λ (r : ℕ). ⊥) w h c b b b1 0 n1 qr f none x0 t1 in
        let c1 = closed-more (λ (r : ℕ). ⊥) qr none in
        let x2 = takes-of-more Q1 w h c b b1 b2 (0 + n1) n2 ql f c1 x1 t2 in
        let c2 = closed-more Q1 ql c1 in
        let x3 = takes-of-more Q2 w h c b b2 b3 (0 + n1 + n2) n3 qd f c2 x2 t3 in
        let c3 = closed-more Q2 qd c2 in
        let x4 = takes-of-more Q3 w h c b b3 b4 (0 + n1 + n2 + n3) n4 qu f c3 x3 t4 in
        subst (λ (z : ℕ). TakesBeside w h c p b b4 (z + n2 + n3 + n4)) (zero-add n1)
        (takes-of-as Q4 (Touches w h b c p) w h c b b4 (0 + n1 + n2 + n3 + n4) touches touched x4)
