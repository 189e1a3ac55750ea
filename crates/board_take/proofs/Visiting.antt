-- Four sides pushed are all stones of the colour around a place; seeds pushed one by one. Assumes nothing.
use Rattle.lists.proofs.Prelude.{ℕ, ◌+◌, ◌<◌, Bool, true, ◌⊎◌, inl, inr, ⊎_elim, ◌≡◌, sym, ◌∙◌, subst, List, eqb, arith, eqb-true, eq-eqb}
use Rattle.lists.proofs.Tests.{and_both, same_or}
use Rattle.board_groups.specs.Board.{at, on_board}
use Rattle.board_groups.specs.Groups.{Stone}
use Rattle.board_groups.proofs.Beside.{On, board-on, beside-step}
use Rattle.board_take.specs.LocalsSides.{right_of, left_of, down_of, up_of, stands_at, Free}
use Rattle.board_take.specs.LocalsFlood.{Queued, Went, Here, Around, Seed, SeedAt}
use Rattle.board_take.proofs.Sides.{Side, right_side, left-side, down-side, up-side, Four, is_right, is-left, is_down, is_up, four}
use Rattle.board_take.proofs.Queue.{went-none, went-as, went_on}

pub stands-stone : (w h : ℕ) (b : List ℕ) (c p : ℕ) → stands_at w h b c p ≡ true → Stone w h b c p
unfolding stands_at
stands-stone w h b c p e =
    let x = and_both (on_board w h p) (eqb (at b p) c) e in
    record { on = x.0; is = eqb-true (at b p) c x.1 }

pub stone-stands : (w h : ℕ) (b : List ℕ) (c p : ℕ) → Stone w h b c p → stands_at w h b c p ≡ true
unfolding stands_at
stone-stands w h b c p s = rw (s.on, eq-eqb (at b p) c s.is)

module _ (w h : ℕ) (b : List ℕ) (c : ℕ) where
  here-stone : (q r : ℕ) → Stone w h b c r → r ≡ q → Here b c q r
  here-stone q r s e =
      (e, subst (λ (z : ℕ). z < 2704) e (board-on w h r s.on).place, subst (λ (z : ℕ). at b z ≡ c) e s.is)

  pub side-around : (p q r : ℕ) → Side w h p q → Here b c q r → Around w h b c p r
  side-around p q r s x =
      subst (λ (z : ℕ). Around w h b c p z) (sym x.0) (s.near x.1, record { on = s.on x.1; is = x.2 })

  module _ (p qr ql qd qu : ℕ) (o : On w h p) (er : qr ≡ right_of w p) (el : ql ≡ left_of p) (ed : qd ≡ down_of h p) (eu : qu ≡ up_of p) where
    around : (r : ℕ) → ((Here b c qr r ⊎ Here b c ql r) ⊎ Here b c qd r) ⊎ Here b c qu r → Around w h b c p r
    around r = ⊎_elim
        (⊎_elim
        (⊎_elim
        (side-around p qr r (subst (λ (z : ℕ). Side w h p z) (sym er) (right_side w h p o)))
        (side-around p ql r (subst (λ (z : ℕ). Side w h p z) (sym el) (left-side w h p o))))
        (side-around p qd r (subst (λ (z : ℕ). Side w h p z) (sym ed) (down-side w h p o))))
        (side-around p qu r (subst (λ (z : ℕ). Side w h p z) (sym eu) (up-side w h p o)))

    pushed : (r : ℕ) → Around w h b c p r → ((Here b c qr r ⊎ Here b c ql r) ⊎ Here b c qd r) ⊎ Here b c qu r
    pushed r a = go (four w h p r (board-on w h r a.1.on) (beside-step p r a.0))
      where
        go : Four w h p r → ((Here b c qr r ⊎ Here b c ql r) ⊎ Here b c qd r) ⊎ Here b c qu r
        go (is_right e) = inl (inl (inl (here-stone qr r a.1 (e ∙ sym er))))
        go (is-left e) = inl (inl (inr (here-stone ql r a.1 (e ∙ sym el))))
        go (is_down e) = inl (inr (here-stone qd r a.1 (e ∙ sym ed)))
        go (is_up e) = inr (here-stone qu r a.1 (e ∙ sym eu))

    pub visited : {m m1 m2 m3 m4 : List Bool} {q q1 q2 q3 q4 : List ℕ} {n n1 n2 n3 n4 : ℕ} → Went (Here b c qr) m q n m1 q1 n1
        → Went (Here b c ql) m1 q1 n1 m2 q2 n2 → Went (Here b c qd) m2 q2 n2 m3 q3 n3 → Went (Here b c qu) m3 q3 n3 m4 q4 n4
        → Went (Around w h b c p) m q n m4 q4 n4
    visited x y z u = went-as (went_on (went_on (went_on x y) z) u) around pushed

  -- the place p is no seed
  pub seed-not : (m : List Bool) (q : List ℕ) (n p : ℕ) → Queued m q n → (Stone w h b c p → Free w h b p → ⊥) → Went (SeedAt w h b c p) m q n m q n
  seed-not m q n p x f =
      went-none m q n x (SeedAt w h b c p)
      (λ r y. absurd (f (subst (λ (z : ℕ). Stone w h b c z) y.0 y.1) (subst (λ (z : ℕ). Free w h b z) y.0 y.2)))

  pub seed-here : {m m' : List Bool} {q q' : List ℕ} {n n' : ℕ} (p : ℕ) → Stone w h b c p → Free w h b p → Went (Here b c p) m q n m' q' n'
      → Went (SeedAt w h b c p) m q n m' q' n'
  seed-here p s f x =
      went-as x
      (λ r y. (y.0, subst (λ (z : ℕ). Stone w h b c z) (sym y.0) s, subst (λ (z : ℕ). Free w h b z) (sym y.0) f))
      (λ r y. here-stone p r y.1 y.0)

  pub seed-more : {m m' m'' : List Bool} {q q' q'' : List ℕ} {n n' n'' : ℕ} (p : ℕ) → Went (Seed w h b c p) m q n m' q' n'
      → Went (SeedAt w h b c p) m' q' n' m'' q'' n'' → Went (Seed w h b c (p + 1)) m q n m'' q'' n''
  seed-more p x y =
      went-as (went_on x y)
      (λ r. ⊎_elim (λ z. let l = z.0 in (omega arith, z.1, z.2)) (λ z. let l = z.0 in (omega arith, z.1, z.2)))
      (λ r z. same_or r p (λ s. inr (s, z.1, z.2)) (λ s. let l = z.0 in inl (omega arith, z.1, z.2)))
