-- On a board where every stone of a colour has a liberty, one point changes to another colour: a group without liberty is then beside that point. Assumes nothing.
use Rattle.lists.proofs.Prelude.{ℕ, true, ◌⊎◌, inl, inr, ⊎_elim, ◌≡◌, sym, ◌∙◌, subst, List}
use Rattle.lists.proofs.Tests.{same_or}
use Rattle.board_groups.specs.Board.{at, on_board, beside}
use Rattle.board_groups.specs.Groups.{Stone, Joined, self, more, Liberty, Dead, Takes, TakesBeside, Touches, Settled}

module _ (w h o p : ℕ) (b b1 : List ℕ) (other : (r : ℕ) → (r ≡ p → ⊥) → at b1 r ≡ at b r) (changed : at b1 p ≡ o → ⊥) where
  stays : (c r : ℕ) → (r ≡ p → ⊥) → Stone w h b c r → Stone w h b1 c r
  stays c r n s = record { on = s.on; is = other r n ∙ s.is }

  -- the way over stones does not come to p, or comes beside it
  along : (q s : ℕ) → Stone w h b1 o q → Joined w h b o q s → Joined w h b1 o q s ⊎ Touches w h b1 o p q
  along q s z (self x) = inl (self z)
  along q s z (more {q = m} {r = r} j n x) = go (along q m z j)
    where
      go : Joined w h b1 o q m ⊎ Touches w h b1 o p q → Joined w h b1 o q r ⊎ Touches w h b1 o p q
      go (inl k) = same_or r p
          (λ e. inr (record { on = subst (λ (y : ℕ). on_board w h y ≡ true) e x.on; last = m; joined = k; near = subst (λ (y : ℕ). beside m y ≡ true) e n }))
          (λ e. inl (more k n (stays o r e x)))
      go (inr k) = inr k

  -- a stone whose group had a liberty has one still, or its group is beside p
  near-or : Settled w h b o → (q : ℕ) → Stone w h b1 o q → Liberty w h b1 o q ⊎ Touches w h b1 o p q
  near-or set q z =
      let n : q ≡ p → ⊥ = λ e. changed (subst (λ (y : ℕ). at b1 y ≡ o) e z.is) in
      let l = set q (record { on = z.on; is = sym (other q n) ∙ z.is }) in
      go l (along q l.stone z l.joined)
    where
      go : (l : Liberty w h b o q) → Joined w h b1 o q l.stone ⊎ Touches w h b1 o p q → Liberty w h b1 o q ⊎ Touches w h b1 o p q
      go l (inr k) = inr k
      go l (inl k) = same_or l.point p
          (λ e. inr (record {
            on = subst (λ (y : ℕ). on_board w h y ≡ true) e l.empty.on;
            last = l.stone;
            joined = k;
            near = subst (λ (y : ℕ). beside l.stone y ≡ true) e l.near;
          }))
          (λ e. inl (record { stone = l.stone; point = l.point; joined = k; near = l.near; empty = stays 0 l.point e l.empty }))

  pub near : Settled w h b o → (q : ℕ) → Dead w h b1 o q → Touches w h b1 o p q
  near set q d = ⊎_elim (λ l. absurd (d.none l)) (λ t. t) (near-or set q d.stone)

  -- so what is taken beside p is all that is taken
  pub near-takes : Settled w h b o → (b2 : List ℕ) (n : ℕ) → TakesBeside w h o p b1 b2 n → Takes w h o b1 b2 n
  near-takes set b2 n t =
      record {
        as_long = t.as_long;
        each = λ q. ⊎_elim (λ x. inl (x.0.0, x.1)) (λ x. inr ((λ s. ⊎_elim (λ l. l) x.0 (near-or set q s)), x.1)) (t.each q);
        many = t.many;
      }
