-- On a settled board a play near the move is the play, and the board is settled after it. Assumes nothing.
use Rattle.lists.proofs.Prelude.{ℕ, ◌<◌, ◌≤◌, Bool, true, false, inr, ⊎_elim, ◌≡◌, refl, sym, ◌∙◌, subst, List, length, set, set_out, arith, get_or-set_same, get_or-set_other, ltb, ltb-true, ltb-false}
use Rattle.board_groups.specs.Board.{at, on_board}
use Rattle.board_groups.specs.Groups.{Joined, Touches, Takes, TakesOf, Settled}
use Rattle.board_groups.proofs.Near.{near-takes}
use Rattle.board_groups.proofs.Once.{takes-free}
use Rattle.board_groups.proofs.Own.{settled-stays, own-takes}
use Rattle.board_play.specs.Play.{Player, other_of, Plays, PlaysNear, PlayIs}
use Rattle.board_play.proofs.Playing.{playable-player, playable-board}

-- of what is settled nothing goes
settled-takes : (Q : ℕ → Type 0) (w h c : ℕ) (b b' : List ℕ) (n : ℕ) → Settled w h b c → TakesOf Q w h c b b' n → Takes w h c b b' n
settled-takes Q w h c b b' n s x =
    record {
      as_long = x.as_long;
      each = λ p. ⊎_elim (λ y. absurd (y.0.0.none (s p y.0.0.stone))) (λ y. inr (s p, y.1)) (x.each p);
      many = x.many;
    }

module _ (w h c p : ℕ) (b b' : List ℕ) (n k : ℕ) (player : Player c) where
  some : c ≡ 0 → ⊥
  some e = let x = player.least in omega arith

  other-some : other_of c ≡ 0 → ⊥
  other-some e = let x = player.most in omega arith

  differ : other_of c ≡ c → ⊥
  differ e = omega arith

  pub settled-plays : Plays w h c p b b' n k → Settled w h b' c × Settled w h b' (other_of c)
  settled-plays x = (
    takes-free w h c x.between b' k some x.second,
    settled-stays w h c (other_of c) x.between b' k (λ e. differ (sym e)) x.second other-some
        (takes-free w h (other_of c) _ x.between n other-some x.first),
  )

  near_within : p < length b → on_board w h p ≡ true → Settled w h b c → Settled w h b (other_of c) → PlaysNear w h c p b b' n k → Plays w h c p b b' n k
  near_within l on mine theirs x =
      let here : at (set b p c) p ≡ c = get_or-set_same b p c 0 l in
      let other : (r : ℕ) → (r ≡ p → ⊥) → at (set b p c) r ≡ at b r = λ r e. get_or-set_other b p r c 0 e in
      let first : Takes w h (other_of c) (set b p c) x.between n =
      near-takes w h (other_of c) p b (set b p c) other (λ e. differ (sym e ∙ here)) theirs x.between n x.first in
      record {
        between = x.between;
        first = first;
        second =
            own-takes w h c (other_of c) p b (set b p c) x.between n differ some (record { on = on; is = here }) other mine first b' k x.second;
      }

  -- past the end of the list nothing is set, and of what is settled nothing goes
  near-beyond : length b ≤ p → Settled w h b c → Settled w h b (other_of c) → PlaysNear w h c p b b' n k → Plays w h c p b b' n k
  near-beyond l mine theirs x =
      let same : set b p c ≡ b = set_out b p c l in
      let first : Takes w h (other_of c) (set b p c) x.between n =
      settled-takes (λ q. Touches w h (set b p c) (other_of c) p q) w h (other_of c) (set b p c) x.between n
      (subst (λ (z : List ℕ). Settled w h z (other_of c)) (sym same) theirs) x.first in
      record {
        between = x.between;
        first = first;
        second =
            settled-takes (λ q. Joined w h x.between c p q) w h c x.between b' k
            (settled-stays w h (other_of c) c (set b p c) x.between n differ first some (subst (λ (z : List ℕ). Settled w h z c) (sym same) mine))
            x.second;
      }

  pub near-acts : on_board w h p ≡ true → Settled w h b c → Settled w h b (other_of c) → PlaysNear w h c p b b' n k → Plays w h c p b b' n k
  near-acts on mine theirs x = go (ltb p (length b)) refl
    where
      go : (v : Bool) → ltb p (length b) ≡ v → Plays w h c p b b' n k
      go true e = near_within (ltb-true p (length b) e) on mine theirs x
      go false e = near-beyond (ltb-false p (length b) e) mine theirs x

-- so where every stone has a liberty, what is played near the move is played
pub near-is : (w h c p : ℕ) (b b' : List ℕ) (stood n k : ℕ) → ((c : ℕ) → (c ≡ 0 → ⊥) → Settled w h b c)
    → PlayIs (PlaysNear w h c p b b' n k) w h c p b b' stood n k → PlayIs (Plays w h c p b b' n k) w h c p b b' stood n k
near-is w h c p b b' stood n k all x =
    record {
      not-played = x.not-played;
      played = λ e.
          let player = playable-player w h c p e in (
            (x.played e).0,
            near-acts w h c p b b' n k player (playable-board w h c p e) (all c (some w h c p b b' n k player))
                (all (other_of c) (other-some w h c p b b' n k player)) (x.played e).1,
          );
    }
