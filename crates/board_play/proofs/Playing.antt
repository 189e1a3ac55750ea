-- What can be played, and a play put together. Assumes nothing.
use Rattle.lists.proofs.Prelude.{ℕ, ◌<◌, Bool, true, false, ◌||◌, ◌⊎◌, inl, inr, ⊎_elim, ◌≡◌, refl, subst, List, set, eqb, arith, eqb-true, ltb}
use Rattle.lists.proofs.Tests.{and_both}
use Rattle.board_groups.specs.Board.{on_board}
use Rattle.board_groups.specs.Groups.{Takes, TakesBeside, TakesGroup}
use Rattle.board_groups.proofs.Beside.{board-on}
use Rattle.board_play.specs.Play.{Player, other_of, settable, playable, Plays, PlaysNear}

either : (x y : Bool) → x || y ≡ true → (x ≡ true) ⊎ (y ≡ true)
either true y h = inl refl
either false y h = inr h

module _ (w h c p : ℕ) where
  pub playable-player : playable w h c p ≡ true → Player c
  unfolding playable
  playable-player e =
      ⊎_elim
      (λ y. let z : c ≡ 1 = eqb-true c 1 y in record { most = omega arith; least = omega arith })
      (λ y. let z : c ≡ 2 = eqb-true c 2 y in record { most = omega arith; least = omega arith })
      (either (eqb c 1) (eqb c 2) (and_both (eqb c 1 || eqb c 2) (on_board w h p) e).0)

  pub playable-place : playable w h c p ≡ true → p < 2704
  unfolding playable
  playable-place e = (board-on w h p (and_both (eqb c 1 || eqb c 2) (on_board w h p) e).1).place

  pub playable-board : playable w h c p ≡ true → on_board w h p ≡ true
  unfolding playable
  playable-board e = (and_both (eqb c 1 || eqb c 2) (on_board w h p) e).1

  pub settable-place : settable w h c p ≡ true → p < 2704
  unfolding settable
  settable-place e = (board-on w h p (and_both (ltb c 3) (on_board w h p) e).1).place

  pub play-made : (b : List ℕ) {b1 b2 b' : List ℕ} {n k : ℕ} → b1 ≡ set b p c → Takes w h (other_of c) b1 b2 n → Takes w h c b2 b' k → Plays w h c p b b' n k
  play-made b {b1} {b2} {b'} {n} {k} e t u =
      record { between = b2; first = subst (λ (z : List ℕ). Takes w h (other_of c) z b2 n) e t; second = u }

  pub near-made : (b : List ℕ) {b1 b2 b' : List ℕ} {n k : ℕ} → b1 ≡ set b p c → TakesBeside w h (other_of c) p b1 b2 n → TakesGroup w h c p b2 b' k
      → PlaysNear w h c p b b' n k
  near-made b {b1} {b2} {b'} {n} {k} e t u =
      record { between = b2; first = subst (λ (z : List ℕ). TakesBeside w h (other_of c) p z b2 n) e t; second = u }
