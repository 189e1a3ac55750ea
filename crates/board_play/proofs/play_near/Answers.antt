use Rattle.lists.proofs.Prelude.{true≢false, refl, sym, ◌∙◌, arith, not-true, not-false}
use Rattle.board_play.proofs.Playing.{playable-player, playable-place, near-made}
use Rattle.board_play.proofs.play_near.Goals as goal

pub returns-then-not-can_play : goal.returns-then-not-can_play
returns-then-not-can_play c = record {
  not-played = λ e. (refl, refl, refl, refl);
  played = λ e. absurd (true≢false (sym e ∙ (sym c.can_play.ensures ∙ not-true c.can_play.result c.if-not-can_play.true-raw)));
}

pub overflow_sub-other : goal.overflow_sub-other
overflow_sub-other c = let a = c.args in let x = playable-player a.columns a.rows a.colour a.p (sym c.can_play.ensures ∙ not-false c.can_play.result c.if-not-can_play.false-raw) in omega arith

pub returns : goal.returns
returns c = let a = c.args in
    let e = sym c.can_play.ensures ∙ not-false c.can_play.result c.if-not-can_play.false-raw in
    let x = playable-player a.columns a.rows a.colour a.p e in
    let s = c.set_stone-stood.ensures.within (playable-place a.columns a.rows a.colour a.p e) in
    record {
      not-played = λ z. absurd (true≢false (sym e ∙ z));
      played = λ z.
          (s.0, near-made a.columns a.rows a.colour a.p a.stones.now s.1 (c.take_beside-taken.ensures.some (λ k. omega arith)) (c.take_group-lost.ensures.0.some (λ k. omega arith)));
    }
