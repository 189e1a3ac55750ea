use Rattle.lists.proofs.Prelude.{true, ◌&&◌, ◌≡◌, true≢false, refl, sym, ◌∙◌}
use Rattle.lists.proofs.Tests.{and_both}
use Rattle.board_play.specs.Play.{playable}
use Rattle.board_play.proofs.Playing.{playable-player}
use Rattle.board_acts.proofs.Acting.{near-acts-by}
use Rattle.board_acts.proofs.play_settled.Goals as goal

pub returns-then-not-can_play : goal.returns-then-not-can_play
returns-then-not-can_play c = let a = c.args in record { not_done = λ e. (refl, refl); act = λ e. absurd (true≢false (sym (and_both (playable a.columns a.rows a.colour a.p) a.state.settled e).0 ∙ (sym c.can_play.ensures ∙ c.if-not-can_play.true))) }

pub returns-then-not-settled : goal.returns-then-not-settled
returns-then-not-settled c = let a = c.args in record { not_done = λ e. (refl, refl); act = λ e. absurd (true≢false (sym (and_both (playable a.columns a.rows a.colour a.p) a.state.settled e).1 ∙ c.if-not-settled.true)) }

pub play_point-met-requires : goal.play_point-met-requires
play_point-met-requires c = sym c.can_play.ensures ∙ c.if-not-can_play.false

pub count_played-requires : goal.count_played-requires
count_played-requires c = let a = c.args in playable-player a.columns a.rows a.colour a.p (sym c.can_play.ensures ∙ c.if-not-can_play.false)

pub returns : goal.returns
returns c = let a = c.args in
    let e = sym c.can_play.ensures ∙ c.if-not-can_play.false in
    let f : a.state.settled ≡ true = c.if-not-settled.false in
    let m = c.play_point-met in
    let g : playable a.columns a.rows a.colour a.p && a.state.settled ≡ true = rw (e, f) in
    record {
      not_done = λ z. absurd (true≢false (sym g ∙ z));
      act = λ z. near-acts-by a.columns a.rows a.colour a.p a.stones.now _ m.result.stood a.state _ m.result.taken m.result.lost e m.ensures.0 c.count_played.ensures f m.ensures.1;
    }
