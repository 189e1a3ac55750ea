use Rattle.board_acts.specs.Acts.{take_counts}
use Rattle.board_acts.proofs.Acting.{whole-acts, near-acts-by}
use Rattle.lists.proofs.Prelude.{true≢false, refl, sym, ap, ◌∙◌}
use Rattle.board_acts.proofs.play_act.Goals as goal

pub returns-then-not-can_play : goal.returns-then-not-can_play
returns-then-not-can_play c = record { not_done = λ e. (refl, refl); act = λ e. absurd (true≢false (sym e ∙ (sym c.can_play.ensures ∙ c.if-not-can_play.true))) }

pub returns-then-settled : goal.returns-then-settled
returns-then-settled c = let a = c.args in let e = sym c.can_play.ensures ∙ c.if-not-can_play.false in let x = c.play_near-near.ensures.played e in record {
  not_done = λ z. absurd (true≢false (sym e ∙ z));
  act = λ z. near-acts-by a.columns a.rows a.colour a.p a.stones.now _ c.play_near-near.result.stood a.state _ c.play_near-near.result.taken c.play_near-near.result.lost e x.0 (c.count_taken.ensures ∙ ap (take_counts a.colour c.play_near-near.result.taken c.play_near-near.result.lost) c.count_set-then.ensures) c.if-settled.true x.1;
}

pub returns : goal.returns
returns c = let a = c.args in let e = sym c.can_play.ensures ∙ c.if-not-can_play.false in let x = c.play_stone-whole.ensures.played e in record {
  not_done = λ z. absurd (true≢false (sym e ∙ z));
  act = λ z. whole-acts a.columns a.rows a.colour a.p a.stones.now _ c.play_stone-whole.result.stood a.state _ c.play_stone-whole.result.taken c.play_stone-whole.result.lost e x.0 (c.count_taken-2.ensures ∙ ap (take_counts a.colour c.play_stone-whole.result.taken c.play_stone-whole.result.lost) c.count_set-then-2.ensures) c.if-settled.false x.1;
}
