use Rattle.board_acts.proofs.Acting.{set-acts}
use Rattle.lists.proofs.Prelude.{true≢false, refl, sym, ◌∙◌}
use Rattle.board_acts.proofs.set_act.Goals as goal

pub returns-then-not-can_set : goal.returns-then-not-can_set
returns-then-not-can_set c = record { not_done = λ e. (refl, refl); act = λ e. absurd (true≢false (sym e ∙ (sym c.can_set.ensures ∙ c.if-not-can_set.true))) }

pub returns : goal.returns
returns c = let a = c.args in let e = sym c.can_set.ensures ∙ c.if-not-can_set.false in record {
  not_done = λ z. absurd (true≢false (sym e ∙ z));
  act = λ z. set-acts a.columns a.rows a.colour a.p a.stones.now _ c.set_stone-stood.result a.state _ e c.set_stone-stood.ensures c.count_set.ensures;
}
