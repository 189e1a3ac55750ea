use Rattle.lists.proofs.Prelude.{◌≡◌, ap, ◌∙◌, arith}
use Rattle.board_acts.specs.Acts.{take_counts}
use Rattle.board_acts.proofs.Acting.{counts-as}
use Rattle.board_acts.proofs.count_played.Goals as goal

pub returns-then-colour-eq1 : goal.returns-then-colour-eq1
returns-then-colour-eq1 c = let a = c.args in
    let q = c.quiet.ensures c.if-quiet.true in
    counts-as a.state 1 0 0 0 a.colour a.taken a.lost a.stood c.if-colour-eq1.true q.0 q.1 q.2 (c.count_taken.ensures ∙ ap (take_counts 1 0 0) c.count_set-black.ensures)

pub returns-then-quiet : goal.returns-then-quiet
returns-then-quiet c = let a = c.args in
    let q = c.quiet.ensures c.if-quiet.true in
    let two : a.colour ≡ 2 = omega (arith, c.requires.most, c.requires.least, c.if-colour-eq1.false) in
    counts-as a.state 2 0 0 0 a.colour a.taken a.lost a.stood two q.0 q.1 q.2 (c.count_taken-then-quiet.ensures ∙ ap (take_counts 2 0 0) c.count_set-white.ensures)

pub returns : goal.returns
returns c = let a = c.args in c.count_taken-2.ensures ∙ ap (take_counts a.colour a.taken a.lost) c.count_set-then.ensures
