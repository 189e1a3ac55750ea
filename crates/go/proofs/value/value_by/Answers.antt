use Rattle.lists.proofs.Prelude.{ap, ◌∙◌}
use Rattle.go.specs.Value.{move_under}
use Rattle.go.proofs.Choosing.{by-unread, by-set, by-many, by_move, by_number}
use Rattle.go.proofs.value.value_by.Goals as goal

pub returns-in-OneMove : goal.returns-in-OneMove
returns-in-OneMove c = let a = c.args in
    by_move a.rule a.text.now a.vals.now a.first a.count c.if-count-eq1.true c.value_at.ensures c.in-OneMove.is
    (c.play.ensures ∙ ap (move_under a.rule) c.read_move.ensures)

pub returns-in-OneMove-2 : goal.returns-in-OneMove-2
returns-in-OneMove-2 c = let a = c.args in
    by-many a.rule a.text.now a.vals.now a.first a.count a.shape (λ e. cc) (λ e. cc) c.if-count-eq1.false

pub returns-in-OneNumber : goal.returns-in-OneNumber
returns-in-OneNumber c = let a = c.args in
    by_number a.rule a.text.now a.vals.now a.first a.count c.if-count-eq1-2.true c.value_at-in-OneNumber.ensures c.in-OneNumber.is
    c.read_handicap.ensures

pub returns-in-OneMove-2-2 : goal.returns-in-OneMove-2-2
returns-in-OneMove-2-2 c = let a = c.args in
    by-many a.rule a.text.now a.vals.now a.first a.count a.shape (λ e. cc) (λ e. cc) c.if-count-eq1-2.false

pub returns-in-ManyPoints : goal.returns-in-ManyPoints
returns-in-ManyPoints c = let a = c.args in
    by-set a.rule a.text.now a.vals.now a.first a.count c.in-ManyPoints.is c.read_points.ensures

pub returns-in-Unread : goal.returns-in-Unread
returns-in-Unread c = let a = c.args in by-unread a.rule a.text.now a.vals.now a.first a.count c.in-Unread.is
