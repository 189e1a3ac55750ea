use Rattle.lists.proofs.Prelude.{◌+◌}
use Rattle.go.proofs.Adding.{adds_none, adds-more, rect-none, rect-more}
use Rattle.go.proofs.set.mark_rect.Goals as goal

pub loop-at-init : goal.loop-at-init
loop-at-init c = adds_none _ (rect-none c.args.x c.args.y (c.args.y2 + 1))

pub loop-at-preserved : goal.loop-at-preserved
loop-at-preserved c = let a = c.args in
    adds-more c.loop-at.invariant c.mark_row.ensures (rect-more a.x c.loop-at.at a.y (a.y2 + 1) c.loop-at.auto.at)
