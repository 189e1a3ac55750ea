use Rattle.lists.proofs.Prelude.{sym, ◌∙◌}
use Rattle.go.proofs.Marked.{gather-first, gather-end, gather-bad, gather-next}
use Rattle.parts.proofs.Valued.{values-all, values-next, values-end}
use Rattle.go.proofs.set.read_points.Goals as goal

pub loop-n-init : goal.loop-n-init
loop-n-init c = let a = c.args in gather-first (values-all a.text.now a.vals.now a.first a.count)

pub returns-then-not-mark_value : goal.returns-then-not-mark_value
returns-then-not-mark_value c = let a = c.args in
    let next = values-next a.text.now a.vals.now a.first a.count c.loop-n.n c.loop-n-test.true in
    gather-bad c.loop-n.invariant next c.value_at-value.ensures (sym c.mark_value.ensures.0 ∙ c.if-not-mark_value.true)

pub loop-n-preserved : goal.loop-n-preserved
loop-n-preserved c = let a = c.args in
    let next = values-next a.text.now a.vals.now a.first a.count c.loop-n.n c.loop-n-test.true in
    gather-next c.loop-n.invariant next c.value_at-value.ensures (sym c.mark_value.ensures.0 ∙ c.if-not-mark_value.false)
    c.mark_value.ensures.1

pub returns : goal.returns
returns c = let a = c.args in
    gather-end c.loop-n.invariant (values-end a.text.now a.vals.now a.first a.count c.loop-n.n c.loop-n-test.false)
