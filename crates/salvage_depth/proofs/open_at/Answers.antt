use Rattle.lists.proofs.Prelude.{rules}
use Rattle.salvage_depth.proofs.Steps.{bracket-least, open-first, open_next}
use Rattle.salvage_depth.proofs.open_at.Goals as goal

pub returns-then-k-eq0 : goal.returns-then-k-eq0
returns-then-k-eq0 c = let args = c.args in
    open-first args.nodes.now args.k c.if-k-eq0.true c.bracket.ensures

pub overflow_add-result : goal.overflow_add-result
overflow_add-result c = let args = c.args in
    let pre = c.requires in
    let b = pre.1 in
    let e = c.bracket-2.ensures in
    let w = c.saturating_sub.ensures in
    let l = bracket-least args.nodes.now args.k in
    search rules

pub returns : goal.returns
returns c = let args = c.args in
    let pre = c.requires in
    open_next args.nodes.now args.k c.if-k-eq0.false pre.1 pre.2 c.wide.ensures c.shut-ended.ensures c.saturating_sub.ensures c.bracket-2.ensures
