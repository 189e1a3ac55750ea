use Rattle.lists.proofs.Prelude.{sym, ◌∙◌}
use Rattle.salvage_rows.proofs.Searching.{searched-first, searched-next, searched-found, searched-end}
use Rattle.salvage_rows.proofs.next_gm.Goals as goal

pub loop-p-init : goal.loop-p-init
loop-p-init c = searched-first c.args.text.now c.args.properties.now c.args.from c.args.to

pub returns-then-is_gm : goal.returns-then-is_gm
returns-then-is_gm c = let a = c.args in
    let l = c.loop-p in
    searched-found a.text.now a.properties.now a.from a.to l.p l.invariant (sym c.is_gm.ensures ∙ c.if-is_gm.true)

pub loop-p-preserved : goal.loop-p-preserved
loop-p-preserved c = let a = c.args in
    let l = c.loop-p in
    searched-next a.text.now a.properties.now a.from a.to l.p l.invariant c.loop-p-test.true (sym c.is_gm.ensures ∙ c.if-is_gm.false)

pub returns : goal.returns
returns c = let a = c.args in
    let l = c.loop-p in
    searched-end a.text.now a.properties.now a.from a.to l.p l.invariant c.loop-p-test.false c.max.ensures
