use Rattle.lists.proofs.Prelude.{sym, ◌∙◌}
use Rattle.go_size.proofs.Sizes.{searched-first, searched-next, searched-found, searched-end}
use Rattle.go_size.proofs.next_size.Goals as goal

pub loop-p-init : goal.loop-p-init
loop-p-init c = searched-first c.args.text.now c.args.properties.now c.args.from c.args.to

pub returns-then-is_size : goal.returns-then-is_size
returns-then-is_size c = let a = c.args in
    let l = c.loop-p in
    searched-found a.text.now a.properties.now a.from a.to l.p l.invariant (sym c.is_size.ensures ∙ c.if-is_size.true)

pub loop-p-preserved : goal.loop-p-preserved
loop-p-preserved c = let a = c.args in
    let l = c.loop-p in
    searched-next a.text.now a.properties.now a.from a.to l.p l.invariant c.loop-p-test.true (sym c.is_size.ensures ∙ c.if-is_size.false)

pub returns : goal.returns
returns c = let a = c.args in
    let l = c.loop-p in
    searched-end a.text.now a.properties.now a.from a.to l.p l.invariant c.loop-p-test.false c.max.ensures
