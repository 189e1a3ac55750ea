use Rattle.parser_tree.proofs.Walking.{walking-first, walking-long, small-state, counted}
use Rattle.parser_tree.proofs.Arms.{walking_start, walking-end, walking-node}
use Rattle.parser_tree.proofs.Adding.{walking-added, property-moves}
use Rattle.parser_tree.proofs.Giving.{gives-stopped, gives-ended, gives-deep}
use Rattle.parser_tree.proofs.Acts.{asked}
use Rattle.parser_tree.proofs.Meets.{head-lies}
use Rattle.parser_step.specs.declared.State.{State}
use Rattle.lists.proofs.Prelude.{refl, sym, ap, ◌∙◌, arith}
use Rattle.parser_tree.proofs.walk_slice.Goals as goal

pub loop-i-init : goal.loop-i-init
loop-i-init c = walking-first _ _ _ _ c.requires refl c.begin-w.ensures

pub shape_of-nodes-then-w-eq1024 : goal.shape_of-nodes-then-w-eq1024
shape_of-nodes-then-w-eq1024 c = (walking-long c.loop-i.invariant).0

pub shape_of-props-then-w-eq1024 : goal.shape_of-props-then-w-eq1024
shape_of-props-then-w-eq1024 c = (walking-long c.loop-i.invariant).1

pub shape_of-vals-then-w-eq1024 : goal.shape_of-vals-then-w-eq1024
shape_of-vals-then-w-eq1024 c = (walking-long c.loop-i.invariant).2

pub returns-then-w-eq1024 : goal.returns-then-w-eq1024
returns-then-w-eq1024 c = gives-deep c.loop-i.invariant (asked c.loop-i.invariant (sym c.in-Start.is ∙ c.look.ensures)).0 (asked c.loop-i.invariant (sym c.in-Start.is ∙ c.look.ensures)).1 c.if-w-eq1024.true

pub start-w-requires : goal.start-w-requires
start-w-requires c = (let d = c.loop-i.invariant.deep in omega (arith, d, c.if-w-eq1024.false), omega (arith, head-lies _ _ (asked c.loop-i.invariant (sym c.in-Start.is ∙ c.look.ensures)).0, c.requires.short))

pub loop-i-smaller-in-Start : goal.loop-i-smaller-in-Start
loop-i-smaller-in-Start c = omega (arith, head-lies _ _ (asked c.loop-i.invariant (sym c.in-Start.is ∙ c.look.ensures)).0, ap (λ (z : State). z.at) c.start-w.ensures.0)

pub loop-i-preserved-in-Start : goal.loop-i-preserved-in-Start
loop-i-preserved-in-Start c = walking_start c.loop-i.invariant (asked c.loop-i.invariant (sym c.in-Start.is ∙ c.look.ensures)).0 (sym (asked c.loop-i.invariant (sym c.in-Start.is ∙ c.look.ensures)).1) refl (let d = c.loop-i.invariant.deep in omega (arith, d, c.if-w-eq1024.false)) c.start-w.ensures.1 c.start-w.ensures.0

pub end-w-requires : goal.end-w-requires
end-w-requires c = (omega (arith, (asked c.loop-i.invariant (sym c.in-End.is ∙ c.look.ensures)).1), c.loop-i.invariant.deep, omega (arith, head-lies _ _ (asked c.loop-i.invariant (sym c.in-End.is ∙ c.look.ensures)).0, c.requires.short))

pub loop-i-smaller-in-End : goal.loop-i-smaller-in-End
loop-i-smaller-in-End c = omega (arith, head-lies _ _ (asked c.loop-i.invariant (sym c.in-End.is ∙ c.look.ensures)).0, ap (λ (z : State). z.at) c.end-w.ensures)

pub loop-i-preserved-in-End : goal.loop-i-preserved-in-End
loop-i-preserved-in-End c = walking-end c.loop-i.invariant (asked c.loop-i.invariant (sym c.in-End.is ∙ c.look.ensures)).0 (asked c.loop-i.invariant (sym c.in-End.is ∙ c.look.ensures)).1 c.end-w.ensures

pub node-w-requires : goal.node-w-requires
node-w-requires c = (small-state c.loop-i.invariant, omega (arith, head-lies _ _ (asked c.loop-i.invariant (sym c.in-Node.is ∙ c.look.ensures)), c.requires.short))

pub loop-i-smaller-in-Node : goal.loop-i-smaller-in-Node
loop-i-smaller-in-Node c = omega (arith, head-lies _ _ (asked c.loop-i.invariant (sym c.in-Node.is ∙ c.look.ensures)), ap (λ (z : State). z.at) c.node-w.ensures.0)

pub loop-i-preserved-in-Node : goal.loop-i-preserved-in-Node
loop-i-preserved-in-Node c = walking-node c.loop-i.invariant (asked c.loop-i.invariant (sym c.in-Node.is ∙ c.look.ensures)) c.node-w.ensures.1 c.node-w.ensures.0

pub add-w-requires : goal.add-w-requires
add-w-requires c = let z = (asked c.loop-i.invariant (sym c.in-Add.is ∙ c.look.ensures)) in let b = head-lies _ _ z.0 in let n = counted c.loop-i.invariant z.2 in (small-state c.loop-i.invariant, c.requires.short, b.1, omega (arith, b.2), n.0, n.1)

pub loop-i-smaller : goal.loop-i-smaller
loop-i-smaller c = omega (arith, property-moves c.loop-i.invariant _ _ (asked c.loop-i.invariant (sym c.in-Add.is ∙ c.look.ensures)).0 (asked c.loop-i.invariant (sym c.in-Add.is ∙ c.look.ensures)).1 c.add-w.ensures.ends)

pub loop-i-preserved : goal.loop-i-preserved
loop-i-preserved c = walking-added c.loop-i.invariant _ _ (asked c.loop-i.invariant (sym c.in-Add.is ∙ c.look.ensures)).0 (asked c.loop-i.invariant (sym c.in-Add.is ∙ c.look.ensures)).1 (asked c.loop-i.invariant (sym c.in-Add.is ∙ c.look.ensures)).2 c.add-w.ensures

pub stop-requires : goal.stop-requires
stop-requires c = (small-state c.loop-i.invariant, c.requires.short, c.loop-i.invariant.skip.inside)

pub shape_of-nodes-in-Stop : goal.shape_of-nodes-in-Stop
shape_of-nodes-in-Stop c = c.nodes-in-Stop-1.given ∙ (walking-long c.loop-i.invariant).0

pub shape_of-props-in-Stop : goal.shape_of-props-in-Stop
shape_of-props-in-Stop c = (walking-long c.loop-i.invariant).1

pub shape_of-vals-in-Stop : goal.shape_of-vals-in-Stop
shape_of-vals-in-Stop c = (walking-long c.loop-i.invariant).2

pub returns-in-Stop : goal.returns-in-Stop
returns-in-Stop c = gives-stopped c.loop-i.invariant _ (asked c.loop-i.invariant (sym c.in-Stop.is ∙ c.look.ensures)) _ _ c.stop.ensures

pub finish-requires : goal.finish-requires
finish-requires c = small-state c.loop-i.invariant

pub shape_of-nodes-in-Over : goal.shape_of-nodes-in-Over
shape_of-nodes-in-Over c = c.nodes-in-Over-1.given ∙ (walking-long c.loop-i.invariant).0

pub shape_of-props-in-Over : goal.shape_of-props-in-Over
shape_of-props-in-Over c = (walking-long c.loop-i.invariant).1

pub shape_of-vals-in-Over : goal.shape_of-vals-in-Over
shape_of-vals-in-Over c = (walking-long c.loop-i.invariant).2

pub returns-in-Over : goal.returns-in-Over
returns-in-Over c = gives-ended c.loop-i.invariant _ (asked c.loop-i.invariant (sym c.in-Over.is ∙ c.look.ensures)) _ _ c.finish.ensures
