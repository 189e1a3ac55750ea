use Rattle.lists.proofs.Prelude.{refl, sym, ◌∙◌}
use Rattle.go_shape.proofs.Identifiers.{letter-on}
use Rattle.serialize.proofs.Walked.{named_end, named_here}
use Rattle.serialize.proofs.names.is_named.Goals as goal

pub loop-i-init : goal.loop-i-init
loop-i-init c = refl

pub returns-then-b : goal.returns-then-b
returns-then-b c = let loop = c.loop-i in
    named_here c.args.name.now loop.i c.loop-i-test.true c.if-b.true loop.invariant

pub loop-i-preserved : goal.loop-i-preserved
loop-i-preserved c = let loop = c.loop-i in
    sym (letter-on c.args.name.now loop.i c.loop-i-test.true c.if-b.false) ∙ loop.invariant

pub returns : goal.returns
returns c = let loop = c.loop-i in
    named_end c.args.name.now loop.i c.loop-i-test.false loop.invariant
