use Rattle.lists.proofs.Prelude.{◌∙◌, sym}
use Rattle.go_shape.proofs.Identifiers.{letter-past, letter-here, letter-on}
use Rattle.go_shape.proofs.next_letter.Goals as goal

pub returns-then-is_ascii_uppercase : goal.returns-then-is_ascii_uppercase
returns-then-is_ascii_uppercase c = let at = c.loop-at.at in
    c.loop-at.invariant ∙ letter-here c.args.s.now at c.loop-at-test.true (sym c.if-is_ascii_uppercase.ensures.value)

pub loop-at-preserved : goal.loop-at-preserved
loop-at-preserved c = let at = c.loop-at.at in
    c.loop-at.invariant ∙ letter-on c.args.s.now at c.loop-at-test.true (sym c.if-is_ascii_uppercase.ensures.value)

pub returns : goal.returns
returns c = c.loop-at.invariant ∙ letter-past c.args.s.now c.loop-at.at c.loop-at-test.false
