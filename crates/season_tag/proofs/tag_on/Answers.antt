use Rattle.season_tag.proofs.Tags.{tag-turn, tag-end}
use Rattle.season_tag.proofs.tag_on.Goals as goal

pub loop-b-preserved : goal.loop-b-preserved
loop-b-preserved c = tag-turn c.args.s.now c.loop-b.b-index c.loop-b.h c.step-h.result _ c.loop-b-test.true c.step-h.ensures c.loop-b.invariant

pub returns : goal.returns
returns c = tag-end c.args.s.now c.loop-b.b-index c.loop-b.h _ c.loop-b-test.false c.loop-b.invariant
