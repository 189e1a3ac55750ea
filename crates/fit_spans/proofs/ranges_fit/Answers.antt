use Rattle.fit_spans.proofs.Ranges.{ranges-are}
use Rattle.fit_spans.proofs.ranges_fit.Goals as goal

pub returns : goal.returns
returns c = let a = c.args in ranges-are a.counts a.nodes.now a.properties.now c.ranges_follow.ensures c.ranges_follow-2.ensures
