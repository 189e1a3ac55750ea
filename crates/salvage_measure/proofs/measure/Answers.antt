use Rattle.salvage_measure.proofs.measure.Goals as goal

pub returns : goal.returns
returns c = c.weigh-x.ensures.0.result
