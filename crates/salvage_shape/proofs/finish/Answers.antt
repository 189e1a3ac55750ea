use Rattle.lists.proofs.Prelude.{refl, ◌∙◌}
use Rattle.salvage_shape.proofs.Turns.{finish-step, finish-last}
use Rattle.salvage_shape.proofs.finish.Goals as goal

pub loop-depth-preserved : goal.loop-depth-preserved
loop-depth-preserved c = finish-step _ _ _ _ _ c.loop-depth-test.true c.load.ensures c.ended-c.ensures refl ∙ c.loop-depth.invariant

pub returns : goal.returns
returns c = c.chain_height.ensures ∙ finish-last _ _ _ c.loop-depth.fresh _ c.loop-depth-test.false ∙ c.loop-depth.invariant
