use Rattle.edit_answer.proofs.Tested.{gm-not, gm-two}
use Rattle.edit_answer.proofs.is_gm.Goals as goal

pub returns-then-name-ne2 : goal.returns-then-name-ne2
returns-then-name-ne2 c = gm-not c.args.name.now c.if-name-ne2.true

pub returns : goal.returns
returns c = gm-two c.args.name.now c.if-name-ne2.false
