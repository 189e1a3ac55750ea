use Rattle.lists.proofs.Prelude.{ap}
use Rattle.c_size.specs.SizeInC.{no_size_in_c}
use Rattle.c_size.proofs.refused.Goals as goal

pub returns : goal.returns
returns c = ap no_size_in_c c.from.ensures
