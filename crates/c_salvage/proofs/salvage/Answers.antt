use Rattle.c_salvage.proofs.Shown.{salvage-shown}
use Rattle.c_salvage.proofs.salvage.Goals as goal

pub returns : goal.returns
returns c = salvage-shown c.salvage.ensures c.salvage_in_c.ensures
