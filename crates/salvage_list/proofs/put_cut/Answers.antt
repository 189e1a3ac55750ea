use Rattle.salvage_list.proofs.Puts.{cut-one, cut-none}
use Rattle.salvage_list.proofs.put_cut.Goals as goal

pub returns-then-cut : goal.returns-then-cut
returns-then-cut c = cut-one c.args.tree c.args.place c.if-cut.true c.put_entry.ensures

pub returns : goal.returns
returns c = cut-none _ _ c.args.tree c.args.place c.if-cut.false
