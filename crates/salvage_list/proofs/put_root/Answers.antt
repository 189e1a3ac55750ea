use Rattle.salvage_list.proofs.Puts.{root-one, root_none}
use Rattle.salvage_list.proofs.put_root.Goals as goal

pub returns-then-none : goal.returns-then-none
returns-then-none c = root-one c.args.tree 0 c.if-none.true c.put_entry.ensures

pub returns : goal.returns
returns c = root_none _ _ c.args.tree c.if-none.false
