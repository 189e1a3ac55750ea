use Rattle.salvage.proofs.put_list.Goals as goal

pub put_found-requires : goal.put_found-requires
put_found-requires c = c.requires c.if-weighed-gt0.true
