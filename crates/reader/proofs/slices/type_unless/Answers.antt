use Rattle.reader.proofs.Plants.{go-type}
use Rattle.reader.proofs.slices.type_unless.Goals as goal

pub returns-then-go : goal.returns-then-go
returns-then-go c = go-type c.args.lenient (c.requires c.if-go.true)
