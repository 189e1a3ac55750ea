use Rattle.text_chars.proofs.Widths.{listed-2}
use Rattle.text_chars.proofs.two.Goals as goal

pub returns : goal.returns
returns c = rw listed-2 c.leads.ensures
