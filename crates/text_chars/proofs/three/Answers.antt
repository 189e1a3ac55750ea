use Rattle.text_chars.proofs.Widths.{listed-3}
use Rattle.text_chars.proofs.three.Goals as goal

pub returns : goal.returns
returns c = rw (listed-3, c.leads.ensures, c.leads-2.ensures, c.leads-3.ensures, c.leads-4.ensures, c.continues.ensures)
