use Rattle.text_chars.proofs.Widths.{listed-4}
use Rattle.text_chars.proofs.four.Goals as goal

pub returns : goal.returns
returns c = rw (listed-4, c.leads.ensures, c.leads-2.ensures, c.leads-3.ensures, c.continues.ensures, c.continues-2.ensures)
