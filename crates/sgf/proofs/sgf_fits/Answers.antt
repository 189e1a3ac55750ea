use Rattle.sgf.specs.AskInC.{fits_in_c}
use Rattle.lists.proofs.Prelude.{sym, ap, ◌∙◌}
use Rattle.sgf.proofs.sgf_fits.Goals as goal

pub returns-then-fits : goal.returns-then-fits
returns-then-fits c = ap fits_in_c (sym c.if-fits.true ∙ c.fits.ensures)

pub returns : goal.returns
returns c = ap fits_in_c (sym c.if-fits.false ∙ c.fits.ensures)
