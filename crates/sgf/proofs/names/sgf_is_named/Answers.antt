use Rattle.sgf.specs.NamedInC.{named_in_c}
use Rattle.lists.proofs.Prelude.{sym, ap, ◌∙◌}
use Rattle.sgf.proofs.names.sgf_is_named.Goals as goal

pub returns-then-reads_as : goal.returns-then-reads_as
returns-then-reads_as c = ap named_in_c (sym c.if-reads_as.true ∙ c.reads_as.ensures)

pub returns : goal.returns
returns c = ap named_in_c (sym c.if-reads_as.false ∙ c.reads_as.ensures)
