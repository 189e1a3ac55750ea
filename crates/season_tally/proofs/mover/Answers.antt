use Rattle.lists.proofs.Prelude.{refl, sym, ◌∙◌}
use Rattle.season_tally.proofs.Playing.{mover-black, mover-white, mover-none, one-letter}
use Rattle.season_tally.proofs.mover.Goals as goal

pub returns-then-identifier-eq1 : goal.returns-then-identifier-eq1
returns-then-identifier-eq1 c = one-letter c.args.identifier.now c.if-identifier-eq1.true refl c.letter_mover.ensures

pub returns-then-reads_as : goal.returns-then-reads_as
returns-then-reads_as c = mover-black _ (sym c.reads_as.ensures ∙ c.if-reads_as.true)

pub returns-then-reads_as-2 : goal.returns-then-reads_as-2
returns-then-reads_as-2 c = mover-white _ (sym c.reads_as.ensures ∙ c.if-reads_as.false) (sym c.reads_as-2.ensures ∙ c.if-reads_as-2.true)

pub returns : goal.returns
returns c = mover-none _ (sym c.reads_as.ensures ∙ c.if-reads_as.false) (sym c.reads_as-2.ensures ∙ c.if-reads_as-2.false)
