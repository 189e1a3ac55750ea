use Rattle.salvage_shape.proofs.Kept.{fate-gone, fate-there}
use Rattle.salvage_shape.specs.LocalsSum.{name_stays}
use Rattle.parser_game.proofs.GameValues.{part-is}
use Rattle.values.specs.Read.{read_identifier}
use Rattle.lexer.specs.Step.{prop_at}
use Rattle.lists.specs.Same.{same}
use Rattle.lists.proofs.Prelude.{ap, ◌∙◌, ℕ, List}
use Rattle.salvage_shape.proofs.fate_at.Goals as goal

pub returns-then-not-stays : goal.returns-then-not-stays
unfolding prop_at
returns-then-not-stays c = fate-gone c.args.s.now c.args.root c.args.i c.args.k (c.stays.ensures ∙ ap (name_stays c.args.root.bad) (part-is c.args.s.now c.args.i c.args.k c.requires.1 c.requires.2)) c.if-not-stays.true

pub returns-then-reads_as : goal.returns-then-reads_as
unfolding prop_at
returns-then-reads_as c = fate-there c.args.s.now c.args.root c.args.i c.args.k (c.stays.ensures ∙ ap (name_stays c.args.root.bad) (part-is c.args.s.now c.args.i c.args.k c.requires.1 c.requires.2)) c.if-not-stays.false c.requires.0 c.requires.1 c.requires.2 c.property_length-bytes.ensures (c.reads_as.ensures ∙ ap (λ (z : List ℕ). same (read_identifier z) z) (part-is c.args.s.now c.args.i c.args.k c.requires.1 c.requires.2)) c.if-reads_as.true

pub returns : goal.returns
unfolding prop_at
returns c = fate-there c.args.s.now c.args.root c.args.i c.args.k (c.stays.ensures ∙ ap (name_stays c.args.root.bad) (part-is c.args.s.now c.args.i c.args.k c.requires.1 c.requires.2)) c.if-not-stays.false c.requires.0 c.requires.1 c.requires.2 c.property_length-bytes.ensures (c.reads_as.ensures ∙ ap (λ (z : List ℕ). same (read_identifier z) z) (part-is c.args.s.now c.args.i c.args.k c.requires.1 c.requires.2)) c.if-reads_as.false
