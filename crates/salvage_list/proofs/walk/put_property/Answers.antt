use Rattle.salvage_list.proofs.Puts.{prop-none, prop-one}
use Rattle.salvage_list.specs.LocalsPuts.{entry_kind}
use Rattle.parser_game.proofs.GameValues.{part-is}
use Rattle.lexer.specs.Step.{prop_at}
use Rattle.lists.proofs.Prelude.{ap, ◌∙◌}
use Rattle.salvage_list.proofs.walk.put_property.Goals as goal

pub returns-then-kind-eq0 : goal.returns-then-kind-eq0
unfolding prop_at
returns-then-kind-eq0 c = prop-none c.args.bad c.args.p (prop_at c.args.s.now c.args.i c.args.k) (c.kind_of-kind.ensures ∙ ap (entry_kind c.args.bad) (part-is c.args.s.now c.args.i c.args.k c.requires.0 c.requires.1)) c.if-kind-eq0.true

pub returns : goal.returns
unfolding prop_at
returns c = prop-one c.args.bad c.args.p (prop_at c.args.s.now c.args.i c.args.k) (c.kind_of-kind.ensures ∙ ap (entry_kind c.args.bad) (part-is c.args.s.now c.args.i c.args.k c.requires.0 c.requires.1)) c.if-kind-eq0.false c.put_entry.ensures
