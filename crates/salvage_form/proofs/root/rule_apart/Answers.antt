use Rattle.lexer.specs.Token.{lex_at}
use Rattle.parser.specs.Game.{props}
use Rattle.salvage_form.proofs.Rooting.{rule-is}
use Rattle.salvage_form.proofs.root.rule_apart.Goals as goal

pub returns : goal.returns
returns c = rule-is (props (lex_at c.args.s.now c.args.at).toks) c.root_size.ensures c.root_game.ensures c.rule_by.ensures
