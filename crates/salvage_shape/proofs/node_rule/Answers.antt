use Rattle.lexer.specs.Token.{lex_at}
use Rattle.parser.specs.Game.{props}
use Rattle.salvage_form.specs.Rooted.{root_rule}
use Rattle.salvage_shape.proofs.Kept.{rule-first, rule-later}
use Rattle.salvage_shape.proofs.node_rule.Goals as goal

pub returns-then-first : goal.returns-then-first
returns-then-first c = rule-first (root_rule (props (lex_at c.args.s.now c.args.at).toks)) c.args.was c.if-first.true c.root_rule.ensures

pub returns : goal.returns
returns c = rule-later (root_rule (props (lex_at c.args.s.now c.args.at).toks)) c.args.was c.if-first.false
