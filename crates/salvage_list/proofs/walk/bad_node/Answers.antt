use Rattle.salvage_mend.specs.Mend.{gms_among, gms_bad}
use Rattle.parser.specs.Game.{props, game_props}
use Rattle.lexer.specs.Token.{lex_at}
use Rattle.lists.proofs.Prelude.{ap, sym, ◌∙◌, Bool, ◌&&◌}
use Rattle.salvage_list.proofs.walk.bad_node.Goals as goal

pub returns-then-first : goal.returns-then-first
returns-then-first c = c.bad_root.ensures ∙ ap (λ (z : Bool). z && gms_bad (game_props (gms_among (props (lex_at c.args.s.now c.args.at).toks)))) (sym c.if-first.true)

pub returns : goal.returns
returns c = ap (λ (z : Bool). z && gms_bad (game_props (gms_among (props (lex_at c.args.s.now c.args.at).toks)))) (sym c.if-first.false)
