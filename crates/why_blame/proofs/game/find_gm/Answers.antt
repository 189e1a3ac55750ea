use Rattle.lists.proofs.Prelude.{refl, ap, ◌∙◌, arith}
use Rattle.lexer.specs.Token.{Lexed, lex_at}
use Rattle.lexer.specs.Step.{prop_at}
use Rattle.lexer.proofs.Within.{found_within}
use Rattle.parser.specs.Game.{props, props_named, GM}
use Rattle.parser.proofs.Meets.{meets}
use Rattle.parser_game.proofs.Gather.{no-property}
use Rattle.why_blame.proofs.Games.{gm-here, gm-on}
use borrow.Enum.Refused.{opened}
use Rattle.why_blame.proofs.game.find_gm.Goals as goal

pub loop-i-init : goal.loop-i-init
loop-i-init c = refl

pub is_gm-requires : goal.is_gm-requires
is_gm-requires c = let w = (found_within c.args.s.now _ _ _ c.next_token.ensures c.in-Property.is) in omega arith

pub returns-then-is_gm : goal.returns-then-is_gm
unfolding prop_at
returns-then-is_gm c = c.loop-i.invariant ∙ (ap (λ (z : Lexed). props_named GM (props z.toks)) (meets c.args.s.now c.loop-i.at c.next_token.ensures c.in-Property.is)) ∙ gm-here c.args.s.now c.in-Property.i c.in-Property.k c.in-Property.e (lex_at c.args.s.now c.in-Property.e).toks c.is_gm.ensures c.if-is_gm.true

pub loop-i-smaller : goal.loop-i-smaller
loop-i-smaller c = let w = (found_within c.args.s.now _ _ _ c.next_token.ensures c.in-Property.is) in omega arith

pub loop-i-preserved : goal.loop-i-preserved
unfolding prop_at
loop-i-preserved c = c.loop-i.invariant ∙ (ap (λ (z : Lexed). props_named GM (props z.toks)) (meets c.args.s.now c.loop-i.at c.next_token.ensures c.in-Property.is)) ∙ gm-on c.args.s.now c.in-Property.i c.in-Property.k c.in-Property.e (lex_at c.args.s.now c.in-Property.e).toks c.is_gm.ensures c.if-is_gm.false

pub returns : goal.returns
returns c = c.loop-i.invariant ∙ ap (props_named GM) (no-property c.args.s.now _ c.next_token.ensures (opened c.in_default.in_default-own.keys2))
