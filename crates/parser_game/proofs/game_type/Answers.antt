use Rattle.lists.proofs.Prelude.{ap, arith}
use Rattle.lexer.specs.Step.{prop_at}
use Rattle.lexer.specs.Token.{Lexed}
use Rattle.lexer.proofs.Within.{found_within}
use Rattle.parser.proofs.Meets.{meets}
use Rattle.parser_game.proofs.Gather.{gather-first, gather-other, gather-one, gather-two, gather-end, game-slice, no-property}
use borrow.Enum.Refused.{opened}
use Rattle.parser_game.proofs.game_type.Goals as goal

pub loop-i-init : goal.loop-i-init
loop-i-init c = gather-first _ _ _

pub is_gm-requires : goal.is_gm-requires
is_gm-requires c = let w = (found_within c.args.s.now _ _ _ c.next_token.ensures c.in-Property.is) in omega arith

pub returns-then-found : goal.returns-then-found
unfolding prop_at
returns-then-found c = game-slice c.args.s.now c.args.from c.behind-second.result c.behind-at.result c.behind-second.ensures.1 c.behind-at.ensures.1 (gather-two c.loop-i.invariant _ _ _ _ (ap (λ (z : Lexed). z.toks) (meets c.args.s.now c.loop-i.at c.next_token.ensures c.in-Property.is)) c.is_gm.ensures c.if-is_gm.true c.if-found.true)

pub loop-i-smaller-then-is_gm : goal.loop-i-smaller-then-is_gm
loop-i-smaller-then-is_gm c = let w = (found_within c.args.s.now _ _ _ c.next_token.ensures c.in-Property.is) in omega arith

pub loop-i-preserved-then-is_gm : goal.loop-i-preserved-then-is_gm
unfolding prop_at
loop-i-preserved-then-is_gm c = gather-one c.loop-i.invariant _ _ _ _ (ap (λ (z : Lexed). z.toks) (meets c.args.s.now c.loop-i.at c.next_token.ensures c.in-Property.is)) c.is_gm.ensures c.if-is_gm.true c.if-found.false

pub loop-i-smaller : goal.loop-i-smaller
loop-i-smaller c = let w = (found_within c.args.s.now _ _ _ c.next_token.ensures c.in-Property.is) in omega arith

pub loop-i-preserved : goal.loop-i-preserved
unfolding prop_at
loop-i-preserved c = gather-other c.loop-i.invariant _ _ _ _ (ap (λ (z : Lexed). z.toks) (meets c.args.s.now c.loop-i.at c.next_token.ensures c.in-Property.is)) c.is_gm.ensures c.if-is_gm.false

pub returns : goal.returns
returns c = game-slice c.args.s.now c.args.from c.behind-second.result c.behind-at.result c.behind-second.ensures.1 c.behind-at.ensures.1 (gather-end c.loop-i.invariant (no-property c.args.s.now _ c.next_token.ensures (opened c.in_default.in_default-own.keys2)) c.conclude.ensures)
