use Rattle.lists.proofs.Prelude.{ℕ, refl, ap, ◌∙◌, List, arith}
use Rattle.lists.specs.Same.{same}
use Rattle.values.specs.Read.{read_identifier}
use Rattle.lexer.specs.Token.{Lexed, lex_at}
use Rattle.lexer.specs.Step.{prop_at}
use Rattle.lexer.proofs.Within.{found_within}
use Rattle.parser.specs.Game.{GM, props}
use Rattle.parser.proofs.Meets.{meets}
use Rattle.parser_game.proofs.GameValues.{part-is}
use Rattle.parser_game.proofs.Gather.{no-property}
use Rattle.salvage_mend.specs.Mend.{gms_among}
use Rattle.salvage_form.proofs.Roots.{gathered-first, gathered-other, gathered-one, gathered-two, gathered-by, gathered_none, as_is, gm-step, game-twice, game-by, game-absent}
use borrow.Enum.Refused.{opened}
use Rattle.salvage_form.proofs.root.root_game.Goals as goal

pub loop-i-init : goal.loop-i-init
loop-i-init c = gathered-first gms_among as_is _ _ _

pub slice_bounds-reads_as-count : goal.slice_bounds-reads_as-count
slice_bounds-reads_as-count c = let w = (found_within c.args.s.now _ _ _ c.next_token.ensures c.in-Property.is) in omega arith

pub slice_bounds-reads_as-start : goal.slice_bounds-reads_as-start
slice_bounds-reads_as-start c = let w = (found_within c.args.s.now _ _ _ c.next_token.ensures c.in-Property.is) in omega arith

pub slice_bounds-reads_as-end : goal.slice_bounds-reads_as-end
slice_bounds-reads_as-end c = let w = (found_within c.args.s.now _ _ _ c.next_token.ensures c.in-Property.is) in omega arith

pub returns-then-found : goal.returns-then-found
unfolding prop_at
returns-then-found c = game-twice (props (lex_at c.args.s.now c.args.from).toks) (gathered-two c.loop-i.invariant GM gm-step _ _ _ _ (ap (λ (z : Lexed). z.toks) (meets c.args.s.now c.loop-i.at c.next_token.ensures c.in-Property.is)) (let w = (found_within c.args.s.now _ _ _ c.next_token.ensures c.in-Property.is) in c.reads_as.ensures ∙ ap (λ (z : List ℕ). same (read_identifier z) GM) (part-is c.args.s.now _ _ w.1 (omega arith))) c.if-reads_as.true c.if-found.true)

pub loop-i-smaller-then-reads_as : goal.loop-i-smaller-then-reads_as
loop-i-smaller-then-reads_as c = let w = (found_within c.args.s.now _ _ _ c.next_token.ensures c.in-Property.is) in omega arith

pub loop-i-preserved-then-reads_as : goal.loop-i-preserved-then-reads_as
unfolding prop_at
loop-i-preserved-then-reads_as c = gathered-one c.loop-i.invariant GM gm-step _ _ _ _ (ap (λ (z : Lexed). z.toks) (meets c.args.s.now c.loop-i.at c.next_token.ensures c.in-Property.is)) (let w = (found_within c.args.s.now _ _ _ c.next_token.ensures c.in-Property.is) in c.reads_as.ensures ∙ ap (λ (z : List ℕ). same (read_identifier z) GM) (part-is c.args.s.now _ _ w.1 (omega arith))) c.if-reads_as.true c.if-found.false

pub loop-i-smaller : goal.loop-i-smaller
loop-i-smaller c = let w = (found_within c.args.s.now _ _ _ c.next_token.ensures c.in-Property.is) in omega arith

pub loop-i-preserved : goal.loop-i-preserved
unfolding prop_at
loop-i-preserved c = gathered-other c.loop-i.invariant GM gm-step _ _ _ _ (ap (λ (z : Lexed). z.toks) (meets c.args.s.now c.loop-i.at c.next_token.ensures c.in-Property.is)) (let w = (found_within c.args.s.now _ _ _ c.next_token.ensures c.in-Property.is) in c.reads_as.ensures ∙ ap (λ (z : List ℕ). same (read_identifier z) GM) (part-is c.args.s.now _ _ w.1 (omega arith))) c.if-reads_as.false

pub returns-then-found-2 : goal.returns-then-found-2
returns-then-found-2 c = let y = gathered-by c.loop-i.invariant refl (no-property c.args.s.now _ c.next_token.ensures (opened c.in_default.in_default-own.keys2)) c.if-found-2.true in game-by (props (lex_at c.args.s.now c.args.from).toks) c.args.s.now y.0 c.loop-i.k y.1 c.game_values.ensures

pub returns : goal.returns
returns c = game-absent (props (lex_at c.args.s.now c.args.from).toks) (gathered_none c.loop-i.invariant refl (no-property c.args.s.now _ c.next_token.ensures (opened c.in_default.in_default-own.keys2)) c.if-found-2.false)
