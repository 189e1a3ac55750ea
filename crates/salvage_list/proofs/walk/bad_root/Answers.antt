use Rattle.salvage_list.proofs.Gms.{gathered-first, gathered-other, gathered-one, gathered-two, gathered-by, gathered_none}
use Rattle.parser_game.proofs.Gather.{no-property}
use Rattle.parser_game.proofs.GameValues.{part-is}
use Rattle.parser.proofs.Meets.{meets}
use Rattle.parser.specs.Game.{GM}
use Rattle.lexer.proofs.Within.{found_within}
use Rattle.lexer.specs.Step.{prop_at}
use Rattle.lexer.specs.Token.{Lexed}
use Rattle.values.specs.Read.{read_identifier}
use Rattle.lists.specs.Same.{same}
use Rattle.lists.proofs.Prelude.{arith, ap, ◌∙◌, List, ℕ}
use borrow.Author.Rules.{rules}
use borrow.Enum.Refused.{opened}
use Rattle.salvage_list.proofs.walk.bad_root.Goals as goal

pub loop-i-init : goal.loop-i-init
loop-i-init c = gathered-first _ _ _

pub slice_bounds-reads_as-count : goal.slice_bounds-reads_as-count
slice_bounds-reads_as-count c = let w = (found_within c.args.s.now _ _ _ c.next_token.ensures c.in-Property.is) in omega arith

pub returns-then-found : goal.returns-then-found
unfolding prop_at
returns-then-found c = gathered-two c.loop-i.invariant _ _ _ _ (ap (λ (z : Lexed). z.toks) (meets c.args.s.now c.loop-i.at c.next_token.ensures c.in-Property.is)) (let w = (found_within c.args.s.now _ _ _ c.next_token.ensures c.in-Property.is) in c.reads_as.ensures ∙ ap (λ (z : List ℕ). same (read_identifier z) GM) (part-is c.args.s.now _ _ w.1 (omega arith))) c.if-reads_as.true c.if-found.true

pub loop-i-smaller-then-reads_as : goal.loop-i-smaller-then-reads_as
loop-i-smaller-then-reads_as c = let w = (found_within c.args.s.now _ _ _ c.next_token.ensures c.in-Property.is) in omega arith

pub loop-i-preserved-then-reads_as : goal.loop-i-preserved-then-reads_as
unfolding prop_at
loop-i-preserved-then-reads_as c = gathered-one c.loop-i.invariant _ _ _ _ (ap (λ (z : Lexed). z.toks) (meets c.args.s.now c.loop-i.at c.next_token.ensures c.in-Property.is)) (let w = (found_within c.args.s.now _ _ _ c.next_token.ensures c.in-Property.is) in c.reads_as.ensures ∙ ap (λ (z : List ℕ). same (read_identifier z) GM) (part-is c.args.s.now _ _ w.1 (omega arith))) c.if-reads_as.true c.if-found.false

pub loop-i-smaller : goal.loop-i-smaller
loop-i-smaller c = let w = (found_within c.args.s.now _ _ _ c.next_token.ensures c.in-Property.is) in omega arith

pub loop-i-preserved : goal.loop-i-preserved
unfolding prop_at
loop-i-preserved c = gathered-other c.loop-i.invariant _ _ _ _ (ap (λ (z : Lexed). z.toks) (meets c.args.s.now c.loop-i.at c.next_token.ensures c.in-Property.is)) (let w = (found_within c.args.s.now _ _ _ c.next_token.ensures c.in-Property.is) in c.reads_as.ensures ∙ ap (λ (z : List ℕ). same (read_identifier z) GM) (part-is c.args.s.now _ _ w.1 (omega arith))) c.if-reads_as.false

pub returns-then-found-2 : goal.returns-then-found-2
returns-then-found-2 c = gathered-by c.loop-i.invariant (no-property c.args.s.now _ c.next_token.ensures (opened c.in_default.in_default-own.keys2)) c.if-found-2.true c.no_game.ensures

pub returns : goal.returns
returns c = gathered_none c.loop-i.invariant (no-property c.args.s.now _ c.next_token.ensures (opened c.in_default.in_default-own.keys2)) c.if-found-2.false

pub slice_bounds-reads_as-start : goal.slice_bounds-reads_as-start
slice_bounds-reads_as-start c = let w = (found_within c.args.s.now _ _ _ c.next_token.ensures c.in-Property.is) in search rules

pub slice_bounds-reads_as-end : goal.slice_bounds-reads_as-end
slice_bounds-reads_as-end c = let w = (found_within c.args.s.now _ _ _ c.next_token.ensures c.in-Property.is) in search rules
