use Rattle.lists.proofs.Prelude.{ℕ, refl, subst, length, arith}
use Rattle.lexer.specs.Token.{lex_at}
use Rattle.lexer.proofs.Within.{found_within}
use Rattle.parser.proofs.Meets.{meets}
use Rattle.parser.proofs.Splits.{Splitting-at, split-first, split-start, split-node, split-prop, split-slice, split-end, split-stop}
use Rattle.parser.proofs.split_tokens.Goals as goal

pub loop-i-init : goal.loop-i-init
loop-i-init c = split-first _ _ _

pub overflow_add-at : goal.overflow_add-at
overflow_add-at c = let w = (found_within c.args.s.now _ _ _ c.next_token.ensures c.in-Start.is) in omega arith

pub overflow_add-depth : goal.overflow_add-depth
overflow_add-depth c = let w = (found_within c.args.s.now _ _ _ c.next_token.ensures c.in-Start.is) in let x = c.loop-i.invariant.bound in omega arith

pub loop-i-smaller-in-Start : goal.loop-i-smaller-in-Start
loop-i-smaller-in-Start c = let w = (found_within c.args.s.now _ _ _ c.next_token.ensures c.in-Start.is) in omega arith

pub loop-i-preserved-in-Start : goal.loop-i-preserved-in-Start
loop-i-preserved-in-Start c = let w = (found_within c.args.s.now _ _ _ c.next_token.ensures c.in-Start.is) in split-start c.loop-i.invariant _ _ w.0 w.1 (meets c.args.s.now _ c.next_token.ensures c.in-Start.is) c.max-deepest.ensures

pub returns-then-depth-eq0 : goal.returns-then-depth-eq0
returns-then-depth-eq0 c = let w = (found_within c.args.s.now _ _ _ c.next_token.ensures c.in-End.is) in split-stop c.args.s.now (subst (λ (d : ℕ). Splitting-at (length c.args.s.now) (lex_at c.args.s.now c.args.from) (lex_at c.args.s.now c.loop-i.at) c.loop-i.at d c.loop-i.deepest c.loop-i.n) c.if-depth-eq0.true c.loop-i.invariant) _ (meets c.args.s.now _ c.next_token.ensures c.in-End.is) (refl, w.1)

pub overflow_add-at-in-End : goal.overflow_add-at-in-End
overflow_add-at-in-End c = let w = (found_within c.args.s.now _ _ _ c.next_token.ensures c.in-End.is) in omega arith

pub overflow_add-n : goal.overflow_add-n
overflow_add-n c = let w = (found_within c.args.s.now _ _ _ c.next_token.ensures c.in-End.is) in let x = c.loop-i.invariant.bound in omega arith

pub loop-i-smaller-then-depth-eq0-2 : goal.loop-i-smaller-then-depth-eq0-2
loop-i-smaller-then-depth-eq0-2 c = let w = (found_within c.args.s.now _ _ _ c.next_token.ensures c.in-End.is) in omega arith

pub loop-i-preserved-then-depth-eq0-2 : goal.loop-i-preserved-then-depth-eq0-2
loop-i-preserved-then-depth-eq0-2 c = let w = (found_within c.args.s.now _ _ _ c.next_token.ensures c.in-End.is) in split-slice c.loop-i.invariant _ _ w.0 w.1 (meets c.args.s.now _ c.next_token.ensures c.in-End.is) c.if-depth-eq0.false c.if-depth-eq0-2.true

pub loop-i-smaller-else-depth-eq0-2 : goal.loop-i-smaller-else-depth-eq0-2
loop-i-smaller-else-depth-eq0-2 c = let w = (found_within c.args.s.now _ _ _ c.next_token.ensures c.in-End.is) in omega arith

pub loop-i-preserved-else-depth-eq0-2 : goal.loop-i-preserved-else-depth-eq0-2
loop-i-preserved-else-depth-eq0-2 c = let w = (found_within c.args.s.now _ _ _ c.next_token.ensures c.in-End.is) in split-end c.loop-i.invariant _ _ w.0 w.1 (meets c.args.s.now _ c.next_token.ensures c.in-End.is) c.if-depth-eq0-2.false

pub overflow_add-at-in-Node : goal.overflow_add-at-in-Node
overflow_add-at-in-Node c = let w = (found_within c.args.s.now _ _ _ c.next_token.ensures c.in-Node.is) in omega arith

pub loop-i-smaller-in-Node : goal.loop-i-smaller-in-Node
loop-i-smaller-in-Node c = let w = (found_within c.args.s.now _ _ _ c.next_token.ensures c.in-Node.is) in omega arith

pub loop-i-preserved-in-Node : goal.loop-i-preserved-in-Node
loop-i-preserved-in-Node c = let w = (found_within c.args.s.now _ _ _ c.next_token.ensures c.in-Node.is) in split-node c.loop-i.invariant _ _ w.0 w.1 (meets c.args.s.now _ c.next_token.ensures c.in-Node.is)

pub loop-i-smaller : goal.loop-i-smaller
loop-i-smaller c = let w = (found_within c.args.s.now _ _ _ c.next_token.ensures c.in-Property.is) in omega arith

pub loop-i-preserved : goal.loop-i-preserved
loop-i-preserved c = let w = (found_within c.args.s.now _ _ _ c.next_token.ensures c.in-Property.is) in split-prop c.loop-i.invariant _ c.in-Property.field-0 w.0 (omega arith) (meets c.args.s.now _ c.next_token.ensures c.in-Property.is) (omega arith)

pub returns-in-Refused : goal.returns-in-Refused
returns-in-Refused c = split-stop c.args.s.now c.loop-i.invariant _ (meets c.args.s.now _ c.next_token.ensures c.in-Refused.is) tt

pub returns-in-Done : goal.returns-in-Done
returns-in-Done c = split-stop c.args.s.now c.loop-i.invariant _ (meets c.args.s.now _ c.next_token.ensures c.in-Done.is) tt
