use Rattle.lists.proofs.Prelude.{arith, sym, ap, length}
use Rattle.lexer.specs.Token.{Lexed}
use Rattle.lexer.specs.Step.{prop_at}
use Rattle.parser.proofs.Meets.{meets}
use Rattle.salvage_list.specs.Listed.{tail_of}
use Rattle.salvage_measure.proofs.count_tail.Goals as goal

pub returns-in-Start : goal.returns-in-Start
returns-in-Start c = (sym (ap (λ (z : Lexed). length (tail_of z.toks z.end)) (meets c.args.s.now c.args.at c.next_token.ensures c.in-Start.is)), omega arith)

pub returns-in-End : goal.returns-in-End
returns-in-End c = (sym (ap (λ (z : Lexed). length (tail_of z.toks z.end)) (meets c.args.s.now c.args.at c.next_token.ensures c.in-End.is)), omega arith)

pub returns-in-Node : goal.returns-in-Node
returns-in-Node c = (sym (ap (λ (z : Lexed). length (tail_of z.toks z.end)) (meets c.args.s.now c.args.at c.next_token.ensures c.in-Node.is)), omega arith)

pub returns-in-Property : goal.returns-in-Property
unfolding prop_at
returns-in-Property c = (sym (ap (λ (z : Lexed). length (tail_of z.toks z.end)) (meets c.args.s.now c.args.at c.next_token.ensures c.in-Property.is)), omega arith)

pub returns-in-Refused : goal.returns-in-Refused
returns-in-Refused c = (sym (ap (λ (z : Lexed). length (tail_of z.toks z.end)) (meets c.args.s.now c.args.at c.next_token.ensures c.in-Refused.is)), omega arith)

pub returns-in-Done : goal.returns-in-Done
returns-in-Done c = (sym (ap (λ (z : Lexed). length (tail_of z.toks z.end)) (meets c.args.s.now c.args.at c.next_token.ensures c.in-Done.is)), omega arith)
