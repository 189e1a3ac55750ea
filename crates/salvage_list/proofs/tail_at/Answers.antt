use Rattle.lists.proofs.Prelude.{arith, ap, refl}
use Rattle.lexer.specs.Token.{Lexed}
use Rattle.lexer.specs.Step.{prop_at}
use Rattle.lexer.proofs.Within.{found_within}
use Rattle.parser.proofs.Meets.{meets}
use Rattle.salvage_list.specs.Listed.{tail_of}
use Rattle.salvage_list.proofs.tail_at.Goals as goal

pub returns-in-Start : goal.returns-in-Start
returns-in-Start c =
    let w = found_within c.args.s.now _ _ _ c.in-Start.ensures refl in
    (ap (λ (z : Lexed). tail_of z.toks z.end) (meets c.args.s.now c.args.at c.in-Start.ensures refl), w.1)

pub returns-in-Start-2 : goal.returns-in-Start-2
returns-in-Start-2 c =
    let w = found_within c.args.s.now _ _ _ c.in-Start.ensures refl in
    (ap (λ (z : Lexed). tail_of z.toks z.end) (meets c.args.s.now c.args.at c.in-Start.ensures refl), w.1)

pub returns-in-Start-3 : goal.returns-in-Start-3
returns-in-Start-3 c =
    let w = found_within c.args.s.now _ _ _ c.in-Start.ensures refl in
    (ap (λ (z : Lexed). tail_of z.toks z.end) (meets c.args.s.now c.args.at c.in-Start.ensures refl), w.1)

pub returns-in-Start-4 : goal.returns-in-Start-4
unfolding prop_at
returns-in-Start-4 c =
    let w = found_within c.args.s.now _ _ _ c.in-Start.ensures refl in
    (ap (λ (z : Lexed). tail_of z.toks z.end) (meets c.args.s.now c.args.at c.in-Start.ensures refl), omega arith)

pub returns-in-Start-5 : goal.returns-in-Start-5
returns-in-Start-5 c =
    let w = found_within c.args.s.now _ _ _ c.in-Start.ensures refl in
    (ap (λ (z : Lexed). tail_of z.toks z.end) (meets c.args.s.now c.args.at c.in-Start.ensures refl), w.1)

pub returns-in-Done : goal.returns-in-Done
returns-in-Done c = ap (λ (z : Lexed). tail_of z.toks z.end) (meets c.args.s.now c.args.at c.next_token.ensures c.in-Done.is)
