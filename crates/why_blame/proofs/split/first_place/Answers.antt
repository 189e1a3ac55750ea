use Rattle.lists.proofs.Prelude.{refl, sym, ap}
use Rattle.lexer.specs.Token.{Lexed}
use Rattle.lexer.specs.Step.{prop_at}
use Rattle.parser.proofs.Meets.{meets}
use Rattle.why_blame.specs.Cuts.{first_place}
use Rattle.why_blame.proofs.split.first_place.Goals as goal

pub returns-in-Start : goal.returns-in-Start
returns-in-Start c = sym (ap (λ (z : Lexed). first_place c.args.none z.toks z.end) (meets c.args.s.now c.args.from c.in-Start.ensures refl))

pub returns-in-Start-2 : goal.returns-in-Start-2
returns-in-Start-2 c = sym (ap (λ (z : Lexed). first_place c.args.none z.toks z.end) (meets c.args.s.now c.args.from c.in-Start.ensures refl))

pub returns-in-Start-3 : goal.returns-in-Start-3
returns-in-Start-3 c = sym (ap (λ (z : Lexed). first_place c.args.none z.toks z.end) (meets c.args.s.now c.args.from c.in-Start.ensures refl))

pub returns-in-Property : goal.returns-in-Property
unfolding prop_at
returns-in-Property c = sym (ap (λ (z : Lexed). first_place c.args.none z.toks z.end) (meets c.args.s.now c.args.from c.next_token.ensures c.in-Property.is))

pub returns-in-Refused : goal.returns-in-Refused
returns-in-Refused c = sym (ap (λ (z : Lexed). first_place c.args.none z.toks z.end) (meets c.args.s.now c.args.from c.next_token.ensures c.in-Refused.is))

pub returns-in-Done : goal.returns-in-Done
returns-in-Done c = sym (ap (λ (z : Lexed). first_place c.args.none z.toks z.end) (meets c.args.s.now c.args.from c.next_token.ensures c.in-Done.is))
