use Rattle.lists.proofs.Prelude.{refl, sym, ap, ◌∙◌}
use Rattle.lexer.specs.Token.{Lexed}
use Rattle.parser.proofs.Meets.{meets, steps-end, steps_on}
use Rattle.why_blame.specs.LocalsCuts.{ending_of}
use Rattle.why_blame.proofs.split.first_fault.Goals as goal

pub loop-f-init : goal.loop-f-init
loop-f-init c = refl

pub returns-in-Refused : goal.returns-in-Refused
returns-in-Refused c = sym (ap ending_of (c.loop-f.invariant ∙ ap (λ (z : Lexed). z.end) (meets c.args.s.now _ c.next-stepped.ensures.token-is c.in-Refused.is)))

pub returns-in-Done : goal.returns-in-Done
returns-in-Done c = sym (ap ending_of (c.loop-f.invariant ∙ ap (λ (z : Lexed). z.end) (meets c.args.s.now _ c.next-stepped.ensures.token-is c.in-Done.is)))

pub loop-f-smaller : goal.loop-f-smaller
loop-f-smaller c = steps_on c.args.s.now c.loop-f.at c.next-stepped.ensures (c.in_default.not-Refused, c.in_default.not-Done)

pub loop-f-preserved : goal.loop-f-preserved
loop-f-preserved c = c.loop-f.invariant ∙ steps-end c.args.s.now c.loop-f.at c.next-stepped.ensures (c.in_default.not-Refused, c.in_default.not-Done)
