use Rattle.lists.proofs.Prelude.{refl, sym, ap, ◌∙◌}
use Rattle.lexer.specs.Token.{End, Lexed}
use Rattle.parser.specs.declared.Survey.TheVariants.{Refused}
use Rattle.tables.specs.declared.Reason.TheVariants.{UnexpectedGameTreeEnd}
use Rattle.tables.specs.declared.Reason.{Reason}
use Rattle.parser.specs.Split.{no}
use Rattle.parser.specs.LocalsSurvey.{survey_strict}
use Rattle.parser.proofs.Meets.{meets, steps-end, steps_on}
use Rattle.parser.proofs.fault_or_end.Goals as goal

pub loop-f-init : goal.loop-f-init
loop-f-init c = refl

pub returns-in-Refused : goal.returns-in-Refused
returns-in-Refused c = let s = c.args.s.now in
    ap (λ (z : Reason). Refused z c.in-Refused.i) c.from.ensures
    ∙ sym (ap (λ (z : End). survey_strict z (no UnexpectedGameTreeEnd)) (c.loop-f.invariant ∙ ap (λ (z : Lexed). z.end) (meets s _ c.next-stepped.ensures.token-is c.in-Refused.is)))

pub returns-in-Done : goal.returns-in-Done
returns-in-Done c = let s = c.args.s.now in
    sym (ap (λ (z : End). survey_strict z (no UnexpectedGameTreeEnd)) (c.loop-f.invariant ∙ ap (λ (z : Lexed). z.end) (meets s _ c.next-stepped.ensures.token-is c.in-Done.is)))

pub loop-f-smaller : goal.loop-f-smaller
loop-f-smaller c = steps_on c.args.s.now c.loop-f.at c.next-stepped.ensures (c.in_default.not-Refused, c.in_default.not-Done)

pub loop-f-preserved : goal.loop-f-preserved
loop-f-preserved c = c.loop-f.invariant ∙ steps-end c.args.s.now c.loop-f.at c.next-stepped.ensures (c.in_default.not-Refused, c.in_default.not-Done)
