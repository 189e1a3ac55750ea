use Rattle.lists.proofs.Prelude.{ℕ, sym, ap, ◌∙◌}
use Rattle.c_why.specs.WhyInC.{shown_as, shown_fact}
use Rattle.c_why.proofs.fact_in_c.Goals as goal

pub returns-in-Length : goal.returns-in-Length
returns-in-Length c = c.numbers.ensures ∙ ap shown_fact (sym c.in-Length.is)

pub returns-in-BadSequence : goal.returns-in-BadSequence
returns-in-BadSequence c = c.numbers-in-BadSequence.ensures ∙ ap shown_fact (sym c.in-BadSequence.is)

pub returns-in-NoBracket : goal.returns-in-NoBracket
returns-in-NoBracket c = c.numbers-in-NoBracket.ensures ∙ ap shown_fact (sym c.in-NoBracket.is)

pub returns-in-Foreign : goal.returns-in-Foreign
returns-in-Foreign c = c.numbers-in-Foreign.ensures ∙ ap shown_fact (sym c.in-Foreign.is)

pub returns-in-NotClosed : goal.returns-in-NotClosed
returns-in-NotClosed c = c.numbers-in-NotClosed.ensures ∙ ap shown_fact (sym c.in-NotClosed.is)

pub returns-in-EndBeyond : goal.returns-in-EndBeyond
returns-in-EndBeyond c = c.numbers-in-EndBeyond.ensures ∙ ap shown_fact (sym c.in-EndBeyond.is)

pub returns-in-StaysOpen : goal.returns-in-StaysOpen
returns-in-StaysOpen c = c.numbers-in-StaysOpen.ensures ∙ ap shown_fact (sym c.in-StaysOpen.is)

pub returns-in-NoNode : goal.returns-in-NoNode
returns-in-NoNode c = c.numbers-in-NoNode.ensures ∙ ap shown_fact (sym c.in-NoNode.is)

pub returns-in-NoEnd : goal.returns-in-NoEnd
returns-in-NoEnd c = c.numbers-in-NoEnd.ensures ∙ ap shown_fact (sym c.in-NoEnd.is)

pub returns-in-TooDeep : goal.returns-in-TooDeep
returns-in-TooDeep c = c.numbers-in-TooDeep.ensures ∙ ap shown_fact (sym c.in-TooDeep.is)

pub returns-in-EmptyList : goal.returns-in-EmptyList
returns-in-EmptyList c = c.numbers-in-EmptyList.ensures ∙ ap (λ (d : ℕ). shown_as 10 11 d) c.wide.ensures ∙ ap shown_fact (sym c.in-EmptyList.is)

pub returns-in-SecondGm : goal.returns-in-SecondGm
returns-in-SecondGm c = c.numbers-in-SecondGm.ensures ∙ ap shown_fact (sym c.in-SecondGm.is)

pub returns-in-Stray : goal.returns-in-Stray
returns-in-Stray c = c.numbers-in-Stray.ensures ∙ ap shown_fact (sym c.in-Stray.is)

pub returns-in-GmValues : goal.returns-in-GmValues
returns-in-GmValues c = c.numbers-in-GmValues.ensures ∙ ap shown_fact (sym c.in-GmValues.is)

pub returns-in-GmNumber : goal.returns-in-GmNumber
returns-in-GmNumber c = c.numbers-in-GmNumber.ensures ∙ ap shown_fact (sym c.in-GmNumber.is)
