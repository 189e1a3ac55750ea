use Rattle.lists.proofs.Prelude.{sym, ap, ◌∙◌}
use Rattle.c_simple.specs.InC.{simple_in_c}
use Rattle.c_simple.proofs.simple_in_c.Goals as goal

pub returns-in-Other : goal.returns-in-Other
returns-in-Other c = c.struct_of.ensures ∙ ap simple_in_c (sym c.in-Other.is)

pub returns-in-Invalid : goal.returns-in-Invalid
returns-in-Invalid c = c.struct_of-in-Invalid.ensures ∙ ap simple_in_c (sym c.in-Invalid.is)

pub returns-in-Nothing : goal.returns-in-Nothing
returns-in-Nothing c = c.struct_of-in-Nothing.ensures ∙ ap simple_in_c (sym c.in-Nothing.is)

pub returns-in-Normal : goal.returns-in-Normal
returns-in-Normal c = c.struct_of-in-Normal.ensures ∙ ap simple_in_c (sym c.in-Normal.is)

pub returns-in-Emphasized : goal.returns-in-Emphasized
returns-in-Emphasized c = c.struct_of-in-Emphasized.ensures ∙ ap simple_in_c (sym c.in-Emphasized.is)

pub returns-in-Black : goal.returns-in-Black
returns-in-Black c = c.struct_of-in-Black.ensures ∙ ap simple_in_c (sym c.in-Black.is)

pub returns-in-White : goal.returns-in-White
returns-in-White c = c.struct_of-in-White.ensures ∙ ap simple_in_c (sym c.in-White.is)

pub returns-in-Plus : goal.returns-in-Plus
returns-in-Plus c = c.struct_of-in-Plus.ensures ∙ ap simple_in_c (sym c.in-Plus.is)

pub returns-in-Minus : goal.returns-in-Minus
returns-in-Minus c = c.struct_of-in-Minus.ensures ∙ ap simple_in_c (sym c.in-Minus.is)
