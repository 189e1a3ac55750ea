use Rattle.lists.proofs.Prelude.{refl}
use Rattle.c_tokens.proofs.next_value.Goals as goal

pub returns-in-Value : goal.returns-in-Value
returns-in-Value c = rw (← c.next_value.ensures, c.in-Value.is) (refl, refl, refl, refl)

pub returns-in-NoMore : goal.returns-in-NoMore
returns-in-NoMore c = rw (← c.next_value.ensures, c.in-NoMore.is) (refl, refl, refl, refl)

pub returns-in-Unclosed : goal.returns-in-Unclosed
returns-in-Unclosed c = rw (← c.next_value.ensures, c.in-Unclosed.is) (refl, refl, refl, refl)
