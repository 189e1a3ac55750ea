use Rattle.lists.proofs.Prelude.{refl}
use Rattle.c_tokens.proofs.trim.Goals as goal

pub returns-in-NotUtf8 : goal.returns-in-NotUtf8
returns-in-NotUtf8 c = rw (← c.trim.ensures, c.in-NotUtf8.is) (refl, refl, refl, refl)

pub returns-in-Blank : goal.returns-in-Blank
returns-in-Blank c = rw (← c.trim.ensures, c.in-Blank.is) (refl, refl, refl, refl)

pub returns-in-Kept : goal.returns-in-Kept
returns-in-Kept c = rw (← c.trim.ensures, c.in-Kept.is) (refl, refl, refl, refl)
