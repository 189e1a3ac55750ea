use Rattle.lexer.proofs.property.Goals as goal

pub returns-in-Some : goal.returns-in-Some
returns-in-Some c = rw (← c.values_end.ensures, c.in-Some.is)

pub returns-in-None : goal.returns-in-None
returns-in-None c = rw (← c.values_end.ensures, c.in-None.is)
