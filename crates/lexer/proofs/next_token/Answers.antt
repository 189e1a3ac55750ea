use Rattle.lexer.specs.Step.{next_at}
use Rattle.lexer.proofs.next_token.Goals as goal

pub returns-in-Start : goal.returns-in-Start
unfolding next_at
returns-in-Start c = rw (← c.next_head.ensures, c.in-Start.is)

pub returns-in-End : goal.returns-in-End
unfolding next_at
returns-in-End c = rw (← c.next_head.ensures, c.in-End.is)

pub returns-in-Node : goal.returns-in-Node
unfolding next_at
returns-in-Node c = rw (← c.next_head.ensures, c.in-Node.is)

pub returns-in-Name : goal.returns-in-Name
unfolding next_at
returns-in-Name c = rw (← c.next_head.ensures, c.in-Name.is) c.property.ensures

pub returns-in-Refused : goal.returns-in-Refused
unfolding next_at
returns-in-Refused c = rw (← c.next_head.ensures, c.in-Refused.is)

pub returns-in-Done : goal.returns-in-Done
unfolding next_at
returns-in-Done c = rw (← c.next_head.ensures, c.in-Done.is)
