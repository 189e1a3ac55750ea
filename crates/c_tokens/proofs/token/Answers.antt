use Rattle.lexer.proofs.Within.{found_within}
use Rattle.lists.proofs.Prelude.{arith, refl, ◌∙◌}
use Rattle.c_tokens.proofs.token.Goals as goal

pub overflow_add-i : goal.overflow_add-i
overflow_add-i c = let w = found_within c.args.text.now _ _ _ c.next_token.ensures c.in-Start.is in omega arith

pub overflow_add-i-in-End : goal.overflow_add-i-in-End
overflow_add-i-in-End c = let w = found_within c.args.text.now _ _ _ c.next_token.ensures c.in-End.is in omega arith

pub overflow_add-i-in-Node : goal.overflow_add-i-in-Node
overflow_add-i-in-Node c = let w = found_within c.args.text.now _ _ _ c.next_token.ensures c.in-Node.is in omega arith

pub returns-in-Start : goal.returns-in-Start
returns-in-Start c = rw (← c.next_token.ensures, c.in-Start.is) c.single.ensures

pub returns-in-End : goal.returns-in-End
returns-in-End c = rw (← c.next_token.ensures, c.in-End.is) c.single-in-End.ensures

pub returns-in-Node : goal.returns-in-Node
returns-in-Node c = rw (← c.next_token.ensures, c.in-Node.is) c.single-in-Node.ensures

pub returns-in-Property : goal.returns-in-Property
returns-in-Property c = rw (← c.next_token.ensures, c.in-Property.is) (refl, refl, refl, refl, refl)

pub returns-in-Refused : goal.returns-in-Refused
returns-in-Refused c = rw (← c.next_token.ensures, c.in-Refused.is) (let e = c.faulty.ensures in (e.0, e.1 ∙ c.from.ensures, e.2, e.3, e.4))

pub returns-in-Done : goal.returns-in-Done
returns-in-Done c = rw (← c.next_token.ensures, c.in-Done.is) c.single-in-Done.ensures
