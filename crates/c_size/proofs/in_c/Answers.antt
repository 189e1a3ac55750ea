use Rattle.lists.proofs.Prelude.{sym, ap, subst, arith}
use Rattle.go_size.specs.declared.RootSize.{RootSize}
use Rattle.c_size.specs.SizeInC.{size_in_c}
use Rattle.c_size.specs.Locals.{SmallSides}
use Rattle.c_size.proofs.in_c.Goals as goal

pub overflow_cast-result : goal.overflow_cast-result
overflow_cast-result c = let h = subst SmallSides c.in-Sized.is c.requires in omega (arith, h.0)

pub overflow_cast-result-in-Sized : goal.overflow_cast-result-in-Sized
overflow_cast-result-in-Sized c = let h = subst SmallSides c.in-Sized.is c.requires in omega (arith, h.1)

pub returns-in-Absent : goal.returns-in-Absent
returns-in-Absent c = ap (λ (s : RootSize). size_in_c s c.args.rule) (sym c.in-Absent.is)

pub returns-in-Sized : goal.returns-in-Sized
returns-in-Sized c = ap (λ (s : RootSize). size_in_c s c.args.rule) (sym c.in-Sized.is)

pub returns-in-Wrong : goal.returns-in-Wrong
returns-in-Wrong c = ap (λ (s : RootSize). size_in_c s c.args.rule) (sym c.in-Wrong.is)
