use Rattle.lists.proofs.Prelude.{ℕ, ◌^◌, ◌<◌, ◌≡◌, sym, ap, subst, arith}
use mir.Syntax.{w64}
use mir.Val.{Fits}
use Rattle.lexer.specs.Step.{behind}
use Rattle.lexer.specs.declared.Step.{Step}
use Rattle.lexer.proofs.place_behind.Goals as goal

module _ (at : ℕ) {r token : Step} (e : r ≡ token) where
  fits : behind at r < 2 ^ 64 → Fits w64 (behind at token)
  fits h = let l = subst (λ (z : Step). behind at z < 2 ^ 64) e h in omega arith

  is-behind : behind at token ≡ behind at r
  is-behind = ap (behind at) (sym e)

pub overflow_add-result : goal.overflow_add-result
overflow_add-result c = fits c.args.at c.in-Start.is c.requires

pub overflow_add-result-in-End : goal.overflow_add-result-in-End
overflow_add-result-in-End c = fits c.args.at c.in-End.is c.requires

pub overflow_add-result-in-Node : goal.overflow_add-result-in-Node
overflow_add-result-in-Node c = fits c.args.at c.in-Node.is c.requires

pub returns-in-Start : goal.returns-in-Start
returns-in-Start c = is-behind c.args.at c.in-Start.is

pub returns-in-End : goal.returns-in-End
returns-in-End c = is-behind c.args.at c.in-End.is

pub returns-in-Node : goal.returns-in-Node
returns-in-Node c = is-behind c.args.at c.in-Node.is

pub returns-in-Property : goal.returns-in-Property
returns-in-Property c = is-behind c.args.at c.in-Property.is

pub returns-in-Refused : goal.returns-in-Refused
returns-in-Refused c = is-behind c.args.at c.in-Refused.is

pub returns-in-Done : goal.returns-in-Done
returns-in-Done c = is-behind c.args.at c.in-Done.is
