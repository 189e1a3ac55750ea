use Rattle.lists.proofs.Prelude.{arith, sym, refl, subst}
use Rattle.salvage_mend.specs.Changes.{tail_dropped}
use Rattle.salvage_list.specs.LocalsPuts.{TailIs}
use Rattle.salvage_list.proofs.Puts.{puts-as, puts_one, puts_none}
use Rattle.salvage_list.proofs.put_tail.Goals as goal

pub put_entry-requires : goal.put_entry-requires
put_entry-requires c = let w = subst (TailIs _ _) c.in-Some.is c.tail_at.ensures in let p = c.requires in let b = w.1 in (p.1, omega arith, omega arith)

pub returns-in-Some : goal.returns-in-Some
returns-in-Some c = let w = subst (TailIs _ _) c.in-Some.is c.tail_at.ensures in puts-as (puts_one (tail_dropped _) c.put_entry.ensures.0 c.put_entry.ensures.1 refl) (sym w.0)

pub returns-in-None : goal.returns-in-None
returns-in-None c = puts-as (puts_none _ _) (sym (subst (TailIs _ _) c.in-None.is c.tail_at.ensures))
