use Rattle.lists.proofs.Prelude.{arith}
use Rattle.salvage_form.proofs.Counted.{digits-few}
use Rattle.salvage_form.proofs.count_digits.Goals as goal

pub returns : goal.returns
returns c = let p = c.put_decimal.ensures.place in let d = digits-few c.args.n in (omega arith, omega arith)
