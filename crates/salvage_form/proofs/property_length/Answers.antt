use Rattle.lists.proofs.Prelude.{arith}
use Rattle.salvage_form.proofs.Lengths.{length-long, length-past, length_before, length-there}
use Rattle.salvage_form.proofs.property_length.Goals as goal

pub returns-then-s-gt-TEXT_LIMIT : goal.returns-then-s-gt-TEXT_LIMIT
returns-then-s-gt-TEXT_LIMIT c = (length-long c.args.s.now c.args.rule c.args.i c.args.k c.if-s-gt-TEXT_LIMIT.true, omega arith)

pub returns-then-s-k : goal.returns-then-s-k
returns-then-s-k c = (length-past c.args.s.now c.args.rule c.args.i c.args.k c.if-s-k.true, omega arith)

pub returns-then-k-i : goal.returns-then-k-i
returns-then-k-i c = (length_before c.args.s.now c.args.rule c.args.i c.args.k c.if-k-i.true, omega arith)

pub form_length-requires : goal.form_length-requires
form_length-requires c = (c.if-s-gt-TEXT_LIMIT.false, c.if-k-i.false, c.if-s-k.false)

pub returns : goal.returns
returns c = (length-there c.args.s.now c.args.rule c.args.i c.args.k c.if-s-gt-TEXT_LIMIT.false c.if-s-k.false c.if-k-i.false c.form_length.ensures.0, c.form_length.ensures.1)
