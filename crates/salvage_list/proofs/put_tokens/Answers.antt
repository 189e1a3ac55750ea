use Rattle.salvage_list.proofs.Slices.{tokens_none, tokens-empty, tokens-ready}
use Rattle.salvage_list.proofs.Puts.{puts_one}
use Rattle.salvage_mend.specs.Changes.{empty_root}
use Rattle.lists.proofs.Prelude.{arith, refl}
use Rattle.salvage_list.proofs.put_tokens.Goals as goal

pub put_tail-requires : goal.put_tail-requires
put_tail-requires c = let h = c.put_entry-e.ensures.0 in (c.requires.0, omega arith)

pub put_slices-requires : goal.put_slices-requires
put_slices-requires c = tokens-ready c.args.s.now c.args.from c.survey_lenient.ensures c.in-Slices.is c.requires.0 c.requires.1

pub returns-in-Refused : goal.returns-in-Refused
returns-in-Refused c = tokens_none c.args.s.now c.args.from c.survey_lenient.ensures c.in-Refused.is _

pub returns-in-Empty : goal.returns-in-Empty
returns-in-Empty c = tokens-empty c.args.s.now c.args.from c.survey_lenient.ensures c.in-Empty.is (puts_one (empty_root 0) c.put_entry-e.ensures.0 c.put_entry-e.ensures.1 refl) c.put_tail.ensures

pub shape_of-rows-in-Slices : goal.shape_of-rows-in-Slices
shape_of-rows-in-Slices c = c.put_slices.ensures.put.len
