use Rattle.lists.proofs.Prelude.{true, ap, ◌∙◌}
use Rattle.tables.specs.Lenient.{as_reading}
use Rattle.why.proofs.Seeking.{simple-told, wrong-told, sound-told, mild-refused}
use Rattle.why.proofs.lenient.Goals as goal

pub returns-in-Simple : goal.returns-in-Simple
returns-in-Simple c = simple-told true c.args.text.now c.in_text.ensures c.in-Simple.is

pub returns-in-Wrong : goal.returns-in-Wrong
returns-in-Wrong c = wrong-told true c.args.text.now c.in_text.ensures c.in-Wrong.is

pub returns-in-Ok : goal.returns-in-Ok
returns-in-Ok c = sound-told true c.args.text.now c.in_text.ensures c.in-Sound.is c.count_lenient.ensures (ap as_reading c.in-Ok.is)

pub returns-in-Err : goal.returns-in-Err
returns-in-Err c = mild-refused c.in-Err.field-0 _ ∙ sound-told true c.args.text.now c.in_text.ensures c.in-Sound.is c.count_lenient.ensures (ap as_reading c.in-Err.is)
