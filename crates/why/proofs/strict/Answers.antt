use Rattle.lists.proofs.Prelude.{false}
use Rattle.why.proofs.Seeking.{simple-told, wrong-told, sound-told}
use Rattle.why.proofs.strict.Goals as goal

pub returns-in-Simple : goal.returns-in-Simple
returns-in-Simple c = simple-told false c.args.text.now c.in_text.ensures c.in-Simple.is

pub returns-in-Wrong : goal.returns-in-Wrong
returns-in-Wrong c = wrong-told false c.args.text.now c.in_text.ensures c.in-Wrong.is

pub returns-in-Ok : goal.returns-in-Ok
returns-in-Ok c = sound-told false c.args.text.now c.in_text.ensures c.in-Sound.is c.count_strict.ensures c.in-Ok.is

pub returns-in-Err : goal.returns-in-Err
returns-in-Err c = sound-told false c.args.text.now c.in_text.ensures c.in-Sound.is c.count_strict.ensures c.in-Err.is
