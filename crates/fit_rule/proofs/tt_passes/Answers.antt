use Rattle.fit_rule.proofs.Ruling.{passes-absent, passes-sized, passes-wrong}
use Rattle.fit_rule.proofs.tt_passes.Goals as goal

pub returns-in-Absent : goal.returns-in-Absent
returns-in-Absent c = passes-absent c.in-Absent.is

pub returns-in-Sized : goal.returns-in-Sized
returns-in-Sized c = passes-sized c.in-Sized.is

pub returns-in-Wrong : goal.returns-in-Wrong
returns-in-Wrong c = passes-wrong c.in-Wrong.is
