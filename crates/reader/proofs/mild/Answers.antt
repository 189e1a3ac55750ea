use Rattle.lists.proofs.Prelude.{sym, ap, ◌∙◌}
use Rattle.tables.specs.declared.Reason.{Reason}
use Rattle.reader.proofs.Milds.{mild-long, mild-deep, mild-room}
use borrow.Enum.Refused.{opened}
use Rattle.reader.proofs.mild.Goals as goal
use Rattle.std.specs.Prelude.{Err}
use Rattle.tables.specs.Refusals.{refusal}

pub returns-in-Ok : goal.returns-in-Ok
returns-in-Ok c = sym c.in-Ok.is

pub returns-in-TextTooLong : goal.returns-in-TextTooLong
returns-in-TextTooLong c = mild-long c.requires c.in-Err.is c.in-TextTooLong.is

pub returns-in-NotUtf8 : goal.returns-in-NotUtf8
returns-in-NotUtf8 c = sym (c.in-Err.is ∙ ap (λ (r : Reason). Err (refusal r c.in-Err.refused.place)) c.in-NotUtf8.is)

pub returns-in-TooDeep : goal.returns-in-TooDeep
returns-in-TooDeep c = mild-deep c.requires c.in-Err.is c.in-TooDeep.is

pub returns-in_default : goal.returns-in_default
returns-in_default c = mild-room c.requires c.in-Err.is (opened c.in_default.in_default-own.keys4)
