use Rattle.edit_answer.proofs.Judged.{bytes-bad, bytes-open, bytes-long, bytes-full, bytes_good}
use Rattle.lists.proofs.Prelude.{sym, ◌∙◌}
use borrow.Enum.Refused.{opened}
use Rattle.edit_answer.proofs.answer_bytes.Goals as goal

pub returns-in-NotUtf8 : goal.returns-in-NotUtf8
returns-in-NotUtf8 c = bytes-bad _ _ _ (sym c.in-NotUtf8.is ∙ c.trim.ensures)

pub returns-then-not-is_closed : goal.returns-then-not-is_closed
returns-then-not-is_closed c = bytes-open _ _ _ c.trim.ensures (opened c.in_default.in_default-own.keys2) (sym c.is_closed.ensures ∙ c.if-not-is_closed.true)

pub returns-then-length-gt-TEXT_LIMIT : goal.returns-then-length-gt-TEXT_LIMIT
returns-then-length-gt-TEXT_LIMIT c = bytes-long _ _ _ c.trim.ensures (opened c.in_default.in_default-own.keys2) (sym c.is_closed.ensures ∙ c.if-not-is_closed.false) c.if-length-gt-TEXT_LIMIT.true

pub returns-then-room-length : goal.returns-then-room-length
returns-then-room-length c = bytes-full _ _ _ c.trim.ensures (opened c.in_default.in_default-own.keys2) (sym c.is_closed.ensures ∙ c.if-not-is_closed.false) c.if-length-gt-TEXT_LIMIT.false c.if-room-length.true

pub returns : goal.returns
returns c = bytes_good _ _ _ c.trim.ensures (opened c.in_default.in_default-own.keys2) (sym c.is_closed.ensures ∙ c.if-not-is_closed.false) c.if-length-gt-TEXT_LIMIT.false c.if-room-length.false
