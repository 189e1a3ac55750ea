use Rattle.lists.proofs.Prelude.{refl, sym}
use Rattle.tables.proofs.Cases.{refused, passed}
use Rattle.season_tally.proofs.Playing.{played-other, played-missing, not-nothing, found_none, found_some}
use borrow.Enum.Refused.{opened}
use Rattle.season_tally.proofs.played_at.Goals as goal

pub returns-then-not-is_go : goal.returns-then-not-is_go
returns-then-not-is_go c = let a = c.args in played-other a.rule a.text.now a.properties.now a.values.now a.p (refused c.is_go.ensures c.if-not-is_go.true-raw)

pub returns-then-properties-p : goal.returns-then-properties-p
returns-then-properties-p c = let a = c.args in played-missing a.rule a.text.now a.properties.now a.values.now a.p c.if-properties-p.true

pub returns-in-Nothing : goal.returns-in-Nothing
returns-in-Nothing c = let a = c.args in
    found_none a.rule a.text.now a.properties.now a.values.now a.p (passed c.is_go.ensures c.if-not-is_go.false-raw) _ c.identifier_at.ensures
    _ c.mover-mine.ensures c.in-Nothing.is

pub returns-then-is_point : goal.returns-then-is_point
returns-then-is_point c = let a = c.args in
    found_some a.rule a.text.now a.properties.now a.values.now a.p (passed c.is_go.ensures c.if-not-is_go.false-raw) _ c.identifier_at.ensures
    _ c.mover-mine.ensures _ _ c.wide-first.ensures c.wide-count.ensures _ refl _
    (not-nothing _ (opened c.in_default.in_default-own.keys2)) (sym (c.is_point.ensures c.if-is_point.true a.rule _))

pub returns : goal.returns
returns c = let a = c.args in
    found_some a.rule a.text.now a.properties.now a.values.now a.p (passed c.is_go.ensures c.if-not-is_go.false-raw) _ c.identifier_at.ensures
    _ c.mover-mine.ensures _ _ c.wide-first.ensures c.wide-count.ensures _ c.value_by.ensures _
    (not-nothing _ (opened c.in_default.in_default-own.keys2)) c.moved.ensures
