use Rattle.lists.proofs.Prelude.{sym, ap, ◌∙◌, arith}
use Rattle.lexer.specs.Closed.{closed}
use Rattle.text_utf8.proofs.Extent.{bad-bound}
use Rattle.feed_check.specs.Check.{shut_judged, bytes_judged}
use Rattle.feed_check.proofs.Judging.{bytes-valid}
use borrow.Enum.Refused.{opened}
use Rattle.feed_check.proofs.judge_bytes.Goals as goal

pub overflow_add-result : goal.overflow_add-result
overflow_add-result c = let a = c.args in
    let h = bad-bound a.new.now _ (sym c.trim.ensures ∙ c.in-NotUtf8.is) in
    omega (arith, h, c.requires)

pub returns-in-NotUtf8 : goal.returns-in-NotUtf8
returns-in-NotUtf8 c = let a = c.args in
    sym (ap (λ x. bytes_judged a.at x (closed a.new.now)) (sym c.trim.ensures ∙ c.in-NotUtf8.is))

pub returns-then-not-is_closed : goal.returns-then-not-is_closed
returns-then-not-is_closed c = let a = c.args in
    let x = c.trim in
    sym (ap (λ y. bytes_judged a.at y (closed a.new.now)) (sym x.ensures) ∙ bytes-valid a.at x.result (closed a.new.now) (opened c.in_default.in_default-own.keys2) ∙ ap shut_judged (sym c.is_closed.ensures ∙ c.if-not-is_closed.true))

pub returns : goal.returns
returns c = let a = c.args in
    let x = c.trim in
    sym (ap (λ y. bytes_judged a.at y (closed a.new.now)) (sym x.ensures) ∙ bytes-valid a.at x.result (closed a.new.now) (opened c.in_default.in_default-own.keys2) ∙ ap shut_judged (sym c.is_closed.ensures ∙ c.if-not-is_closed.false))
