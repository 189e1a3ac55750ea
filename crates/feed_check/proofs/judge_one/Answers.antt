use Rattle.lists.proofs.Prelude.{◌∙◌}
use Rattle.lexer.specs.Closed.{closed}
use Rattle.text_utf8.specs.Trim.{trimmed}
use Rattle.feed_check.specs.Check.{bytes_judged}
use Rattle.feed_check.proofs.Judging.{tested-unknown, tested-fixed, tested-bytes}
use Rattle.feed_check.proofs.judge_one.Goals as goal

pub returns-then-not-known : goal.returns-then-not-known
returns-then-not-known c = let a = c.args in
    tested-unknown a.known a.fixed (bytes_judged a.at (trimmed a.new.now) (closed a.new.now)) c.if-not-known.true-raw

pub returns-then-fixed : goal.returns-then-fixed
returns-then-fixed c = let a = c.args in
    tested-fixed a.known a.fixed (bytes_judged a.at (trimmed a.new.now) (closed a.new.now)) c.if-not-known.false-raw c.if-fixed.true

pub judge_bytes-requires : goal.judge_bytes-requires
judge_bytes-requires c = c.requires

pub returns : goal.returns
returns c = let a = c.args in
    c.judge_bytes.ensures ∙ tested-bytes a.known a.fixed (bytes_judged a.at (trimmed a.new.now) (closed a.new.now)) c.if-not-known.false-raw c.if-fixed.false
