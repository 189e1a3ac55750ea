use Rattle.lists.proofs.Prelude.{◌+◌, sym, ap, ◌∙◌, Bool, pick, length, lt-ltb, le-ltb, arith}
use Rattle.edit_splice.specs.Splice.{replaced}
use Rattle.feed_apply.proofs.sweep.put_longer.Goals as goal

pub returns-then-new-old : goal.returns-then-new-old
returns-then-new-old c = let a = c.args in
    (sym (ap (λ (y : Bool). pick y (replaced a.text.now a.used a.start (a.start + a.old) a.new.now) a.text.now) (le-ltb a.old (length a.new.now) c.if-new-old.true)), omega (arith, c.if-new-old.true))

pub overflow_add-start : goal.overflow_add-start
overflow_add-start c = let a = c.args in
    omega (arith, c.requires.0 (omega (arith, c.if-new-old.false)), c.well_formed)

pub returns : goal.returns
returns c = let a = c.args in
    (c.replace.ensures ∙ sym (ap (λ (y : Bool). pick y (replaced a.text.now a.used a.start (a.start + a.old) a.new.now) a.text.now) (lt-ltb a.old (length a.new.now) (omega (arith, c.if-new-old.false)))), omega arith)
