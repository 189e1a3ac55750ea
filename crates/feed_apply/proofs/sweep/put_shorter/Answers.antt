use Rattle.lists.proofs.Prelude.{◌+◌, sym, ap, ◌∙◌, Bool, pick, length, lt-leb, le-leb, arith}
use Rattle.edit_splice.specs.Splice.{replaced}
use Rattle.feed_apply.proofs.sweep.put_shorter.Goals as goal

pub returns-then-old-new : goal.returns-then-old-new
returns-then-old-new c = let a = c.args in
    (sym (ap (λ (y : Bool). pick y (replaced a.text.now a.used a.start (a.start + a.old) a.new.now) a.text.now) (lt-leb (length a.new.now) a.old c.if-old-new.true)), omega (arith, c.if-old-new.true))

pub returns : goal.returns
returns c = let a = c.args in
    (c.replace.ensures ∙ sym (ap (λ (y : Bool). pick y (replaced a.text.now a.used a.start (a.start + a.old) a.new.now) a.text.now) (le-leb (length a.new.now) a.old (omega (arith, c.if-old-new.false)))), omega arith)
