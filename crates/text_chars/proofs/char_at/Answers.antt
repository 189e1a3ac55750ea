use Rattle.lists.proofs.Prelude.{sym}
use Rattle.text_chars.proofs.Wide.{decoded-1, decoded-past}
use Rattle.text_chars.proofs.char_at.Goals as goal

pub returns-then-s-i : goal.returns-then-s-i
returns-then-s-i c = let args = c.args in
    sym (decoded-past args.s.now args.i c.if-s-i.true)

pub returns-then-b-lt128 : goal.returns-then-b-lt128
returns-then-b-lt128 c = let args = c.args in
    rw c.is_white.ensures (sym (decoded-1 args.s.now args.i c.if-s-i.false c.if-b-lt128.true))
