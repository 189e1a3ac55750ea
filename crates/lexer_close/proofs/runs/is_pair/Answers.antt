use Rattle.lists.proofs.Prelude.{refl, false≢true, ◌+◌, arith, length, lt-ltb, le-ltb}
use Rattle.lexer_close.proofs.Leads.{close-pair}
use Rattle.lexer_close.proofs.runs.is_pair.Goals as goal

pub returns-then-s-i : goal.returns-then-s-i
returns-then-s-i c = let a = c.args in
    record { 0 = rw (le-ltb (a.i + 2) (length a.s.now) (omega (arith, c.if-s-i.true))) refl; 1 = λ e. absurd (false≢true e) }

pub returns-then-s-i-lt3 : goal.returns-then-s-i-lt3
returns-then-s-i-lt3 c = let a = c.args in
    record { 0 = rw (le-ltb (a.i + 2) (length a.s.now) (omega (arith, c.if-s-i-lt3.true, c.if-s-i.false))) refl; 1 = λ e. absurd (false≢true e) }

pub returns : goal.returns
returns c = let t = c.if-s-i-lt3.false in
    let u = c.if-s-i.false in
    let a = c.args in
    record {
      0 = rw (lt-ltb (a.i + 2) (length a.s.now) (omega arith), c.is_plain.ensures, c.is_plain-2.ensures) refl;
      1 = λ e. close-pair a.s.now a.i (omega arith) c.is_plain.ensures c.is_plain-2.ensures e;
    }
