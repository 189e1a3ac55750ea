use Rattle.lists.proofs.Prelude.{◌≡◌}
use Rattle.lexer_scan.specs.Scan.{ident_at}
use Rattle.lexer_scan.proofs.ident_end.Given as goal

abbrev pub invariant-loop-i : goal.invariant-loop-i
invariant-loop-i l = ident_at l.s l.i ≡ ident_at l.s l.from
