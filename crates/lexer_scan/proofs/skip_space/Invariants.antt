use Rattle.lists.proofs.Prelude.{◌≡◌}
use Rattle.lexer_scan.specs.Scan.{skip_at}
use Rattle.lexer_scan.proofs.skip_space.Given as goal

abbrev pub invariant-loop-i : goal.invariant-loop-i
invariant-loop-i l = skip_at l.s l.i ≡ skip_at l.s l.from
