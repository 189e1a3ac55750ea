-- No answer is a refusal and an acceptance. Assumes nothing.
use Rattle.lists.proofs.Prelude.{ℕ, List, ◌≡◌}
use Rattle.lists.proofs.Tests.{never}
use Rattle.tables.specs.Record.{Tree}
use Rattle.tables.specs.declared.Reason.{Reason}
use Rattle.parser.specs.Read.{refused, accepted}

pub not-both : {A : Type 0} (r : Reason) (p : ℕ) (ts : List Tree) → refused r p ≡ accepted ts → A
not-both r p ts e = never cc
