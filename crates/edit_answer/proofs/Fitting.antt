-- A value of tables that fit lies in the used text. Assumes nothing.
use Rattle.lists.proofs.Prelude.{ℕ, ◌<◌, true, ◌≡◌}
use Rattle.tables.specs.Columns.{val_from_at, val_to_at}
use Rattle.tables.specs.Memory.{Memory}
use Rattle.fit.specs.Fit.{Fit}
use Rattle.fit.proofs.Clauses.{fit-vals}
use Rattle.fit.proofs.Whole.{fit-lent}
use Rattle.edit_splice.specs.Locals.{Within}

pub fit-within : (m : Memory) → Fit m ≡ true → (k : ℕ) → k < m.counts.values → Within m.text m.used (val_from_at m.values k) (val_to_at m.values k)
fit-within m fit k l = let v = fit-vals m fit k l in record { order = v.0; inside = v.1; lent = (fit-lent m fit).0 }
