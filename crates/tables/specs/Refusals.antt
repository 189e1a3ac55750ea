-- A refusal and the place that it speaks of.
use Rattle.lists.specs.Prelude.{ℕ}
use Rattle.tables.specs.declared.Refusal.{Refusal}

-- what is refused, and the place
abbrev pub refusal : {R : Type 0} → R → ℕ → Refusal R
refusal r p = record { reason = r; place = p }
