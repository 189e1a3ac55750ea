use Rattle.lists.proofs.Prelude.{ℕ, sym, ap, ◌∙◌}
use Rattle.c_salvage.specs.SalvageInC.{salvage_in_c}
use Rattle.c_salvage.specs.declared.SgfSalvage.{SgfSalvage}
use Rattle.c_salvage.proofs.salvage_in_c.Goals as goal

abbrev refusal_of : (number place : ℕ) → SgfSalvage
refusal_of n p = record { number = n; reserved = 0; place = p; length = 0; changes = 0; counts = record { trees = 0; nodes = 0; properties = 0; values = 0 } }

pub returns-in-Ok : goal.returns-in-Ok
returns-in-Ok c = ap salvage_in_c (sym c.in-Ok.is)

pub returns-in-Err : goal.returns-in-Err
returns-in-Err c = ap (λ (n : ℕ). refusal_of n c.in-Err.refused.place) c.from.ensures ∙ ap salvage_in_c (sym c.in-Err.is)
