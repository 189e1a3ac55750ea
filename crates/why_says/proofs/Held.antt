-- A fact that holds of a text, where nothing earlier applies; and what is blamed. Assumes nothing.
use Rattle.lists.proofs.Prelude.{ℕ, Bool, true, false, List}
use Rattle.why_blame.specs.declared.Fact.{Fact}
use Rattle.why_says.specs.Says.{FactSays}
use Rattle.why_says.specs.Clear.{Clear, LenientClear}
use Rattle.std.specs.Prelude.{Option, Some, None}
use Rattle.tables.specs.declared.Refusal.{Refusal}

abbrev pub ClearIn : Bool → List ℕ → Fact → Type 0
ClearIn true t f = LenientClear t f
ClearIn false t f = Clear t f

abbrev pub Held : Bool → List ℕ → Option (Refusal Fact) → Type 0
Held len t None = Unit {0}
Held len t (Some e) = FactSays t e.reason e.place × ClearIn len t e.reason
