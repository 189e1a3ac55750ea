-- Demand 1 of sgf_salvage, over its contract: 0, 1, 2, 9 and 14, each exactly when, and what a refusal leaves. Assumes nothing.
use Rattle.lists.proofs.Prelude.{ℕ, ◌<◌, List, ◌≡◌}
use Rattle.reader.specs.Lent.{Lent}
use Rattle.c_answers.specs.Structs.{no_counts}
use Rattle.c_salvage.specs.SalvageInC.{SalvageInC}
use Rattle.c_salvage.specs.declared.SgfSalvage.{SgfSalvage}
use Rattle.demands.specs.Lists.{OneOf, lenient_numbers}
use Rattle.demands.specs.Requests.{OnlyAt}
use Rattle.demands.specs.Salvages.{SalvageBecause}
use Rattle.demands.proofs.SalvagedAs as salvaged

module _ (t : List ℕ) (before after : Lent) (list list' out out' : List ℕ) (r : SgfSalvage) (s : SalvageInC t before after list list' out out' r) where
  -- 1, 2, 9 of the text, with the place; 1, 9 of the result; then one 14
  pub salvage-exactly : OnlyAt (SalvageBecause t before list out) r.number r.place
  salvage-exactly = salvaged.salvage-only t before after list list' out out' r s

  pub salvage-numbers : OneOf lenient_numbers r.number
  salvage-numbers = salvaged.salvage-listed t before after list list' out out' r s

  -- any other number than 0 leaves every number of the tables and of the list, and every byte of the output
  pub salvage-stays : 0 < r.number → (after ≡ before) × (list' ≡ list) × (out' ≡ out)
  salvage-stays = salvaged.salvage-stays t before after list list' out out' r s

  -- and gives no length, no changes and no counts
  pub salvage-zeros : 0 < r.number → (r.length ≡ 0) × (r.changes ≡ 0) × (r.counts ≡ no_counts)
  salvage-zeros = salvaged.salvage-zeros t before after list list' out out' r s
