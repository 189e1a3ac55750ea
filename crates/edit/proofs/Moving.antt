-- How many numbers moved rows have. Assumes nothing.
use Rattle.lists.proofs.Prelude.{ℕ, ◌*◌, List, map, ◌≡◌, ap, ◌∙◌, length, length-map}
use Rattle.tables.specs.Each.{tabulate}
use Rattle.tables.specs.Flat.{flat_props, flat_vals}
use Rattle.tables.specs.Move.{move_props, move_vals}
use Rattle.tables.proofs.Tabulate.{tabulate-length}
use Rattle.fit.specs.Record.{prop_row, val_row}
use Rattle.edit_rows.proofs.Putting.{length-props, length-vals}

module _ (f g : ℕ → ℕ) (t : List ℕ) (n : ℕ) where
  pub length-props-to : (k : ℕ) → length (flat_props (map (move_props f g) (tabulate (prop_row t) 0 k))) ≡ k * 4
  length-props-to k =
      length-props (map (move_props f g) (tabulate (prop_row t) 0 k))
      ∙ ap (λ (z : ℕ). z * 4) (length-map (tabulate (prop_row t) 0 k) (move_props f g) ∙ tabulate-length (prop_row t) 0 k)

  pub length-vals-to : (k : ℕ) → length (flat_vals (map (move_vals f g) (tabulate (val_row t) 0 k))) ≡ k * 2
  length-vals-to k =
      length-vals (map (move_vals f g) (tabulate (val_row t) 0 k))
      ∙ ap (λ (z : ℕ). z * 2) (length-map (tabulate (val_row t) 0 k) (move_vals f g) ∙ tabulate-length (val_row t) 0 k)
