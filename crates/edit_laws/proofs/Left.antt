-- What an accepted edit leaves: the used text and its rows are those that the definition gives. Assumes nothing.
use Rattle.lists.proofs.Prelude.{ℕ, ◌+◌, ◌-◌, ◌/◌, ◌≤◌, ◌<◌, List, [], ◌++◌, map, append_assoc, ◌≡◌, refl, ap, ap₂, ◌∙◌, subst, arith, length, take, drop, replicate, length-map, length-append, length-drop, length-replicate, take_at}
use Rattle.lexer.specs.Move.{starts_at, ends_at}
use Rattle.tables.specs.Flat.{flat_props, flat_vals, over}
use Rattle.tables.specs.Move.{move_props, move_vals}
use Rattle.tables.specs.Rows.{PropRow, ValRow, Tables}
use Rattle.tables.specs.declared.Counts.{Counts}
use Rattle.tables.specs.Each.{tabulate}
use Rattle.fit.specs.Record.{prop_row, val_row, rows_of}
use Rattle.fit.proofs.Rows.{rows-of-flat}
use Rattle.edit_splice.specs.Splice.{cleared}
use Rattle.edit_answer.specs.Edit.{shifted}
use Rattle.edit.proofs.Moving.{length-props-to, length-vals-to}
use Rattle.fit.proofs.Parts.{tabulate-length, map-tabulate, tabulate-same}

pub text-left : (t b : List ℕ) (used : ℕ) → take (length t) (over (cleared t used) b) ≡ t
text-left t b used =
    let z : List ℕ = replicate (used - length t) 0 in
    let r : List ℕ = drop (length (t ++ z)) b in
    ap (take (length t)) (append_assoc t z r) ∙ take_at t (z ++ r) (length t) refl

length_over : (xs t : List ℕ) → length xs ≤ length t → length (over xs t) ≡ length t
length_over xs t h = length-append xs (drop (length xs) t) ∙ ap (λ (z : ℕ). length xs + z) (length-drop (length xs) t) ∙ omega arith

module _ (f g : ℕ → ℕ) where
  pub props-left : (pr : List ℕ) (n : ℕ) → tabulate (prop_row (over (flat_props (map (move_props f g) (tabulate (prop_row pr) 0 n))) pr)) 0 n ≡ map (move_props f g) (tabulate (prop_row pr) 0 n)
  props-left pr n =
      let rs : List PropRow = map (move_props f g) (tabulate (prop_row pr) 0 n) in
      let T : Tables = record { trees = []; nodes = []; props = rs; vals = [] } in
      let l : length rs ≡ n = length-map (tabulate (prop_row pr) 0 n) (move_props f g) ∙ tabulate-length (prop_row pr) 0 n in
      subst (λ (m : ℕ). tabulate (prop_row (over (flat_props rs) pr)) 0 m ≡ rs) l (ap (λ (S : Tables). S.props) (rows-of-flat T [] [] (drop (length (flat_props rs)) pr) []))

  pub vals-left : (vl : List ℕ) (n : ℕ) → tabulate (val_row (over (flat_vals (map (move_vals f g) (tabulate (val_row vl) 0 n))) vl)) 0 n ≡ map (move_vals f g) (tabulate (val_row vl) 0 n)
  vals-left vl n =
      let rs : List ValRow = map (move_vals f g) (tabulate (val_row vl) 0 n) in
      let T : Tables = record { trees = []; nodes = []; props = []; vals = rs } in
      let l : length rs ≡ n = length-map (tabulate (val_row vl) 0 n) (move_vals f g) ∙ tabulate-length (val_row vl) 0 n in
      subst (λ (m : ℕ). tabulate (val_row (over (flat_vals rs) vl)) 0 m ≡ rs) l (ap (λ (S : Tables). S.vals) (rows-of-flat T [] [] [] (drop (length (flat_vals rs)) vl)))

  -- a row by itself
  pub prop-row-left : (pr : List ℕ) (n p : ℕ) → p < n → prop_row (over (flat_props (map (move_props f g) (tabulate (prop_row pr) 0 n))) pr) p ≡ move_props f g (prop_row pr p)
  prop-row-left pr n =
      tabulate-same (prop_row (over (flat_props (map (move_props f g) (tabulate (prop_row pr) 0 n))) pr)) (λ p. move_props f g (prop_row pr p)) n (props-left pr n ∙ map-tabulate (prop_row pr) (move_props f g) 0 n)

  pub val-row-left : (vl : List ℕ) (n j : ℕ) → j < n → val_row (over (flat_vals (map (move_vals f g) (tabulate (val_row vl) 0 n))) vl) j ≡ move_vals f g (val_row vl j)
  val-row-left vl n =
      tabulate-same (val_row (over (flat_vals (map (move_vals f g) (tabulate (val_row vl) 0 n))) vl)) (λ j. move_vals f g (val_row vl j)) n (vals-left vl n ∙ map-tabulate (val_row vl) (move_vals f g) 0 n)

  -- as much is lent as before
  pub length-props-left : (pr : List ℕ) (n : ℕ) → n ≤ length pr / 4 → length (over (flat_props (map (move_props f g) (tabulate (prop_row pr) 0 n))) pr) ≡ length pr
  length-props-left pr n h = length_over (flat_props (map (move_props f g) (tabulate (prop_row pr) 0 n))) pr (omega (arith, length-props-to f g pr n n))

  pub length-vals-left : (vl : List ℕ) (n : ℕ) → n ≤ length vl / 2 → length (over (flat_vals (map (move_vals f g) (tabulate (val_row vl) 0 n))) vl) ≡ length vl
  length-vals-left vl n h = length_over (flat_vals (map (move_vals f g) (tabulate (val_row vl) 0 n))) vl (omega (arith, length-vals-to f g vl n n))

pub length-buffer-left : (t b : List ℕ) (used : ℕ) → used ≤ length b → length t ≤ length b → length (over (cleared t used) b) ≡ length b
length-buffer-left t b used h k = length_over (cleared t used) b (omega (arith, length-append t (replicate (used - length t) 0), length-replicate {A = ℕ} (used - length t) 0))

-- the rows that the tables have, once the moved ones stand in them
pub rows_left : (c : Counts) (tr nd pr vl : List ℕ) (v : ValRow) (n : ℕ)
    → rows_of c tr nd (over (flat_props (shifted (rows_of c tr nd pr vl) v n).props) pr) (over (flat_vals (shifted (rows_of c tr nd pr vl) v n).vals) vl) ≡ shifted (rows_of c tr nd pr vl) v n
rows_left c tr nd pr vl v n =
    ap₂ (λ (ps : List PropRow) (vs : List ValRow). record { trees = (rows_of c tr nd pr vl).trees; nodes = (rows_of c tr nd pr vl).nodes; props = ps; vals = vs })
    (props-left (starts_at v.from v.to n) (ends_at v.from v.to n) pr c.properties) (vals-left (starts_at v.from v.to n) (ends_at v.from v.to n) vl c.values)
