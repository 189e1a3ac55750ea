-- The places of the rows that an accepted edit leaves: those before the value stay, those behind it move by the change in length. Assumes nothing.
use Rattle.lists.proofs.Prelude.{ℕ, ◌≤◌, ◌<◌, List, ◌⊎◌, inl, inr, ◌≡◌, refl, ap, ◌∙◌, subst⁻¹, arith, length}
use Rattle.lexer.specs.Move.{starts_at, ends_at}
use Rattle.lexer_laws.proofs.Replace.{starts-low, starts-high, ends_low, ends-high}
use Rattle.tables.specs.Columns.{name_from_at, name_to_at, val_from_at, val_to_at}
use Rattle.tables.specs.Flat.{flat_props, flat_vals}
use Rattle.tables.specs.Memory.{Memory}
use Rattle.tables.specs.Move.{move_props, move_vals}
use Rattle.tables.specs.Rows.{PropRow, ValRow, Tables}
use Rattle.fit.specs.Locals.{RowsLent}
use Rattle.fit.specs.Record.{prop_row, val_row}
use Rattle.fit.proofs.Clauses.{fit-names, fit-vals}
use Rattle.fit.proofs.Whole.{fit-lent}
use Rattle.edit_answer.proofs.Judged.{new_text, new_rows}
use Rattle.edit_answer.specs.Edit.{gives}
use Rattle.edit.specs.Lent.{memory_after}
use Rattle.edit.proofs.Given.{Given}
use Rattle.edit.proofs.Moving.{length-props-to, length-vals-to}
use Rattle.edit_laws.specs.Edits.{Moves, PlacesMoved}
use Rattle.edit_laws.proofs.BytesLeft.{over-beyond}
use Rattle.edit_laws.proofs.Left.{prop-row-left, val-row-left, length-props-left, length-vals-left}
use Rattle.edit_laws.proofs.Stays as stays

-- a span that lies apart from the value
module _ (q e n : ℕ) (o : q ≤ e) where
  start-moves : (a b : ℕ) → a ≤ b → (b < q) ⊎ (e < a) → Moves q e n a (starts_at q e n a)
  start-moves a b h (inl l) = inl (omega arith, starts-low q e n a (omega arith))
  start-moves a b h (inr l) = inr (l, starts-high q e n a (omega arith) ∙ omega arith)

  end-moves : (a b : ℕ) → a ≤ b → (b < q) ⊎ (e < a) → Moves q e n b (ends_at q e n b)
  end-moves a b h (inl l) = inl (l, ends_low q e n b (omega arith))
  end-moves a b h (inr l) = inr (omega arith, ends-high q e n b (omega arith) ∙ omega arith)

module _ (m : Memory) (k : ℕ) (new : List ℕ) {n : ℕ} (x : Given m k new n) where
  abbrev Text : List ℕ
  Text = new_text m k new

  abbrev Rows : Tables
  Rows = new_rows m k new

  abbrev m' : Memory
  m' = memory_after (gives Text Rows) m

  abbrev q : ℕ
  q = val_from_at m.values k

  abbrev e : ℕ
  e = val_to_at m.values k

  abbrev f : ℕ → ℕ
  f = starts_at q e (length new)

  abbrev g : ℕ → ℕ
  g = ends_at q e (length new)

  order : q ≤ e
  order = (fit-vals m x.fit k x.below).0

  name-apart : (i : ℕ) → i < m.counts.properties → (name_to_at m.properties i < q) ⊎ (e < name_from_at m.properties i)
  name-apart = stays.name-apart m k new x

  val-apart : (j : ℕ) → j < m.counts.values → (j ≡ k → ⊥) → (val_to_at m.values j < q) ⊎ (e < val_from_at m.values j)
  val-apart = stays.val-apart m k new x

  name-order : (i : ℕ) → i < m.counts.properties → name_from_at m.properties i ≤ name_to_at m.properties i
  name-order i l = (fit-names m x.fit i l).0

  val-order : (j : ℕ) → j < m.counts.values → val_from_at m.values j ≤ val_to_at m.values j
  val-order j l = (fit-vals m x.fit j l).0

  prop-row : (i : ℕ) → i < m.counts.properties → prop_row m'.properties i ≡ move_props f g (prop_row m.properties i)
  prop-row = prop-row-left f g m.properties m.counts.properties

  val-row : (j : ℕ) → j < m.counts.values → val_row m'.values j ≡ move_vals f g (val_row m.values j)
  val-row = val-row-left f g m.values m.counts.values

  held : RowsLent m.counts m.trees m.nodes m.properties m.values
  held = (fit-lent m x.fit).1

  pub places-left : PlacesMoved m k (length new) m'
  places-left =
      record {
        own-start = ap (λ (r : ValRow). r.from) (val-row k x.below) ∙ starts-low q e (length new) q (omega arith);
        own-end = ap (λ (r : ValRow). r.to) (val-row k x.below) ∙ ends-high q e (length new) e (omega arith) ∙ omega arith;
        starts = λ j l d.
            subst⁻¹ (Moves q e (length new) (val_from_at m.values j)) (ap (λ (r : ValRow). r.from) (val-row j l))
            (start-moves q e (length new) order (val_from_at m.values j) (val_to_at m.values j) (val-order j l) (val-apart j l d));
        ends = λ j l d.
            subst⁻¹ (Moves q e (length new) (val_to_at m.values j)) (ap (λ (r : ValRow). r.to) (val-row j l))
            (end-moves q e (length new) order (val_from_at m.values j) (val_to_at m.values j) (val-order j l) (val-apart j l d));
        name-starts = λ i l.
            subst⁻¹ (Moves q e (length new) (name_from_at m.properties i)) (ap (λ (r : PropRow). r.from) (prop-row i l))
            (start-moves q e (length new) order (name_from_at m.properties i) (name_to_at m.properties i) (name-order i l) (name-apart i l));
        name-ends = λ i l.
            subst⁻¹ (Moves q e (length new) (name_to_at m.properties i)) (ap (λ (r : PropRow). r.to) (prop-row i l))
            (end-moves q e (length new) order (name_from_at m.properties i) (name_to_at m.properties i) (name-order i l) (name-apart i l));
        first-values = λ i l. ap (λ (r : PropRow). r.first) (prop-row i l);
        value-counts = λ i l. ap (λ (r : PropRow). r.count) (prop-row i l);
        properties-beyond = λ i l. over-beyond (flat_props Rows.props) m.properties i (omega (arith, length-props-to f g m.properties m.counts.properties m.counts.properties));
        values-beyond = λ i l. over-beyond (flat_vals Rows.vals) m.values i (omega (arith, length-vals-to f g m.values m.counts.values m.counts.values));
        properties-lent = length-props-left f g m.properties m.counts.properties held.properties;
        values-lent = length-vals-left f g m.values m.counts.values held.values;
        trees = refl;
        nodes = refl;
        counts = refl;
      }
