-- Demand 3: a record that strict reading gives stays one under any run of edits. Assumes nothing.
use Rattle.lists.proofs.Prelude.{◌≡◌, refl, sym, ap, ap₂, ◌∙◌, subst, ℕ, zero, suc, ◌+◌, ◌-◌, arith, Bool, true, false, List, [], ◌∷◌, ltb, length, get_or, slice, slice_empty, ltb-true, ltb-false, le-ltb, lt-ltb, pick}
use Rattle.lists.specs.All.{All}
use Rattle.lists.specs.Same.{same}
use Rattle.text_utf8.specs.Text.{blank, Utf, whole, part, bad, utfs}
use Rattle.lexer.specs.Token.{Val, Prop}
use Rattle.lexer.specs.Closed.{closed}
use Rattle.lexer.specs.Move.{starts_at, ends_at, new_raw}
use Rattle.lexer_laws.proofs.Contents.{Denotes}
use Rattle.tables.proofs.Lengths.{val-rows-length}
use Rattle.tables.specs.Numbers.{text_limit}
use Rattle.tables.specs.Record.{Tree, all_nodes, all_props, all_vals}
use Rattle.tables.specs.Rows.{Tables, PropRow, ValRow, tables, prop_rows, val_rows}
use Rattle.tables.proofs.Moved.{tables-move}
use Rattle.parser.specs.Game.{GM}
use Rattle.parser.specs.Read.{accepted, read_strict}
use Rattle.parser.proofs.Denoted.{read-denotes}
use Rattle.edit_splice.specs.Splice.{pasted}
use Rattle.edit_answer.specs.Edit.{owner_row, owner_name, span_at, shifted, Outcome, edit}
use Rattle.edit_answer.specs.Locals.{outcome}
use Rattle.edit_laws.specs.Run.{TextRows, Order, after, run_edits, Reads}
use Rattle.edit_laws.proofs.Numbered.{no_val, owner_of, value_of, new_text, new_trees, edit-number}

-- ---- rows and trees

row_at : (vs : List Val) (k : ℕ) → span_at (val_rows vs) k ≡ record { from = (get_or vs k no_val).from; to = (get_or vs k no_val).to }
row_at [] k = refl
row_at (v ∷ vs) zero = refl
row_at (v ∷ vs) (suc k) = row_at vs k

name_of : (t : List ℕ) (ps : List Prop) → All (Denotes t) ps → (f k : ℕ)
    → slice (owner_row (prop_rows f ps) (f + k)).from (owner_row (prop_rows f ps) (f + k)).to t ≡ owner_of ps k
name_of t [] h f k = slice_empty 0 t
name_of t (p ∷ ps) h f k = go (ltb k (length p.vals)) refl (name_of t ps h.1 (f + length p.vals) (k - length p.vals))
  where
    R : PropRow
    R = record { from = p.from; to = p.to; first = f; count = length p.vals }

    go : (b : Bool) → ltb k (length p.vals) ≡ b
        → slice (owner_row (prop_rows (f + length p.vals) ps) (f + length p.vals + (k - length p.vals))).from
        (owner_row (prop_rows (f + length p.vals) ps) (f + length p.vals + (k - length p.vals))).to t ≡ owner_of ps (k - length p.vals)
        → slice (pick (ltb (f + k) (f + length p.vals)) R (owner_row (prop_rows (f + length p.vals) ps) (f + k))).from
        (pick (ltb (f + k) (f + length p.vals)) R (owner_row (prop_rows (f + length p.vals) ps) (f + k))).to t
        ≡ pick (ltb k (length p.vals)) p.name (owner_of ps (k - length p.vals))
    go true e r =
        let d : ltb (f + k) (f + length p.vals) ≡ true = lt-ltb (f + k) (f + length p.vals) (omega (arith, ltb-true k (length p.vals) e)) in
        rw (d, e) (sym h.0.0)
    go false e r =
        let l = ltb-false k (length p.vals) e in
        let d : ltb (f + k) (f + length p.vals) ≡ false = le-ltb (f + k) (f + length p.vals) (omega (arith, l)) in
        let i : f + length p.vals + (k - length p.vals) ≡ f + k = omega (arith, l) in
        rw (d, e) (subst (λ (z : ℕ). slice (owner_row (prop_rows (f + length p.vals) ps) z).from (owner_row (prop_rows (f + length p.vals) ps) z).to t ≡ owner_of ps (k - length p.vals)) i r)

-- ---- the edit over rows is the edit over trees

module _ (room : ℕ) (t : List ℕ) (ts : List Tree) (k : ℕ) (new : List ℕ) (h : read_strict t ≡ accepted ts) where
  abbrev pub v : Val
  v = value_of ts k

  abbrev Row0 : ValRow
  Row0 = record { from = v.from; to = v.to }

  abbrev pub U : List ℕ
  U = new_text t v new

  abbrev pub US : List Tree
  US = new_trees ts v new

  span-is : span_at (tables ts).vals k ≡ Row0
  span-is = row_at (all_vals (all_props (all_nodes ts))) k

  rows_is : tables US ≡ shifted (tables ts) Row0 (length new)
  rows_is = tables-move (starts_at v.from v.to (length new)) (ends_at v.from v.to (length new)) (new_raw v.from new) ts

  zero-plus : 0 + k ≡ k
  zero-plus = omega arith

  name-is : owner_name t (tables ts).props k ≡ owner_of (all_props (all_nodes ts)) k
  name-is =
      subst (λ (z : ℕ). slice (owner_row (tables ts).props z).from (owner_row (tables ts).props z).to t ≡ owner_of (all_props (all_nodes ts)) k) zero-plus
      (name_of t (all_props (all_nodes ts)) (read-denotes false t ts h) 0 k)

  -- the same tests, over trees
  pub edit-is : edit room t (tables ts) k new
      ≡ outcome (ltb k (length (all_vals (all_props (all_nodes ts))))) (same (owner_of (all_props (all_nodes ts)) k) GM) (utfs (whole blank) 0 new) (closed new)
      (ltb text_limit (length U)) (ltb room (length U)) U (tables US)
  edit-is =
      ap (λ (z : ValRow). outcome (ltb k (length (tables ts).vals)) (same (owner_name t (tables ts).props k) GM) (utfs (whole blank) 0 new) (closed new)
      (ltb text_limit (length (pasted t z.from z.to new))) (ltb room (length (pasted t z.from z.to new))) (pasted t z.from z.to new) (shifted (tables ts) z (length new))) span-is
      ∙ ap (λ (z : ℕ). outcome (ltb k z) (same (owner_name t (tables ts).props k) GM) (utfs (whole blank) 0 new) (closed new)
      (ltb text_limit (length U)) (ltb room (length U)) U (shifted (tables ts) Row0 (length new))) (val-rows-length (all_vals (all_props (all_nodes ts))))
      ∙ ap₂ (λ (z : List ℕ) (T : Tables). outcome (ltb k (length (all_vals (all_props (all_nodes ts))))) (same z GM) (utfs (whole blank) 0 new) (closed new)
      (ltb text_limit (length U)) (ltb room (length U)) U T) name-is (sym rows_is)

  -- one edit: what it leaves is what a strict reading gives
  reads-after : Reads (after (record { text = t; rows = tables ts }) (edit room t (tables ts) k new))
  reads-after =
      subst (λ (z : Outcome). Reads (after (record { text = t; rows = tables ts }) z)) (sym edit-is)
      (go (ltb k (length (all_vals (all_props (all_nodes ts))))) (same (owner_of (all_props (all_nodes ts)) k) GM) (utfs (whole blank) 0 new) (closed new)
      (ltb text_limit (length U)) (ltb room (length U)) refl refl refl refl refl)
    where
      still : Reads (record { text = t; rows = tables ts })
      still = record { trees = ts; reads = h; same_rows = refl }

      go : (b g : Bool) (w : Utf) (d l m : Bool) → ltb k (length (all_vals (all_props (all_nodes ts)))) ≡ b → same (owner_of (all_props (all_nodes ts)) k) GM ≡ g
          → utfs (whole blank) 0 new ≡ w → closed new ≡ d → ltb text_limit (length U) ≡ l
          → Reads (after (record { text = t; rows = tables ts }) (outcome b g w d l m U (tables US)))
      go false g w d l m eb eg ew ed el = still
      go true true w d l m eb eg ew ed el = still
      go true false (part i s n r y) d l m eb eg ew ed el = still
      go true false (bad p) d l m eb eg ew ed el = still
      go true false (whole i) false l m eb eg ew ed el = still
      go true false (whole i) true true m eb eg ew ed el = still
      go true false (whole i) true false true eb eg ew ed el = still
      go true false (whole i) true false false eb eg ew ed el =
          record {
            trees = US;
            reads = edit-number t new ts k h (ltb-true k (length (all_vals (all_props (all_nodes ts)))) eb) eg ed i ew (ltb-false text_limit (length U) el);
            same_rows = refl;
          }

-- a record that strict reading gives stays one under any run of edits, refused ones of whatever number between them
pub demand-three : (room : ℕ) (s : TextRows) (xs : List Order) → Reads s → Reads (run_edits room s xs)
demand-three room s [] f = f
demand-three room s (x ∷ xs) f =
    demand-three room (after s (edit room s.text s.rows x.value x.bytes)) xs
    (subst (λ (T : Tables). Reads (after (record { text = s.text; rows = T }) (edit room s.text T x.value x.bytes))) (sym f.same_rows)
    (reads-after room s.text f.trees x.value x.bytes f.reads))
