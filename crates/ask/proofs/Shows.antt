-- What a display shows, by what access gives. Assumes nothing.
use Rattle.lists.proofs.Prelude.{ℕ, ◌-◌, List, ◌≡◌, sym, ap, ◌∙◌, take, drop}
use Rattle.values.specs.Read.{read_identifier}
use Rattle.value_display.specs.declared.Kind.{Kind}
use Rattle.parts.specs.Rows.{values_at}
use Rattle.go.specs.Value.{go_value}
use Rattle.go.specs.declared.value.GoValue.{GoValue}
use Rattle.tables.specs.Columns.{name_from_at, name_to_at, first_val_at, val_count_at}
use Rattle.fit_spans.proofs.Lists.{part_slice}
use Rattle.ask.specs.Ask.{display_raw, display_raw_in, display, display_in}
use Rattle.ask.specs.Locals.{name_at}
use Rattle.std.specs.Prelude.{Result, Ok}
use Rattle.tables.specs.declared.Reason.{Reason}

module _ (t out : List ℕ) (kind : Kind) {a e : ℕ} {x : Result (ℕ × ℕ) Reason} (h : x ≡ Ok (a, e)) where
  pub part-shown : display_raw kind (take (e - a) (drop a t)) out ≡ display t x kind out
  part-shown = ap (λ (z : List ℕ). display_raw kind z out) (part_slice a e t) ∙ ap (λ (z : Result (ℕ × ℕ) Reason). display t z kind out) (sym h)

  pub part-shown-in : display_raw_in kind (take (e - a) (drop a t)) out ≡ display_in t x kind out
  part-shown-in = ap (λ (z : List ℕ). display_raw_in kind z out) (part_slice a e t) ∙ ap (λ (z : Result (ℕ × ℕ) Reason). display_in t z kind out) (sym h)

-- the Go value of property p, whose row is read into a, e, f, n
pub go-is : (kind : ℕ) (t pr vl : List ℕ) (p : ℕ) {a e f n : ℕ} → a ≡ name_from_at pr p → e ≡ name_to_at pr p → f ≡ first_val_at pr p → n ≡ val_count_at pr p
    → {g : GoValue} → g ≡ go_value kind (read_identifier (take (e - a) (drop a t))) (values_at t vl f n)
    → g ≡ go_value kind (read_identifier (name_at t pr p)) (values_at t vl (first_val_at pr p) (val_count_at pr p))
go-is kind t pr vl p {a} {e} x y z w h = rw (← x, ← y, ← z, ← w, ← part_slice a e t) h
