-- What the tests of an edit answer: closed, exactly `GM`, whose value. Assumes nothing.
use Rattle.lists.proofs.Prelude.{ℕ, ◌+◌, ◌-◌, ◌≤◌, ◌<◌, ◌≡◌, refl, sym, ap, ap₂, ◌∙◌, Bool, true, false, not, ◌&&◌, and-false, false≢true, and-true, List, [], ◌∷◌, arith, eqb, length, take, drop, get_or, drop_of_length-le, slice, slice_empty, lt-ltb, le-ltb}
use Rattle.lists.specs.Same.{same}
use Rattle.lists.proofs.Places.{drop-next}
use Rattle.lexer.specs.Closed.{closed_from, closed}
use Rattle.tables.specs.Rows.{PropRow}
use Rattle.parser.specs.Game.{GM}
use Rattle.tables.specs.Columns.{name_from_at, name_to_at, first_val_at, val_count_at}
use Rattle.tables.specs.Each.{tabulate}
use Rattle.fit.specs.Record.{prop_row}
use Rattle.fit_spans.proofs.Lists.{part_slice}
use Rattle.edit_answer.specs.Edit.{owner_row, owner_name}
use Rattle.fit.proofs.Parts.{tabulate-next, tabulate-none}

-- ---- closed: what is left answers as the whole

closed-step : (esc : Bool) (b : ℕ) (bs : List ℕ) → (not esc && eqb b 0x5d) ≡ false → closed_from esc (b ∷ bs) ≡ closed_from (not esc && eqb b 0x5c) bs
closed-step true b bs h = refl
closed-step false b bs h = rw h

closed-stop : (esc : Bool) (b : ℕ) (bs : List ℕ) → (not esc && eqb b 0x5d) ≡ true → closed_from esc (b ∷ bs) ≡ false
closed-stop true b bs h = absurd (false≢true h)
closed-stop false b bs h = rw h

module _ (v : List ℕ) (esc : Bool) (i : ℕ) (is : closed_from esc (drop i v) ≡ closed v) where
  pub closed-more : i < length v → (not esc && eqb (get_or v i 0) 0x5d) ≡ false → closed_from (not esc && eqb (get_or v i 0) 0x5c) (drop (i + 1) v) ≡ closed v
  closed-more l h = sym (closed-step esc (get_or v i 0) (drop (i + 1) v) h) ∙ ap (closed_from esc) (sym (drop-next v i l)) ∙ is

  pub closed-not : i < length v → (not esc && eqb (get_or v i 0) 0x5d) ≡ true → false ≡ closed v
  closed-not l h = sym (closed-stop esc (get_or v i 0) (drop (i + 1) v) h) ∙ ap (closed_from esc) (sym (drop-next v i l)) ∙ is

  pub closed-end : length v ≤ i → not esc ≡ closed v
  closed-end l = ap (closed_from esc) (sym (drop_of_length-le v l)) ∙ is

-- ---- exactly `GM`

pub gm-not : (s : List ℕ) → (length s ≡ 2 → ⊥) → false ≡ same s GM
gm-not [] h = refl
gm-not (x ∷ []) h = sym (and-false (eqb x 0x47))
gm-not (x ∷ y ∷ []) h = absurd (h refl)
gm-not (x ∷ y ∷ z ∷ s) h = sym (ap (λ (b : Bool). eqb x 0x47 && b) (and-false (eqb y 0x4d)) ∙ and-false (eqb x 0x47))

pub gm-two : (s : List ℕ) → length s ≡ 2 → (eqb (get_or s 0 0) 0x47 && eqb (get_or s 1 0) 0x4d) ≡ same s GM
gm-two [] h = absurd (omega arith)
gm-two (x ∷ []) h = absurd (omega arith)
gm-two (x ∷ y ∷ []) h = ap (λ (b : Bool). eqb x 0x47 && b) (sym (and-true (eqb y 0x4d)))
gm-two (x ∷ y ∷ z ∷ s) h = absurd (omega arith)

-- ---- the owner: it is among the rows that are left

module _ (t pr : List ℕ) (n k : ℕ) where
  abbrev rest : ℕ → List PropRow
  rest p = tabulate (prop_row pr) p (n - p)

  pub record Owner (p : ℕ) : Type 0 where
    pub within : p ≤ n
    pub is : owner_row (tabulate (prop_row pr) 0 n) k ≡ owner_row (rest p) k

  pub owner-first : Owner 0
  owner-first = let e : n - 0 ≡ n = omega arith in record { within = omega arith; is = ap (λ (z : ℕ). owner_row (tabulate (prop_row pr) 0 z) k) (sym e) }

  module _ {p : ℕ} (o : Owner p) where
    pub owner-more : p < n → first_val_at pr p + val_count_at pr p ≤ k → Owner (p + 1)
    owner-more l h =
        record { within = omega arith; is = o.is ∙ ap (λ (z : List PropRow). owner_row z k) (tabulate-next (prop_row pr) p n l) ∙ rw (le-ltb k (first_val_at pr p + val_count_at pr p) h) }

    pub owner-is : p < n → k < first_val_at pr p + val_count_at pr p → {a e : ℕ} → a ≡ name_from_at pr p → e ≡ name_to_at pr p → {r : Bool} → r ≡ same (take (e - a) (drop a t)) GM
        → r ≡ same (owner_name t (tabulate (prop_row pr) 0 n) k) GM
    owner-is l h {a} {e} ea ee er =
        let w : owner_row (tabulate (prop_row pr) 0 n) k ≡ prop_row pr p =
        o.is ∙ ap (λ (z : List PropRow). owner_row z k) (tabulate-next (prop_row pr) p n l) ∙ rw (lt-ltb k (first_val_at pr p + val_count_at pr p) h) in
        er ∙ ap (λ (z : List ℕ). same z GM) (part_slice a e t ∙ ap₂ (λ (x y : ℕ). slice x y t) ea ee ∙ sym (ap (λ (z : PropRow). slice z.from z.to t) w))

    pub owner-none : n ≤ p → false ≡ same (owner_name t (tabulate (prop_row pr) 0 n) k) GM
    owner-none h =
        let g = o.within in
        let q : n - p ≡ n - n = omega arith in
        let w : owner_row (tabulate (prop_row pr) 0 n) k ≡ owner_row [] k = o.is ∙ ap (λ (z : List PropRow). owner_row z k) (ap (tabulate (prop_row pr) p) q ∙ tabulate-none (prop_row pr) p n) in
        sym (ap (λ (z : PropRow). same (slice z.from z.to t) GM) w ∙ ap (λ (z : List ℕ). same z GM) (slice_empty 0 t))
