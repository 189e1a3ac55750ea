-- The record and the list are written whole once all is decided. Assumes nothing.
use Rattle.lists.proofs.Prelude.{ℕ, ◌+◌, ◌*◌, ◌/◌, ◌≤◌, Bool, List, [], ◌∷◌, ◌≡◌, refl, ap, ap₂, ◌∙◌, arith, length, pick, ◌++◌, length-append, le-leb}
use Rattle.store_bytes.specs.LocalsWrote.{Wrote}
use Rattle.store_bytes.proofs.Written.{wrote-all}
use Rattle.tables.specs.Memory.{Memory}
use Rattle.tables.specs.Flat.{over}
use Rattle.fit.specs.Record.{record_in}
use Rattle.serialize.specs.Form.{writing}
use Rattle.salvage_mend.specs.Changes.{Change, empty_root, unnamed, removed_gm, spelled_anew, cut_short, tail_dropped}
use Rattle.salvage_mend.specs.Mend.{mended}
use Rattle.salvage_list.specs.ListRows.{change_row, change_rows, with_changes}
use Rattle.salvage.specs.LocalsRecord.{Decided, WrittenWhole}
use Rattle.std.specs.Prelude.{Ok}

module _ (m : Memory) (cs : List Change) (list out : List ℕ) {k : ℕ} (d : Decided m cs list out k) where
  abbrev w : List ℕ
  w = writing (mended (record_in m))

  pub record-done : {out' : List ℕ} {n : ℕ} → Wrote w out 0 out' n → {list' : List ℕ} → list' ≡ over (change_rows cs) list → WrittenWhole m cs list list' out out' (Ok (m.counts, n, k))
  record-done {n = n} x y =
      let q : n ≡ length w = omega (arith, x.place, d.short) in
      record { answer = ap₂ (λ (a b : ℕ). Ok (m.counts, a, b)) q d.count; changes = y; bytes = wrote-all x d.room }

-- ---- the list

rows-length : (cs : List Change) → length (change_rows cs) ≡ 3 * length cs
rows-length [] = refl
rows-length (c ∷ cs) =
    let r = rows-length cs in
    let e : length (change_row c ++ change_rows cs) ≡ length (change_row c) + length (change_rows cs) = length-append (change_row c) (change_rows cs) in
    let h = one c in
    omega (arith, r, e, h)
  where
    one : (d : Change) → length (change_row d) ≡ 3
    one (empty_root i) = refl
    one (unnamed k) = refl
    one (removed_gm k) = refl
    one (spelled_anew k) = refl
    one (cut_short i o) = refl
    one (tail_dropped o) = refl

-- rows put where there are changes
pub rows-put : (cs : List Change) (list : List ℕ) {list' : List ℕ} {k : ℕ} → list' ≡ with_changes cs list → k ≡ length cs → k ≤ length list / 3 → list' ≡ over (change_rows cs) list
rows-put cs list x e h =
    x ∙ ap (λ (b : Bool). pick b (over (change_rows cs) list) list) (le-leb (length (change_rows cs)) (length list) (omega (arith, e, h, rows-length cs)))

-- no change, no row
pub rows_none : (cs : List Change) (list : List ℕ) {k : ℕ} → k ≡ length cs → k ≤ 0 → list ≡ over (change_rows cs) list
rows_none [] list e h = refl
rows_none (c ∷ cs) list e h = absurd (omega (arith, e, h))
