-- Rows before a value stay and rows behind it move by one number: as the edit moves them. Assumes nothing.
use Rattle.lists.proofs.Prelude.{ℕ, zero, suc, ◌+◌, ◌-◌, ◌*◌, ◌/◌, ◌%◌, ◌^◌, ◌≤◌, ◌<◌, min, List, [], ◌∷◌, length, ◌≡◌, sym, ap, ap₂, ◌∙◌, subst, arith, le-leb, lt-leb, lt-ltb, le-ltb}
use Rattle.lists.proofs.Tests.{same_or}
use Rattle.lists.specs.Put.{PutWhole}
use Rattle.lexer.specs.Move.{starts_at, ends_at}
use Rattle.tables.specs.Columns.{name_from_at, name_to_at, first_val_at, val_count_at, val_from_at, val_to_at}
use Rattle.tables.specs.Flat.{flat_props, flat_vals, over}
use Rattle.tables.specs.Move.{move_props, move_vals}
use Rattle.tables.specs.Numbers.{text_limit}
use Rattle.tables.specs.Rows.{PropRow, ValRow}
use Rattle.fit.specs.Record.{prop_row, val_row}
use Rattle.fit.proofs.Parts.{map-tabulate}
use Rattle.edit_rows.specs.LocalsShift.{place_added, prop_added, val_added, names_before, names_shifted, values_shifted}
use Rattle.edit_rows.proofs.Rows.{PropsPut, props-none, props-shift, props-done, vals-same, vals-more, vals-shift, vals-done}
use Rattle.edit_rows.proofs.Shifting.{before-within, before-least, before-most, added-change}
use Rattle.edit.specs.Locals.{NamesApart, ValuesApart, properties_moved, values_moved}

abbrev spanned : (first count from to : ℕ) → PropRow
spanned first count from to = record { from = from; to = to; first = first; count = count }

abbrev lying : (from to : ℕ) → ValRow
lying from to = record { from = from; to = to }

module _ (q e m by : ℕ) (h : (by + e) % 2 ^ 32 ≡ (q + m) % 2 ^ 32) (o : q ≤ e) (l : e ≤ text_limit) (b : m ≤ text_limit) where
  start-moves : (p : ℕ) → e < p → p ≤ text_limit → place_added by p ≡ starts_at q e m p
  start-moves p a z = rw (lt-leb p q (omega arith)) (added-change by (q + m) e p h (omega arith) (omega arith) ∙ omega arith)

  end-moves : (p : ℕ) → e < p → p ≤ text_limit → place_added by p ≡ ends_at q e m p
  end-moves p a z = rw (le-ltb p e (omega arith)) (added-change by (q + m) e p h (omega arith) (omega arith) ∙ omega arith)

  -- ---- values

  module _ (vl : List ℕ) (n k : ℕ) (r : n ≤ length vl / 2) (i : k < n) (x : ValuesApart vl n k q e text_limit) where
    abbrev moved_val : ℕ → ValRow
    moved_val j = move_vals (starts_at q e m) (ends_at q e m) (val_row vl j)

    value_stays : (j : ℕ) → j < k → moved_val j ≡ val_row vl j
    value_stays j a =
        let z = x.before j a in
        let y = x.order j (omega arith) in
        ap₂ lying (rw (le-leb (val_from_at vl j) q (omega arith))) (rw (lt-ltb (val_to_at vl j) e (omega arith)))

    value-goes : (j : ℕ) → k + 1 ≤ j → j < n → val_added by vl j ≡ moved_val j
    value-goes j a c =
        let z = x.behind j (omega arith) c in
        let y = x.order j c in
        let w = x.inside j c in
        ap₂ lying (start-moves (val_from_at vl j) z (omega arith)) (end-moves (val_to_at vl j) (omega arith) w)

    pub values_moved_lem : {t t' : List ℕ} → PutWhole vl (k * 2) (q ∷ (q + m) ∷ []) t → t' ≡ values_shifted by (k + 1) (n - (k + 1)) t → t' ≡ over (values_moved q e m n vl) vl
    values_moved_lem {t} {t'} p s =
        let u = vals-same moved_val vl n r k (omega arith) value_stays in
        let sf : q ≡ starts_at q e m (val_from_at vl k) = rw (le-leb (val_from_at vl k) q (omega (arith, x.starts))) (sym x.starts) in
        let st : q + m ≡ ends_at q e m (val_to_at vl k) = rw (le-ltb (val_to_at vl k) e (omega (arith, x.ends))) (omega (arith, x.ends)) in
        let y = vals-more moved_val vl n u i sf st p in
        let w = vals-shift moved_val vl n y by (n - (k + 1)) (omega arith) (λ j a c. value-goes j a (omega arith)) (omega (arith, r, y.put.len)) s in
        vals-done moved_val vl n w (omega arith) ∙ ap (λ (z : List ValRow). over (flat_vals z) vl) (sym (map-tabulate (val_row vl) (move_vals (starts_at q e m) (ends_at q e m)) 0 n))

  -- ---- identifiers

  module _ (pr : List ℕ) (n k : ℕ) (r : n ≤ length pr / 4) (x : NamesApart pr n k q e text_limit) where
    abbrev moved_name : ℕ → PropRow
    moved_name j = move_props (starts_at q e m) (ends_at q e m) (prop_row pr j)

    climbs : (i j : ℕ) → i ≤ j → j < n → first_val_at pr i ≤ first_val_at pr j
    climbs i zero a c = let z : i ≡ 0 = omega arith in omega (arith, ap (first_val_at pr) z)
    climbs i (suc j) a c = same_or i (suc j) (λ z. omega (arith, ap (first_val_at pr) z)) (λ z. omega (arith, climbs i j (omega arith) (omega arith), x.rising j c))

    name-stays : (j : ℕ) → j < n → first_val_at pr j ≤ k → prop_added 0 pr j ≡ moved_name j
    name-stays j a c =
        let z = x.before j a c in
        let y = x.order j a in
        let w = x.inside j a in
        ap₂ (spanned (first_val_at pr j) (val_count_at pr j)) (rw (le-leb (name_from_at pr j) q (omega arith)) (omega arith)) (rw (lt-ltb (name_to_at pr j) e (omega arith)) (omega arith))

    name-goes : (j : ℕ) → j < n → k < first_val_at pr j → prop_added by pr j ≡ moved_name j
    name-goes j a c =
        let z = x.behind j a c in
        let y = x.order j a in
        let w = x.inside j a in
        ap₂ (spanned (first_val_at pr j) (val_count_at pr j)) (start-moves (name_from_at pr j) z (omega arith)) (end-moves (name_to_at pr j) (omega arith) w)

    pub names-moved : {t t' : List ℕ} {c d : ℕ} → c ≡ names_before pr k 0 (min n (length pr / 4 - 0)) → t ≡ names_shifted 0 0 c pr
        → d ≡ min (n - c) (length t / 4 - c) → t' ≡ names_shifted by c d t → t' ≡ over (properties_moved q e m n pr) pr
    names-moved {t} {t'} {c} {d} ec et all et' =
        let many : ℕ = min n (length pr / 4 - 0) in
        let within = before-within pr k 0 many in
        let low : (j : ℕ) → 0 ≤ j → j < 0 + c → prop_added 0 pr j ≡ moved_name j =
        λ j a z. let y : 0 + j ≡ j = omega arith in
        name-stays j (omega (arith, ec, within, z)) (subst (λ (v : ℕ). first_val_at pr v ≤ k) y (before-least pr k 0 many j (omega (arith, ec, z)))) in
        let f : 0 + c ≡ c = omega arith in
        let u = subst (λ (v : ℕ). PropsPut moved_name pr n t v) f (props-shift moved_name pr n (props-none moved_name pr n r) 0 c (omega (arith, ec, within)) low et) in
        let high : (j : ℕ) → c ≤ j → j < c + d → prop_added by pr j ≡ moved_name j =
        λ j a z. let y : 0 + names_before pr k 0 many ≡ c = omega (arith, ec) in
        let s : j < n = omega (arith, all, z) in
        let w = before-most pr k 0 many (omega (arith, ec, a, s, r)) in
        name-goes j s (omega (arith, w, ap (first_val_at pr) y, climbs c j a s)) in
        let v = props-shift moved_name pr n u by d (omega (arith, all, u.within)) high et' in
        props-done moved_name pr n v (omega (arith, all, r, u.put.len, u.within)) ∙ ap (λ (z : List PropRow). over (flat_props z) pr) (sym (map-tabulate (prop_row pr) (move_props (starts_at q e m) (ends_at q e m)) 0 n))
