-- Memory that holds a text with f k for the bytes of each value k: its text and rows with other bytes are those of the first text; and only values below the count
-- matter. Assumes nothing.
use Rattle.lists.proofs.Prelude.{ℕ, zero, suc, ◌+◌, ◌-◌, ◌≤◌, ◌<◌, true, ◌≡◌, refl, sym, ap, ap₂, ◌∙◌, arith, List, [], ◌∷◌, ◌++◌, append_assoc, map, length, drop, length-append, length-map, drop_at}
use Rattle.lists.specs.All.{All}
use Rattle.tables.specs.Columns.{val_from_at, val_to_at}
use Rattle.tables.specs.Each.{sum, tabulate}
use Rattle.tables.specs.Memory.{Memory}
use Rattle.tables.specs.Rows.{PropRow, ValRow, Tables}
use Rattle.tables.proofs.Tabulate.{tabulate-length}
use Rattle.fit.specs.Fit.{Fit}
use Rattle.fit.specs.Record.{prop_row, val_row, rows_in, text_in}
use Rattle.fit.proofs.Parts.{tabulate-same}
use Rattle.edit_answer.specs.Edit.{gives}
use Rattle.edit.specs.Lent.{memory_after}
use Rattle.edit_laws.specs.Calls.{memory_next}
use Rattle.edit_laws.proofs.Left.{text-left}
use Rattle.edit_session.proofs.Gaps.{gap-stays}
use Rattle.feed_laid.specs.Laid.{laid_from, laid, shift, laid_val, laid_prop}
use Rattle.feed_laid.specs.OfMemory.{laid_text, laid_tables}
use Rattle.feed_laid.proofs.Edited.{Named, tabulate-ext}
use Rattle.feed_laid.proofs.OverMemory.{order, apart, all_named, count, to_at, ahead}
use Rattle.feed_laid.proofs.Places.{sum-none, value-size}
use Rattle.feed_laid.proofs.Texts.{before, behind, laid-split}
use Rattle.feed_laws.proofs.Holds.{held_rows, held_same}
use Rattle.feed_laws.proofs.Partly.{sum_below}
use Rattle.feed_undo.proofs.Puts.{behind-last}
use Rattle.std.specs.Prelude.{Ok}

-- what the caller has once such a text is left as by one edit
abbrev pub laid_memory : Memory → (ℕ → List ℕ) → Memory
laid_memory m f = memory_next (memory_after (gives (laid_text m f) (laid_tables m f)) m) (Ok (length (laid_text m f)))

module _ (m : Memory) (fit : Fit m ≡ true) where
  abbrev a : ℕ → ℕ
  a = val_from_at m.values

  abbrev e : ℕ → ℕ
  e = val_to_at m.values

  abbrev n : ℕ
  n = m.counts.values

  -- only values below the count matter
  pub rows_same : (f g : ℕ → List ℕ) → ((j : ℕ) → j < n → f j ≡ g j) → laid_tables m f ≡ laid_tables m g
  rows_same f g h = sym (held_rows m fit f) ∙ ap rows_in (held_same m fit f g h) ∙ held_rows m fit g

  module _ (f : ℕ → List ℕ) where
    abbrev M : Memory
    M = laid_memory m f

    pub vals-length : length (laid_tables m f).vals ≡ n
    vals-length = tabulate-length (laid_val a e f) 0 n

    pub props-length : length (laid_tables m f).props ≡ m.counts.properties
    props-length = length-map (rows_in m).props (laid_prop a e f) ∙ tabulate-length (prop_row m.properties) 0 m.counts.properties

    pub text-held : text_in M ≡ laid_text m f
    text-held = text-left (laid_text m f) m.text m.used

    pub rows-held : rows_in M ≡ laid_tables m f
    rows-held = held_rows m fit f

    vals-held : (rows_in M).vals ≡ (laid_tables m f).vals
    vals-held = ap (λ (T : Tables). T.vals) rows-held

    props-held : (rows_in M).props ≡ (laid_tables m f).props
    props-held = ap (λ (T : Tables). T.props) rows-held

    row-held : (j : ℕ) → j < n → val_row M.values j ≡ laid_val a e f j
    row-held = tabulate-same (val_row M.values) (laid_val a e f) n vals-held

    pub from-held : (j : ℕ) → j < n → val_from_at M.values j ≡ shift a e f j (a j)
    from-held j l = ap (λ (v : ValRow). v.from) (row-held j l)

    pub to_held : (j : ℕ) → j < n → val_to_at M.values j ≡ shift a e f (suc j) (e j)
    to_held j l = ap (λ (v : ValRow). v.to) (row-held j l)

    -- ---- other bytes again

    module _ (g : ℕ → List ℕ) where
      sizes : (k : ℕ) → k ≤ n → sum (λ j. val_to_at M.values j - val_from_at M.values j) k ≡ sum (λ j. length (f j)) k
      sizes k l =
          sum_below (λ j. val_to_at M.values j - val_from_at M.values j) (λ j. length (f j)) k
          (λ j q. let b : j < n = omega arith in omega (arith, from-held j b, to_held j b, value-size a e n (order m fit) (apart m fit) f j b))

      shift-again : (k p : ℕ) → k ≤ n → shift (val_from_at M.values) (val_to_at M.values) g k (shift a e f k p) ≡ shift a e g k p
      unfolding shift
      shift-again k p l =
          let s = sizes k l in
          let x = p - sum (λ j. e j - a j) k in
          let y = sum (λ j. length (f j)) k in
          let z : x + y - y ≡ x = omega arith in
          ap (λ (i : ℕ). x + y - i + sum (λ j. length (g j)) k) s ∙ ap (λ (i : ℕ). i + sum (λ j. length (g j)) k) z

      props-again : (rs : List PropRow) → All (Named a e n) rs → map (laid_prop (val_from_at M.values) (val_to_at M.values) g) (map (laid_prop a e f) rs) ≡ map (laid_prop a e g) rs
      props-again [] x = refl
      props-again (r ∷ rs) x =
          let l = x.0.here in
          ap₂ (λ (y : PropRow) (ys : List PropRow). y ∷ ys)
          (ap₂ (λ (y z : ℕ). record { from = y; to = z; first = r.first; count = r.count }) (shift-again r.first r.from (omega arith)) (shift-again r.first r.to (omega arith)))
          (props-again rs x.1)

      val-again : (j : ℕ) → j < n → laid_val (val_from_at M.values) (val_to_at M.values) g j ≡ laid_val a e g j
      val-again j l =
          ap₂ (λ (x y : ℕ). record { from = x; to = y })
          (ap (shift (val_from_at M.values) (val_to_at M.values) g j) (from-held j l) ∙ shift-again j (a j) (omega arith))
          (ap (shift (val_from_at M.values) (val_to_at M.values) g (suc j)) (to_held j l) ∙ shift-again (suc j) (e j) (omega arith))

      pub rows-again : laid_tables M g ≡ laid_tables m g
      rows-again =
          ap₂ (λ (x : List PropRow) (y : List ValRow). record { trees = (rows_in m).trees; nodes = (rows_in m).nodes; props = x; vals = y })
          (ap (map (laid_prop (val_from_at M.values) (val_to_at M.values) g)) props-held ∙ props-again (rows_in m).props (all_named m fit 0 m.counts.properties (omega arith)))
          (tabulate-ext (laid_val (val_from_at M.values) (val_to_at M.values) g) (laid_val a e g) 0 n (λ j _ l. val-again j (omega arith)))

    -- what stands behind the last value, or all where there is none

    shift_none : (k o : ℕ) → k ≡ 0 → o ≡ 0 → shift a e f k o ≡ 0
    unfolding shift
    shift_none k o q z = omega (arith, z, ap (sum (λ j. length (f j))) q, sum-none (λ j. length (f j)))

    tail_none : (o : ℕ) (vs : List ValRow) → length vs ≡ 0 → shift a e f n o ≡ o → drop (shift a e f n o) (laid (text_in m) vs f) ≡ drop o (text_in m)
    tail_none o [] l x = ap (λ (i : ℕ). drop i (text_in m)) x
    tail_none o (v ∷ vs) l x = absurd (omega (arith, l))

    tail-some : (o i : ℕ) → n ≡ suc i → o ≡ e i → drop (shift a e f n o) (laid_text m f) ≡ drop o (text_in m)
    tail-some o i q h =
        let vs = (rows_in m).vals in
        let b : i < n = omega (arith, q) in
        let s = laid-split (text_in m) f 0 0 i vs (omega (arith, count m fit, b)) in
        let y : 0 + i ≡ i = omega arith in
        let B = before (text_in m) f 0 0 i vs in
        let c = behind-last (text_in m) f 0 i vs (sym (count m fit ∙ q)) ∙ ap (λ (p : ℕ). drop p (text_in m)) (to_at m fit i b ∙ sym h) in
        let v = value-size a e n (order m fit) (apart m fit) f i b in
        let w : length (B ++ f i) ≡ shift a e f n o =
        length-append B (f i) ∙ ap (λ (z : ℕ). z + length (f i)) (ahead m fit f i b) ∙ sym v ∙ ap₂ (λ (k p : ℕ). shift a e f k p) (sym q) (sym h) in
        ap (drop (shift a e f n o)) (s ∙ ap (λ (k : ℕ). B ++ (f k ++ behind (text_in m) f 0 i vs)) y ∙ ap (λ (r : List ℕ). B ++ (f i ++ r)) c ∙ sym (append_assoc B (f i) (drop o (text_in m))))
        ∙ drop_at (B ++ f i) (drop o (text_in m)) (shift a e f n o) w

    -- o stands behind the value before k
    abbrev Behind : (o k : ℕ) → Type 0
    Behind o k = ((j : ℕ) → k ≡ suc j → o ≡ e j) × (k ≡ 0 → o ≡ 0)

    tail-stays : (o k : ℕ) → k ≡ n → Behind o k → drop (shift a e f k o) (laid_text m f) ≡ drop o (text_in m)
    tail-stays o zero q h =
        let x = shift_none n o (sym q) (h.1 refl) in
        ap (λ (k : ℕ). drop (shift a e f k o) (laid_text m f)) q ∙ tail_none o (rows_in m).vals (count m fit ∙ sym q) (x ∙ sym (h.1 refl))
    tail-stays o (suc i) q h = ap (λ (k : ℕ). drop (shift a e f k o) (laid_text m f)) q ∙ tail-some o i (sym q) (h.0 i refl)

    text-from : (g : ℕ → List ℕ) (i k o : ℕ) → k + i ≡ n → Behind o k
        → laid_from (laid_text m f) g (shift a e f k o) k (tabulate (laid_val a e f) k i) ≡ laid_from (text_in m) g o k (tabulate (val_row m.values) k i)
    unfolding tabulate
    text-from g zero k o q h = tail-stays o k (omega (arith, q)) h
    text-from g (suc i) k o q h =
        let b : k < n = omega (arith, q) in
        ap₂ (λ (x y : List ℕ). x ++ (g k ++ y)) (gap-stays m fit f k o (a k) b (λ j z. omega (arith, h.0 j z)) (low k b h) (omega arith))
        (text-from g i (suc k) (e k) (omega (arith, q)) ((λ j z. let y : k ≡ j = omega (arith, z) in ap e y), (λ z. absurd (omega (arith, z)))))
      where
        low : (k : ℕ) → k < n → Behind o k → o ≤ a k
        low zero l x = omega (arith, x.1 refl)
        low (suc j) l x = omega (arith, x.0 j refl, apart m fit j l)

    pub text-again : (g : ℕ → List ℕ) → laid_text M g ≡ laid_text m g
    text-again g =
        let z : shift a e f 0 0 ≡ 0 = shift_none 0 0 refl refl in
        ap₂ (λ (t : List ℕ) (vs : List ValRow). laid_from t g 0 0 vs) text-held vals-held
        ∙ ap (λ (o : ℕ). laid_from (laid_text m f) g o 0 (laid_tables m f).vals) (sym z)
        ∙ text-from g n 0 0 (omega arith) ((λ j z. absurd (omega (arith, z))), (λ z. refl))
