-- Lent memory with some of its values as corrected, and one more of them edited. Assumes nothing.
use Rattle.lists.proofs.Prelude.{ℕ, suc, ◌+◌, ◌-◌, ◌*◌, ◌≤◌, ◌<◌, true, false, ◌≡◌, refl, sym, ap, ap₂, ◌∙◌, subst, subst⁻¹, arith, Bool, List, [], ◌∷◌, ◌++◌, map, length, take, drop, lt-ltb, le-ltb, length-map, length-take-le, take-append-drop}
use Rattle.lists.specs.All.{All}
use Rattle.lists.specs.Same.{same}
use Rattle.text_utf8.specs.Text.{Ink, Utf, whole}
use Rattle.parser.specs.Game.{GM}
use Rattle.tables.specs.Columns.{val_from_at, val_to_at}
use Rattle.tables.specs.Each.{sum, tabulate}
use Rattle.tables.specs.Flat.{flat_props, flat_vals, over}
use Rattle.tables.specs.Memory.{Memory, memory}
use Rattle.tables.specs.Numbers.{text_limit}
use Rattle.tables.specs.Rows.{PropRow, ValRow, Tables}
use Rattle.fit.specs.Fit.{Fit}
use Rattle.fit.specs.Record.{prop_row, val_row, rows_in, text_in}
use Rattle.fit.proofs.Parts.{tabulate-length}
use Rattle.fit.proofs.Rows.{rows-of-flat}
use Rattle.fit.proofs.Whole.{fit-lent}
use Rattle.edit_splice.specs.Splice.{pasted, cleared}
use Rattle.edit_answer.specs.Answer.{outcome_of, edited_for}
use Rattle.edit_answer.specs.Edit.{owner_name, span_at, Outcome, gives, edit}
use Rattle.edit_answer.specs.Locals.{outcome}
use Rattle.edit.specs.Lent.{memory_after}
use Rattle.edit_laws.specs.Calls.{memory_next, Calls, none, call}
use Rattle.edit_laws.specs.Run.{Order}
use Rattle.edit_laws.proofs.CallsRun.{calls-fit}
use Rattle.edit_laws.proofs.Cells.{property-cells, value-cells}
use Rattle.feed_laid.specs.Laid.{with, shift, laid_val, laid_prop}
use Rattle.feed_laid.specs.OfMemory.{laid_text, laid_tables, own_bytes}
use Rattle.feed_laid.proofs.Edited.{Named, tabulate-ext}
use Rattle.feed_laid.proofs.OverMemory.{all_named, own-text, own-rows, text-edited, rows-edited}
use Rattle.feed_laws.proofs.Cleared.{own-over, over-again, cleared-again}
use Rattle.feed_laws.proofs.Flat.{length-props, length-vals}
use Rattle.feed_laws.proofs.Held.{held_text, held-used, held-length}
use Rattle.feed_laws.proofs.Judged.{Fine}
use Rattle.feed_laws.proofs.Names.{owner-stays}
use Rattle.feed_laws.proofs.Partly.{sum_below, laid_same}
use Rattle.std.specs.Prelude.{Ok}

-- an edit that passes every test
accepts : {b g : Bool} {u : Utf} {d l o : Bool} {t : List ℕ} {T : Tables} (i : Ink)
    → b ≡ true → g ≡ false → u ≡ whole i → d ≡ true → l ≡ false → o ≡ false → outcome b g u d l o t T ≡ gives t T
accepts i eb eg eu ed el eo = rw (eb, eg, eu, ed, el, eo)

module _ (m : Memory) (fit : Fit m ≡ true) where
  abbrev n : ℕ
  n = m.counts.values

  abbrev P : ℕ
  P = m.counts.properties

  abbrev a : ℕ → ℕ
  a = val_from_at m.values

  abbrev e : ℕ → ℕ
  e = val_to_at m.values

  abbrev pr : List ℕ
  pr = m.properties

  abbrev vl : List ℕ
  vl = m.values

  -- lent memory with text and rows
  abbrev holding : List ℕ → Tables → Memory
  holding t T = memory (over (cleared t m.used) m.text) (length t) m.counts m.trees m.nodes (over (flat_props T.props) pr) (over (flat_vals T.vals) vl)

  -- with f k for the bytes of each value k
  abbrev pub held : (ℕ → List ℕ) → Memory
  held f = holding (laid_text m f) (laid_tables m f)

  count-props : (f : ℕ → List ℕ) → length (laid_tables m f).props ≡ P
  count-props f = length-map (tabulate (prop_row pr) 0 P) (laid_prop a e f) ∙ tabulate-length (prop_row pr) 0 P

  count-vals : (f : ℕ → List ℕ) → length (laid_tables m f).vals ≡ n
  count-vals f = tabulate-length (laid_val a e f) 0 n

  pub held_rows : (f : ℕ → List ℕ) → rows_in (held f) ≡ laid_tables m f
  held_rows f =
      let ps = (laid_tables m f).props in
      let vs = (laid_tables m f).vals in
      let T : Tables = record { trees = []; nodes = []; props = ps; vals = vs } in
      let r = rows-of-flat T [] [] (drop (length (flat_props ps)) pr) (drop (length (flat_vals vs)) vl) in
      ap₂ (λ (x : List PropRow) (y : List ValRow). record { trees = (rows_in m).trees; nodes = (rows_in m).nodes; props = x; vals = y })
      (subst (λ (i : ℕ). tabulate (prop_row (over (flat_props ps) pr)) 0 i ≡ ps) (count-props f) (ap (λ (S : Tables). S.props) r))
      (subst (λ (i : ℕ). tabulate (val_row (over (flat_vals vs) vl)) 0 i ≡ vs) (count-vals f) (ap (λ (S : Tables). S.vals) r))

  -- ---- it goes by the bytes of its own values alone

  module _ (f g : ℕ → List ℕ) (h : (j : ℕ) → j < n → f j ≡ g j) where
    shift_same : (k p : ℕ) → k ≤ n → shift a e f k p ≡ shift a e g k p
    unfolding shift
    shift_same k p l = ap (λ (z : ℕ). p - sum (λ j. e j - a j) k + z) (sum_below (λ j. length (f j)) (λ j. length (g j)) k (λ j i. ap length (h j (omega arith))))

    props-same : (rs : List PropRow) → All (Named a e n) rs → map (laid_prop a e f) rs ≡ map (laid_prop a e g) rs
    props-same [] x = refl
    props-same (r ∷ rs) x =
        let l : r.first ≤ n = omega (arith, x.0.here) in
        ap₂ (λ (y : PropRow) (z : List PropRow). y ∷ z)
        (ap₂ (λ (y z : ℕ). record { from = y; to = z; first = r.first; count = r.count }) (shift_same r.first r.from l) (shift_same r.first r.to l)) (props-same rs x.1)

    rows_same : laid_tables m f ≡ laid_tables m g
    rows_same =
        ap₂ (λ (x : List PropRow) (y : List ValRow). record { trees = (rows_in m).trees; nodes = (rows_in m).nodes; props = x; vals = y })
        (props-same (rows_in m).props (all_named m fit 0 P (omega arith)))
        (tabulate-ext (laid_val a e f) (laid_val a e g) 0 n
        (λ j _ l. ap₂ (λ (y z : ℕ). record { from = y; to = z }) (shift_same j (a j) (omega arith)) (shift_same (suc j) (e j) (omega arith))))

    pub held_same : held f ≡ held g
    held_same = ap₂ holding (laid_same m fit f g h) rows_same

  over-front : (k : ℕ) (t : List ℕ) → k ≤ length t → over (take k t) t ≡ t
  over-front k t h = ap (λ (i : ℕ). take k t ++ drop i t) (length-take-le k t h) ∙ take-append-drop k t

  -- with its own bytes it is itself
  pub held-own : held (own_bytes m) ≡ m
  held-own =
      let l = fit-lent m fit in
      let p : P * 4 ≤ length pr = omega (arith, l.1.properties) in
      let v : n * 2 ≤ length vl = omega (arith, l.1.values) in
      let t = own-over m.text m.used l.0 in
      ap₂ holding (own-text m fit) (own-rows m fit)
      ∙ ap₂ (λ (x : List ℕ) (y : ℕ). memory x y m.counts m.trees m.nodes (over (flat_props (rows_in m).props) pr) (over (flat_vals (rows_in m).vals) vl)) t (length-take-le m.used m.text l.0)
      ∙ ap₂ (λ (x y : List ℕ). memory m.text m.used m.counts m.trees m.nodes x y)
      (ap (λ (z : List ℕ). over z pr) (property-cells pr P p) ∙ over-front (P * 4) pr p) (ap (λ (z : List ℕ). over z vl) (value-cells vl n v) ∙ over-front (n * 2) vl v)

  -- ---- one value more

  module _ (f : ℕ → List ℕ) (k : ℕ) (below : k < n) (new : List ℕ) (fits : Fit (held f) ≡ true) (fine : Fine (owner_name (text_in m) (rows_in m).props k) new) where
    abbrev g : ℕ → List ℕ
    g = with f k new

    module _ (h : length (laid_text m f) ≤ length m.text) (s : length (laid_text m g) ≤ text_limit) (i : length (laid_text m g) ≤ length m.text)
        (l : length (laid_text m f) ≤ length (laid_text m g) + (m.used - length (laid_text m g))) where
      is : outcome_of (held f) k new ≡ gives (laid_text m g) (laid_tables m g)
      unfolding outcome_of
      is =
          let U : List ℕ = pasted (laid_text m f) (span_at (laid_tables m f).vals k).from (span_at (laid_tables m f).vals k).to new in
          let x : U ≡ laid_text m g = text-edited m fit f k below new in
          let y = rows-edited m fit f k below new in
          let z = ap length x in
          rw fits
          (ap₂ (λ (t : List ℕ) (T : Tables). edit (length (held_text m fit f)) t T k new) (held-used m fit f) (held_rows f)
          ∙ accepts fine.ink (lt-ltb k (length (laid_tables m f).vals) (omega (arith, count-vals f, below)))
          (ap (λ (o : List ℕ). same o GM) (owner-stays m fit f k) ∙ fine.free) fine.valid fine.shut
          (le-ltb text_limit (length U) (omega (arith, z, s))) (le-ltb (length (held_text m fit f)) (length U) (omega (arith, z, i, held-length m fit f h)))
          ∙ ap₂ gives x y)

      abbrev left : Memory
      left = memory_after (gives (laid_text m g) (laid_tables m g)) (held f)

      next : memory_next left (Ok (length (laid_text m g))) ≡ held g
      next =
          ap (λ (t : List ℕ). memory t (length (laid_text m g)) m.counts m.trees m.nodes left.properties left.values) (cleared-again (laid_text m f) (laid_text m g) m.text m.used l)
          ∙ ap₂ (λ (x y : List ℕ). memory (held_text m fit g) (length (laid_text m g)) m.counts m.trees m.nodes x y)
          (over-again (flat_props (laid_tables m g).props) (flat_props (laid_tables m f).props) pr
          (length-props (laid_tables m g).props ∙ ap (λ (z : ℕ). z * 4) (count-props g ∙ sym (count-props f)) ∙ sym (length-props (laid_tables m f).props)))
          (over-again (flat_vals (laid_tables m g).vals) (flat_vals (laid_tables m f).vals) vl
          (length-vals (laid_tables m g).vals ∙ ap (λ (z : ℕ). z * 2) (count-vals g ∙ sym (count-vals f)) ∙ sym (length-vals (laid_tables m f).vals)))

      -- the call of the edit, before others
      pub held-call : (xs : List Order) (z : Memory) → Calls (held g) xs z → Calls (held f) (record { value = k; bytes = new } ∷ xs) z
      held-call xs z c =
          call (Ok (length (laid_text m g))) left (record { answer = ap edited_for (sym is); memory = ap (λ (o : Outcome). memory_after o (held f)) (sym is) })
          (subst⁻¹ (λ (y : Memory). Calls y xs z) next c)

      pub held_fits : Fit (held g) ≡ true
      held_fits = calls-fit (held f) (held g) (record { value = k; bytes = new } ∷ []) fits (held-call [] (held g) none)
