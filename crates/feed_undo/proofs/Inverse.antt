-- A feed that is accepted as one: its inverse feed is accepted as one in what it leaves, and the record is then as before it, in the same memory. Assumes nothing.
use Rattle.lists.proofs.Prelude.{ℕ, suc, ◌*◌, ◌≤◌, ◌<◌, Bool, true, false, true≢false, ◌≡◌, refl, sym, ap, ap₂, ◌∙◌, subst⁻¹, arith, List, [], ◌∷◌, map, eqb, length, slice, length-slice, length-map, length-take-le, eqb-true, pick}
use Rattle.lists.specs.All.{All}
use Rattle.lists.specs.Same.{same}
use Rattle.text_utf8.specs.Text.{Ink, blank, whole, utfs}
use Rattle.lexer.specs.Closed.{closed}
use Rattle.tables.specs.Columns.{val_from_at, val_to_at}
use Rattle.tables.specs.Flat.{flat_props, flat_vals}
use Rattle.tables.specs.Memory.{Memory}
use Rattle.tables.specs.Numbers.{text_limit}
use Rattle.tables.specs.Rows.{Tables}
use Rattle.tables.proofs.Tabulate.{tabulate-length}
use Rattle.parser.specs.Game.{GM}
use Rattle.fit.specs.Fit.{Fit}
use Rattle.fit.specs.Record.{prop_row, val_row, rows_in, text_in}
use Rattle.fit.proofs.Clauses.{fit-short, fit-vals}
use Rattle.fit.proofs.Whole.{fit-lent}
use Rattle.edit_answer.specs.Edit.{gives, owner_name, span_at}
use Rattle.edit.specs.Lent.{memory_after}
use Rattle.edit_laws.specs.Calls.{memory_next}
use Rattle.edit_laws.proofs.Cells.{property-cells, value-cells}
use Rattle.edit_laws.proofs.Left.{text-left, length-buffer-left}
use Rattle.edit_session.specs.InMemory.{SameRecord}
use Rattle.edit_session.proofs.CallBack.{over-own, over-over}
use Rattle.edit_session.proofs.Gaps.{owner-stays}
use Rattle.edit_session.proofs.OfFitting.{used-lent}
use Rattle.edit_session.proofs.OldBytes.{own-closed, own-valid}
use Rattle.feed_numerals.specs.Numeral.{numeral_limit}
use Rattle.feed.specs.Feed.{Correction, listing, corrections}
use Rattle.feed.specs.Made.{Sendable}
use Rattle.feed.proofs.Decodes.{feed-decodes}
use Rattle.feed.proofs.OneForm.{feed-one-form}
use Rattle.feed_laid.specs.OfMemory.{laid_tables, own_bytes}
use Rattle.feed_laid.proofs.OverMemory.{inside, from_at, to_at, value-laid, own-text, own-rows}
use Rattle.feed_laws.specs.Corrected.{new_bytes, corrected_text, corrected_rows}
use Rattle.feed_undo.specs.Undo.{TakesFeed, memory_corrected, correction_back, inverse_feed}
use Rattle.feed_undo.proofs.Choosing.{chosen, new-chosen, back-chosen}
use Rattle.feed_laws.proofs.Partly.{laid_same}
use Rattle.feed_undo.proofs.Fits.{text-lent}
use Rattle.feed_undo.proofs.Puts.{flat-props-same, flat-vals-same}
use Rattle.feed_undo.proofs.FitsAll.{all-fits}
use Rattle.feed_undo.proofs.Judged.{Good, passed-good, good-passed}
use Rattle.feed_undo.proofs.Relaid.{props-length, vals-length, text-held, rows-held, rows_same, text-again, rows-again}
use Rattle.std.specs.Prelude.{Ok}

module _ (m : Memory) (fit : Fit m ≡ true) where
  abbrev n : ℕ
  n = m.counts.values

  abbrev own : ℕ → List ℕ
  own = own_bytes m

  abbrev game : ℕ → Bool
  game k = same (owner_name (text_in m) (rows_in m).props k) GM

  abbrev Fine : Correction → Type 0
  Fine = Good (text_in m) (rows_in m).props n

  -- ---- the bytes as corrected

  chosen-valid : (cs : List Correction) → All Fine cs → (j : ℕ) → j < n → (i : Ink) × (utfs (whole blank) 0 (chosen cs j (own j)) ≡ whole i)
  chosen-valid [] g j l = own-valid m fit j l
  chosen-valid (c ∷ cs) g j l = go (eqb c.value j) (chosen-valid cs g.1 j l)
    where
      go : (b : Bool) → (i : Ink) × (utfs (whole blank) 0 (chosen cs j (own j)) ≡ whole i) → (i : Ink) × (utfs (whole blank) 0 (pick b c.bytes (chosen cs j (own j))) ≡ whole i)
      go true r = (g.0.ink, g.0.valid)
      go false r = r

  chosen-shut : (cs : List Correction) → All Fine cs → (j : ℕ) → j < n → closed (chosen cs j (own j)) ≡ true
  chosen-shut [] g j l = own-closed m fit j l
  chosen-shut (c ∷ cs) g j l = go (eqb c.value j) (chosen-shut cs g.1 j l)
    where
      go : (b : Bool) → closed (chosen cs j (own j)) ≡ true → closed (pick b c.bytes (chosen cs j (own j))) ≡ true
      go true r = g.0.shut
      go false r = r

  chosen-fixed : (cs : List Correction) → All Fine cs → (j : ℕ) → game j ≡ true → chosen cs j (own j) ≡ own j
  chosen-fixed [] g j h = refl
  chosen-fixed (c ∷ cs) g j h = go (eqb c.value j) refl (chosen-fixed cs g.1 j h)
    where
      go : (b : Bool) → eqb c.value j ≡ b → chosen cs j (own j) ≡ own j → pick b c.bytes (chosen cs j (own j)) ≡ own j
      go true e r = absurd (true≢false (sym h ∙ ap game (sym (eqb-true c.value j e)) ∙ g.0.free))
      go false e r = r

  -- ---- the corrections back

  own-short : (j : ℕ) → j < n → length (own j) < numeral_limit
  own-short j l =
      omega (arith, length-slice (val_from_at m.values j) (val_to_at m.values j) (text_in m) (inside m fit j l), (fit-vals m fit j l).1, fit-short m fit)

  back-sendable : (cs : List Correction) → All Fine cs → (low : ℕ) → Sendable low cs → Sendable low (map (correction_back m) cs)
  back-sendable [] g low s = tt
  back-sendable (c ∷ cs) g low s = (s.0, s.1, own-short c.value g.0.below, back-sendable cs g.1 (suc c.value) s.3)

  module _ (t : List ℕ) (T : Tables) (names : (k : ℕ) → owner_name t T.props k ≡ owner_name (text_in m) (rows_in m).props k) where
    back-good : (cs : List Correction) → All Fine cs → All (Good t T.props n) (map (correction_back m) cs)
    back-good [] g = tt
    back-good (c ∷ cs) g =
        let l = g.0.below in
        let v = own-valid m fit c.value l in (
          record { below = l; free = ap (λ (z : List ℕ). same z GM) (names c.value) ∙ g.0.free; ink = v.0; valid = v.1; shut = own-closed m fit c.value l },
          back-good cs g.1,
        )

module _ (m : Memory) (w : List ℕ) (bytes : All (λ b. b < 256) w) (takes : TakesFeed m w) where
  good : (Fit m ≡ true) × ((listing w).whole ≡ true) × All (Good (text_in m) (rows_in m).props m.counts.values) (corrections w)
  good = passed-good m w takes.passed

  fit : Fit m ≡ true
  fit = good.0

  abbrev cs : List Correction
  cs = corrections w

  abbrev f : ℕ → List ℕ
  f = new_bytes m w

  abbrev M : Memory
  M = memory_corrected m w

  abbrev w' : List ℕ
  w' = inverse_feed m w

  -- what an accepted feed leaves fits
  pub corrected-fits : Fit M ≡ true
  corrected-fits =
      all-fits m fit f
      (λ j l. let v = chosen-valid m fit cs good.2 j l in (v.0, ap (utfs (whole blank) 0) (new-chosen m w j) ∙ v.1))
      (λ j l. ap closed (new-chosen m w j) ∙ chosen-shut m fit cs good.2 j l)
      (λ j l h. new-chosen m w j ∙ chosen-fixed m fit cs good.2 j h) takes.short takes.room

  decodes : ((listing w').whole ≡ true) × (corrections w' ≡ map (correction_back m) cs)
  decodes =
      let o = feed-one-form w bytes good.1 in
      feed-decodes (map (correction_back m) cs) (omega (arith, length-map cs (correction_back m), o.1)) (back-sendable m fit cs good.2 0 o.2)

  own_held : (j : ℕ) → j < m.counts.values → own_bytes M j ≡ f j
  own_held j l =
      ap₂ (λ (i k : ℕ). slice i k (text_in M)) (sym (from_at M corrected-fits j l)) (sym (to_at M corrected-fits j l))
      ∙ ap₂ (λ (t : List ℕ) (T : Tables). slice (span_at T.vals j).from (span_at T.vals j).to t) (text-held m fit f) (rows-held m fit f)
      ∙ value-laid m fit f j l

  new-own : (j : ℕ) → j < m.counts.values → new_bytes M w' j ≡ own_bytes m j
  new-own j l =
      new-chosen M w' j
      ∙ ap₂ (λ (ds : List Correction) (d : List ℕ). chosen ds j d) decodes.1 (own_held j l ∙ new-chosen m w j)
      ∙ back-chosen m cs j

  pub text-back : corrected_text M w' ≡ text_in m
  text-back = text-again m fit f (new_bytes M w') ∙ laid_same m fit (new_bytes M w') (own_bytes m) new-own ∙ own-text m fit

  pub rows_back : corrected_rows M w' ≡ rows_in m
  rows_back = rows-again m fit f (new_bytes M w') ∙ rows_same m fit (new_bytes M w') (own_bytes m) new-own ∙ own-rows m fit

  -- the inverse feed is accepted
  pub inverse-taken : TakesFeed M w'
  inverse-taken =
      let l = length-take-le m.used m.text (fit-lent m fit).0 in
      record {
        passed = good-passed M w' corrected-fits decodes.0
            (subst⁻¹ (All (Good (text_in M) (rows_in M).props m.counts.values)) decodes.1
            (back-good m fit (text_in M) (rows_in M)
            (λ k. ap₂ (λ (t : List ℕ) (T : Tables). owner_name t T.props k) (text-held m fit f) (rows-held m fit f) ∙ owner-stays m fit f k) cs good.2));
        short = subst⁻¹ (λ (z : List ℕ). length z ≤ text_limit) text-back (omega (arith, l, fit-short m fit));
        room = subst⁻¹ (λ (z : List ℕ). length z ≤ length M.text) text-back (omega (arith, text-lent m fit f takes.room, used-lent m fit));
      }

  -- and undoes it
  pub feed-inverse : SameRecord m (memory_corrected M w')
  feed-inverse =
      let held = (fit-lent m fit).1 in
      let pc = m.counts.properties in
      let vc = m.counts.values in
      let hp : pc * 4 ≤ length m.properties = let z = held.properties in omega arith in
      let hv : vc * 2 ≤ length m.values = let z = held.values in omega arith in
      let P = flat_props (rows_in m).props in
      let Q = flat_vals (rows_in m).vals in
      let tl = text-lent m fit f takes.room in
      subst⁻¹ (λ (q : Memory). SameRecord m q) (ap₂ (λ (t : List ℕ) (T : Tables). memory_next (memory_after (gives t T) M) (Ok (length t))) text-back rows_back)
      (record {
        used = length-take-le m.used m.text (fit-lent m fit).0;
        text = text-left (text_in m) M.text M.used;
        room = length-buffer-left (text_in m) M.text M.used (fit-lent M corrected-fits).0 (omega (arith, tl, used-lent m fit)) ∙ tl;
        counts = refl;
        trees = refl;
        nodes = refl;
        properties = over-over P (flat_props (laid_tables m f).props) m.properties
            (flat-props-same (rows_in m).props (laid_tables m f).props (tabulate-length (prop_row m.properties) 0 pc ∙ sym (props-length m fit f)))
            ∙ over-own P m.properties (pc * 4) (property-cells m.properties pc hp) hp;
        values = over-over Q (flat_vals (laid_tables m f).vals) m.values
            (flat-vals-same (rows_in m).vals (laid_tables m f).vals (tabulate-length (val_row m.values) 0 vc ∙ sym (vals-length m fit f)))
            ∙ over-own Q m.values (vc * 2) (value-cells m.values vc hv) hv;
      })
