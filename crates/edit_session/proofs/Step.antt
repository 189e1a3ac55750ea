-- One step back: where an edit of fitting tables is accepted, the old bytes are accepted in the new text, and give text and rows from before. Assumes nothing.
use Rattle.lists.proofs.Prelude.{ℕ, ◌≤◌, ◌<◌, Bool, true, false, ◌≡◌, refl, sym, ap, ap₂, ◌∙◌, subst, subst⁻¹, arith, List, ltb, eqb, length, slice, length-take-le, ltb-true, ltb-false, lt-ltb, le-ltb, eq-eqb, eqb-true, pick}
use mathlib.Core.Path.{fun_ext}
use Rattle.lists.specs.Same.{same}
use Rattle.text_utf8.specs.Text.{Ink, blank, whole, utfs}
use Rattle.lexer.specs.Closed.{closed}
use Rattle.tables.specs.Columns.{val_from_at, val_to_at}
use Rattle.tables.specs.Memory.{Memory}
use Rattle.tables.specs.Numbers.{text_limit}
use Rattle.tables.specs.Rows.{Tables}
use Rattle.parser.specs.Game.{GM}
use Rattle.fit.specs.Fit.{Fit}
use Rattle.fit.specs.Record.{rows_in, text_in}
use Rattle.fit.proofs.Clauses.{fit-short}
use Rattle.fit.proofs.Whole.{fit-lent}
use Rattle.tables.proofs.Tabulate.{tabulate-length}
use Rattle.edit_splice.specs.Splice.{pasted}
use Rattle.edit_answer.specs.Edit.{gives, edit, span_at, owner_name, shifted}
use Rattle.edit_laws.specs.Run.{TextRows, Order}
use Rattle.feed_laid.specs.Laid.{with, laid_val}
use Rattle.feed_laid.specs.OfMemory.{laid_text, laid_tables, own_bytes}
use Rattle.feed_laid.proofs.OverMemory.{from_at, to_at, value-laid, text-edited, rows-edited, own-text, own-rows}
use Rattle.edit_session.specs.Session.{asked, putting_back}
use Rattle.edit_session.proofs.Gaps.{owner-stays}
use Rattle.edit_session.proofs.Outcomes.{gave, accepts}
use Rattle.edit_session.proofs.OldBytes.{own-closed, own-valid}

-- other bytes for value k, and then its own
with-back : (f : ℕ → List ℕ) (k : ℕ) (new : List ℕ) → with (with f k new) k (f k) ≡ f
with-back f k new = fun_ext (λ j. go j (eqb j k) refl)
  where
    go : (j : ℕ) (b : Bool) → eqb j k ≡ b → pick b (f k) (pick b new (f j)) ≡ f j
    go j true e = ap f (sym (eqb-true j k e))
    go j false e = refl

with-own : (f : ℕ → List ℕ) (k : ℕ) (new : List ℕ) → with f k new k ≡ new
with-own f k new = rw (eq-eqb k k refl)

module _ (m : Memory) (fit : Fit m ≡ true) (f : ℕ → List ℕ) where
  rows-count : length (laid_tables m f).vals ≡ m.counts.values
  rows-count = tabulate-length (laid_val (val_from_at m.values) (val_to_at m.values) f) 0 m.counts.values

  module _ (room k : ℕ) (new : List ℕ) where
    -- the text and the rows that the edit of value k gives, where it is accepted
    abbrev U : List ℕ
    U = pasted (laid_text m f) (span_at (laid_tables m f).vals k).from (span_at (laid_tables m f).vals k).to new

    abbrev S : Tables
    S = shifted (laid_tables m f) (span_at (laid_tables m f).vals k) (length new)

    -- what an acceptance says
    pub record Lays (t : List ℕ) (T : Tables) : Type 0 where
      pub below : k < m.counts.values
      pub free : same (owner_name (text_in m) (rows_in m).props k) GM ≡ false
      pub ink : Ink
      pub valid : utfs (whole blank) 0 new ≡ whole ink
      pub shut : closed new ≡ true
      pub short : length t ≤ text_limit
      pub text : t ≡ laid_text m (with f k new)
      pub rows : T ≡ laid_tables m (with f k new)

    pub edit-lays : (t : List ℕ) (T : Tables) → edit room (laid_text m f) (laid_tables m f) k new ≡ gives t T → Lays t T
    edit-lays t T e =
        let x = gave (ltb k (length (laid_tables m f).vals)) (same (owner_name (laid_text m f) (laid_tables m f).props k) GM) (utfs (whole blank) 0 new) (closed new)
        (ltb text_limit (length U)) (ltb room (length U)) U t S T e in
        let b : k < m.counts.values = ltb-true k m.counts.values (ap (ltb k) (sym rows-count) ∙ x.below) in
        record {
          below = b;
          free = ap (λ (z : List ℕ). same z GM) (sym (owner-stays m fit f k)) ∙ x.free;
          ink = x.ink;
          valid = x.valid;
          shut = x.shut;
          short = subst (λ (z : List ℕ). length z ≤ text_limit) x.text (ltb-false text_limit (length U) x.short);
          text = sym x.text ∙ text-edited m fit f k b new;
          rows = sym x.rows ∙ rows-edited m fit f k b new;
        }

    -- and when there is one
    pub lays-edit : k < m.counts.values → same (owner_name (text_in m) (rows_in m).props k) GM ≡ false → (i : Ink) → utfs (whole blank) 0 new ≡ whole i → closed new ≡ true
        → length (laid_text m (with f k new)) ≤ text_limit → length (laid_text m (with f k new)) ≤ room
        → edit room (laid_text m f) (laid_tables m f) k new ≡ gives (laid_text m (with f k new)) (laid_tables m (with f k new))
    lays-edit b g i v c l o =
        let w = text-edited m fit f k b new in
        accepts i (ap (ltb k) rows-count ∙ lt-ltb k m.counts.values b) (ap (λ (z : List ℕ). same z GM) (owner-stays m fit f k) ∙ g) v c
        (ap (λ (z : List ℕ). ltb text_limit (length z)) w ∙ le-ltb text_limit (length (laid_text m (with f k new))) l)
        (ap (λ (z : List ℕ). ltb room (length z)) w ∙ le-ltb room (length (laid_text m (with f k new))) o) w (rows-edited m fit f k b new)

    -- the value has the new bytes
    pub lays-here : k < m.counts.values
        → slice (span_at (laid_tables m (with f k new)).vals k).from (span_at (laid_tables m (with f k new)).vals k).to (laid_text m (with f k new)) ≡ new
    lays-here b = value-laid m fit (with f k new) k b ∙ with-own f k new

-- ---- one step back

module _ (m : Memory) (fit : Fit m ≡ true) (room : ℕ) (roomy : length (text_in m) ≤ room) (x : Order) where
  abbrev k : ℕ
  k = x.value

  abbrev own : ℕ → List ℕ
  own = own_bytes m

  abbrev now : TextRows
  now = record { text = text_in m; rows = rows_in m }

  own-now : ◌≡◌ {A = TextRows} (record { text = laid_text m own; rows = laid_tables m own }) now
  own-now = ap₂ (λ (t : List ℕ) (T : Tables). record { text = t; rows = T }) (own-text m fit) (own-rows m fit)

  -- the bytes that are kept are the value's own
  pub kept-own : k < m.counts.values → (putting_back now x).bytes ≡ own k
  kept-own b = ap₂ (λ (i j : ℕ). slice i j (text_in m)) (from_at m fit k b) (to_at m fit k b)

  short : length (text_in m) ≤ text_limit
  short = omega (arith, length-take-le m.used m.text (fit-lent m fit).0, fit-short m fit)

  module _ (t : List ℕ) (T : Tables) (e : asked room now x ≡ gives t T) where
    pub lays : Lays m fit own room k x.bytes t T
    lays = edit-lays m fit own room k x.bytes t T (ap (λ (s : TextRows). asked room s x) own-now ∙ e)

    pub step_back : asked room (record { text = t; rows = T }) (putting_back now x) ≡ gives (text_in m) (rows_in m)
    step_back =
        let y = lays in
        let f = with own k x.bytes in
        let w = with-back own k x.bytes in
        let u : laid_text m (with f k (own k)) ≡ text_in m = ap (laid_text m) w ∙ own-text m fit in
        let v = own-valid m fit k y.below in
        ap₂ (λ (z : List ℕ) (Z : Tables). edit room z Z k (putting_back now x).bytes) y.text y.rows
        ∙ ap (edit room (laid_text m f) (laid_tables m f) k) (kept-own y.below)
        ∙ lays-edit m fit f room k (own k) y.below y.free v.0 v.1 (own-closed m fit k y.below)
        (subst⁻¹ (λ (z : List ℕ). length z ≤ text_limit) u short) (subst⁻¹ (λ (z : List ℕ). length z ≤ room) u roomy)
        ∙ ap₂ (λ (z : List ℕ) (Z : Tables). gives z Z) u (ap (laid_tables m) w ∙ own-rows m fit)

    -- what the step back would keep are the new bytes
    pub step-again : putting_back (record { text = t; rows = T }) (putting_back now x) ≡ x
    step-again =
        let y = lays in
        ap (λ (z : List ℕ). record { value = k; bytes = z })
        (ap₂ (λ (z : List ℕ) (Z : Tables). slice (span_at Z.vals k).from (span_at Z.vals k).to z) y.text y.rows ∙ lays-here m fit own room k x.bytes y.below)
