-- One call in lent memory, and the call that puts the old bytes back: it is answered as changed, and leaves the record in memory as it was. Of each call only the
-- contract is known. Assumes nothing.
use Rattle.lists.proofs.Prelude.{ℕ, ◌*◌, ◌≤◌, ◌<◌, true, ◌≡◌, refl, sym, ap, ap₂, ◌∙◌, subst⁻¹, arith, List, ◌++◌, length, take, drop, length-take-le, take-append-drop, drop_at}
use Rattle.tables.specs.Flat.{flat_props, flat_vals, over}
use Rattle.tables.specs.Memory.{Memory}
use Rattle.tables.specs.Rows.{Tables}
use Rattle.tables.specs.declared.Counts.{Counts}
use Rattle.fit.specs.Fit.{Fit}
use Rattle.fit.specs.Record.{rows_in, text_in}
use Rattle.fit.proofs.Whole.{fit-lent}
use Rattle.edit_answer.specs.Answer.{outcome_of, edited_for}
use Rattle.edit_answer.specs.Edit.{Outcome, gives}
use Rattle.edit_answer.proofs.Judged.{new_text, new_rows}
use Rattle.edit.specs.Lent.{memory_after, EditIs}
use Rattle.edit.proofs.Given.{Given, given}
use Rattle.edit.proofs.Moving.{length-props-to, length-vals-to}
use Rattle.edit_laws.specs.Calls.{text_rows, outcome_for, memory_next}
use Rattle.edit_laws.specs.Run.{TextRows, Order, after}
use Rattle.edit_laws.proofs.CallsRun.{call_kept, call-edits}
use Rattle.edit_laws.proofs.Cells.{property-cells, value-cells}
use Rattle.edit_laws.proofs.Left.{text-left, length-buffer-left}
use Rattle.feed_laid.specs.OfMemory.{own_bytes}
use Rattle.edit_session.specs.InMemory.{kept_of, SameRecord}
use Rattle.edit_session.specs.Session.{asked, putting_back}
use Rattle.edit_session.proofs.OfFitting.{used-lent}
use Rattle.edit_session.proofs.Step.{kept-own, step_back, step-again}
use Rattle.std.specs.Prelude.{Result, Ok}
use Rattle.tables.specs.declared.Reason.{Reason}
use Rattle.tables.specs.declared.Refusal.{Refusal}

-- ---- the same record in the same memory

pub same_self : (m : Memory) → SameRecord m m
same_self m = record { used = refl; text = refl; room = refl; counts = refl; trees = refl; nodes = refl; properties = refl; values = refl }

module _ (m m' : Memory) (s : SameRecord m m') where
  same_text : text_in m' ≡ text_in m
  same_text = cc

  pub same-fit : Fit m ≡ true → Fit m' ≡ true
  unfolding Fit
  same-fit fit = rw (same_text, s.used, s.room, s.counts, s.trees, s.nodes, s.properties, s.values) fit

  pub same_rows : text_rows m' ≡ text_rows m
  same_rows = rw (same_text, s.counts, s.trees, s.nodes, s.properties, s.values)

-- ---- numbers in front of others

pub over-own : (xs t : List ℕ) (n : ℕ) → xs ≡ take n t → n ≤ length t → over xs t ≡ t
over-own xs t n e h = ap (λ (z : List ℕ). over z t) e ∙ ap (λ (k : ℕ). take n t ++ drop k t) (length-take-le n t h) ∙ take-append-drop n t

pub over-over : (xs ys t : List ℕ) → length xs ≡ length ys → over xs (over ys t) ≡ over xs t
over-over xs ys t e = ap (λ (z : List ℕ). xs ++ z) (drop_at ys (drop (length ys) t) (length xs) (sym e) ∙ ap (λ (k : ℕ). drop k t) (sym e))

-- put over, and the own ones put back
pub over-back : (xs ys t : List ℕ) (n : ℕ) → xs ≡ take n t → n ≤ length t → length ys ≡ n → over xs (over ys t) ≡ t
over-back xs ys t n e h l = over-over xs ys t (ap length e ∙ length-take-le n t h ∙ sym l) ∙ over-own xs t n e h

-- ---- one call, and the call that puts back

pub outcome-asked : (m : Memory) (x : Order) → Fit m ≡ true → outcome_for m x ≡ asked (length m.text) (text_rows m) x
unfolding outcome_of
outcome-asked m x fit = rw fit

module _ (m : Memory) (fit : Fit m ≡ true) (x : Order) (n : ℕ) (l : Memory) (h : EditIs m l x.value x.bytes (Ok n)) where
  abbrev room : ℕ
  room = length m.text

  abbrev m₁ : Memory
  m₁ = memory_next l (Ok n)

  g : Given m x.value x.bytes n
  g = given m x.value x.bytes n h.answer

  abbrev Text : List ℕ
  Text = new_text m x.value x.bytes

  abbrev Rows : Tables
  Rows = new_rows m x.value x.bytes

  left : l ≡ memory_after (gives Text Rows) m
  left = h.memory ∙ ap (λ (o : Outcome). memory_after o m) g.is

  pub accepted : asked room (text_rows m) x ≡ gives Text Rows
  accepted = sym (outcome-asked m x fit) ∙ g.is

  rows-now : text_rows m₁ ≡ record { text = Text; rows = Rows }
  rows-now = call-edits m x fit (Ok n) l h ∙ ap (λ (o : Outcome). after (text_rows m) o) accepted

  pub kept : (Fit m₁ ≡ true) × (length m₁.text ≡ room)
  kept = call_kept m x fit (Ok n) l h

  pub kept-is : putting_back (text_rows m) x ≡ kept_of m x
  kept-is = ap (λ (b : List ℕ). record { value = x.value; bytes = b }) (kept-own m fit room (used-lent m fit) x g.below)

  used-is : length (text_in m) ≡ m.used
  used-is = length-take-le m.used m.text (fit-lent m fit).0

  module _ (m₂ : Memory) (s : SameRecord m₁ m₂) where
    fit₂ : Fit m₂ ≡ true
    fit₂ = same-fit m₁ m₂ s kept.0

    lent₂ : length m₂.text ≡ room
    lent₂ = s.room ∙ kept.1

    rows₂ : text_rows m₂ ≡ record { text = Text; rows = Rows }
    rows₂ = same_rows m₁ m₂ s ∙ rows-now

    gone : outcome_for m₂ (kept_of m x) ≡ gives (text_in m) (rows_in m)
    gone =
        outcome-asked m₂ (kept_of m x) fit₂
        ∙ ap₂ (λ (i : ℕ) (z : TextRows). asked i z (kept_of m x)) lent₂ rows₂
        ∙ ap (asked room (record { text = Text; rows = Rows })) (sym kept-is)
        ∙ step_back m fit room (used-lent m fit) x Text Rows accepted

    -- what is put back would keep what was put
    pub call-again : kept_of m₂ (kept_of m x) ≡ x
    call-again =
        let c : m₂.counts ≡ m.counts = s.counts ∙ ap (λ (z : Memory). z.counts) left in
        let b : x.value < m₂.counts.values = subst⁻¹ (λ (z : Counts). x.value < z.values) c g.below in
        ap (λ (z : List ℕ). record { value = x.value; bytes = z }) (sym (kept-own m₂ fit₂ (length m₂.text) (used-lent m₂ fit₂) x b))
        ∙ ap (λ (z : TextRows). putting_back z x) rows₂
        ∙ step-again m fit room (used-lent m fit) x Text Rows accepted

    module _ (r : Result ℕ (Refusal Reason)) (l₂ : Memory) (e : EditIs m₂ l₂ x.value (own_bytes m x.value) r) where
      pub call-gone : r ≡ Ok (length (text_in m))
      call-gone = e.answer ∙ ap edited_for gone

      left₂ : l₂ ≡ memory_after (gives (text_in m) (rows_in m)) m₂
      left₂ = e.memory ∙ ap (λ (o : Outcome). memory_after o m₂) gone

      pub call_same : SameRecord m (memory_next l₂ r)
      call_same =
          let held = (fit-lent m fit).1 in
          let pc = m.counts.properties in
          let vc = m.counts.values in
          let hp : pc * 4 ≤ length m.properties = let z = held.properties in omega arith in
          let hv : vc * 2 ≤ length m.values = let z = held.values in omega arith in
          subst⁻¹ (λ (q : Result ℕ (Refusal Reason)). SameRecord m (memory_next l₂ q)) call-gone
          (subst⁻¹ (λ (q : Memory). SameRecord m (memory_next q (Ok (length (text_in m))))) left₂
          (record {
            used = used-is;
            text = text-left (text_in m) m₂.text m₂.used;
            room = length-buffer-left (text_in m) m₂.text m₂.used (fit-lent m₂ fit₂).0 (omega (arith, lent₂, used-lent m fit)) ∙ lent₂;
            counts = s.counts ∙ ap (λ (z : Memory). z.counts) left;
            trees = s.trees ∙ ap (λ (z : Memory). z.trees) left;
            nodes = s.nodes ∙ ap (λ (z : Memory). z.nodes) left;
            properties = ap (over (flat_props (rows_in m).props)) (s.properties ∙ ap (λ (z : Memory). z.properties) left)
                ∙ over-back (flat_props (rows_in m).props) (flat_props Rows.props) m.properties (pc * 4) (property-cells m.properties pc hp) hp (length-props-to _ _ m.properties pc pc);
            values = ap (over (flat_vals (rows_in m).vals)) (s.values ∙ ap (λ (z : Memory). z.values) left)
                ∙ over-back (flat_vals (rows_in m).vals) (flat_vals Rows.vals) m.values (vc * 2) (value-cells m.values vc hv) hv (length-vals-to _ _ m.values vc vc);
          }))
