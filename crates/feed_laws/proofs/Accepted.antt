-- After an accepted feed: every value's bytes are what the lookup handed out before, the tables fit, and a strict reading's memory is again what a strict
-- reading of the new text gives. No text on the way is longer than both the old and the final one. Assumes nothing.
use Rattle.lists.proofs.Prelude.{ℕ, ◌≤◌, ◌<◌, true, false, ◌≡◌, refl, sym, ap, ap₂, ◌∙◌, subst⁻¹, arith, Bool, List, ◌+◌, length, slice, ltb, ltb-false, drop, take-take, pick}
use Rattle.lists.proofs.Tests.{never}
use Rattle.tables.specs.Columns.{val_from_at, val_to_at}
use Rattle.tables.specs.Memory.{Memory, memory}
use Rattle.tables.specs.Numbers.{text_limit}
use Rattle.tables.specs.Rows.{Tables, ValRow}
use Rattle.fit.specs.Fit.{Fit}
use Rattle.fit.specs.Record.{val_row}
use Rattle.fit.proofs.Clauses.{fit-vals}
use Rattle.fit.proofs.Parts.{tabulate-at}
use Rattle.edit_answer.specs.Edit.{span_at}
use Rattle.edit_laws.specs.Calls.{text_rows}
use Rattle.edit_laws.specs.Fresh.{Fresh}
use Rattle.edit_laws.specs.Run.{Reads}
use Rattle.edit_laws.proofs.CallsRun.{calls-fit}
use Rattle.edit_laws.proofs.OnCode.{calls-reads}
use Rattle.feed_check.specs.Check.{feed_checked}
use Rattle.feed_check.specs.declared.FeedRefusal.TheVariants.{TextTooLong, NoRoom}
use Rattle.feed_value.specs.Look.{corrected_value}
use Rattle.feed_value.proofs.Looking.{passed-fit}
use Rattle.feed_laws.specs.Applied.{Applying, refusing, applying, on_length, once_checked, feed_applied, memory_applied}
use Rattle.feed_laws.specs.Corrected.{new_bytes, corrected_text, corrected_rows}
use Rattle.feed_laws.proofs.Held.{held-used}
use Rattle.feed_laws.proofs.Holds.{held, held_rows}
use Rattle.feed_laws.proofs.Runs.{Ran, feed-runs}
use Rattle.feed_laws.proofs.Same.{corrected-same}
use Rattle.std.specs.Prelude.{Result, Ok, Err, ⊤}
use Rattle.feed_check.specs.declared.FeedRefusal.{FeedRefusal}
use Rattle.tables.specs.declared.Refusal.{Refusal}

abbrev is_applying : Applying → ℕ
is_applying (refusing f p) = 0
is_applying (applying t T) = 1

-- what an acceptance says
pub record Accepts (m : Memory) (w t : List ℕ) (T : Tables) : Type 0 where
  pub passed : feed_checked m w ≡ Ok tt
  pub text : t ≡ corrected_text m w
  pub rows : T ≡ corrected_rows m w
  pub short : length (corrected_text m w) ≤ text_limit
  pub room : length (corrected_text m w) ≤ length m.text

abbrev text_of : Applying → List ℕ → List ℕ
text_of (refusing f p) d = d
text_of (applying t T) d = t

abbrev rows_for : Applying → Tables → Tables
rows_for (refusing f p) d = d
rows_for (applying t T) d = T

pub accepted-says : (m : Memory) (w t : List ℕ) (T : Tables) → feed_applied m w ≡ applying t T → Accepts m w t T
unfolding feed_applied
accepted-says m w t T e = checked (feed_checked m w) refl e
  where
    roomy : (b c : Bool) → ltb text_limit (length (corrected_text m w)) ≡ b → ltb (length m.text) (length (corrected_text m w)) ≡ c → feed_checked m w ≡ Ok tt
        → pick b (refusing TextTooLong 0) (pick c (refusing NoRoom 0) (applying (corrected_text m w) (corrected_rows m w))) ≡ applying t T → Accepts m w t T
    roomy true c x y p z = never (ap is_applying z)
    roomy false true x y p z = never (ap is_applying z)
    roomy false false x y p z =
        record {
          passed = p;
          text = sym (ap (λ (o : Applying). text_of o t) z);
          rows = sym (ap (λ (o : Applying). rows_for o T) z);
          short = ltb-false text_limit (length (corrected_text m w)) x;
          room = ltb-false (length m.text) (length (corrected_text m w)) y;
        }

    checked : (x : Result ⊤ (Refusal FeedRefusal)) → feed_checked m w ≡ x → once_checked x (on_length (length m.text) (corrected_text m w) (corrected_rows m w)) ≡ applying t T → Accepts m w t T
    checked (Err e) h z = never (ap is_applying z)
    checked (Ok tt) h z = roomy (ltb text_limit (length (corrected_text m w))) (ltb (length m.text) (length (corrected_text m w))) refl refl h z

-- the memory that the caller goes on with: the used length is in the answer
abbrev pub used_now : Memory → ℕ → Memory
used_now m used = memory m.text used m.counts m.trees m.nodes m.properties m.values

module _ (m : Memory) (w t : List ℕ) (T : Tables) (e : feed_applied m w ≡ applying t T) where
  abbrev after : Memory
  after = used_now (memory_applied (feed_applied m w) m) (length t)

  x : Accepts m w t T
  x = accepted-says m w t T e

  fit : Fit m ≡ true
  fit = passed-fit m w x.passed

  is : after ≡ held m fit (new_bytes m w)
  is =
      ap (λ (o : Applying). used_now (memory_applied o m) (length t)) e
      ∙ ap₂ (λ (y : List ℕ) (Y : Tables). used_now (memory_applied (applying y Y) m) (length y)) x.text x.rows

  ran : Ran m (held m fit (new_bytes m w))
  ran = feed-runs m w fit x.passed x.short x.room

  -- tables fit
  pub applied-fits : Fit after ≡ true
  applied-fits = ap Fit is ∙ calls-fit m (held m fit (new_bytes m w)) ran.orders fit ran.calls

  -- memory that held a strict reading holds one
  pub applied-fresh : Fresh m → Fresh after
  applied-fresh f = record { fits = applied-fits; reads = subst⁻¹ (λ (y : Memory). Reads (text_rows y)) is (calls-reads m (held m fit (new_bytes m w)) ran.orders f.reads ran.calls) }

  abbrev H : Memory
  H = held m fit (new_bytes m w)

  row : (k : ℕ) → k < m.counts.values → val_row H.values k ≡ span_at (corrected_rows m w).vals k
  row k l =
      let z : 0 + k ≡ k = omega arith in
      sym (tabulate-at (val_row H.values) 0 m.counts.values k (record { from = 0; to = 0 }) l ∙ ap (val_row H.values) z)
      ∙ ap (λ (S : Tables). span_at S.vals k) (held_rows m fit (new_bytes m w))

  -- every value's bytes
  pub applied-same : (k : ℕ) → k < m.counts.values → slice (val_from_at after.values k) (val_to_at after.values k) after.text ≡ corrected_value m w k
  applied-same k l =
      let ok : Fit H ≡ true = calls-fit m H ran.orders fit ran.calls in
      ap (λ (y : Memory). slice (val_from_at y.values k) (val_to_at y.values k) y.text) is
      ∙ sym (ap (drop (val_from_at H.values k)) (take-take (val_to_at H.values k) H.used H.text (fit-vals H ok k l).1))
      ∙ ap (slice (val_from_at H.values k) (val_to_at H.values k)) (held-used m fit (new_bytes m w))
      ∙ ap (λ (v : ValRow). slice v.from v.to (corrected_text m w)) (row k l)
      ∙ corrected-same m w x.passed k l
