-- What applying answers, test by test, and what it leaves. Assumes nothing.
use Rattle.lists.proofs.Prelude.{ℕ, ◌≤◌, ◌<◌, Bool, true, ◌≡◌, sym, ap, ap₂, ◌∙◌, List, length, ltb, lt-ltb, le-ltb, pick}
use Rattle.tables.specs.Each.{tabulate}
use Rattle.tables.specs.Flat.{flat_props, flat_vals, over}
use Rattle.tables.specs.Memory.{Memory, memory}
use Rattle.tables.specs.Numbers.{text_limit}
use Rattle.tables.specs.Rows.{PropRow, ValRow}
use Rattle.fit.specs.Fit.{Fit}
use Rattle.edit_splice.specs.Splice.{cleared}
use Rattle.feed_check.specs.Check.{feed_checked}
use Rattle.feed_check.specs.declared.FeedRefusal.{FeedRefusal}
use Rattle.feed_check.specs.declared.FeedRefusal.TheVariants.{TextTooLong, NoRoom}
use Rattle.feed_value.proofs.Looking.{passed-fit}
use Rattle.feed_laws.specs.Applied.{Applying, refusing, applying, on_length, once_checked, feed_applied, memory_applied}
use Rattle.feed_laws.specs.Corrected.{corrected_text, corrected_rows}
use Rattle.feed_apply.specs.Lent.{applied_for, ApplyIs}
use Rattle.feed_apply.specs.LocalsSizes.{moved_val, moved_prop}
use Rattle.feed_apply.proofs.Applying.{vals_are, props-are}
use Rattle.std.specs.Prelude.{Result, Ok, Err, ⊤}
use Rattle.tables.specs.Refusals.{refusal}
use Rattle.tables.specs.declared.Refusal.{Refusal}

module _ (m : Memory) (w : List ℕ) where
  abbrev u : List ℕ
  u = corrected_text m w

  left : (f : FeedRefusal) (p : ℕ) → feed_applied m w ≡ refusing f p → ApplyIs m m w (Err (refusal f p))
  left f p e = record { answer = ap applied_for (sym e); memory = ap (λ (o : Applying). memory_applied o m) (sym e) }

  pub apply-refused : (f : FeedRefusal) (p : ℕ) → feed_checked m w ≡ Err (refusal f p) → ApplyIs m m w (Err (refusal f p))
  unfolding feed_applied
  apply-refused f p h = left f p (ap (λ (x : Result ⊤ (Refusal FeedRefusal)). once_checked x (on_length (length m.text) u (corrected_rows m w))) h)

  module _ (passed : feed_checked m w ≡ Ok tt) where
    pub fits : Fit m ≡ true
    fits = passed-fit m w passed

    by_length : feed_applied m w ≡ on_length (length m.text) u (corrected_rows m w)
    unfolding feed_applied
    by_length = ap (λ (x : Result ⊤ (Refusal FeedRefusal)). once_checked x (on_length (length m.text) u (corrected_rows m w))) passed

    pub apply-long : text_limit < length u → ApplyIs m m w (Err (refusal TextTooLong 0))
    apply-long h =
        left TextTooLong 0
        (by_length ∙ ap (λ (b : Bool). pick b (refusing TextTooLong 0) (pick (ltb (length m.text) (length u)) (refusing NoRoom 0) (applying u (corrected_rows m w)))) (lt-ltb text_limit (length u) h))

    module _ (short : length u ≤ text_limit) where
      by-room : feed_applied m w ≡ pick (ltb (length m.text) (length u)) (refusing NoRoom 0) (applying u (corrected_rows m w))
      by-room = by_length ∙ ap (λ (b : Bool). pick b (refusing TextTooLong 0) (pick (ltb (length m.text) (length u)) (refusing NoRoom 0) (applying u (corrected_rows m w)))) (le-ltb text_limit (length u) short)

      pub apply-full : length m.text < length u → ApplyIs m m w (Err (refusal NoRoom 0))
      apply-full h = left NoRoom 0 (by-room ∙ ap (λ (b : Bool). pick b (refusing NoRoom 0) (applying u (corrected_rows m w))) (lt-ltb (length m.text) (length u) h))

      -- the change is the one that is asked for
      pub apply-given : length u ≤ length m.text → {r : ℕ} {b pr vl : List ℕ} → r ≡ length u
          → b ≡ over (cleared u m.used) m.text
          → pr ≡ over (flat_props (tabulate (moved_prop m.properties m.values w) 0 m.counts.properties)) m.properties
          → vl ≡ over (flat_vals (tabulate (moved_val m.values w) 0 m.counts.values)) m.values
          → ApplyIs m (memory b m.used m.counts m.trees m.nodes pr vl) w (Ok r)
      apply-given room {r} {b} {pr} {vl} er eb ep ev =
          let e = by-room ∙ ap (λ (b : Bool). pick b (refusing NoRoom 0) (applying u (corrected_rows m w))) (le-ltb (length m.text) (length u) room) in
          record {
            answer = ap Ok er ∙ ap applied_for (sym e);
            memory =
                ap (λ (z : List ℕ). memory z m.used m.counts m.trees m.nodes pr vl) eb
                ∙ ap₂ (λ (y z : List ℕ). memory (over (cleared u m.used) m.text) m.used m.counts m.trees m.nodes y z)
                (ep ∙ ap (λ (z : List PropRow). over (flat_props z) m.properties) (props-are m fits w))
                (ev ∙ ap (λ (z : List ValRow). over (flat_vals z) m.values) (vals_are m fits w))
                ∙ ap (λ (o : Applying). memory_applied o m) (sym e);
          }
