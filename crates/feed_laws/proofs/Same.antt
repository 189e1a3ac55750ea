-- In the text as corrected every value's bytes are what the lookup hands out. Assumes nothing.
use Rattle.lists.proofs.Prelude.{ℕ, ◌<◌, true, ◌≡◌, refl, sym, ap, ◌∙◌, List, drop, slice, take-take}
use Rattle.tables.specs.Columns.{val_from_at, val_to_at}
use Rattle.tables.specs.Memory.{Memory}
use Rattle.fit.specs.Fit.{Fit}
use Rattle.fit.specs.Record.{text_in}
use Rattle.fit.proofs.Clauses.{fit-vals}
use Rattle.edit_answer.specs.Edit.{span_at}
use Rattle.feed.specs.Feed.{listing}
use Rattle.feed.specs.Find.{found_in}
use Rattle.feed_check.specs.Check.{feed_checked}
use Rattle.feed_value.specs.Look.{source_of, handed_out, corrected_value}
use Rattle.feed_value.proofs.Looking.{passed-fit, looked-source}
use Rattle.feed_laid.specs.OfMemory.{own_bytes}
use Rattle.feed_laid.proofs.OverMemory.{value-laid}
use Rattle.feed_laws.specs.Corrected.{bytes_for, new_bytes, corrected_text, corrected_rows}
use Rattle.std.specs.Prelude.{Option, Some, None, Ok}

module _ (m : Memory) (w : List ℕ) (passed : feed_checked m w ≡ Ok tt) (k : ℕ) (below : k < m.counts.values) where
  fit : Fit m ≡ true
  fit = passed-fit m w passed

  own-used : slice (val_from_at m.values k) (val_to_at m.values k) (text_in m) ≡ slice (val_from_at m.values k) (val_to_at m.values k) m.text
  own-used = ap (drop (val_from_at m.values k)) (take-take (val_to_at m.values k) m.used m.text (fit-vals m fit k below).1)

  handed-is : (x : Option (ℕ × ℕ)) → handed_out m.text w (source_of x (val_from_at m.values k) (val_to_at m.values k)) ≡ bytes_for w x (own_bytes m k)
  handed-is (Some (a, e)) = refl
  handed-is None = sym own-used

  -- what the lookup hands out are the bytes of the value as corrected
  pub lookup-bytes : corrected_value m w k ≡ new_bytes m w k
  lookup-bytes = ap (handed_out m.text w) (sym (looked-source m w k passed below)) ∙ handed-is (found_in (listing w).entries k)

  -- they stand where the rows as corrected say
  pub corrected-same : slice (span_at (corrected_rows m w).vals k).from (span_at (corrected_rows m w).vals k).to (corrected_text m w) ≡ corrected_value m w k
  corrected-same = value-laid m fit (new_bytes m w) k below ∙ sym lookup-bytes
