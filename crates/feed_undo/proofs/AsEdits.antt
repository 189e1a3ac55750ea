-- A feed whose corrections were each accepted alone, in its order, is a run of edits: what it makes of the record is what they make of it, and it is undone as they
-- are. Assumes nothing.
use Rattle.lists.proofs.Prelude.{ℕ, true, ◌≡◌, refl, sym, ap, ap₂, ◌∙◌, subst, subst⁻¹, List, [], ◌∷◌, length}
use mathlib.Core.Path.{fun_ext}
use Rattle.tables.specs.Memory.{Memory}
use Rattle.tables.specs.Rows.{Tables}
use Rattle.fit.specs.Fit.{Fit}
use Rattle.edit_answer.specs.Edit.{Outcome, refuses, gives}
use Rattle.edit_laws.specs.Calls.{text_rows}
use Rattle.edit_laws.specs.Run.{TextRows, Order, after, run_edits}
use Rattle.edit_session.specs.Session.{Granted, asked, AllGranted, undoing}
use Rattle.edit_session.proofs.OfFitting.{fit-undone}
use Rattle.edit_session.proofs.Step.{edit-lays}
use Rattle.feed.specs.Feed.{corrections}
use Rattle.feed_laid.specs.Laid.{with}
use Rattle.feed_laid.specs.OfMemory.{laid_text, laid_tables, own_bytes}
use Rattle.feed_laid.proofs.OverMemory.{own-text, own-rows}
use Rattle.feed_laws.specs.Corrected.{corrected_text, corrected_rows}
use Rattle.feed_undo.specs.Undo.{feed_edits}
use Rattle.feed_undo.proofs.Choosing.{feed-rises, new-chosen, set_all, set-chosen}

module _ (m : Memory) (fit : Fit m ≡ true) where
  abbrev room : ℕ
  room = length m.text

  -- text and rows with f k for the bytes of each value k
  abbrev pub laid_at : (ℕ → List ℕ) → TextRows
  laid_at f = record { text = laid_text m f; rows = laid_tables m f }

  pub own_at : laid_at (own_bytes m) ≡ text_rows m
  own_at = ap₂ (λ (t : List ℕ) (T : Tables). record { text = t; rows = T }) (own-text m fit) (own-rows m fit)

  pub one-laid : (f : ℕ → List ℕ) (x : Order) (o : Outcome) → asked room (laid_at f) x ≡ o → Granted o → after (laid_at f) o ≡ laid_at (with f x.value x.bytes)
  one-laid f x (refuses r p) e a = absurd a
  one-laid f x (gives t T) e a =
      let l = edit-lays m fit f room x.value x.bytes t T e in
      ap₂ (λ (u : List ℕ) (U : Tables). record { text = u; rows = U }) l.text l.rows

  run-laid : (xs : List Order) (f : ℕ → List ℕ) → AllGranted room (laid_at f) xs → run_edits room (laid_at f) xs ≡ laid_at (set_all f xs)
  run-laid [] f a = refl
  run-laid (x ∷ xs) f a =
      let e = one-laid f x (asked room (laid_at f) x) refl a.0 in
      ap (λ (s : TextRows). run_edits room s xs) e ∙ run-laid xs (with f x.value x.bytes) (subst (λ (s : TextRows). AllGranted room s xs) e a.1)

  module _ (w : List ℕ) (a : AllGranted room (text_rows m) (feed_edits w)) where
    -- the edits make of the record what the feed makes of it
    pub feed-as-edits : run_edits room (text_rows m) (feed_edits w) ≡ record { text = corrected_text m w; rows = corrected_rows m w }
    feed-as-edits =
        ap (λ (s : TextRows). run_edits room s (feed_edits w)) (sym own_at)
        ∙ run-laid (feed_edits w) (own_bytes m) (subst⁻¹ (λ (s : TextRows). AllGranted room s (feed_edits w)) own_at a)
        ∙ ap laid_at (fun_ext (λ j. set-chosen (corrections w) 0 (own_bytes m) j (feed-rises w) ∙ sym (new-chosen m w j)))

    -- and the old bytes, put back in reverse order, are accepted at every step and give text and rows from before the feed
    pub feed-undone : AllGranted room (record { text = corrected_text m w; rows = corrected_rows m w }) (undoing room (text_rows m) (feed_edits w))
        × (run_edits room (record { text = corrected_text m w; rows = corrected_rows m w }) (undoing room (text_rows m) (feed_edits w)) ≡ text_rows m)
    feed-undone =
        let u = fit-undone m fit (feed_edits w) a in (
          subst (λ (s : TextRows). AllGranted room s (undoing room (text_rows m) (feed_edits w))) feed-as-edits u.0,
          ap (λ (s : TextRows). run_edits room s (undoing room (text_rows m) (feed_edits w))) (sym feed-as-edits) ∙ u.1,
        )
