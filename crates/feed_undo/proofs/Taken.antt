-- A feed whose corrections are each accepted alone, in its order, is accepted as one, where it is well-formed. Assumes nothing.
use Rattle.lists.proofs.Prelude.{ℕ, ◌≤◌, arith, map, length-take-le, true, ◌≡◌, refl, ap, ◌∙◌, subst, subst⁻¹, List, [], ◌∷◌, length}
use Rattle.lists.specs.All.{All}
use Rattle.tables.specs.Memory.{Memory}
use Rattle.tables.specs.Numbers.{text_limit}
use Rattle.fit.specs.Fit.{Fit}
use Rattle.fit.specs.Record.{rows_in, text_in}
use Rattle.fit.proofs.Clauses.{fit-short}
use Rattle.fit.proofs.Whole.{fit-lent}
use Rattle.edit_answer.specs.Edit.{Outcome, refuses, gives}
use Rattle.edit_laws.specs.Calls.{text_rows}
use Rattle.edit_laws.specs.Run.{TextRows}
use Rattle.edit_session.specs.Session.{Granted, asked, AllGranted}
use Rattle.edit_session.proofs.OfFitting.{used-lent, held-end}
use Rattle.edit_session.proofs.Step.{edit-lays}
use Rattle.feed.specs.Feed.{Correction, listing, corrections}
use Rattle.feed_laid.specs.Laid.{with}
use Rattle.feed_laid.specs.OfMemory.{own_bytes}
use Rattle.feed_laws.specs.Corrected.{corrected_text}
use Rattle.feed_undo.specs.Undo.{order_of, feed_edits, TakesFeed}
use Rattle.feed_undo.proofs.Judged.{Good, good-passed}
use Rattle.feed_undo.proofs.AsEdits.{laid_at, own_at, one-laid, feed-as-edits}

module _ (m : Memory) (fit : Fit m ≡ true) where
  abbrev room : ℕ
  room = length m.text

  abbrev Fine : Correction → Type 0
  Fine = Good (text_in m) (rows_in m).props m.counts.values

  one-fine : (f : ℕ → List ℕ) (c : Correction) (o : Outcome) → asked room (laid_at m fit f) (order_of c) ≡ o → Granted o → Fine c
  one-fine f c (refuses r p) e a = absurd a
  one-fine f c (gives t T) e a =
      let l = edit-lays m fit f room c.value c.bytes t T e in
      record { below = l.below; free = l.free; ink = l.ink; valid = l.valid; shut = l.shut }

  all-fine : (cs : List Correction) (f : ℕ → List ℕ) → AllGranted room (laid_at m fit f) (map order_of cs) → All Fine cs
  all-fine [] f a = tt
  all-fine (c ∷ cs) f a =
      let o = asked room (laid_at m fit f) (order_of c) in
      (one-fine f c o refl a.0, all-fine cs (with f c.value c.bytes) (subst (λ (s : TextRows). AllGranted room s (map order_of cs)) (one-laid m fit f (order_of c) o refl a.0) a.1))

  pub alone-taken : (w : List ℕ) → (listing w).whole ≡ true → AllGranted room (text_rows m) (feed_edits w) → TakesFeed m w
  alone-taken w h a =
      let k = held-end room (text_rows m) (feed_edits w) (record { m = m; fits = fit; is = refl; lent = refl }) a in
      let e : text_in k.m ≡ corrected_text m w = ap (λ (s : TextRows). s.text) (k.is ∙ feed-as-edits m fit w a) in
      let l = length-take-le k.m.used k.m.text (fit-lent k.m k.fits).0 in
      record {
        passed = good-passed m w fit h (all-fine (corrections w) (own_bytes m) (subst⁻¹ (λ (s : TextRows). AllGranted room s (feed_edits w)) (own_at m fit) a));
        short = subst (λ (z : List ℕ). length z ≤ text_limit) e (omega (arith, l, fit-short k.m k.fits));
        room = subst (λ (z : List ℕ). length z ≤ room) e (omega (arith, used-lent k.m k.fits, k.lent));
      }
