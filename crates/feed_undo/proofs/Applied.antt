-- Calls that apply a feed, of which each only meets the contract: a feed whose corrections are each accepted alone does what its edits do; of any accepted feed the
-- inverse feed is accepted and undoes it, in the same memory. Assumes nothing.
use Rattle.lists.proofs.Prelude.{ℕ, ◌≤◌, ◌<◌, Bool, true, false, false≢true, ◌≡◌, refl, sym, ap, ap₂, ◌∙◌, subst, subst⁻¹, List, ltb, length, length-take-le, ltb-false, le-ltb, pick}
use Rattle.lists.specs.All.{All}
use Rattle.tables.specs.Memory.{Memory}
use Rattle.tables.specs.Numbers.{text_limit}
use Rattle.tables.specs.Rows.{Tables}
use Rattle.fit.specs.Fit.{Fit}
use Rattle.fit.proofs.Whole.{fit-lent}
use Rattle.edit_laws.specs.Calls.{text_rows, memory_next}
use Rattle.edit_laws.specs.Run.{run_edits}
use Rattle.edit_session.specs.InMemory.{SameRecord}
use Rattle.edit_session.specs.Session.{AllGranted}
use Rattle.feed.specs.Feed.{listing}
use Rattle.feed_check.specs.Check.{feed_checked}
use Rattle.feed_check.specs.declared.FeedRefusal.TheVariants.{TextTooLong, NoRoom}
use Rattle.feed_laws.specs.Applied.{Applying, refusing, applying, on_length, once_checked, feed_applied, memory_applied}
use Rattle.feed_laws.specs.Corrected.{new_bytes, corrected_text, corrected_rows}
use Rattle.feed_apply.specs.Lent.{applied_for, ApplyIs}
use Rattle.feed_undo.specs.Undo.{feed_edits, TakesFeed, memory_corrected, inverse_feed}
use Rattle.feed_undo.proofs.AsEdits.{feed-as-edits}
use Rattle.feed_undo.proofs.Inverse.{inverse-taken, text-back, feed-inverse}
use Rattle.feed_undo.proofs.Judged.{passed-good}
use Rattle.feed_undo.proofs.Relaid.{text-held, rows-held}
use Rattle.feed_undo.proofs.Taken.{alone-taken}
use Rattle.std.specs.Prelude.{Result, Ok, Err, ⊤}
use Rattle.feed_check.specs.declared.FeedRefusal.{FeedRefusal}
use Rattle.tables.specs.declared.Refusal.{Refusal}

-- an answer of each kind
abbrev Says : Result ℕ (Refusal FeedRefusal) → Bool
Says (Ok n) = true
Says (Err e) = false

module _ (m : Memory) (w : List ℕ) where
  abbrev U : List ℕ
  U = corrected_text m w

  abbrev T : Tables
  T = corrected_rows m w

  pub takes-applied : TakesFeed m w → feed_applied m w ≡ applying U T
  unfolding feed_applied
  takes-applied t = rw (t.passed, le-ltb text_limit (length U) t.short, le-ltb (length m.text) (length U) t.room)

  -- an answer that says changed is of an accepted feed
  pub applied-takes : Says (applied_for (feed_applied m w)) ≡ true → TakesFeed m w
  unfolding feed_applied
  applied-takes e = checked (feed_checked m w) refl e
    where
      roomy : (b : Bool) → ltb (length m.text) (length U) ≡ b → feed_checked m w ≡ Ok tt → length U ≤ text_limit
          → Says (applied_for (pick b (refusing NoRoom 0) (applying U T))) ≡ true → TakesFeed m w
      roomy true x c l y = absurd (false≢true y)
      roomy false x c l y = record { passed = c; short = l; room = ltb-false (length m.text) (length U) x }

      short : (b : Bool) → ltb text_limit (length U) ≡ b → feed_checked m w ≡ Ok tt
          → Says (applied_for (pick b (refusing TextTooLong 0) (pick (ltb (length m.text) (length U)) (refusing NoRoom 0) (applying U T)))) ≡ true → TakesFeed m w
      short true x c y = absurd (false≢true y)
      short false x c y = roomy (ltb (length m.text) (length U)) refl c (ltb-false text_limit (length U) x) y

      checked : (c : Result ⊤ (Refusal FeedRefusal)) → feed_checked m w ≡ c → Says (applied_for (once_checked c (on_length (length m.text) U T))) ≡ true
          → TakesFeed m w
      checked (Err e) x y = absurd (false≢true y)
      checked (Ok tt) x y = short (ltb text_limit (length U)) refl x y

  -- what the caller then has
  applied-is : (m' : Memory) (r : Result ℕ (Refusal FeedRefusal)) → TakesFeed m w → ApplyIs m m' w r
      → (r ≡ Ok (length U)) × (memory_next m' (Ok (length U)) ≡ memory_corrected m w)
  applied-is m' r t h =
      let e = takes-applied t in
      (h.answer ∙ ap applied_for e, ap (λ (q : Memory). memory_next q (Ok (length U))) (h.memory ∙ ap (λ (o : Applying). memory_applied o m) e))

  -- each correction accepted alone: the feed is accepted, and does what these edits do
  pub applied-as-edits : (m' : Memory) (r : Result ℕ (Refusal FeedRefusal)) → Fit m ≡ true → (listing w).whole ≡ true
      → AllGranted (length m.text) (text_rows m) (feed_edits w) → ApplyIs m m' w r
      → (r ≡ Ok (length U)) × (text_rows (memory_next m' (Ok (length U))) ≡ run_edits (length m.text) (text_rows m) (feed_edits w))
  applied-as-edits m' r fit h a x =
      let z = applied-is m' r (alone-taken m fit w h a) x in (
        z.0,
        ap text_rows z.1 ∙ ap₂ (λ (t : List ℕ) (S : Tables). record { text = t; rows = S }) (text-held m fit (new_bytes m w)) (rows-held m fit (new_bytes m w)) ∙ sym (feed-as-edits m fit w a),
      )

-- an accepted feed, then its inverse feed: accepted, with the first used length, and the record is as it was, in the same memory
pub applied-undone : (m : Memory) (w : List ℕ) → All (λ b. b < 256) w → (m' m'' : Memory) (n : ℕ) (r : Result ℕ (Refusal FeedRefusal)) → ApplyIs m m' w (Ok n)
    → ApplyIs (memory_next m' (Ok n)) m'' (inverse_feed m w) r → (r ≡ Ok m.used) × SameRecord m (memory_next m'' (Ok m.used))
applied-undone m w bytes m' m'' n r h k =
    let t = applied-takes m w (ap Says (sym h.answer)) in
    let z = applied-is m w m' (Ok n) t h in
    let c : n ≡ length (corrected_text m w) = cc in
    let e : memory_next m' (Ok n) ≡ memory_corrected m w = ap (λ (i : ℕ). memory_next m' (Ok i)) c ∙ z.1 in
    let M = memory_corrected m w in
    let k' = subst (λ (q : Memory). ApplyIs q m'' (inverse_feed m w) r) e k in
    let y = applied-is M (inverse_feed m w) m'' r (inverse-taken m w bytes t) k' in
    let fit = (passed-good m w t.passed).0 in
    let l : length (corrected_text M (inverse_feed m w)) ≡ m.used = ap length (text-back m w bytes t) ∙ length-take-le m.used m.text (fit-lent m fit).0 in
    (y.0 ∙ ap Ok l, subst⁻¹ (SameRecord m) (ap (λ (i : ℕ). memory_next m'' (Ok i)) (sym l) ∙ y.1) (feed-inverse m w bytes t))
