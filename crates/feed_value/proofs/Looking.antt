-- What a lookup answers, test by test; and that what it names lies in the text or in the feed. Assumes nothing.
use Rattle.lists.proofs.Prelude.{ℕ, ◌≤◌, ◌<◌, ◌≡◌, refl, sym, ap, ap₂, ◌∙◌, subst, arith, Bool, true, false, List, length, ltb, lt-ltb, le-ltb, ltb-true, pick}
use Rattle.lists.proofs.Tests.{never}
use Rattle.tables.specs.Columns.{val_from_at, val_to_at}
use Rattle.tables.specs.Memory.{Memory}
use Rattle.tables.proofs.Cases.{either-bool}
use Rattle.fit.specs.Fit.{Fit}
use Rattle.fit.proofs.Clauses.{fit-vals}
use Rattle.fit.proofs.Whole.{fit-lent}
use Rattle.feed.specs.Feed.{listing}
use Rattle.feed.specs.Find.{found_in}
use Rattle.feed.proofs.Lying.{found_inside}
use Rattle.feed_check.specs.Check.{feed_checked}
use Rattle.feed_check.specs.declared.FeedRefusal.{FeedRefusal}
use Rattle.feed_check.specs.declared.FeedRefusal.TheVariants.{NoSuchNumber}
use Rattle.feed_check.proofs.Judging.{checked-misfit}
use Rattle.feed_value.specs.Look.{source_of, unless_refused, looked_up}
use Rattle.feed_value.specs.declared.Looked.{Looked}
use Rattle.feed_value.specs.declared.Looked.TheVariants.{Record, Feed, Refused}
use Rattle.std.specs.Prelude.{Option, Some, None, Result, Ok, Err, ⊤}
use Rattle.tables.specs.Refusals.{refusal}
use Rattle.tables.specs.declared.Refusal.{Refusal}

abbrev passes : Result ⊤ (Refusal FeedRefusal) → ℕ
passes (Ok tt) = 1
passes (Err e) = 0

module _ (m : Memory) (w : List ℕ) where
  -- a feed passes only over tables that fit
  pub passed-fit : feed_checked m w ≡ Ok tt → Fit m ≡ true
  passed-fit h = either-bool (Fit m) (λ f. f) (λ f. never (ap passes (checked-misfit m w f ∙ h)))

  module _ (k : ℕ) where
    abbrev Source : Looked
    Source = source_of (found_in (listing w).entries k) (val_from_at m.values k) (val_to_at m.values k)

    pub looked-refused : (f : FeedRefusal) (p : ℕ) → feed_checked m w ≡ Err (refusal f p) → Refused f p ≡ looked_up m w k
    unfolding looked_up
    looked-refused f p h = sym (ap (λ (x : Result ⊤ (Refusal FeedRefusal)). unless_refused x (pick (ltb k m.counts.values) Source (Refused NoSuchNumber 0))) h)

    module _ (h : feed_checked m w ≡ Ok tt) where
      pub looked-beyond : m.counts.values ≤ k → Refused NoSuchNumber 0 ≡ looked_up m w k
      unfolding looked_up
      looked-beyond l =
          sym (ap₂ (λ (x : Result ⊤ (Refusal FeedRefusal)) (b : Bool). unless_refused x (pick b Source (Refused NoSuchNumber 0))) h (le-ltb k m.counts.values l))

      pub looked-source : k < m.counts.values → Source ≡ looked_up m w k
      unfolding looked_up
      looked-source l =
          sym (ap₂ (λ (x : Result ⊤ (Refusal FeedRefusal)) (b : Bool). unless_refused x (pick b Source (Refused NoSuchNumber 0))) h (lt-ltb k m.counts.values l))

    -- ---- where it lies

    abbrev Lies : Looked → Type 0
    Lies (Record a e) = (a ≤ e) × (e ≤ length m.text)
    Lies (Feed a e) = (a ≤ e) × (e ≤ length w)
    Lies (Refused f p) = Unit {0}

    source-lies : Fit m ≡ true → k < m.counts.values → (x : Option (ℕ × ℕ)) → found_in (listing w).entries k ≡ x → Lies (source_of x (val_from_at m.values k) (val_to_at m.values k))
    source-lies fit l (Some (a, e)) f = found_inside w k a e f
    source-lies fit l None f = let v = fit-vals m fit k l in (v.0, omega (arith, v.1, (fit-lent m fit).0))

    looked-lies : Lies (looked_up m w k)
    unfolding looked_up
    looked-lies = go (feed_checked m w) refl
      where
        below : (b : Bool) → ltb k m.counts.values ≡ b → Fit m ≡ true → Lies (pick b Source (Refused NoSuchNumber 0))
        below true l fit = source-lies fit (ltb-true k m.counts.values l) (found_in (listing w).entries k) refl
        below false l fit = tt

        go : (x : Result ⊤ (Refusal FeedRefusal)) → feed_checked m w ≡ x → Lies (unless_refused x (pick (ltb k m.counts.values) Source (Refused NoSuchNumber 0)))
        go (Err e) h = tt
        go (Ok tt) h = below (ltb k m.counts.values) refl (passed-fit h)

    pub record-inside : (a e : ℕ) → looked_up m w k ≡ Record a e → (a ≤ e) × (e ≤ length m.text)
    record-inside a e h = subst Lies h looked-lies

    pub feed-inside : (a e : ℕ) → looked_up m w k ≡ Feed a e → (a ≤ e) × (e ≤ length w)
    feed-inside a e h = subst Lies h looked-lies
