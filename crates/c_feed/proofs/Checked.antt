-- What sgf_feed_check says: 0, 19 and 24 exactly when; every other number by the first correction that is refused; and after a 0, sgf_feed_find agrees with
-- sgf_corrected. Assumes nothing.
use Rattle.lists.proofs.Prelude.{ℕ, ◌<◌, true, false, List, ◌≡◌, refl, sym, ap, ◌∙◌, arith, lt-ltb}
use Rattle.tables.specs.Columns.{val_from_at, val_to_at}
use Rattle.tables.specs.Memory.{Memory}
use Rattle.tables.specs.Numbers.{number_of}
use Rattle.tables.specs.declared.Reason.TheVariants.{NotFitting as FitReason, NoSuchNumber as NumberReason, GameTypeFixed as GameReason, NotUtf8 as Utf8Reason, NotClosed as ClosedReason, TextTooLong as LongReason, NoRoom as RoomReason}
use Rattle.fit.specs.Fit.{Fit}
use Rattle.fit.specs.Record.{rows_in, text_in}
use Rattle.feed.specs.Feed.{listing}
use Rattle.feed.specs.Find.{found_in}
use Rattle.feed_check.specs.Check.{feed_number, feed_checked, corrections_judged}
use Rattle.feed_check.specs.declared.FeedRefusal.TheVariants.{NotFitting, Malformed, NoSuchNumber, GameTypeFixed, NotUtf8, NotClosed, TextTooLong, NoRoom}
use Rattle.feed_value.specs.Look.{looked_up, source_of}
use Rattle.c_feed.specs.Parts.{part_in_c, found_in_c, check_in_c}
use Rattle.c_feed.specs.declared.SgfCheck.{SgfCheck}
use Rattle.c_feed.specs.declared.SgfPart.{SgfPart}
use Rattle.c_feed.proofs.Corrected.{no_zero}
use Rattle.std.specs.Prelude.{Option, Some, None, Result, Ok, Err, ⊤}
use Rattle.tables.specs.Refusals.{refusal}
use Rattle.feed_check.specs.declared.FeedRefusal.{FeedRefusal}
use Rattle.tables.specs.declared.Refusal.{Refusal}

-- a feed's refusals have the numbers that all functions give for them; 24 is theirs alone
pub feed-numbers : (feed_number NotFitting ≡ number_of FitReason) × (feed_number NoSuchNumber ≡ number_of NumberReason) × (feed_number GameTypeFixed ≡ number_of GameReason)
    × (feed_number NotUtf8 ≡ number_of Utf8Reason) × (feed_number NotClosed ≡ number_of ClosedReason) × (feed_number TextTooLong ≡ number_of LongReason) × (feed_number NoRoom ≡ number_of RoomReason)
feed-numbers = (refl, refl, refl, refl, refl, refl, refl)

module _ (m : Memory) (w : List ℕ) (c : SgfCheck) (s : c ≡ check_in_c (feed_checked m w)) where
  number_is : (x : Result ⊤ (Refusal FeedRefusal)) → feed_checked m w ≡ x → c.number ≡ (check_in_c x).number
  number_is x e = ap (λ (y : SgfCheck). y.number) (s ∙ ap check_in_c e)

  pub check-passed : c.number ≡ 0 → feed_checked m w ≡ Ok tt
  check-passed z = go (feed_checked m w) refl
    where
      go : (x : Result ⊤ (Refusal FeedRefusal)) → feed_checked m w ≡ x → feed_checked m w ≡ Ok tt
      go (Ok tt) e = e
      go (Err r) e = no_zero r.reason (sym (number_is (Err (refusal r.reason r.place)) e) ∙ z)

  pub passed-check : feed_checked m w ≡ Ok tt → c.number ≡ 0
  passed-check e = number_is (Ok tt) e

  -- 19 where the tables do not fit
  pub misfit-checked : Fit m ≡ false → c.number ≡ 19
  unfolding feed_checked
  misfit-checked f = number_is (Err (refusal NotFitting 0)) (rw f)

  -- 24 where they fit and the feed is malformed
  pub malformed-checked : Fit m ≡ true → (listing w).whole ≡ false → c.number ≡ 24
  unfolding feed_checked
  malformed-checked f l = number_is (Err (refusal Malformed 0)) (rw (f, l))

  -- else as its corrections are judged
  pub judged-checked : Fit m ≡ true → (listing w).whole ≡ true → c ≡ check_in_c (corrections_judged (text_in m) (rows_in m).props m.counts.values w (listing w).entries)
  unfolding feed_checked
  judged-checked f l =
      let e : feed_checked m w ≡ corrections_judged (text_in m) (rows_in m).props m.counts.values w (listing w).entries = rw (f, l) in
      s ∙ ap check_in_c e

  -- ---- a feed that passes is looked into without a check

  pub find-agrees : c.number ≡ 0 → (k : ℕ) → k < m.counts.values → (r p : SgfPart) → r ≡ part_in_c (looked_up m w k) → p ≡ found_in_c (found_in (listing w).entries k)
      → (r.number ≡ 0) × (r.source ≡ p.source) × ((p.source ≡ 1) → r ≡ p) × ((p.source ≡ 0) → (r.from ≡ val_from_at m.values k) × (r.to ≡ val_to_at m.values k))
  unfolding looked_up
  find-agrees z k l r p er ep = go (found_in (listing w).entries k) (er ∙ ap part_in_c looked) ep
    where
      looked : looked_up m w k ≡ source_of (found_in (listing w).entries k) (val_from_at m.values k) (val_to_at m.values k)
      looked = rw (check-passed z, lt-ltb k m.counts.values l)

      go : (x : Option (ℕ × ℕ)) → r ≡ part_in_c (source_of x (val_from_at m.values k) (val_to_at m.values k)) → p ≡ found_in_c x
          → (r.number ≡ 0) × (r.source ≡ p.source) × ((p.source ≡ 1) → r ≡ p) × ((p.source ≡ 0) → (r.from ≡ val_from_at m.values k) × (r.to ≡ val_to_at m.values k))
      go (Some (a, e)) f g =
          (ap (λ (y : SgfPart). y.number) f, ap (λ (y : SgfPart). y.source) (f ∙ sym g), (λ _. f ∙ sym g), (λ h. absurd (omega (arith, h, ap (λ (y : SgfPart). y.source) g))))
      go None f g = (
        ap (λ (y : SgfPart). y.number) f,
        ap (λ (y : SgfPart). y.source) f ∙ sym (ap (λ (y : SgfPart). y.source) g),
        (λ h. absurd (omega (arith, h, ap (λ (y : SgfPart). y.source) g))),
        (λ _. (ap (λ (y : SgfPart). y.from) f, ap (λ (y : SgfPart). y.to) f)),
      )
