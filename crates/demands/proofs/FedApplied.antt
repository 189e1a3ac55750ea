-- The exported feed applied: when each number is given, and what is given back where it is refused. Assumes nothing.
use Rattle.lists.proofs.Prelude.{ℕ, ◌<◌, List, ◌≡◌, refl, ap, ◌∙◌, arith, length, lt-ltb, le-ltb}
use Rattle.tables.specs.Memory.{Memory}
use Rattle.tables.specs.Numbers.{text_limit}
use Rattle.tables.proofs.Cases.{below_or}
use Rattle.feed_check.specs.Check.{feed_checked}
use Rattle.feed_check.specs.declared.FeedRefusal.TheVariants.{TextTooLong, NoRoom}
use Rattle.feed_laws.specs.Applied.{Applying, refusing, applying, on_length, once_checked, feed_applied}
use Rattle.feed_laws.specs.Corrected.{corrected_text, corrected_rows}
use Rattle.feed_apply.specs.Lent.{applied_for}
use Rattle.c_answers.specs.Structs.{no_counts}
use Rattle.c_answers.specs.declared.SgfEdit.{SgfEdit}
use Rattle.c_feed.specs.Parts.{applied_in_c, CorrectInC}
use Rattle.demands.specs.Calls.{counts_in}
use Rattle.demands.specs.Requests.{OnlyAt, ApplyBecause}
use Rattle.demands.specs.Requests as when
use Rattle.demands.proofs.Fed.{only_at, Says, feed-says}
use Rattle.demands.proofs.FedInto.{feed-passed, feed-or}
use Rattle.std.specs.Prelude.{Result, Ok, Err, ⊤}
use Rattle.feed_check.specs.declared.FeedRefusal.{FeedRefusal}
use Rattle.tables.specs.declared.Refusal.{Refusal}

module _ (m : Memory) (w : List ℕ) (m' : Memory) (r : SgfEdit) (s : CorrectInC m m' w r) where
  abbrev AppliesAs : SgfEdit → (number place : ℕ) → Type 0
  AppliesAs x n p = (x.number ≡ n) × (x.place ≡ p)

  abbrev applies : Result ⊤ (Refusal FeedRefusal) → SgfEdit
  applies c = applied_in_c m.counts (applied_for (once_checked c (on_length (length m.text) (corrected_text m w) (corrected_rows m w))))

  applied : r ≡ applies (feed_checked m w)
  unfolding feed_applied
  applied = s.is

  of : {x : SgfEdit} {n p : ℕ} → r ≡ x → AppliesAs x n p → AppliesAs r n p
  of e h = (ap (λ (z : SgfEdit). z.number) e ∙ h.0, ap (λ (z : SgfEdit). z.place) e ∙ h.1)

  refused-applies : (c : Result ⊤ (Refusal FeedRefusal)) {n p : ℕ} → 0 < n → Says c n p → AppliesAs (applies c) n p
  refused-applies (Ok tt) l h = absurd (omega (arith, l, h.0))
  refused-applies (Err e) l h = h

  abbrev L : ℕ
  L = length (corrected_text m w)

  abbrev shown : Applying → SgfEdit
  shown o = applied_in_c m.counts (applied_for o)

  gives : (n p : ℕ) → ApplyBecause m w n p → AppliesAs r n p
  gives n p (when.refused l b) = of applied (refused-applies (feed_checked m w) l (feed-says m w b))
  gives n p (when.long b h) = of {x = shown (refusing TextTooLong 0)} (applied ∙ ap applies (feed-passed m w b) ∙ rw (lt-ltb text_limit L h)) (refl, refl)
  gives n p (when.full b h o) = of {x = shown (refusing NoRoom 0)} (applied ∙ ap applies (feed-passed m w b) ∙ rw (le-ltb text_limit L h, lt-ltb (length m.text) L o)) (refl, refl)
  gives n p (when.done b h o) = of {x = shown (applying (corrected_text m w) (corrected_rows m w))} (applied ∙ ap applies (feed-passed m w b) ∙ rw (le-ltb text_limit L h, le-ltb (length m.text) L o)) (refl, refl)

  pub apply-only : OnlyAt (ApplyBecause m w) r.number r.place
  apply-only =
      only_at (ApplyBecause m w) r.number r.place
      (feed-or m w
      (λ b. below_or text_limit L (λ h. (1, 0, when.long b h)) (λ h. below_or (length m.text) L (λ o. (14, 0, when.full b h o)) (λ o. (0, 0, when.done b h o))))
      (λ n p l b. (n, p, when.refused l b))) gives

  pub apply-zeros : 0 < r.number → (r.used ≡ 0) × (counts_in r ≡ no_counts)
  apply-zeros l = go (feed_applied m w) s.is
    where
      go : (o : Applying) → r ≡ applied_in_c m.counts (applied_for o) → (r.used ≡ 0) × (counts_in r ≡ no_counts)
      go (refusing f p) h = (ap (λ (z : SgfEdit). z.used) h, ap counts_in h)
      go (applying t T) h = absurd (omega (arith, l, ap (λ (z : SgfEdit). z.number) h))
