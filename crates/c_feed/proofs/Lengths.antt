-- 0, 1 and 14 of sgf_correct exactly when: by the final length, once the feed passes; any other number is the one that sgf_feed_check gives. Assumes nothing.
use Rattle.lists.proofs.Prelude.{ℕ, ◌<◌, ◌≤◌, Bool, true, false, List, ◌≡◌, ◌↔◌, refl, sym, ap, ◌∙◌, arith, pick, length, lt-ltb, le-ltb}
use Rattle.tables.specs.Memory.{Memory}
use Rattle.tables.specs.Numbers.{text_limit}
use Rattle.tables.proofs.Cases.{below_or}
use Rattle.fit.specs.Fit.{Fit}
use Rattle.fit.specs.Record.{rows_in, text_in}
use Rattle.feed.specs.Feed.{listing}
use Rattle.feed_check.specs.Check.{feed_number, feed_checked, corrections_judged}
use Rattle.feed_check.specs.declared.FeedRefusal.{FeedRefusal}
use Rattle.feed_check.specs.declared.FeedRefusal.TheVariants.{NotFitting, Malformed, TextTooLong, NoRoom}
use Rattle.feed_laws.specs.Applied.{Applying, refusing, applying, on_length, once_checked, feed_applied}
use Rattle.feed_laws.specs.Corrected.{corrected_text, corrected_rows}
use Rattle.feed_apply.specs.Lent.{applied_for}
use Rattle.c_answers.specs.declared.SgfEdit.{SgfEdit}
use Rattle.c_feed.specs.Parts.{check_in_c, applied_in_c, CorrectInC}
use Rattle.c_feed.specs.declared.SgfCheck.{SgfCheck}
use Rattle.c_feed.proofs.Checked.{passed-check}
use Rattle.c_feed.proofs.Corrected.{no_zero}
use Rattle.c_feed.proofs.Exactly.{OfCorrection, passes, unknown, fixed, foreign, unclosed, of-all}
use Rattle.std.specs.Prelude.{Result, Ok, Err, ⊤}
use Rattle.tables.specs.Refusals.{refusal}
use Rattle.tables.specs.declared.Refusal.{Refusal}

-- ---- the check gives neither 1 nor 14

of-correction : {A : Type 0} (x : Result ⊤ (Refusal FeedRefusal)) → OfCorrection x → ((check_in_c x).number ≡ 1 → A) × ((check_in_c x).number ≡ 14 → A)
of-correction _ passes = ((λ h. absurd (omega (arith, h))), (λ h. absurd (omega (arith, h))))
of-correction _ (unknown p) = ((λ h. absurd (omega (arith, h))), (λ h. absurd (omega (arith, h))))
of-correction _ (fixed p) = ((λ h. absurd (omega (arith, h))), (λ h. absurd (omega (arith, h))))
of-correction _ (foreign p) = ((λ h. absurd (omega (arith, h))), (λ h. absurd (omega (arith, h))))
of-correction _ (unclosed p) = ((λ h. absurd (omega (arith, h))), (λ h. absurd (omega (arith, h))))

of-check : {A : Type 0} (m : Memory) (w : List ℕ) → ((check_in_c (feed_checked m w)).number ≡ 1 → A) × ((check_in_c (feed_checked m w)).number ≡ 14 → A)
unfolding feed_checked
of-check {A} m w = go (Fit m) (listing w).whole
  where
    judged : Result ⊤ (Refusal FeedRefusal)
    judged = corrections_judged (text_in m) (rows_in m).props m.counts.values w (listing w).entries

    shown : (b c : Bool) → ℕ
    shown b c = (check_in_c (pick b (pick c judged (Err (refusal Malformed 0))) (Err (refusal NotFitting 0)))).number

    go : (b c : Bool) → (shown b c ≡ 1 → A) × (shown b c ≡ 14 → A)
    go false c = ((λ h. absurd (omega (arith, h))), (λ h. absurd (omega (arith, h))))
    go true false = ((λ h. absurd (omega (arith, h))), (λ h. absurd (omega (arith, h))))
    go true true = of-correction judged (of-all (text_in m) (rows_in m).props m.counts.values w (listing w).entries)

module _ (m m' : Memory) (w : List ℕ) (r : SgfEdit) (s : CorrectInC m m' w r) where
  -- how many bytes the text has as corrected
  abbrev final : ℕ
  final = length (corrected_text m w)

  -- how many the buffer has
  abbrev room : ℕ
  room = length m.text

  number_is : (o : Applying) → feed_applied m w ≡ o → r.number ≡ (applied_in_c m.counts (applied_for o)).number
  number_is o e = ap (λ (x : SgfEdit). x.number) (s.is ∙ ap (λ (y : Applying). applied_in_c m.counts (applied_for y)) e)

  by-check : (x : Result ⊤ (Refusal FeedRefusal)) → feed_checked m w ≡ x
      → feed_applied m w ≡ once_checked x (on_length room (corrected_text m w) (corrected_rows m w))
  unfolding feed_applied
  by-check x e = ap (λ (y : Result ⊤ (Refusal FeedRefusal)). once_checked y (on_length room (corrected_text m w) (corrected_rows m w))) e

  refused : (f : FeedRefusal) (p : ℕ) → feed_checked m w ≡ Err (refusal f p) → r.number ≡ feed_number f
  refused f p e = number_is (refusing f p) (by-check (Err (refusal f p)) e)

  -- ---- a feed that passes

  module _ (e : feed_checked m w ≡ Ok tt) where
    long : text_limit < final → r.number ≡ 1
    long h = number_is (refusing TextTooLong 0) (by-check (Ok tt) e ∙ rw (lt-ltb text_limit final h))

    full : final ≤ text_limit → room < final → r.number ≡ 14
    full h k = number_is (refusing NoRoom 0) (by-check (Ok tt) e ∙ rw (le-ltb text_limit final h, lt-ltb room final k))

    done : final ≤ text_limit → final ≤ room → r.number ≡ 0
    done h k = number_is (applying (corrected_text m w) (corrected_rows m w)) (by-check (Ok tt) e ∙ rw (le-ltb text_limit final h, le-ltb room final k))

  -- ---- the other way: 1 and 14 are given by a length alone

  module _ {A : Type 0} where
    one_of : (f : FeedRefusal) (p : ℕ) → feed_checked m w ≡ Err (refusal f p) → (r.number ≡ 1 → A) × (r.number ≡ 14 → A)
    one_of f p e =
        let o = of-check {A = A} m w in
        let q : (check_in_c (feed_checked m w)).number ≡ r.number = ap (λ (x : Result ⊤ (Refusal FeedRefusal)). (check_in_c x).number) e
        ∙ sym (refused f p e) in
        ((λ h. o.0 (q ∙ h)), (λ h. o.1 (q ∙ h)))

  -- 1 exactly when the feed passes and the final length is above the text limit
  pub long-exactly : (r.number ≡ 1) ↔ ((feed_checked m w ≡ Ok tt) × (text_limit < length (corrected_text m w)))
  long-exactly = ((λ h. go h (feed_checked m w) refl), (λ x. long x.0 x.1))
    where
      go : r.number ≡ 1 → (x : Result ⊤ (Refusal FeedRefusal)) → feed_checked m w ≡ x → (feed_checked m w ≡ Ok tt) × (text_limit < final)
      go h (Ok tt) e =
          below_or text_limit final
          (λ a. (e, a))
          (λ a. below_or room final (λ b. absurd (omega (arith, h, full e a b))) (λ b. absurd (omega (arith, h, done e a b))))
      go h (Err r) e = (one_of r.reason r.place e).0 h

  -- 14 exactly when it passes, the final length is not above the text limit, and the buffer is shorter
  pub full-exactly : (r.number ≡ 14) ↔ ((feed_checked m w ≡ Ok tt) × (length (corrected_text m w) ≤ text_limit) × (length m.text < length (corrected_text m w)))
  full-exactly = ((λ h. go h (feed_checked m w) refl), (λ x. full x.0 x.1 x.2))
    where
      go : r.number ≡ 14 → (x : Result ⊤ (Refusal FeedRefusal)) → feed_checked m w ≡ x → (feed_checked m w ≡ Ok tt) × (final ≤ text_limit) × (room < final)
      go h (Ok tt) e =
          below_or text_limit final
          (λ a. absurd (omega (arith, h, long e a)))
          (λ a. below_or room final (λ b. (e, a, b)) (λ b. absurd (omega (arith, h, done e a b))))
      go h (Err r) e = (one_of r.reason r.place e).1 h

  -- 0 exactly when it passes and the final length is within both
  pub done-exactly : (r.number ≡ 0) ↔ ((feed_checked m w ≡ Ok tt) × (length (corrected_text m w) ≤ text_limit) × (length (corrected_text m w) ≤ length m.text))
  done-exactly = ((λ h. go h (feed_checked m w) refl), (λ x. done x.0 x.1 x.2))
    where
      go : r.number ≡ 0 → (x : Result ⊤ (Refusal FeedRefusal)) → feed_checked m w ≡ x → (feed_checked m w ≡ Ok tt) × (final ≤ text_limit) × (final ≤ room)
      go h (Ok tt) e =
          below_or text_limit final
          (λ a. absurd (omega (arith, h, long e a)))
          (λ a. below_or room final (λ b. absurd (omega (arith, h, full e a b))) (λ b. (e, a, b)))
      go h (Err r) e = no_zero r.reason (sym (refused r.reason r.place e) ∙ h)

  -- ---- every other number is that of sgf_feed_check, with its place

  module _ (c : SgfCheck) (d : c ≡ check_in_c (feed_checked m w)) where
    pub as-checked : (c.number ≡ 0 → ⊥) → (r.number ≡ c.number) × (r.place ≡ c.place)
    as-checked n = go (feed_checked m w) refl
      where
        go : (x : Result ⊤ (Refusal FeedRefusal)) → feed_checked m w ≡ x → (r.number ≡ c.number) × (r.place ≡ c.place)
        go (Ok tt) e = absurd (n (passed-check m w c d e))
        go (Err r) e =
            let y = s.is ∙ ap (λ (z : Applying). applied_in_c m.counts (applied_for z)) (by-check (Err (refusal r.reason r.place)) e) in
            let z = d ∙ ap check_in_c e in
            (ap (λ (x : SgfEdit). x.number) y ∙ sym (ap (λ (x : SgfCheck). x.number) z), ap (λ (x : SgfEdit). x.place) y ∙ sym (ap (λ (x : SgfCheck). x.place) z))
