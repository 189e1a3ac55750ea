-- The exported reading: when each number is given, what a refusal leaves, and which numbers there are. Assumes nothing.
use Rattle.lists.proofs.Prelude.{ℕ, ◌%◌, ◌<◌, Bool, true, List, ◌⊎◌, inl, inr, ⊎_elim, ◌≡◌, refl, sym, ap, ◌∙◌, subst⁻¹, arith, pick}
use Rattle.tables.specs.Numbers.{number_of}
use Rattle.tables.specs.Rows.{tables, counts_of}
use Rattle.tables.specs.declared.Reason.{Reason}
use Rattle.tables.specs.declared.Reason.TheVariants.{NoRoom}
use Rattle.tables.proofs.Cases.{either-bool, true-false}
use Rattle.parser.specs.Read.{Answer, refused, accepted, read}
use Rattle.reader.specs.Lent.{Lent, roomy, answers}
use Rattle.reader.proofs.Reasons.{refused-with}
use Rattle.c_answers.specs.Structs.{reading_in_c, no_counts}
use Rattle.c_answers.specs.declared.SgfReading.{SgfReading}
use Rattle.sgf.specs.ReadInC.{ignored_of, ReadInC}
use Rattle.demands.specs.Cells.{counts_read}
use Rattle.demands.specs.When.{Exactly, ReadsInto, Unread, unread, few}
use Rattle.demands.specs.Lists.{OneOf, strict_numbers, lenient_numbers}
use Rattle.demands.specs.Settings.{Ignores, SameAnswer}
use Rattle.demands.proofs.Listed.{one_of}
use Rattle.demands.proofs.Numbers.{exactly}
use Rattle.demands.proofs.Refusals.{reading-leaves}
use Rattle.std.specs.Prelude.{Result, Ok, Err}
use Rattle.tables.specs.Refusals.{refusal}
use Rattle.tables.specs.declared.Counts.{Counts}
use Rattle.tables.specs.declared.Refusal.{Refusal}

-- ---- the settings

shown-ignored : (i : ℕ) (a : Result Counts (Refusal Reason)) → (reading_in_c i a).ignored ≡ i
shown-ignored i (Ok c) = refl
shown-ignored i (Err e) = refl

shown-same : (i j : ℕ) (a : Result Counts (Refusal Reason)) → SameAnswer (reading_in_c i a) (reading_in_c j a)
shown-same i j (Ok c) = record { number = refl; place = refl; counts = refl }
shown-same i j (Err e) = record { number = refl; place = refl; counts = refl }

ignores : (n i : ℕ) → i ≡ n % 4 → Ignores n i
ignores n i e = record { leniency = omega (arith, e); conversion = omega (arith, e); nothing-else = omega (arith, e) }

pub settings-ignored : (n : ℕ) (a : Answer) (before after : Lent) (r : SgfReading) → ReadInC (ignored_of n) a before after r → Ignores n r.ignored
settings-ignored n a before after r s = ignores n r.ignored (ap (λ (z : SgfReading). z.ignored) s.is ∙ shown-ignored (ignored_of n) (answers a before))

module _ (i j : ℕ) (a : Answer) (before x y : Lent) (r q : SgfReading) (s : ReadInC i a before x r) (u : ReadInC j a before y q) where
  pub settings-same : SameAnswer r q × (x ≡ y)
  settings-same =
      let h = shown-same i j (answers a before) in (
        record {
          number = ap (λ (z : SgfReading). z.number) s.is ∙ h.number ∙ sym (ap (λ (z : SgfReading). z.number) u.is);
          place = ap (λ (z : SgfReading). z.place) s.is ∙ h.place ∙ sym (ap (λ (z : SgfReading). z.place) u.is);
          counts = ap counts_read s.is ∙ h.counts ∙ sym (ap counts_read u.is);
        },
        s.tables ∙ sym u.tables,
      )

-- ---- the numbers

module _ (len : Bool) (t : List ℕ) (before : Lent) where
  read-decided : ReadsInto len t before ⊎ ((x : Reason) × (p : ℕ) × Unread len t before x p)
  read-decided = go (read len t) refl
    where
      go : (a : Answer) → read len t ≡ a → ReadsInto len t before ⊎ ((x : Reason) × (p : ℕ) × Unread len t before x p)
      go (refused x p) e = inr (x, p, unread e)
      go (accepted ts) e = either-bool (roomy (tables ts) before) (λ f. inl (record { trees = ts; is = e; room = f })) (λ f. inr (NoRoom, 0, few ts e f))

  pub reads-answer : (x : ReadsInto len t before) → answers (read len t) before ≡ Ok (counts_of (tables x.trees))
  reads-answer x = ap (λ (a : Answer). answers a before) x.is ∙ ap (λ (b : Bool). pick b (Ok (counts_of (tables x.trees))) (Err (refusal NoRoom 0))) x.room

  unread-answer : {x : Reason} {p : ℕ} → Unread len t before x p → answers (read len t) before ≡ Err (refusal x p)
  unread-answer (unread e) = ap (λ (a : Answer). answers a before) e
  unread-answer (few ts e f) = ap (λ (a : Answer). answers a before) e ∙ ap (λ (b : Bool). pick b (Ok (counts_of (tables ts))) (Err (refusal NoRoom 0))) f

  module _ {i : ℕ} (after : Lent) (r : SgfReading) (s : ReadInC i (read len t) before after r) where
    abbrev Because : Reason → Type 0
    Because x = (p : ℕ) × Unread len t before x p × (r.place ≡ p)

    shown_read : (x : ReadsInto len t before) → r ≡ reading_in_c i (Ok (counts_of (tables x.trees)))
    shown_read x = s.is ∙ ap (reading_in_c i) (reads-answer x)

    shown-unread : {x : Reason} {p : ℕ} → Unread len t before x p → r ≡ reading_in_c i (Err (refusal x p))
    shown-unread u = s.is ∙ ap (reading_in_c i) (unread-answer u)

    pub reading-exactly : Exactly r.number (ReadsInto len t before) Because
    reading-exactly =
        exactly r.number (ReadsInto len t before) Because
        (⊎_elim (λ a. inl a) (λ u. inr (u.0, (u.1, u.2, ap (λ (z : SgfReading). z.place) (shown-unread u.2)))) read-decided)
        (λ a. ap (λ (z : SgfReading). z.number) (shown_read a)) (λ x u. ap (λ (z : SgfReading). z.number) (shown-unread u.1))

    pub reading-stays : 0 < r.number → after ≡ before
    reading-stays l =
        ⊎_elim (λ a. absurd (omega (arith, ap (λ (z : SgfReading). z.number) (shown_read a))))
        (λ u. reading-leaves (read len t) before after u.0 u.1 (sym (unread-answer u.2)) s.tables) read-decided

    pub reading-zeros : 0 < r.number → counts_read r ≡ no_counts
    reading-zeros l = ⊎_elim (λ a. absurd (omega (arith, ap (λ (z : SgfReading). z.number) (shown_read a)))) (λ u. ap counts_read (shown-unread u.2)) read-decided

    -- a list that has 0, 14 and the numbers of the definition's reasons has every number given
    numbers-in : (xs : List ℕ) → OneOf xs 0 → OneOf xs 14 → ((x : Reason) (p : ℕ) → read len t ≡ refused x p → OneOf xs (number_of x)) → OneOf xs r.number
    numbers-in xs zero room each =
        ⊎_elim (λ a. subst⁻¹ (OneOf xs) (ap (λ (z : SgfReading). z.number) (shown_read a)) zero)
        (λ u. subst⁻¹ (OneOf xs) (ap (λ (z : SgfReading). z.number) (shown-unread u.2)) (of u.2)) read-decided
      where
        of : {x : Reason} {p : ℕ} → Unread len t before x p → OneOf xs (number_of x)
        of (unread {x = x} {p = p} e) = each x p e
        of (few ts e f) = room

    pub strict-listed : OneOf strict_numbers r.number
    strict-listed =
        numbers-in strict_numbers (one_of strict_numbers 0 refl) (one_of strict_numbers 14 refl)
        (λ x p e.
        refused-with len (λ (z : Reason) (q : ℕ). OneOf strict_numbers (number_of z)) (one_of strict_numbers 1 refl) (λ _. one_of strict_numbers 2 refl) (one_of strict_numbers 9 refl)
        (λ _. record {
          no3 = λ _. one_of strict_numbers 3 refl;
          no4 = λ _. one_of strict_numbers 4 refl;
          no5 = λ _. one_of strict_numbers 5 refl;
          no6 = one_of strict_numbers 6 refl;
          no7 = one_of strict_numbers 7 refl;
          no8 = one_of strict_numbers 8 refl;
          no10 = one_of strict_numbers 10 refl;
          no11 = one_of strict_numbers 11 refl;
          no12 = one_of strict_numbers 12 refl;
        }) t e)

    pub lenient-listed : len ≡ true → OneOf lenient_numbers r.number
    lenient-listed h =
        numbers-in lenient_numbers (one_of lenient_numbers 0 refl) (one_of lenient_numbers 14 refl)
        (λ x p e.
        refused-with len (λ (z : Reason) (q : ℕ). OneOf lenient_numbers (number_of z)) (one_of lenient_numbers 1 refl) (λ _. one_of lenient_numbers 2 refl) (one_of lenient_numbers 9 refl)
        (λ f. true-false len h f) t e)
