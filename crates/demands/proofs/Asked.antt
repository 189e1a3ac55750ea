-- The exported questions about a record, by number: fitting, value access, display, Go value. When each number is given, what a refusal leaves, which numbers there are. Assumes nothing.
use Rattle.lists.proofs.Prelude.{ℕ, ◌<◌, Bool, true, false, List, ◌⊎◌, inl, inr, ⊎_elim, ◌≡◌, refl, sym, ap, ◌∙◌, subst⁻¹, arith, ltb, length, lt-ltb, le-ltb, le-leb, lt-leb, pick}
use Rattle.value_display.specs.Display.{displayed}
use Rattle.value_display.specs.declared.Kind.{Kind}
use Rattle.tables.specs.Columns.{val_from_at, val_to_at}
use Rattle.tables.specs.Memory.{Memory}
use Rattle.tables.specs.Numbers.{number_of}
use Rattle.tables.specs.declared.Reason.{Reason}
use Rattle.tables.specs.declared.Reason.TheVariants.{NoRoom, NoSuchNumber, NotFitting}
use Rattle.tables.proofs.Cases.{either-bool, below_or}
use Rattle.fit.specs.Fit.{Fit}
use Rattle.fit.specs.Record.{record_in}
use Rattle.ask_value.specs.Access.{accessed}
use Rattle.ask.specs.Ask as ask
use Rattle.ask.specs.declared.GoAnswer.{GoAnswer}
use Rattle.c_answers.specs.Structs.{span_in_c, display_in_c}
use Rattle.c_answers.specs.declared.SgfDisplay.{SgfDisplay}
use Rattle.c_answers.specs.declared.SgfGoValue.{SgfGoValue}
use Rattle.c_answers.specs.declared.SgfSpan.{SgfSpan}
use Rattle.sgf.specs.AskInC.{fits_in_c, DisplayInC, go_answer_in_c}
use Rattle.demands.specs.When.{Exactly, Answered, Unanswered, misfit, beyond, display_of, Displays, Undisplayed, unanswered, full}
use Rattle.demands.specs.Lists.{OneOf, fits_numbers, access_numbers, display_numbers}
use Rattle.demands.proofs.Listed.{one_of}
use Rattle.demands.proofs.Numbers.{exactly}
use Rattle.demands.proofs.Refusals.{display-leaves}
use Rattle.std.specs.Prelude.{Some, None, Result, Ok, Err}

-- ---- do tables fit

module _ (m : Memory) (n : ℕ) (s : n ≡ fits_in_c (Fit m)) where
  fits-zero : Fit m ≡ true → n ≡ 0
  fits-zero f = s ∙ ap fits_in_c f

  fits_not : Fit m ≡ false → n ≡ 19
  fits_not f = s ∙ ap fits_in_c f

  pub fits-exactly : Exactly n (Fit m ≡ true) (λ x. (x ≡ NotFitting) × (Fit m ≡ false))
  fits-exactly =
      exactly n (Fit m ≡ true) (λ x. (x ≡ NotFitting) × (Fit m ≡ false)) (either-bool (Fit m) (λ f. inl f) (λ f. inr (NotFitting, (refl, f)))) fits-zero
      (λ x b. fits_not b.1 ∙ ap number_of (sym b.0))

  pub fits-listed : OneOf fits_numbers n
  fits-listed =
      either-bool (Fit m) (λ f. subst⁻¹ (OneOf fits_numbers) (fits-zero f) (one_of fits_numbers 0 refl)) (λ f. subst⁻¹ (OneOf fits_numbers) (fits_not f) (one_of fits_numbers 19 refl))

-- ---- a number asked for

asked-decided : (m : Memory) (count k : ℕ) → Answered m count k ⊎ ((x : Reason) × Unanswered m count k x)
asked-decided m count k =
    either-bool (Fit m) (λ f. below_or k count (λ b. inl (record { fits = f; below = b })) (λ b. inr (NoSuchNumber, beyond f b))) (λ f. inr (NotFitting, misfit f))

unasked-listed : {m : Memory} {count k : ℕ} {x : Reason} → Unanswered m count k x → OneOf access_numbers (number_of x)
unasked-listed (misfit f) = one_of access_numbers 19 refl
unasked-listed (beyond f b) = one_of access_numbers 16 refl

-- an answer by such a number
module _ (m : Memory) (count k n : ℕ) (zero-if : Answered m count k → n ≡ 0) (each-if : (x : Reason) → Unanswered m count k x → n ≡ number_of x) where
  pub asked-exactly : Exactly n (Answered m count k) (Unanswered m count k)
  asked-exactly = exactly n (Answered m count k) (Unanswered m count k) (asked-decided m count k) zero-if each-if

  pub asked-listed : OneOf access_numbers n
  asked-listed =
      ⊎_elim (λ a. subst⁻¹ (OneOf access_numbers) (zero-if a) (one_of access_numbers 0 refl))
      (λ u. subst⁻¹ (OneOf access_numbers) (each-if u.0 u.1) (unasked-listed u.1)) (asked-decided m count k)

-- ---- value access

module _ (m : Memory) (k : ℕ) where
  abbrev Span : Result (ℕ × ℕ) Reason
  Span = Ok (val_from_at m.values k, val_to_at m.values k)

  accessed-asked : Answered m m.counts.values k → accessed m k ≡ Span
  unfolding accessed
  accessed-asked a =
      ap (λ (b : Bool). pick b (pick (ltb k m.counts.values) Span (Err NoSuchNumber)) (Err NotFitting)) a.fits
      ∙ ap (λ (b : Bool). pick b Span (Err NoSuchNumber)) (lt-ltb k m.counts.values a.below)

  accessed-unasked : {x : Reason} → Unanswered m m.counts.values k x → accessed m k ≡ Err x
  unfolding accessed
  accessed-unasked (misfit f) = ap (λ (b : Bool). pick b (pick (ltb k m.counts.values) Span (Err NoSuchNumber)) (Err NotFitting)) f
  accessed-unasked (beyond f l) =
      ap (λ (b : Bool). pick b (pick (ltb k m.counts.values) Span (Err NoSuchNumber)) (Err NotFitting)) f
      ∙ ap (λ (b : Bool). pick b Span (Err NoSuchNumber)) (le-ltb k m.counts.values l)

  module _ (r : SgfSpan) (s : r ≡ span_in_c (accessed m k)) where
    span-zero : Answered m m.counts.values k → r.number ≡ 0
    span-zero a = ap (λ (z : SgfSpan). z.number) (s ∙ ap span_in_c (accessed-asked a))

    span-each : (x : Reason) → Unanswered m m.counts.values k x → r.number ≡ number_of x
    span-each x u = ap (λ (z : SgfSpan). z.number) (s ∙ ap span_in_c (accessed-unasked u))

    pub value-exactly : Exactly r.number (Answered m m.counts.values k) (Unanswered m m.counts.values k)
    value-exactly = asked-exactly m m.counts.values k r.number span-zero span-each

    pub value-listed : OneOf access_numbers r.number
    value-listed = asked-listed m m.counts.values k r.number span-zero span-each

  -- ---- display

  module _ (kind : Kind) (out out' : List ℕ) (r : SgfDisplay) (s : DisplayInC m k kind out out' r) where
    abbrev D : List ℕ
    D = display_of m k kind

    displays-answer : Displays m k kind (length out) → ask.display m.text (accessed m k) kind out ≡ Ok (length D)
    unfolding displayed
    displays-answer x =
        ap (λ (a : Result (ℕ × ℕ) Reason). ask.display m.text a kind out) (accessed-asked x.asked)
        ∙ ap (λ (b : Bool). ask.display_for (pick b (Some (length D)) None)) (le-leb (length D) (length out) x.long)

    undisplayed-answer : {x : Reason} → Undisplayed m k kind (length out) x → ask.display m.text (accessed m k) kind out ≡ Err x
    unfolding displayed
    undisplayed-answer (unanswered u) = ap (λ (a : Result (ℕ × ℕ) Reason). ask.display m.text a kind out) (accessed-unasked u)
    undisplayed-answer (full a l) =
        ap (λ (z : Result (ℕ × ℕ) Reason). ask.display m.text z kind out) (accessed-asked a)
        ∙ ap (λ (b : Bool). ask.display_for (pick b (Some (length D)) None)) (lt-leb (length D) (length out) l)

    display-decided : Displays m k kind (length out) ⊎ ((x : Reason) × Undisplayed m k kind (length out) x)
    display-decided =
        ⊎_elim (λ a. below_or (length out) (length D) (λ l. inr (NoRoom, full a l)) (λ l. inl (record { asked = a; long = l }))) (λ u. inr (u.0, unanswered u.1))
        (asked-decided m m.counts.values k)

    display-zero : Displays m k kind (length out) → r.number ≡ 0
    display-zero x = ap (λ (z : SgfDisplay). z.number) (s.is ∙ ap display_in_c (displays-answer x))

    display-each : (x : Reason) → Undisplayed m k kind (length out) x → r.number ≡ number_of x
    display-each x u = ap (λ (z : SgfDisplay). z.number) (s.is ∙ ap display_in_c (undisplayed-answer u))

    pub display-exactly : Exactly r.number (Displays m k kind (length out)) (Undisplayed m k kind (length out))
    display-exactly = exactly r.number (Displays m k kind (length out)) (Undisplayed m k kind (length out)) display-decided display-zero display-each

    pub display-stays : 0 < r.number → out' ≡ out
    display-stays l =
        ⊎_elim (λ x. absurd (omega (arith, display-zero x)))
        (λ u. display-leaves m.text (accessed m k) kind out out' u.0 (sym (undisplayed-answer u.1)) s.bytes) display-decided

    undisplayed-listed : {x : Reason} → Undisplayed m k kind (length out) x → OneOf display_numbers (number_of x)
    undisplayed-listed (unanswered (misfit f)) = one_of display_numbers 19 refl
    undisplayed-listed (unanswered (beyond f b)) = one_of display_numbers 16 refl
    undisplayed-listed (full a l) = one_of display_numbers 14 refl

    pub display-listed : OneOf display_numbers r.number
    display-listed =
        ⊎_elim (λ x. subst⁻¹ (OneOf display_numbers) (display-zero x) (one_of display_numbers 0 refl))
        (λ u. subst⁻¹ (OneOf display_numbers) (display-each u.0 u.1) (undisplayed-listed u.1)) display-decided

-- ---- Go value

module _ (m : Memory) (p : ℕ) (r : SgfGoValue) (s : r ≡ go_answer_in_c (ask.go_answer m p)) where
  abbrev Go : GoAnswer
  Go = ask.given (ask.go_at (record_in m) p)

  go_asked : Answered m m.counts.properties p → r.number ≡ 0
  unfolding ask.go_answer
  go_asked a =
      ap (λ (z : SgfGoValue). z.number) s
      ∙ ap (λ (b : Bool). (go_answer_in_c (pick b (pick (ltb p m.counts.properties) Go (ask.refuses NoSuchNumber)) (ask.refuses NotFitting))).number) a.fits
      ∙ ap (λ (b : Bool). (go_answer_in_c (pick b Go (ask.refuses NoSuchNumber))).number) (lt-ltb p m.counts.properties a.below)

  go-unasked : (x : Reason) → Unanswered m m.counts.properties p x → r.number ≡ number_of x
  unfolding ask.go_answer
  go-unasked x (misfit f) =
      ap (λ (z : SgfGoValue). z.number) s
      ∙ ap (λ (b : Bool). (go_answer_in_c (pick b (pick (ltb p m.counts.properties) Go (ask.refuses NoSuchNumber)) (ask.refuses NotFitting))).number) f
  go-unasked x (beyond f l) =
      ap (λ (z : SgfGoValue). z.number) s
      ∙ ap (λ (b : Bool). (go_answer_in_c (pick b (pick (ltb p m.counts.properties) Go (ask.refuses NoSuchNumber)) (ask.refuses NotFitting))).number) f
      ∙ ap (λ (b : Bool). (go_answer_in_c (pick b Go (ask.refuses NoSuchNumber))).number) (le-ltb p m.counts.properties l)

  pub go-exactly : Exactly r.number (Answered m m.counts.properties p) (Unanswered m m.counts.properties p)
  go-exactly = asked-exactly m m.counts.properties p r.number go_asked go-unasked

  pub go-listed : OneOf access_numbers r.number
  go-listed = asked-listed m m.counts.properties p r.number go_asked go-unasked
