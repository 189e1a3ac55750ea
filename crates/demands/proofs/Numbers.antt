-- The numbers of the reasons: none is 0, and no two reasons share one; so a function that answers by them gives each exactly where its reason holds. Assumes nothing.
use Rattle.lists.proofs.Prelude.{ℕ, zero, suc, ◌≤◌, ◌<◌, List, [], ◌∷◌, ◌⊎◌, inl, inr, ⊎_elim, ◌≡◌, refl, sym, ap, ◌∙◌, subst, arith, length, get_or}
use Rattle.tables.specs.Numbers.{number_of}
use Rattle.tables.specs.declared.Reason.{Reason}
use Rattle.tables.specs.declared.Reason.TheVariants.{TextTooLong, NotUtf8, MissingPropertyIdentifier, UnexpectedEndOfPropertyIdentifier, UnexpectedEndOfPropertyValue, UnexpectedGameTreeEnd, UnexpectedEndOfData, NoGameTrees, TooDeep, UnexpectedGameTreeStart, UnexpectedProperty, InvalidGameType, NoRoom, EmptyIdentifier, NoSuchNumber, GameTypeFixed, NotClosed, NotFitting}
use Rattle.tables.proofs.Cases.{below_or}
use Rattle.demands.specs.When.{Exactly}

-- the reasons by their numbers; any for 0 and 13
abbrev reasons : List Reason
reasons =
    TextTooLong ∷ TextTooLong ∷ NotUtf8 ∷ MissingPropertyIdentifier ∷ UnexpectedEndOfPropertyIdentifier ∷ UnexpectedEndOfPropertyValue ∷ UnexpectedGameTreeEnd
    ∷ UnexpectedEndOfData ∷ NoGameTrees ∷ TooDeep ∷ UnexpectedGameTreeStart ∷ UnexpectedProperty ∷ InvalidGameType ∷ NoRoom ∷ NoRoom
    ∷ EmptyIdentifier ∷ NoSuchNumber ∷ GameTypeFixed ∷ NotClosed ∷ NotFitting ∷ []

abbrev reason_at : ℕ → Reason
reason_at n = get_or reasons n NotFitting

reason-back : (r : Reason) → reason_at (number_of r) ≡ r
reason-back TextTooLong = refl
reason-back NotUtf8 = refl
reason-back MissingPropertyIdentifier = refl
reason-back UnexpectedEndOfPropertyIdentifier = refl
reason-back UnexpectedEndOfPropertyValue = refl
reason-back UnexpectedGameTreeEnd = refl
reason-back UnexpectedEndOfData = refl
reason-back NoGameTrees = refl
reason-back TooDeep = refl
reason-back UnexpectedGameTreeStart = refl
reason-back UnexpectedProperty = refl
reason-back InvalidGameType = refl
reason-back NoRoom = refl
reason-back EmptyIdentifier = refl
reason-back NoSuchNumber = refl
reason-back GameTypeFixed = refl
reason-back NotClosed = refl
reason-back NotFitting = refl

-- no two reasons share a number
pub number-once : (r s : Reason) → number_of r ≡ number_of s → r ≡ s
number-once r s e = sym (reason-back r) ∙ ap reason_at e ∙ reason-back s

-- no reason has the number of acceptance
pub number-some : (r : Reason) → 0 < number_of r
number-some r =
    below_or 0 (number_of r) (λ l. l)
    (λ l.
    let e : number_of r ≡ 0 = omega arith in
    let s : r ≡ TextTooLong = sym (reason-back r) ∙ ap reason_at e in
    absurd (omega (arith, e, ap number_of s)))

-- no reason has the number 13
number-not-13 : (r : Reason) → number_of r ≡ 13 → ⊥
number-not-13 r e =
    let s : r ≡ NoRoom = sym (reason-back r) ∙ ap reason_at e in
    omega (arith, e, ap number_of s)

past : (xs : List Reason) (n : ℕ) (d : Reason) → length xs ≤ n → get_or xs n d ≡ d
past [] n d h = refl
past (x ∷ xs) zero d h = absurd (omega (arith, h))
past (x ∷ xs) (suc n) d h = past xs n d (omega (arith, h))

-- none is above 19
number-upto : (r : Reason) → number_of r ≤ 19
number-upto r =
    below_or 19 (number_of r)
    (λ l.
    let h : 20 ≤ number_of r = omega (arith, l) in
    let s : r ≡ NotFitting = sym (reason-back r) ∙ past reasons (number_of r) NotFitting h in
    absurd (omega (arith, l, ap number_of s)))
    (λ l. l)

-- so no function that answers by them gives more
pub upto-19 : {n : ℕ} {A : Type 0} {B : Reason → Type 0} → Exactly n A B → n ≤ 19
upto-19 x = ⊎_elim (λ z. omega (arith, z)) (λ b. omega (arith, b.1, number-upto b.0)) x.no_other

-- nor 13
pub never-13 : {n : ℕ} {A : Type 0} {B : Reason → Type 0} → Exactly n A B → n ≡ 13 → ⊥
never-13 x e = ⊎_elim (λ z. omega (arith, e, z)) (λ b. number-not-13 b.0 (sym b.1 ∙ e)) x.no_other

module _ (n : ℕ) (A : Type 0) (B : Reason → Type 0) (decided : A ⊎ ((x : Reason) × B x)) (zero-if : A → n ≡ 0) (each-if : (x : Reason) → B x → n ≡ number_of x) where
  only_zero : n ≡ 0 → A
  only_zero e = ⊎_elim (λ a. a) (λ b. absurd (omega (arith, e, each-if b.0 b.1, number-some b.0))) decided

  only-each : (x : Reason) → n ≡ number_of x → B x
  only-each x e =
      ⊎_elim (λ a. absurd (omega (arith, e, zero-if a, number-some x))) (λ b. subst B (number-once b.0 x (sym (each-if b.0 b.1) ∙ e)) b.1) decided

  -- one answer to each input, each number where its reason holds: then nowhere else
  pub exactly : Exactly n A B
  exactly =
      record {
        zero = (only_zero, zero-if);
        each = λ x. (only-each x, each-if x);
        no_other = ⊎_elim (λ a. inl (zero-if a)) (λ b. inr (b.0, each-if b.0 b.1)) decided;
      }
