-- The exported questions of the later requests about a record and an identifier: when each number is given, and which numbers there are. Assumes nothing.
use Rattle.lists.proofs.Prelude.{ℕ, ◌<◌, Bool, true, false, List, [], ◌∷◌, inl, inr, ◌↔◌, ◌≡◌, refl, sym, ap, ◌∙◌, subst⁻¹, arith, ltb, eq-eqb, lt-ltb, le-ltb, pick}
use Rattle.lists.specs.Same.{same}
use Rattle.tables.specs.Memory.{Memory}
use Rattle.tables.specs.Numbers.{number_of}
use Rattle.tables.specs.declared.Reason.{Reason}
use Rattle.tables.specs.declared.Reason.TheVariants.{NoSuchNumber, NotFitting}
use Rattle.tables.proofs.Cases.{either-bool}
use Rattle.values.specs.Read.{read_identifier}
use Rattle.go_size.specs.declared.RootSize.{RootSize}
use Rattle.go_size.specs.declared.RootSize.TheVariants.{Absent, Sized, Wrong}
use Rattle.fit.specs.Fit.{Fit}
use Rattle.fit.specs.Record.{record_in}
use Rattle.fit.proofs.RootRows.{same-equal}
use Rattle.season_tally.specs.Tally.{tally_of, tally_answer}
use Rattle.c_tally.specs.TallyInC.{tally_in_c, tally_or_number}
use Rattle.c_tally.specs.declared.SgfTally.{SgfTally}
use Rattle.ff4_values.specs.declared.Simple.{Simple}
use Rattle.ff4_values.specs.declared.Simple.TheVariants.{Other, Invalid, Nothing, Normal, Emphasized, Black, White, Plus, Minus}
use Rattle.ask_simple.specs.AskSimple.{simple_at, simple_answer}
use Rattle.c_simple.specs.InC.{simple_in_c, simple_answer_in_c}
use Rattle.c_simple.specs.declared.SgfSimple.{SgfSimple}
use Rattle.c_size.specs.SizeInC.{size_in_c}
use Rattle.sgf.specs.NamedInC.{named_in_c}
use Rattle.demands.specs.When.{Exactly, Answered, Unanswered, misfit, beyond}
use Rattle.demands.specs.Lists.{OneOf, fits_numbers, access_numbers}
use Rattle.demands.proofs.Asked.{asked-exactly, asked-listed}
use Rattle.demands.proofs.Listed.{one_of}
use Rattle.demands.proofs.Numbers.{exactly}
use Rattle.std.specs.Prelude.{Some, None, Result, Ok, Err}

-- ---- sgf_tally

module _ (m : Memory) (r : SgfTally) (s : r ≡ tally_or_number m) where
  pub tallied : Fit m ≡ true → r ≡ tally_in_c (Some (tally_of (record_in m)))
  unfolding tally_answer
  tallied f = s ∙ ap (λ (b : Bool). tally_in_c (pick b (Some (tally_of (record_in m))) None)) f

  untallied : Fit m ≡ false → r ≡ tally_in_c None
  unfolding tally_answer
  untallied f = s ∙ ap (λ (b : Bool). tally_in_c (pick b (Some (tally_of (record_in m))) None)) f

  pub tally-exactly : Exactly r.number (Fit m ≡ true) (λ x. (x ≡ NotFitting) × (Fit m ≡ false))
  tally-exactly =
      exactly r.number (Fit m ≡ true) (λ x. (x ≡ NotFitting) × (Fit m ≡ false)) (either-bool (Fit m) (λ f. inl f) (λ f. inr (NotFitting, (refl, f))))
      (λ f. ap (λ (z : SgfTally). z.number) (tallied f)) (λ x b. ap (λ (z : SgfTally). z.number) (untallied b.1) ∙ ap number_of (sym b.0))

  pub tally-listed : OneOf fits_numbers r.number
  tally-listed =
      either-bool (Fit m) (λ f. subst⁻¹ (OneOf fits_numbers) (ap (λ (z : SgfTally). z.number) (tallied f)) (one_of fits_numbers 0 refl))
      (λ f. subst⁻¹ (OneOf fits_numbers) (ap (λ (z : SgfTally). z.number) (untallied f)) (one_of fits_numbers 19 refl))

  pub tally-zeros : 0 < r.number → r ≡ tally_in_c None
  tally-zeros l = either-bool (Fit m) (λ f. absurd (omega (arith, l, ap (λ (z : SgfTally). z.number) (tallied f)))) untallied

-- ---- sgf_simple_value, sgf_simple_property

pub simple-number : (a : Simple) → (simple_in_c a).number ≡ 0
simple-number Other = refl
simple-number Invalid = refl
simple-number Nothing = refl
simple-number Normal = refl
simple-number Emphasized = refl
simple-number Black = refl
simple-number White = refl
simple-number (Plus n) = refl
simple-number (Minus n) = refl

module _ (m : Memory) (p : ℕ) (r : SgfSimple) (s : r ≡ simple_answer_in_c (simple_answer m p)) where
  abbrev given : Result Simple Reason
  given = Ok (simple_at (record_in m) p)

  simple-asked : Answered m m.counts.properties p → r.number ≡ 0
  unfolding simple_answer
  simple-asked a =
      ap (λ (z : SgfSimple). z.number) s
      ∙ ap (λ (b : Bool). (simple_answer_in_c (pick b (pick (ltb p m.counts.properties) given (Err NoSuchNumber)) (Err NotFitting))).number) a.fits
      ∙ ap (λ (b : Bool). (simple_answer_in_c (pick b given (Err NoSuchNumber))).number) (lt-ltb p m.counts.properties a.below)
      ∙ simple-number (simple_at (record_in m) p)

  simple-unasked : (x : Reason) → Unanswered m m.counts.properties p x → r.number ≡ number_of x
  unfolding simple_answer
  simple-unasked x (misfit f) =
      ap (λ (z : SgfSimple). z.number) s
      ∙ ap (λ (b : Bool). (simple_answer_in_c (pick b (pick (ltb p m.counts.properties) given (Err NoSuchNumber)) (Err NotFitting))).number) f
  simple-unasked x (beyond f l) =
      ap (λ (z : SgfSimple). z.number) s
      ∙ ap (λ (b : Bool). (simple_answer_in_c (pick b (pick (ltb p m.counts.properties) given (Err NoSuchNumber)) (Err NotFitting))).number) f
      ∙ ap (λ (b : Bool). (simple_answer_in_c (pick b given (Err NoSuchNumber))).number) (le-ltb p m.counts.properties l)

  pub simple-exactly : Exactly r.number (Answered m m.counts.properties p) (Unanswered m m.counts.properties p)
  simple-exactly = asked-exactly m m.counts.properties p r.number simple-asked simple-unasked

  pub simple-listed : OneOf access_numbers r.number
  simple-listed = asked-listed m m.counts.properties p r.number simple-asked simple-unasked

-- ---- sgf_tree_size

pub tree-size-number : (s : RootSize) (rule : ℕ) → (size_in_c s rule).number ≡ 0
tree-size-number Absent rule = refl
tree-size-number (Sized x y) rule = refl
tree-size-number Wrong rule = refl

-- ---- sgf_is_named

same_self : (xs : List ℕ) → same xs xs ≡ true
same_self [] = refl
same_self (x ∷ xs) = rw (eq-eqb x x refl) (same_self xs)

module _ (i w : List ℕ) (n : ℕ) (s : n ≡ named_in_c (same (read_identifier i) w)) where
  named-if : read_identifier i ≡ w → n ≡ 1
  named-if e = s ∙ ap named_in_c (ap (λ (z : List ℕ). same z w) e ∙ same_self w)

  pub named-exactly : ((n ≡ 1) ↔ (read_identifier i ≡ w)) × ((n ≡ 0) ↔ (read_identifier i ≡ w → ⊥))
  named-exactly =
      either-bool (same (read_identifier i) w)
      (λ e.
      let one : n ≡ 1 = s ∙ ap named_in_c e in
      let q = same-equal (read_identifier i) w e in
      (((λ _. q), (λ _. one)), ((λ z. absurd (omega (arith, z, one))), (λ h. absurd (h q)))))
      (λ e.
      let none : n ≡ 0 = s ∙ ap named_in_c e in
      (((λ z. absurd (omega (arith, z, none))), named-if), ((λ _ q. omega (arith, named-if q, none)), (λ _. none))))
