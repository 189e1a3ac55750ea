-- The exported explanations: when each number is given, with its fact and place; number and counts are those of a reading without tables. Assumes nothing.
use Rattle.lists.proofs.Prelude.{ℕ, Bool, List, ◌⊎◌, inl, inr, ◌≡◌, refl, sym, ap, ◌∙◌, subst⁻¹}
use Rattle.tables.specs.Numbers.{number_of}
use Rattle.tables.specs.declared.Counts.{Counts}
use Rattle.tables.specs.declared.Reason.{Reason}
use Rattle.parser.specs.Read.{Answer, refused, accepted, read}
use Rattle.reader.specs.Lent.{rows_counted}
use Rattle.reader_exactly.specs.Slicing.{Iff}
use Rattle.c_answers.specs.Structs.{reading_in_c}
use Rattle.c_answers.specs.declared.SgfReading.{SgfReading}
use Rattle.why_blame.specs.Numbered.{fact_reason}
use Rattle.why_blame.specs.declared.Fact.{Fact}
use Rattle.why_blame.specs.declared.Fact.TheVariants.{Length, BadSequence, NoBracket, Foreign, NotClosed, EndBeyond, StaysOpen, NoNode, NoEnd, TooDeep, EmptyList, SecondGm, Stray, GmValues, GmNumber}
use Rattle.why.specs.Why.{explained}
use Rattle.c_why.specs.WhyInC.{shown_fact, why_in_c}
use Rattle.c_why.specs.declared.SgfWhy.{SgfWhy}
use Rattle.why_grounds.specs.Agree.{SameVerdict}
use Rattle.why_grounds.proofs.Agrees.{why-number}
use Rattle.why_says.specs.Says.{FactSays}
use Rattle.why_says.proofs.Loose.{accepted-exactly}
use Rattle.demands.specs.Cells.{counts_read}
use Rattle.demands.specs.Lists.{OneOf}
use Rattle.demands.specs.Requests.{EndsAt, BlamedFor}
use Rattle.demands.specs.When.{Exactly}
use Rattle.demands.proofs.Numbers.{exactly}
use Rattle.std.specs.Prelude.{Result, Ok, Err}
use Rattle.tables.specs.Refusals.{refusal}
use Rattle.tables.specs.declared.Refusal.{Refusal}

-- a fact is shown with the number of its reason
fact-number : (f : Fact) → (shown_fact f).number ≡ number_of (fact_reason f)
fact-number (Length n) = refl
fact-number BadSequence = refl
fact-number (NoBracket e) = refl
fact-number (Foreign e) = refl
fact-number (NotClosed e) = refl
fact-number EndBeyond = refl
fact-number (StaysOpen d) = refl
fact-number (NoNode n) = refl
fact-number NoEnd = refl
fact-number TooDeep = refl
fact-number (EmptyList q) = refl
fact-number (SecondGm n) = refl
fact-number Stray = refl
fact-number (GmValues k) = refl
fact-number GmNumber = refl

-- the counts that an explanation gives back
abbrev counts_why : SgfWhy → Counts
counts_why r = r.counts

module _ (len : Bool) (t : List ℕ) (r : SgfWhy) (s : r ≡ why_in_c (explained len t)) where
  shown : (w : Result (Counts × ℕ) (Refusal Fact)) → explained len t ≡ w → r ≡ why_in_c w
  shown w e = s ∙ ap why_in_c e

  -- number and counts are those of a reading without tables
  pub why-counted : (q : SgfReading) → q ≡ reading_in_c 0 (rows_counted (read len t)) → (r.number ≡ q.number) × (r.counts ≡ counts_read q)
  why-counted q u = go (read len t) refl (explained len t) refl (why-number len t)
    where
      counted-as : (a : Answer) → read len t ≡ a → q ≡ reading_in_c 0 (rows_counted a)
      counted-as a e = u ∙ ap (λ (z : Answer). reading_in_c 0 (rows_counted z)) e

      go : (a : Answer) → read len t ≡ a → (w : Result (Counts × ℕ) (Refusal Fact)) → explained len t ≡ w → SameVerdict a w
          → (r.number ≡ q.number) × (r.counts ≡ counts_read q)
      go (refused x p) e (Err r) d v = (
        ap (λ (z : SgfWhy). z.number) (shown (Err (refusal r.reason r.place)) d) ∙ fact-number r.reason ∙ ap number_of v
            ∙ sym (ap (λ (z : SgfReading). z.number) (counted-as (refused x p) e)),
        ap counts_why (shown (Err (refusal r.reason r.place)) d) ∙ sym (ap counts_read (counted-as (refused x p) e)),
      )
      go (refused x p) e (Ok (c, o)) d v = absurd v
      go (accepted ts) e (Err r) d v = absurd v
      go (accepted ts) e (Ok (c, o)) d v = (
        ap (λ (z : SgfWhy). z.number) (shown (Ok (c, o)) d) ∙ sym (ap (λ (z : SgfReading). z.number) (counted-as (accepted ts) e)),
        ap counts_why (shown (Ok (c, o)) d) ∙ v ∙ sym (ap counts_read (counted-as (accepted ts) e)),
      )

  -- so its numbers are those
  pub why-listed : (xs : List ℕ) → ((q : SgfReading) → q ≡ reading_in_c 0 (rows_counted (read len t)) → OneOf xs q.number) → OneOf xs r.number
  why-listed xs l = let q = reading_in_c 0 (rows_counted (read len t)) in subst⁻¹ (OneOf xs) (why-counted q refl).0 (l q refl)

  module _ (Clears : List ℕ → Fact → Type 0) (grounds : (f : Fact) (p : ℕ) → Iff (explained len t ≡ Err (refusal f p)) (FactSays t f p × Clears t f)) where
    why-decided : EndsAt len t r ⊎ ((x : Reason) × BlamedFor Clears t r x)
    why-decided = go (explained len t) refl
      where
        go : (w : Result (Counts × ℕ) (Refusal Fact)) → explained len t ≡ w → EndsAt len t r ⊎ ((x : Reason) × BlamedFor Clears t r x)
        go (Ok (c, o)) e =
            let x = shown (Ok (c, o)) e in
            let h = (accepted-exactly len t r.counts r.place).0 (e ∙ ap (λ (z : SgfWhy). Ok (z.counts, z.place)) (sym x)) in
            inl (record { counted = record { trees = h.0; is = h.1; counts = h.2 }; loose = h.3 })
        go (Err refusal_e) e =
            let x = shown (Err (refusal refusal_e.reason refusal_e.place)) e in
            let h = (grounds refusal_e.reason r.place).0 (e ∙ ap (λ (z : SgfWhy). Err (refusal refusal_e.reason z.place)) (sym x)) in
            inr (
              fact_reason refusal_e.reason,
              record { ground = refusal_e.reason; reason = refl; says = h.0; clear = h.1; told = ap (λ (z : SgfWhy). z.fact) x; detail = ap (λ (z : SgfWhy). z.detail) x },
            )

    ended : EndsAt len t r → r.number ≡ 0
    ended z = ap (λ (y : SgfWhy). y.number) (shown (Ok (r.counts, r.place)) ((accepted-exactly len t r.counts r.place).1 (z.counted.trees, z.counted.is, z.counted.counts, z.loose)))

    blamed : (x : Reason) → BlamedFor Clears t r x → r.number ≡ number_of x
    blamed x b =
        ap (λ (y : SgfWhy). y.number) (shown (Err (refusal b.ground r.place)) ((grounds b.ground r.place).1 (b.says, b.clear)))
        ∙ fact-number b.ground ∙ ap number_of b.reason

    pub why-exact : Exactly r.number (EndsAt len t r) (BlamedFor Clears t r)
    why-exact = exactly r.number (EndsAt len t r) (BlamedFor Clears t r) why-decided ended blamed
