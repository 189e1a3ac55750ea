-- No second answer of a public function of `why`, of `c_why`, of those that count without tables, and of the step that `why` shares. Assumes nothing.
use Rattle.lists.proofs.Prelude.{◌≡◌, refl, sym, ap, ◌∙◌, Bool, List, ℕ, eqb, pick}
use Rattle.lists.specs.Once.{Once}
use Rattle.lists.proofs.Once.{once_is}
use Rattle.tables.specs.Lenient.{as_reading}
use Rattle.tables.specs.Numbers.{number_of}
use Rattle.tables.specs.declared.LenientRefusal.TheVariants as lenient
use Rattle.parser.specs.Read.{read_strict, read_lenient}
use Rattle.parser_step.specs.LocalsActs.{may_start}
use Rattle.reader.specs.Lent.{rows_counted}
use Rattle.why_blame.specs.declared.Fact.{Fact}
use Rattle.why.specs.Why.{explained}
use Rattle.c_why.specs.WhyInC.{shown_fact, why_in_c}
use Rattle.c_why.specs.declared.Shown.{Shown}
use Rattle.c_why.specs.declared.SgfWhy.{SgfWhy}
use Rattle.std.specs.Prelude.{Result, Ok, Err}
use Rattle.tables.specs.declared.Counts.{Counts}
use Rattle.tables.specs.declared.LenientRefusal.{LenientRefusal}
use Rattle.tables.specs.declared.Reason.{Reason}
use Rattle.tables.specs.declared.Refusal.{Refusal}
use mathlib.Core.Bool.{true, false}

pub may-open-once : (base n d : ℕ) (a : List ℕ) → Once (λ (r : Bool). r ≡ may_start base n d a)
may-open-once base n d a = once_is (may_start base n d a)

pub count-strict-once : (t : List ℕ) → Once (λ (r : Result Counts (Refusal Reason)). r ≡ rows_counted (read_strict t))
count-strict-once t = once_is (rows_counted (read_strict t))

-- a reading as a case of the lenient answer, by its number
abbrev back : Result Counts (Refusal Reason) → Result Counts LenientRefusal
back (Ok c) = Ok c
back (Err e) = pick (eqb (number_of e.reason) 1) (Err lenient.TextTooLong) (pick (eqb (number_of e.reason) 2) (Err (lenient.NotUtf8 e.place)) (pick (eqb (number_of e.reason) 9) (Err lenient.TooDeep) (Err lenient.NoRoom)))

as-reading-back : (l : Result Counts LenientRefusal) → back (as_reading l) ≡ l
as-reading-back (Ok c) = refl
as-reading-back (Err lenient.TextTooLong) = refl
as-reading-back (Err (lenient.NotUtf8 p)) = refl
as-reading-back (Err lenient.TooDeep) = refl
as-reading-back (Err lenient.NoRoom) = refl

pub count-lenient-once : (t : List ℕ) → Once (λ (r : Result Counts LenientRefusal). as_reading r ≡ rows_counted (read_lenient t))
count-lenient-once t a b p q = sym (as-reading-back a) ∙ ap back (p ∙ sym q) ∙ as-reading-back b

pub strict-once : (t : List ℕ) → Once (λ (r : Result (Counts × ℕ) (Refusal Fact)). r ≡ explained false t)
strict-once t = once_is (explained false t)

pub lenient-once : (t : List ℕ) → Once (λ (r : Result (Counts × ℕ) (Refusal Fact)). r ≡ explained true t)
lenient-once t = once_is (explained true t)

pub fact-in-c-once : (f : Fact) → Once (λ (r : Shown). r ≡ shown_fact f)
fact-in-c-once f = once_is (shown_fact f)

pub why-in-c-once : (w : Result (Counts × ℕ) (Refusal Fact)) → Once (λ (r : SgfWhy). r ≡ why_in_c w)
why-in-c-once w = once_is (why_in_c w)
