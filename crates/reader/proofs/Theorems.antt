-- What follows from the contract of a reading: which numbers it can give, and the counts. Assumes nothing.
use Rattle.lists.proofs.Prelude.{ℕ, ◌≡◌, refl, Bool, true, false, ◌⊎◌, inl, inr, List, arith, pick}
use Rattle.lists.proofs.Tests.{never}
use Rattle.lists.proofs.Pick.{pick-elim}
use Rattle.tables.specs.Lenient.{lenient_number}
use Rattle.tables.specs.Numbers.{number_of}
use Rattle.tables.specs.Record.{Tree}
use Rattle.tables.specs.Rows.{tables, counts_of}
use Rattle.tables.specs.declared.Counts.{Counts}
use Rattle.tables.specs.declared.LenientRefusal.TheVariants as lenient
use Rattle.tables.specs.declared.Reason.{Reason}
use Rattle.tables.specs.declared.Reason.TheVariants.{TextTooLong, NotUtf8, MissingPropertyIdentifier, UnexpectedEndOfPropertyIdentifier, UnexpectedEndOfPropertyValue, UnexpectedGameTreeEnd, UnexpectedEndOfData, NoGameTrees, TooDeep, UnexpectedGameTreeStart, UnexpectedProperty, InvalidGameType, NoRoom, EmptyIdentifier, NoSuchNumber, GameTypeFixed, NotClosed, NotFitting}
use Rattle.parser.specs.Read.{Answer, refused, accepted, read, read_lenient}
use Rattle.reader.specs.Lent.{Lent, roomy, answers, rows_counted, ReadIs}
use Rattle.reader.specs.LocalsMild.{Mild}
use Rattle.reader.proofs.Reasons.{refused-with}
use Rattle.std.specs.Prelude.{Result, Ok, Err}
use Rattle.tables.specs.Refusals.{refusal}
use Rattle.tables.specs.declared.LenientRefusal.{LenientRefusal}

-- the definition's refusal of a lenient reading is one of three cases
refused-mild : (t : List ℕ) (r : Reason) (p : ℕ) → read_lenient t ≡ refused r p → Mild (Err (refusal r p))
refused-mild t r p e =
    refused-with true (λ (x : Reason) (q : ℕ). Mild (Err (refusal x q))) (Err lenient.TextTooLong, refl) (λ q. (Err (lenient.NotUtf8 q), refl)) (Err lenient.TooDeep, refl) (λ z. never (cc)) t e

-- every lenient answer is one of five cases
pub answer-mild : (t : List ℕ) (b : Lent) → Mild (answers (read_lenient t) b)
answer-mild t b = go (read_lenient t) refl
  where
    go : (a : Answer) → read_lenient t ≡ a → Mild (answers a b)
    go (refused r p) e = refused-mild t r p e
    go (accepted ts) e = pick-elim Mild (roomy (tables ts) b) (λ _. (Ok (counts_of (tables ts)), refl)) (λ _. (Err lenient.NoRoom, refl))

-- where rows are only counted, one of four
pub count-mild : (t : List ℕ) → Mild (rows_counted (read_lenient t))
count-mild t = go (read_lenient t) refl
  where
    go : (a : Answer) → read_lenient t ≡ a → Mild (rows_counted a)
    go (refused r p) e = refused-mild t r p e
    go (accepted ts) e = (Ok (counts_of (tables ts)), refl)

-- their numbers: 0, 1, 2, 9 and 14
pub lenient-list : (r : Result Counts LenientRefusal) → (lenient_number r ≡ 0) ⊎ ((lenient_number r ≡ 1) ⊎ ((lenient_number r ≡ 2) ⊎ ((lenient_number r ≡ 9) ⊎ (lenient_number r ≡ 14))))
lenient-list (Ok c) = inl refl
lenient-list (Err lenient.TextTooLong) = inr (inl refl)
lenient-list (Err (lenient.NotUtf8 p)) = inr (inr (inl refl))
lenient-list (Err lenient.TooDeep) = inr (inr (inr (inl refl)))
lenient-list (Err lenient.NoRoom) = inr (inr (inr (inr refl)))

-- no reason has the number 13, whoever gives it
pub no-thirteen : (r : Reason) → number_of r ≡ 13 → ⊥
no-thirteen TextTooLong e = omega (arith, e)
no-thirteen NotUtf8 e = omega (arith, e)
no-thirteen MissingPropertyIdentifier e = omega (arith, e)
no-thirteen UnexpectedEndOfPropertyIdentifier e = omega (arith, e)
no-thirteen UnexpectedEndOfPropertyValue e = omega (arith, e)
no-thirteen UnexpectedGameTreeEnd e = omega (arith, e)
no-thirteen UnexpectedEndOfData e = omega (arith, e)
no-thirteen NoGameTrees e = omega (arith, e)
no-thirteen TooDeep e = omega (arith, e)
no-thirteen UnexpectedGameTreeStart e = omega (arith, e)
no-thirteen UnexpectedProperty e = omega (arith, e)
no-thirteen InvalidGameType e = omega (arith, e)
no-thirteen NoRoom e = omega (arith, e)
no-thirteen EmptyIdentifier e = omega (arith, e)
no-thirteen NoSuchNumber e = omega (arith, e)
no-thirteen GameTypeFixed e = omega (arith, e)
no-thirteen NotClosed e = omega (arith, e)
no-thirteen NotFitting e = omega (arith, e)

-- the counts of an accepted reading are the lengths of the definition's rows
pub counts-are-lengths : (len : Bool) (t : List ℕ) (b a : Lent) (c : Counts) → ReadIs (read len t) b a (Ok c) → (ts : List Tree) × (read len t ≡ accepted ts) × (c ≡ counts_of (tables ts))
counts-are-lengths len t b a c x = go (read len t) refl x.answer
  where
    go : (y : Answer) → read len t ≡ y → Ok c ≡ answers y b → (ts : List Tree) × (read len t ≡ accepted ts) × (c ≡ counts_of (tables ts))
    go (refused r p) q e = never (cc)
    go (accepted ts) q e = roomed (roomy (tables ts) b) e
      where
        roomed : (f : Bool) → Ok c ≡ pick f (Ok (counts_of (tables ts))) (Err (refusal NoRoom 0)) → (us : List Tree) × (read len t ≡ accepted us) × (c ≡ counts_of (tables us))
        roomed true w = let z : c ≡ counts_of (tables ts) = cc in (ts, q, z)
        roomed false w = never (cc)
