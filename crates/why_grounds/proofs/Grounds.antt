-- The scope's condition behind a fact holds of its text, and entails the number, by itself. Assumes nothing.
use Rattle.lists.proofs.Prelude.{ℕ, ◌≡◌, refl, true, false, List}
use Rattle.parser.specs.Read.{refused, read}
use Rattle.reader_exactly.proofs.Exactly.{strict-1, strict-2, strict-3, strict-4, strict-5, strict-6, strict-7, strict-8, strict-9, strict-10, strict-11, strict-12, lenient-1, lenient-2, lenient-9}
use Rattle.reader_exactly.proofs.Lenient.{only-mild}
use Rattle.why_blame.specs.Numbered.{fact_reason}
use Rattle.why_blame.specs.declared.Fact.{Fact}
use Rattle.why_blame.specs.declared.Fact.TheVariants.{Length, BadSequence, NoBracket, Foreign, NotClosed, EndBeyond, StaysOpen, NoNode, NoEnd, TooDeep, EmptyList, SecondGm, Stray, GmValues, GmNumber}
use Rattle.why.specs.Why.{explained}
use Rattle.why_grounds.specs.Ground.{Ground, LenientGround}
use Rattle.why_grounds.proofs.Agrees.{why-refused}
use Rattle.std.specs.Prelude.{Err}
use Rattle.tables.specs.Refusals.{refusal}

module _ (t : List ℕ) where
  -- ---- strict

  ground-of : (f : Fact) (o : ℕ) → read false t ≡ refused (fact_reason f) o → Ground t f
  ground-of (Length n) o e = ((strict-1 t o).0 e).0
  ground-of BadSequence o e = let h = (strict-2 t o).0 e in (h.0, (o, h.1))
  ground-of (NoBracket s) o e = let h = (strict-3 t o).0 e in (h.0, (o, h.1))
  ground-of (Foreign s) o e = let h = (strict-4 t o).0 e in (h.0, (o, h.1))
  ground-of (NotClosed s) o e = let h = (strict-5 t o).0 e in (h.0, (o, h.1))
  ground-of EndBeyond o e = let h = (strict-6 t o).0 e in (h.0, h.1)
  ground-of (StaysOpen d) o e = ((strict-7 t o).0 e).0
  ground-of (NoNode n) o e = ((strict-7 t o).0 e).0
  ground-of NoEnd o e = let h = (strict-8 t o).0 e in (h.0, h.1)
  ground-of TooDeep o e = let h = (strict-9 t o).0 e in (h.0, h.1, h.2)
  ground-of (EmptyList p) o e = ((strict-10 t o).0 e).0
  ground-of (SecondGm n) o e = ((strict-11 t o).0 e).0
  ground-of Stray o e = ((strict-11 t o).0 e).0
  ground-of (GmValues n) o e = ((strict-12 t o).0 e).0
  ground-of GmNumber o e = ((strict-12 t o).0 e).0

  -- what is explained by a fact has the scope's condition of it, and nothing earlier
  pub why-ground : (f : Fact) (p : ℕ) → explained false t ≡ Err (refusal f p) → Ground t f
  why-ground f p e = let w = why-refused false t e in ground-of f w.0 w.1

  -- and that condition gives the number, whatever is explained
  pub ground-number : (f : Fact) → Ground t f → (place : ℕ) × (read false t ≡ refused (fact_reason f) place)
  ground-number (Length n) h = (0, (strict-1 t 0).1 (h, refl))
  ground-number BadSequence h = (h.1.0, (strict-2 t h.1.0).1 (h.0, h.1.1))
  ground-number (NoBracket s) h = (h.1.0, (strict-3 t h.1.0).1 (h.0, h.1.1))
  ground-number (Foreign s) h = (h.1.0, (strict-4 t h.1.0).1 (h.0, h.1.1))
  ground-number (NotClosed s) h = (h.1.0, (strict-5 t h.1.0).1 (h.0, h.1.1))
  ground-number EndBeyond h = (0, (strict-6 t 0).1 (h.0, h.1, refl))
  ground-number (StaysOpen d) h = (0, (strict-7 t 0).1 (h, refl))
  ground-number (NoNode n) h = (0, (strict-7 t 0).1 (h, refl))
  ground-number NoEnd h = (0, (strict-8 t 0).1 (h.0, h.1, refl))
  ground-number TooDeep h = (0, (strict-9 t 0).1 (h.0, h.1, h.2, refl))
  ground-number (EmptyList p) h = (0, (strict-10 t 0).1 (h, refl))
  ground-number (SecondGm n) h = (0, (strict-11 t 0).1 (h, refl))
  ground-number Stray h = (0, (strict-11 t 0).1 (h, refl))
  ground-number (GmValues n) h = (0, (strict-12 t 0).1 (h, refl))
  ground-number GmNumber h = (0, (strict-12 t 0).1 (h, refl))

  -- ---- lenient

  lenient-of : (f : Fact) (o : ℕ) → read true t ≡ refused (fact_reason f) o → LenientGround t f
  lenient-of (Length n) o e = ((lenient-1 t o).0 e).0
  lenient-of BadSequence o e = let h = (lenient-2 t o).0 e in (h.0, (o, h.1))
  lenient-of (NoBracket s) o e = only-mild t e
  lenient-of (Foreign s) o e = only-mild t e
  lenient-of (NotClosed s) o e = only-mild t e
  lenient-of EndBeyond o e = only-mild t e
  lenient-of (StaysOpen d) o e = only-mild t e
  lenient-of (NoNode n) o e = only-mild t e
  lenient-of NoEnd o e = only-mild t e
  lenient-of TooDeep o e = let h = (lenient-9 t o).0 e in (h.0, h.1)
  lenient-of (EmptyList p) o e = only-mild t e
  lenient-of (SecondGm n) o e = only-mild t e
  lenient-of Stray o e = only-mild t e
  lenient-of (GmValues n) o e = only-mild t e
  lenient-of GmNumber o e = only-mild t e

  -- the same of a lenient explanation: 1, 2, 9 and no other
  pub why-ground-lenient : (f : Fact) (p : ℕ) → explained true t ≡ Err (refusal f p) → LenientGround t f
  why-ground-lenient f p e = let w = why-refused true t e in lenient-of f w.0 w.1
