-- Spans that lie one after another. Assumes nothing.
use Rattle.lists.proofs.Prelude.{◌≡◌, refl, sym, ap, ◌∙◌, ℕ, suc, ◌≤◌, arith, true, List, [], ◌∷◌, ◌++◌, append_assoc, le-leb}
use Rattle.lexer.specs.Token.{Val, Prop, Tok, start, end, node, prop}
use Rattle.fit_spans.specs.Spans.{Span, span, ascending}

-- ---- the spans of values, of a property, of properties

abbrev pub spans_of_values : List Val → List Span
spans_of_values [] = []
spans_of_values (v ∷ vs) = span v.from v.to ∷ spans_of_values vs

abbrev pub spans_of_prop : Prop → List Span
spans_of_prop p = span p.from p.to ∷ spans_of_values p.vals

abbrev pub spans_of : List Prop → List Span
spans_of [] = []
spans_of (p ∷ ps) = spans_of_prop p ++ spans_of ps

-- the properties that tokens are
abbrev pub props_of : List Tok → List Prop
props_of [] = []
props_of (start o ∷ ts) = props_of ts
props_of (end o ∷ ts) = props_of ts
props_of (node o ∷ ts) = props_of ts
props_of (prop p e ∷ ts) = p ∷ props_of ts

pub values-append : (xs ys : List Val) → spans_of_values (xs ++ ys) ≡ spans_of_values xs ++ spans_of_values ys
values-append [] ys = refl
values-append (x ∷ xs) ys = ap (λ (z : List Span). span x.from x.to ∷ z) (values-append xs ys)

pub spans-append : (xs ys : List Prop) → spans_of (xs ++ ys) ≡ spans_of xs ++ spans_of ys
spans-append [] ys = refl
spans-append (x ∷ xs) ys = ap (λ (z : List Span). spans_of_prop x ++ z) (spans-append xs ys) ∙ sym (append_assoc (spans_of_prop x) (spans_of xs) (spans_of ys))

pub props-append : (xs ys : List Tok) → props_of (xs ++ ys) ≡ props_of xs ++ props_of ys
props-append [] ys = refl
props-append (start o ∷ xs) ys = props-append xs ys
props-append (end o ∷ xs) ys = props-append xs ys
props-append (node o ∷ xs) ys = props-append xs ys
props-append (prop p e ∷ xs) ys = ap (λ (z : List Prop). p ∷ z) (props-append xs ys)

-- ---- from lo to hi, in a text of `used` bytes

module _ (used : ℕ) where
  -- the first starts at lo or later, each after the end of the one before; what follows may start at hi
  abbrev pub Climb : (lo hi : ℕ) → List Span → Type 0
  Climb lo hi [] = lo ≤ hi
  Climb lo hi (s ∷ ss) = (lo ≤ s.from) × (s.from ≤ s.to) × (s.to ≤ used) × Climb (suc s.to) hi ss

  climb-low : (lo mid hi : ℕ) (ss : List Span) → lo ≤ mid → Climb mid hi ss → Climb lo hi ss
  climb-low lo mid hi [] l h = omega arith
  climb-low lo mid hi (s ∷ ss) l h = (omega (arith, h.0), h.1, h.2, h.3)

  pub climb-append : (lo mid hi : ℕ) (xs ys : List Span) → Climb lo mid xs → Climb mid hi ys → Climb lo hi (xs ++ ys)
  climb-append lo mid hi [] ys h k = climb-low lo mid hi ys h k
  climb-append lo mid hi (x ∷ xs) ys h k = (h.0, h.1, h.2, climb-append (suc x.to) mid hi xs ys h.3 k)

  pub climb-up : (lo hi top : ℕ) (ss : List Span) → hi ≤ top → Climb lo hi ss → Climb lo top ss
  climb-up lo hi top [] l h = omega arith
  climb-up lo hi top (s ∷ ss) l h = (h.0, h.1, h.2, climb-up (suc s.to) hi top ss l h.3)

  climb-later : (lo hi : ℕ) (xs ys : List Span) → Climb lo hi (xs ++ ys) → Climb lo hi ys
  climb-later lo hi [] ys h = h
  climb-later lo hi (x ∷ xs) ys h = climb-low lo (suc x.to) hi ys (omega (arith, h.0, h.1)) (climb-later (suc x.to) hi xs ys h.3)

  -- without some of them
  pub climb-thin : (lo hi : ℕ) (xs ys zs : List Span) → Climb lo hi (xs ++ (ys ++ zs)) → Climb lo hi (xs ++ zs)
  climb-thin lo hi [] ys zs h = climb-later lo hi ys zs h
  climb-thin lo hi (x ∷ xs) ys zs h = (h.0, h.1, h.2, climb-thin (suc x.to) hi xs ys zs h.3)

  pub climb-ascends : (lo hi : ℕ) (ss : List Span) → Climb lo hi ss → ascending used lo ss ≡ true
  unfolding ascending
  climb-ascends lo hi [] h = refl
  climb-ascends lo hi (s ∷ ss) h = rw (le-leb lo s.from h.0, le-leb s.from s.to h.1, le-leb s.to used h.2) (climb-ascends (suc s.to) hi ss h.3)
