-- Where nothing earlier applies to a fact, no fact that stands earlier in the scope's order holds of the text, at any place. Assumes nothing.
use Rattle.lists.proofs.Prelude.{ℕ, zero, suc, ◌≤◌, ◌<◌, ◌≡◌, sym, ◌∙◌, subst, false, List, [], arith, lt_of_not-le, length}
use native.Mathlib.Decide.{dec_le}
use Rattle.lists.proofs.Tests.{never, same_or}
use Rattle.text_utf8.proofs.WellFormed.{bad-trimmed, well-formed-trimmed}
use Rattle.lexer.specs.Token.{Lexed, done, broken}
use Rattle.lexer.specs.declared.Fault.{Fault}
use Rattle.tables.specs.Numbers.{text_limit}
use Rattle.parser.specs.Split.{split}
use Rattle.parser.specs.Balance.{starts, ends, Covered, Balanced}
use Rattle.reader_exactly.specs.Slicing.{slices_from}
use Rattle.reader_exactly.specs.When.{Valid, tokens_of, FailsAt, Lexes, Splits}
use Rattle.reader_exactly.proofs.Stages.{fails-broken, not-deep}
use Rattle.why_blame.specs.declared.Fact.{Fact}
use Rattle.why_blame.specs.declared.Fact.TheVariants.{Length, BadSequence, NoBracket, Foreign, NotClosed, EndBeyond, StaysOpen, NoNode, NoEnd, TooDeep as too_deep, EmptyList, SecondGm, Stray, GmValues, GmNumber}
use Rattle.why_says.specs.Says.{FactSays}
use Rattle.why_says.specs.Clear.{Clear, LenientClear, stage_of}
use Rattle.why_says.proofs.Scanned.{missing-fails, foreign-fails, unclosed-fails}
use Rattle.why_says.proofs.Counts.{Going, going}
use Rattle.why_says.proofs.Cuts.{begun}
use Rattle.why_says.proofs.CutsBack.{exceeds-wrong, deep-strict}
use Rattle.why_says.proofs.TreesBack.{sliced-cut}
use Rattle.std.specs.Prelude.{Ok, Err, Result}
use Rattle.tables.specs.Refusals.{refusal}
use Rattle.tables.specs.declared.Refusal.{Refusal}

module _ (t : List ℕ) where
  abbrev L : Lexed
  L = tokens_of t

  -- the first n stages are passed
  abbrev Passed : ℕ → Type 0
  Passed zero = Unit {0}
  Passed (suc zero) = length t ≤ text_limit
  Passed (suc (suc zero)) = Valid t
  Passed (suc (suc (suc zero))) = Lexes t
  Passed (suc (suc (suc (suc zero)))) = Lexes t × Covered 0 L.toks
  Passed (suc (suc (suc (suc (suc zero))))) = Lexes t × Covered 0 L.toks × (starts L.toks ≡ ends L.toks)
  Passed (suc (suc (suc (suc (suc (suc zero)))))) = Lexes t × Balanced L.toks
  Passed (suc (suc (suc (suc (suc (suc (suc n))))))) = Splits t

  back_one : (n : ℕ) → Passed (suc n) → Passed n
  back_one zero h = tt
  back_one (suc zero) h = h.short
  back_one (suc (suc zero)) h = h.valid
  back_one (suc (suc (suc zero))) h = h.0
  back_one (suc (suc (suc (suc zero)))) h = (h.0, h.1)
  back_one (suc (suc (suc (suc (suc zero))))) h = (h.0, h.1.covered, h.1.equal)
  back_one (suc (suc (suc (suc (suc (suc zero)))))) h = (h.lexes, h.balanced)
  back_one (suc (suc (suc (suc (suc (suc (suc n))))))) h = h

  back_to : (k n : ℕ) → k ≤ n → Passed n → Passed k
  back_to zero zero l h = tt
  back_to (suc k) zero l h = absurd (omega arith)
  back_to k (suc n) l h = same_or k (suc n) (λ e. subst Passed (sym e) h) (λ e. back_to k n (below k n l e) (back_one n h))
    where
      below : (k n : ℕ) → k ≤ suc n → (k ≡ suc n → ⊥) → k ≤ n
      below k n l e = elim (dec_le k n) [ yes h ↦ h | no h ↦ let m = lt_of_not-le h in absurd (e (omega arith)) ]

  clear-passed : (f : Fact) → Clear t f → Passed (stage_of f)
  clear-passed (Length n) c = tt
  clear-passed BadSequence c = c
  clear-passed (NoBracket e) c = c
  clear-passed (Foreign e) c = c
  clear-passed (NotClosed e) c = c
  clear-passed EndBeyond c = c
  clear-passed (StaysOpen d) c = c
  clear-passed (NoNode n) c = c
  clear-passed NoEnd c = c
  clear-passed too_deep c = c
  clear-passed (EmptyList q) c = c
  clear-passed (SecondGm n) c = c
  clear-passed Stray c = c
  clear-passed (GmValues k) c = c
  clear-passed GmNumber c = c

  fault-refuted : Lexes t → {f : Fault} {p : ℕ} → FailsAt t f p → ⊥
  fault-refuted l {f} {p} x = let z : done ≡ broken f p = sym l.faultless ∙ fails-broken t f p x in never cc

  deep-refuted : Splits t → {p : ℕ} → FactSays t too_deep p → ⊥
  deep-refuted s {p} x =
      let y = sliced-cut (length t) L (split false begun L.toks) (slices_from 0 L.toks) (not-deep L.toks s.balanced s.shallow) in
      let z : ◌≡◌ {A = Result (ℕ × ℕ) (Refusal Fact)} (Err (refusal too_deep p)) (Ok (y.0, y.1)) = sym (deep-strict (length t) L s.balanced x) ∙ y.2 in
      never cc

  last-stage : (f : Fact) → stage_of f ≤ 7
  last-stage (Length n) = omega arith
  last-stage BadSequence = omega arith
  last-stage (NoBracket e) = omega arith
  last-stage (Foreign e) = omega arith
  last-stage (NotClosed e) = omega arith
  last-stage EndBeyond = omega arith
  last-stage (StaysOpen d) = omega arith
  last-stage (NoNode n) = omega arith
  last-stage NoEnd = omega arith
  last-stage too_deep = omega arith
  last-stage (EmptyList q) = omega arith
  last-stage (SecondGm n) = omega arith
  last-stage Stray = omega arith
  last-stage (GmValues k) = omega arith
  last-stage GmNumber = omega arith

  refuted : (g : Fact) (q : ℕ) → FactSays t g q → stage_of g < 7 → Passed (suc (stage_of g)) → ⊥
  refuted (Length n) q (e, h, z) l s = omega (arith, e, h, s)
  refuted BadSequence q x l v = well-formed-trimmed t v.formed q (bad-trimmed t q x)
  refuted (NoBracket e) q (x, h, y) l c = fault-refuted c (missing-fails t x h y)
  refuted (Foreign e) q (x, y) l c = fault-refuted c (foreign-fails t x y)
  refuted (NotClosed e) q (x, h, y) l c = fault-refuted c (unclosed-fails t x h y)
  refuted EndBeyond q x l c = subst Going (exceeds-wrong (length t) L x) (going false L.toks 0 0 [] [] c.1)
  refuted (StaysOpen d) q x l c = omega (arith, x.more, x.some, c.2)
  refuted NoEnd q x l c = omega (arith, x.0, c.1.some)
  refuted too_deep q x l c = deep-refuted c x
  refuted (NoNode n) q x l c = omega (arith, l)
  refuted (EmptyList k) q x l c = omega (arith, l)
  refuted (SecondGm n) q x l c = omega (arith, l)
  refuted Stray q x l c = omega (arith, l)
  refuted (GmValues k) q x l c = omega (arith, l)
  refuted GmNumber q x l c = omega (arith, l)

  pub earlier-refuted : (f g : Fact) (q : ℕ) → Clear t f → stage_of g < stage_of f → FactSays t g q → ⊥
  earlier-refuted f g q c l x =
      let m = last-stage f in
      refuted g q x (omega arith) (back_to (suc (stage_of g)) (stage_of f) (omega arith) (clear-passed f c))

  -- ---- lenient: 1, 2 and 9 are the only facts

  lenient-short : (f : Fact) → LenientClear t f → 0 < stage_of f → length t ≤ text_limit
  lenient-short (Length n) c l = absurd (omega (arith, l))
  lenient-short BadSequence c l = c
  lenient-short (NoBracket e) c l = absurd c
  lenient-short (Foreign e) c l = absurd c
  lenient-short (NotClosed e) c l = absurd c
  lenient-short EndBeyond c l = absurd c
  lenient-short (StaysOpen d) c l = absurd c
  lenient-short (NoNode n) c l = absurd c
  lenient-short NoEnd c l = absurd c
  lenient-short too_deep c l = c.short
  lenient-short (EmptyList q) c l = absurd c
  lenient-short (SecondGm n) c l = absurd c
  lenient-short Stray c l = absurd c
  lenient-short (GmValues k) c l = absurd c
  lenient-short GmNumber c l = absurd c

  lenient-valid : (f : Fact) → LenientClear t f → 1 < stage_of f → Valid t
  lenient-valid (Length n) c l = absurd (omega (arith, l))
  lenient-valid BadSequence c l = absurd (omega (arith, l))
  lenient-valid (NoBracket e) c l = absurd c
  lenient-valid (Foreign e) c l = absurd c
  lenient-valid (NotClosed e) c l = absurd c
  lenient-valid EndBeyond c l = absurd c
  lenient-valid (StaysOpen d) c l = absurd c
  lenient-valid (NoNode n) c l = absurd c
  lenient-valid NoEnd c l = absurd c
  lenient-valid too_deep c l = c
  lenient-valid (EmptyList q) c l = absurd c
  lenient-valid (SecondGm n) c l = absurd c
  lenient-valid Stray c l = absurd c
  lenient-valid (GmValues k) c l = absurd c
  lenient-valid GmNumber c l = absurd c

  lenient-last : (f : Fact) → LenientClear t f → stage_of f ≤ 6
  lenient-last (Length n) c = omega arith
  lenient-last BadSequence c = omega arith
  lenient-last (NoBracket e) c = absurd c
  lenient-last (Foreign e) c = absurd c
  lenient-last (NotClosed e) c = absurd c
  lenient-last EndBeyond c = absurd c
  lenient-last (StaysOpen d) c = absurd c
  lenient-last (NoNode n) c = absurd c
  lenient-last NoEnd c = absurd c
  lenient-last too_deep c = omega arith
  lenient-last (EmptyList q) c = absurd c
  lenient-last (SecondGm n) c = absurd c
  lenient-last Stray c = absurd c
  lenient-last (GmValues k) c = absurd c
  lenient-last GmNumber c = absurd c

  pub earlier-refuted-lenient : (f g : Fact) (q : ℕ) → LenientClear t f → LenientClear t g → stage_of g < stage_of f → FactSays t g q → ⊥
  earlier-refuted-lenient f (Length n) q c d l x = let s = lenient-short f c l in omega (arith, x.0, x.1, s)
  earlier-refuted-lenient f BadSequence q c d l x = well-formed-trimmed t (lenient-valid f c l).formed q (bad-trimmed t q x)
  earlier-refuted-lenient f (NoBracket e) q c d l x = absurd d
  earlier-refuted-lenient f (Foreign e) q c d l x = absurd d
  earlier-refuted-lenient f (NotClosed e) q c d l x = absurd d
  earlier-refuted-lenient f EndBeyond q c d l x = absurd d
  earlier-refuted-lenient f (StaysOpen k) q c d l x = absurd d
  earlier-refuted-lenient f (NoNode n) q c d l x = absurd d
  earlier-refuted-lenient f NoEnd q c d l x = absurd d
  earlier-refuted-lenient f too_deep q c d l x = let m = lenient-last f c in omega (arith, l, m)
  earlier-refuted-lenient f (EmptyList j) q c d l x = absurd d
  earlier-refuted-lenient f (SecondGm n) q c d l x = absurd d
  earlier-refuted-lenient f Stray q c d l x = absurd d
  earlier-refuted-lenient f (GmValues k) q c d l x = absurd d
  earlier-refuted-lenient f GmNumber q c d l x = absurd d
