-- A fact that holds of a text where nothing earlier applies is the one that explains it: so both together entail the number, and there is no second such fact or place. Assumes nothing.
use Rattle.lists.proofs.Prelude.{ℕ, ◌≤◌, ◌<◌, ◌≡◌, refl, sym, ap, ◌∙◌, subst, Bool, true, false, List, [], length, length-take-le, take, lt-ltb, le-ltb, pick}
use Rattle.text_utf8.specs.Trim.{trimmed}
use Rattle.text_utf8.specs.declared.Trimmed.{Trimmed}
use Rattle.text_utf8.specs.declared.Trimmed.TheVariants.{NotUtf8, Blank, Kept}
use Rattle.text_utf8.proofs.Extent.{trim-bounds}
use Rattle.text_utf8.proofs.WellFormed.{bad-trimmed, well-formed-trimmed}
use Rattle.lexer.specs.Token.{Tok, Lexed, lex_at}
use Rattle.lexer.specs.declared.Fault.{Fault}
use Rattle.lexer_laws.proofs.Faults.{fault-if}
use Rattle.tables.specs.Numbers.{text_limit}
use Rattle.parser.specs.Split.{Slices as Sliced, split}
use Rattle.reader_exactly.specs.Slicing.{slices_from}
use Rattle.reader_exactly.specs.When.{Valid, tokens_in, tokens_of, FailsAt, Lexes, Splits}
use Rattle.reader_exactly.proofs.Stages.{not-deep}
use Rattle.why_blame.specs.Cuts.{fault_fact, cut_tokens}
use Rattle.why_blame.specs.declared.Fact.{Fact}
use Rattle.why_blame.specs.declared.Fact.TheVariants.{Length, BadSequence, NoBracket, Foreign, NotClosed, EndBeyond, StaysOpen, NoNode, NoEnd, TooDeep, EmptyList, SecondGm, Stray, GmValues, GmNumber}
use Rattle.why.specs.Trees.{slices_blame}
use Rattle.why.specs.Why.{accepted_slices, cut_blame, tokens_blame, kept_blame, trim_blame, text_blame}
use Rattle.why_says.specs.Says.{NodelessAt, EmptyListAt, StrayAt, SecondAt, ValuesAt, NumberAt, FactSays}
use Rattle.why_says.specs.Clear.{Clear, LenientClear}
use Rattle.why_says.proofs.Scanned.{missing-fails, foreign-met, foreign-fails, unclosed-fails}
use Rattle.why_says.proofs.Cuts.{begun}
use Rattle.why_says.proofs.CutsBack.{exceeds-cut, open-cut, none-cut, deep-lenient, deep-strict}
use Rattle.why_says.proofs.SlicesBack.{second-blamed, values-blamed, number-blamed, empty-blamed, stray-blamed, nodeless-blamed}
use Rattle.why_says.proofs.TreesBack.{sliced-cut, first-blamed}
use Rattle.std.specs.Prelude.{Some, Result}
use Rattle.tables.specs.Refusals.{refusal}
use Rattle.tables.specs.declared.Refusal.{Refusal}

module _ (t : List ℕ) where
  abbrev L : Lexed
  L = tokens_of t

  abbrev all : List (List Tok)
  all = slices_from 0 L.toks

  -- ---- the text

  long-blamed : (len : Bool) {n p : ℕ} → FactSays t (Length n) p → text_blame len t ≡ Some (refusal (Length n) p)
  long-blamed len {n} {p} (e, h, z) =
      ap (λ (b : Bool). pick b (Some (refusal (Length (length t)) 0)) (trim_blame len t (trimmed t))) (lt-ltb text_limit (length t) (subst (λ (k : ℕ). text_limit < k) e h))
      ∙ ap (λ (k : ℕ). Some (refusal (Length k) 0)) (sym e) ∙ ap (λ (z : ℕ). Some (refusal (Length n) z)) (sym z)

  short-blame : (len : Bool) → length t ≤ text_limit → text_blame len t ≡ trim_blame len t (trimmed t)
  short-blame len h = ap (λ (b : Bool). pick b (Some (refusal (Length (length t)) 0)) (trim_blame len t (trimmed t))) (le-ltb text_limit (length t) h)

  bad-blamed : (len : Bool) {p : ℕ} → length t ≤ text_limit → FactSays t BadSequence p → text_blame len t ≡ Some (refusal BadSequence p)
  bad-blamed len {p} h x = short-blame len h ∙ ap (trim_blame len t) (bad-trimmed t p x)

  -- ---- faults of the tokens

  module _ (v : Valid t) {f : Fault} {p : ℕ} (x : FailsAt t f p) where
    fault-blamed : text_blame false t ≡ Some (refusal (fault_fact (take x.last t) f p) p)
    fault-blamed =
        short-blame false v.short ∙ ap (trim_blame false t) x.kept
        ∙ ap (tokens_blame false (length t) (take x.last t) (lex_at (take x.last t) x.first)) (fault-if (take x.last t) x.first x.at x.reached f p x.fails)

    last-is : length (take x.last t) ≡ x.last
    last-is = length-take-le x.last t (trim-bounds t x.first x.last x.kept).1

  -- ---- the tokens

  blank-blame : (len : Bool) → trimmed t ≡ Blank → kept_blame len t 0 0 ≡ tokens_blame len (length t) [] L L.end
  unfolding lex_at
  blank-blame len k = ap (λ (x : Trimmed). tokens_blame len (length t) [] (tokens_in t x) (tokens_in t x).end) (sym k)

  valid-blame : (len : Bool) → Valid t → (u : List ℕ) × (text_blame len t ≡ tokens_blame len (length t) u L L.end)
  valid-blame len v = go (trimmed t) refl
    where
      go : (x : Trimmed) → trimmed t ≡ x → (u : List ℕ) × (text_blame len t ≡ tokens_blame len (length t) u L L.end)
      go (NotUtf8 p) k = absurd (well-formed-trimmed t v.formed p k)
      go Blank k = ([], short-blame len v.short ∙ ap (trim_blame len t) k ∙ blank-blame len k)
      go (Kept a l) k =
          (take l t, short-blame len v.short ∙ ap (trim_blame len t) k ∙ ap (λ (x : Trimmed). tokens_blame len (length t) (take l t) (tokens_in t x) (tokens_in t x).end) (sym k))

  cut-blamed : Lexes t → {c : Result (ℕ × ℕ) (Refusal Fact)} → cut_tokens false (length t) L ≡ c → text_blame false t ≡ cut_blame false L.toks c
  cut-blamed l e =
      let y = valid-blame false l.valid in
      y.1 ∙ ap (tokens_blame false (length t) y.0 L) l.faultless ∙ ap (cut_blame false L.toks) e

  lenient-blamed : Valid t → {c : Result (ℕ × ℕ) (Refusal Fact)} → cut_tokens true (length t) L ≡ c → text_blame true t ≡ cut_blame true L.toks c
  lenient-blamed v e = (valid-blame true v).1 ∙ ap (cut_blame true L.toks) e

  -- ---- the slices

  slices-blamed : Splits t → text_blame false t ≡ slices_blame 0 0 all
  slices-blamed s =
      let q = not-deep L.toks s.balanced s.shallow in
      let y = sliced-cut (length t) L (split false begun L.toks) all q in
      cut-blamed s.lexes y.2 ∙ ap (λ (z : Sliced). slices_blame 0 0 (accepted_slices z)) q

  -- ---- each fact

  pub says-blamed : (f : Fact) (p : ℕ) → FactSays t f p → Clear t f → text_blame false t ≡ Some (refusal f p)
  says-blamed (Length n) p x c = long-blamed false x
  says-blamed BadSequence p x c = bad-blamed false c x
  says-blamed (NoBracket e) p (x, h, y) c = let z = missing-fails t x h y in fault-blamed c z
      ∙ ap (λ (k : ℕ). Some (refusal (NoBracket k) p)) (last-is c z ∙ sym h)
  says-blamed (Foreign e) p (x, y) c = fault-blamed c (foreign-fails t x y) ∙ ap (λ (k : ℕ). Some (refusal (Foreign k) p)) (sym (foreign-met (take x.last t) y))
  says-blamed (NotClosed e) p (x, h, y) c = let z = unclosed-fails t x h y in fault-blamed c z
      ∙ ap (λ (k : ℕ). Some (refusal (NotClosed k) p)) (last-is c z ∙ sym h)
  says-blamed EndBeyond p x c = cut-blamed c (exceeds-cut (length t) L x)
  says-blamed (StaysOpen d) p x c = cut-blamed c.0 (open-cut (length t) L c.1 x)
  says-blamed (NoNode n) p (x, e) c =
      slices-blamed c ∙ first-blamed L.toks (NodelessAt p) x (NoNode n) p (λ cv h. nodeless-blamed (length x.before) x.nodes x.slice cv h ∙ ap (λ (k : ℕ). Some (refusal (NoNode k) p)) (sym e))
  says-blamed NoEnd p (e, z) c = cut-blamed c.0 (none-cut (length t) L c.1 c.2 e) ∙ ap (λ (z : ℕ). Some (refusal NoEnd z)) (sym z)
  says-blamed TooDeep p x c = cut-blamed c.0 (deep-strict (length t) L c.1 x)
  says-blamed (EmptyList q) p x c = slices-blamed c ∙ first-blamed L.toks (EmptyListAt q p) x (EmptyList q) p (λ cv h. empty-blamed (length x.before) x.nodes x.slice h)
  says-blamed (SecondGm n) p (x, e) c =
      slices-blamed c ∙ first-blamed L.toks (SecondAt p) x (SecondGm n) p (λ cv h. second-blamed (length x.before) x.nodes x.slice h ∙ ap (λ (k : ℕ). Some (refusal (SecondGm k) p)) (sym e))
  says-blamed Stray p x c = slices-blamed c ∙ first-blamed L.toks (StrayAt p) x Stray p (λ cv h. stray-blamed (length x.before) x.nodes x.slice h)
  says-blamed (GmValues k) p x c = slices-blamed c ∙ first-blamed L.toks (ValuesAt k p) x (GmValues k) p (λ cv h. values-blamed (length x.before) x.nodes x.slice h)
  says-blamed GmNumber p x c = slices-blamed c ∙ first-blamed L.toks (NumberAt p) x GmNumber p (λ cv h. number-blamed (length x.before) x.nodes x.slice h)

  pub says-blamed-lenient : (f : Fact) (p : ℕ) → FactSays t f p → LenientClear t f → text_blame true t ≡ Some (refusal f p)
  says-blamed-lenient (Length n) p x c = long-blamed true x
  says-blamed-lenient BadSequence p x c = bad-blamed true c x
  says-blamed-lenient (NoBracket e) p x c = absurd c
  says-blamed-lenient (Foreign e) p x c = absurd c
  says-blamed-lenient (NotClosed e) p x c = absurd c
  says-blamed-lenient EndBeyond p x c = absurd c
  says-blamed-lenient (StaysOpen d) p x c = absurd c
  says-blamed-lenient (NoNode n) p x c = absurd c
  says-blamed-lenient NoEnd p x c = absurd c
  says-blamed-lenient TooDeep p x c = lenient-blamed c (deep-lenient (length t) L x)
  says-blamed-lenient (EmptyList q) p x c = absurd c
  says-blamed-lenient (SecondGm n) p x c = absurd c
  says-blamed-lenient Stray p x c = absurd c
  says-blamed-lenient (GmValues k) p x c = absurd c
  says-blamed-lenient GmNumber p x c = absurd c
