-- The properties of an accepted reading: their spans ascend in the text, identifiers are plain, values stand in brackets and are closed. Assumes nothing.
use Rattle.lists.proofs.Prelude.{◌≡◌, ap, subst, ℕ, ◌-◌, arith, true, false, List, [], ◌∷◌, length, take, drop, get_or, length-drop, slice, length-take-le, eq-eqb, lt-ltb, Bool}
use Rattle.lists.specs.All.{All}
use Rattle.lists.proofs.All.{all_append, all_left, all_right}
use Rattle.text_utf8.specs.Text.{Ink, blank, inked, whole, utfs}
use Rattle.text_utf8.specs.Trim.{trimmed, trim_of}
use Rattle.text_utf8.proofs.Extent.{trim-bounds}
use Rattle.lexer.specs.Closed.{closed_from}
use Rattle.lexer.specs.Token.{Val, Prop, Tok, start, end, node, prop}
use Rattle.lexer_laws.proofs.Contents.{Stands, Denotes}
use Rattle.lexer_laws.proofs.Invariant.{OfTok}
use Rattle.lexer_laws.proofs.Proper.{Proper, HasProper}
use Rattle.tables.specs.Record.{Tree, all_nodes, all_props, all_vals}
use Rattle.fit_spans.specs.Spans.{ascending, plain_name, in_brackets_closed}
use Rattle.parser.specs.Read.{accepted, tokenize, read}
use Rattle.parser.proofs.Denoted.{read-denotes}
use Rattle.reader_laws.proofs.Accepted.{Reading, reading-is}
use Rattle.reader_laws.proofs.Ascends.{Plain, Ascend, tokens-ascend}
use Rattle.reader_laws.proofs.Boxes.{Boxed, AllBoxed, tokens-boxed}
use Rattle.reader_laws.proofs.Climbs.{spans_of_prop, spans_of, props_of, spans-append, Climb, climb-thin, climb-ascends}
use Rattle.reader_laws.proofs.Sizes.{lex-proper}
use Rattle.reader_laws.proofs.Thinned.{Thins, reading-thin}

-- ---- of the tokens

module _ (t : List ℕ) where
  lex-boxed : (k : Ink) → All (OfTok (AllBoxed t)) (tokenize k t).toks
  lex-boxed blank = tt
  lex-boxed (inked f l) = tokens-boxed t f l

  lex-ascend : (k : Ink) → utfs (whole blank) 0 t ≡ whole k → Ascend (length t) 0 (tokenize k t).toks
  unfolding trimmed
  lex-ascend blank h = (0, omega arith, tt)
  lex-ascend (inked f l) h =
      let b = trim-bounds t f l (ap trim_of h) in
      tokens-ascend (length t) f l (drop f (take l t)) (omega (arith, b.0, b.1, length-drop f (take l t), length-take-le l t b.1))

-- ---- from the tokens to the record

all-thin : (P : Prop → Type 0) → Thins (All P)
all-thin P xs y ys h = all_append P xs ys (all_left P xs (y ∷ ys) h) (all_right P xs (y ∷ ys) h).1

all-props : (P : Prop → Type 0) (ts : List Tok) → All (OfTok P) ts → All P (props_of ts)
all-props P [] h = tt
all-props P (start o ∷ ts) h = all-props P ts h.1
all-props P (end o ∷ ts) h = all-props P ts h.1
all-props P (node o ∷ ts) h = all-props P ts h.1
all-props P (prop p e ∷ ts) h = (h.0, all-props P ts h.1)

climbs-thin : (used n : ℕ) → Thins (λ ps. Climb used 0 n (spans_of ps))
climbs-thin used n xs y ys h =
    rw (spans-append xs ys) (climb-thin used 0 n (spans_of xs) (spans_of_prop y) (spans_of ys) (subst (Climb used 0 n) (spans-append xs (y ∷ ys)) h))

all-values : (P : Val → Type 0) (ps : List Prop) → All (λ p. All P p.vals) ps → All P (all_vals ps)
all-values P [] h = tt
all-values P (p ∷ ps) h = all_append P p.vals (all_vals ps) h.0 (all-values P ps h.1)

-- ---- of a reading

module _ (len : Bool) (t : List ℕ) (ts : List Tree) (h : read len t ≡ accepted ts) where
  abbrev r : Reading len t ts
  r = reading-is len t ts h

  abbrev ps : List Prop
  ps = all_props (all_nodes ts)

  reading-all : (P : Prop → Type 0) → All (OfTok P) (tokenize r.ink t).toks → All P ps
  reading-all P a = reading-thin len (All P) (all-thin P) r (all-props P (tokenize r.ink t).toks a)

  pub props-ascend : ascending (length t) 0 (spans_of ps) ≡ true
  props-ascend =
      let a = lex-ascend t r.ink r.valid in
      climb-ascends (length t) 0 a.0 (spans_of ps) (reading-thin len (λ qs. Climb (length t) 0 a.0 (spans_of qs)) (climbs-thin (length t) a.0) r a.1)

  pub props-proper : All HasProper ps
  props-proper = reading-all HasProper (lex-proper t r.ink r.valid)

  pub props-plain : All (λ p. plain_name (slice p.from p.to t) ≡ true) ps
  props-plain = go ps (read-denotes len t ts h) (reading-all Plain (lex-ascend t r.ink r.valid).2)
    where
      go : (qs : List Prop) → All (Denotes t) qs → All Plain qs → All (λ p. plain_name (slice p.from p.to t) ≡ true) qs
      go [] d a = tt
      go (q ∷ qs) d a = (subst (λ (z : List ℕ). plain_name z ≡ true) d.0.0 a.0, go qs d.1 a.1)

  value-boxed : (v : Val) → Stands t v → Proper v → Boxed t v → in_brackets_closed t v.from v.to ≡ true
  value-boxed v s p b =
      let c : closed_from false (slice v.from v.to t) ≡ true = subst (λ (z : List ℕ). closed_from false z ≡ true) s p.0 in
      rw (lt-ltb 0 v.from b.0.0, eq-eqb (get_or t (v.from - 1) 0) 0x5b b.0.1, eq-eqb (get_or t v.to 0) 0x5d b.1) c

  pub values-boxed : All (λ v. in_brackets_closed t v.from v.to ≡ true) (all_vals ps)
  values-boxed = all-values (λ v. in_brackets_closed t v.from v.to ≡ true) ps (go ps (read-denotes len t ts h) props-proper (reading-all (AllBoxed t) (lex-boxed t r.ink)))
    where
      each-value : (vs : List Val) → All (Stands t) vs → All Proper vs → All (Boxed t) vs → All (λ v. in_brackets_closed t v.from v.to ≡ true) vs
      each-value [] s p b = tt
      each-value (v ∷ vs) s p b = (value-boxed v s.0 p.0 b.0, each-value vs s.1 p.1 b.1)

      go : (qs : List Prop) → All (Denotes t) qs → All HasProper qs → All (AllBoxed t) qs → All (λ p. All (λ v. in_brackets_closed t v.from v.to ≡ true) p.vals) qs
      go [] d p b = tt
      go (q ∷ qs) d p b = (each-value q.vals d.0.1 p.0.1 b.0, go qs d.1 p.1 b.1)
