-- A reading by its stages: the text, the tokens, splitting; every case has its condition. Assumes nothing.
use Rattle.lists.proofs.Prelude.{ℕ, zero, suc, ◌≤◌, ◌<◌, ◌≡◌, refl, ap, ◌∙◌, Bool, false, ⊎_elim, List, [], arith, lt_of_not-le, ltb, length, take, lt-ltb, le-ltb, pick}
use native.Mathlib.Decide.{dec_le}
use Rattle.lists.proofs.Tests.{never, same_or}
use Rattle.text_chars.specs.Table.{WellFormed, BadFrom}
use Rattle.text_utf8.specs.Trim.{trimmed}
use Rattle.text_utf8.specs.declared.Trimmed.{Trimmed}
use Rattle.text_utf8.specs.declared.Trimmed.TheVariants.{NotUtf8, Blank, Kept}
use Rattle.text_utf8.proofs.Extent.{trim-bounds}
use Rattle.text_utf8.proofs.WellFormed.{well-or-bad, bad-trimmed, well-formed-trimmed}
use Rattle.lexer.specs.Token.{Tok, broken, Lexed}
use Rattle.lexer.specs.declared.Fault.{Fault}
use Rattle.lexer_laws.proofs.Faults.{fault-if, fault-only}
use Rattle.tables.specs.Numbers.{text_limit, depth_limit}
use Rattle.tables.specs.declared.Reason.TheVariants.{NotUtf8 as not_utf8, TooDeep}
use Rattle.parser.specs.Split.{splitting, split, no as unsplit, slices, split_by_gametree}
use Rattle.parser.specs.Read.{refused, lexing, read}
use Rattle.parser.specs.Balance.{starts, ends, Balanced}
use Rattle.parser.proofs.Cuts.{deepest}
use Rattle.parser.proofs.Texts.{lex-prefix, on_trimmed, text-trimmed}
use Rattle.reader_exactly.specs.Slicing.{Any, slices_from, Uncovered, Deep}
use Rattle.reader_exactly.specs.When.{Valid, tokens_in, tokens_of, FailsAt, Unclosed, Bare}
use Rattle.reader_exactly.proofs.Cover.{cover-or, balanced-filled}
use Rattle.reader_exactly.proofs.Deeper.{deep-exactly}
use Rattle.reader_exactly.proofs.Standing.{slices-are}

-- ---- to the tokens

module _ (len : Bool) (t : List ℕ) where
  -- by what trimming finds, where the text is well formed
  trimmed-lexing : (x : Trimmed) → trimmed t ≡ x → WellFormed t → on_trimmed len t x ≡ lexing len (tokens_in t x).end (tokens_in t x).toks
  trimmed-lexing (NotUtf8 p) e w = absurd (well-formed-trimmed t w p e)
  trimmed-lexing Blank e w = refl
  trimmed-lexing (Kept f l) e w = ap (λ (z : Lexed). lexing len z.end z.toks) (lex-prefix t f l (trim-bounds t f l e).1)

  pub valid-read : Valid t → read len t ≡ lexing len (tokens_of t).end (tokens_of t).toks
  valid-read v = text-trimmed len t v.short ∙ trimmed-lexing (trimmed t) refl v.formed

  pub bad-read : (p : ℕ) → length t ≤ text_limit → BadFrom t p → read len t ≡ refused not_utf8 p
  bad-read p h b = text-trimmed len t h ∙ ap (on_trimmed len t) (bad-trimmed t p b)

  -- every text is too long, bad from a place on, or valid
  pub text-cases : {X : Type 0} → (text_limit < length t → X) → ((p : ℕ) → length t ≤ text_limit → BadFrom t p → X) → (Valid t → X) → X
  text-cases f g h =
      elim (dec_le (length t) text_limit) [
        | yes l ↦ ⊎_elim (λ w. h (record { short = l; formed = w })) (λ b. g b.0 l b.1) (well-or-bad t)
        | no n ↦ f (lt_of_not-le n)
      ]

-- ---- faults

pub broken-fails : (t : List ℕ) (f : Fault) (p : ℕ) → (tokens_of t).end ≡ broken f p → FailsAt t f p
broken-fails t f p e = go (trimmed t) refl e
  where
    go : (x : Trimmed) → trimmed t ≡ x → (tokens_in t x).end ≡ broken f p → FailsAt t f p
    go (NotUtf8 q) k h = never cc
    go Blank k h = never cc
    go (Kept a l) k h =
        let r = fault-only (take l t) a f p h in
        record { first = a; last = l; at = r.0; kept = k; reached = r.1; fails = r.2 }

pub fails-broken : (t : List ℕ) (f : Fault) (p : ℕ) → FailsAt t f p → (tokens_of t).end ≡ broken f p
fails-broken t f p x =
    ap (λ (z : Trimmed). (tokens_in t z).end) x.kept ∙ fault-if (take x.last t) x.first x.at x.reached f p x.fails

-- ---- splitting

-- the greatest depth, in the words of the slices
module _ (ts : List Tok) (b : Balanced ts) where
  abbrev top : ℕ
  top = deepest (split false (splitting 0 0 [] []) ts)

  filled : split_by_gametree false ts ≡ pick (ltb depth_limit top) (unsplit TooDeep) (slices (slices_from 0 ts))
  filled = let f = balanced-filled ts b in f.1 ∙ ap (λ (z : List (List Tok)). pick (ltb depth_limit top) (unsplit TooDeep) (slices z)) (slices-are false ts f.0)

  pub too-deep : Any (Deep 0) (slices_from 0 ts) → split_by_gametree false ts ≡ unsplit TooDeep
  too-deep h =
      filled ∙ ap (λ (z : Bool). pick z (unsplit TooDeep) (slices (slices_from 0 ts))) (lt-ltb depth_limit top ((deep-exactly false ts (balanced-filled ts b).0).1 h))

  deep_cases : {X : Type 0} → (Any (Deep 0) (slices_from 0 ts) → X) → ((Any (Deep 0) (slices_from 0 ts) → ⊥) → X) → X
  deep_cases f g =
      elim (dec_le top depth_limit) [
        | yes l ↦ g (λ h. let k = (deep-exactly false ts (balanced-filled ts b).0).1 h in absurd (omega arith))
        | no n ↦ f ((deep-exactly false ts (balanced-filled ts b).0).0 (lt_of_not-le n))
      ]

  pub not-deep : (Any (Deep 0) (slices_from 0 ts) → ⊥) → split_by_gametree false ts ≡ slices (slices_from 0 ts)
  not-deep n =
      let q : ltb depth_limit top ≡ false = elim (dec_le top depth_limit) [ yes l ↦ le-ltb depth_limit top l | no h ↦ absurd (n ((deep-exactly false ts (balanced-filled ts b).0).0 (lt_of_not-le h))) ] in
      filled ∙ ap (λ (z : Bool). pick z (unsplit TooDeep) (slices (slices_from 0 ts))) q

-- every list of tokens is refused by splitting, or too deep, or neither
pub split-cases : {X : Type 0} (ts : List Tok) → (Uncovered 0 ts → X) → (Unclosed ts → X) → (Bare ts → X) → ((b : Balanced ts) → Any (Deep 0) (slices_from 0 ts) → X)
    → ((b : Balanced ts) → (Any (Deep 0) (slices_from 0 ts) → ⊥) → X) → X
split-cases ts six seven eight nine none =
    ⊎_elim six
    (λ cv.
    same_or (starts ts) (ends ts)
    (λ e. same_or (ends ts) 0 (λ z. eight (record { no_start = e ∙ z; no_end = z }))
    (λ n. let b : Balanced ts = record { covered = cv; equal = e; some = pos (ends ts) n } in deep_cases ts b (nine b) (none b)))
    (λ n. seven (record { covered = cv; differ = n })))
    (cover-or ts 0)
  where
    pos : (n : ℕ) → (n ≡ 0 → ⊥) → 0 < n
    pos zero h = absurd (h refl)
    pos (suc n) h = omega arith
