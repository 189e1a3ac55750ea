-- A reading by the limit and by what trimming keeps. Assumes nothing.
use Rattle.lists.proofs.Prelude.{ℕ, ◌≤◌, ◌<◌, ◌≡◌, refl, sym, ap, ◌∙◌, Bool, List, [], length, take, drop, length-take-le, lt-ltb, le-ltb, pick}
use Rattle.text_utf8.specs.Text.{Utf, whole, part, bad, blank, inked, utfs}
use Rattle.text_utf8.specs.Trim.{trim_of, trimmed}
use Rattle.text_utf8.specs.declared.Trimmed.{Trimmed}
use Rattle.text_utf8.specs.declared.Trimmed.TheVariants.{NotUtf8, Blank, Kept}
use Rattle.lexer.specs.Token.{between, emits, state_after, done, finish, lexed, lex_from, lex_at}
use Rattle.tables.specs.Numbers.{text_limit}
use Rattle.tables.specs.declared.Reason.TheVariants.{TextTooLong, NotUtf8 as not_utf8}
use Rattle.parser.specs.Read.{Answer, refused, lexing, tokenize, parse_utf8, read}

-- the tokens of what trimming keeps are those from a place of the text's front part on
pub lex-prefix : (t : List ℕ) (f l : ℕ) → l ≤ length t → lex_from f l (drop f (take l t)) ≡ lex_at (take l t) f
unfolding lex_at
lex-prefix t f l h = ap (λ (z : ℕ). lexed (emits between f (drop f (take l t))) (finish (state_after between f (drop f (take l t))) z)) (sym (length-take-le l t h))

module _ (len : Bool) (t : List ℕ) where
  pub text-long : text_limit < length t → read len t ≡ refused TextTooLong 0
  text-long h = ap (λ (z : Bool). pick z (refused TextTooLong 0) (parse_utf8 len (utfs (whole blank) 0 t) t)) (lt-ltb text_limit (length t) h)

  pub text-short : length t ≤ text_limit → read len t ≡ parse_utf8 len (utfs (whole blank) 0 t) t
  text-short h = ap (λ (z : Bool). pick z (refused TextTooLong 0) (parse_utf8 len (utfs (whole blank) 0 t) t)) (le-ltb text_limit (length t) h)

  -- by what trimming finds
  abbrev pub on_trimmed : Trimmed → Answer
  on_trimmed (NotUtf8 p) = refused not_utf8 p
  on_trimmed Blank = lexing len done []
  on_trimmed (Kept f l) = lexing len (tokenize (inked f l) t).end (tokenize (inked f l) t).toks

  shown-as : (u : Utf) → parse_utf8 len u t ≡ on_trimmed (trim_of u)
  shown-as (whole blank) = refl
  shown-as (whole (inked f l)) = refl
  shown-as (part k s n r c) = refl
  shown-as (bad p) = refl

  pub text-trimmed : length t ≤ text_limit → read len t ≡ on_trimmed (trimmed t)
  unfolding trimmed
  text-trimmed h = text-short h ∙ shown-as (utfs (whole blank) 0 t)
