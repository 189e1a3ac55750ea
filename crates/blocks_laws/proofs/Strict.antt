-- The reading of tokens is how a strict reading begins, for every text. Assumes nothing.
use Rattle.lists.proofs.Prelude.{◌≡◌, refl, ℕ, Bool, true, false, List, [], length, take, drop, ltb, pick}
use Rattle.tables.specs.Numbers.{text_limit, number_of, reason_of}
use Rattle.tables.specs.declared.Reason.TheVariants.{TextTooLong, NotUtf8}
use Rattle.text_utf8.specs.Text.{Utf, whole, blank, inked, part, bad, utfs}
use Rattle.text_utf8.specs.Trim.{trim_of, trimmed}
use Rattle.lexer.specs.declared.Fault.{Fault}
use Rattle.lexer.specs.declared.Fault.TheVariants.{MissingPropertyIdentifier, UnexpectedEndOfPropertyIdentifier, UnexpectedEndOfPropertyValue}
use Rattle.lexer.specs.Token.{Tok, End, done, broken, lex_from, fault_number}
use Rattle.parser.specs.Read.{refused, lexing, parse_utf8, read_strict}
use Rattle.blocks_laws.specs.Reading.{not_read, read_end, read_trimmed, read_tokens, token_rows}
use Rattle.blocks_laws.specs.Begins.{BeginsWith}

fault-number : (f : Fault) → number_of (reason_of f) ≡ fault_number f
fault-number MissingPropertyIdentifier = refl
fault-number UnexpectedEndOfPropertyIdentifier = refl
fault-number UnexpectedEndOfPropertyValue = refl

ends_with : (e : End) (ts : List Tok) → BeginsWith (read_end e (token_rows ts)) (lexing false e ts)
ends_with done ts = (ts, refl, refl)
ends_with (broken f s) ts = (reason_of f, refl, fault-number f)

utf-with : (t : List ℕ) (u : Utf) → BeginsWith (read_trimmed (trim_of u) t) (parse_utf8 false u t)
utf-with t (whole blank) = ([], refl, refl)
utf-with t (whole (inked f l)) = ends_with (lex_from f l (drop f (take l t))).end (lex_from f l (drop f (take l t))).toks
utf-with t (part k s n r c) = (NotUtf8, refl, refl)
utf-with t (bad p) = (NotUtf8, refl, refl)

pub strict-begins : (t : List ℕ) → BeginsWith (read_tokens t) (read_strict t)
unfolding read_tokens trimmed
strict-begins t = go (ltb text_limit (length t))
  where
    go : (b : Bool) → BeginsWith (pick b (not_read 1 0) (read_trimmed (trim_of (utfs (whole blank) 0 t)) t)) (pick b (refused TextTooLong 0) (parse_utf8 false (utfs (whole blank) 0 t) t))
    go true = (TextTooLong, refl, refl)
    go false = utf-with t (utfs (whole blank) 0 t)
