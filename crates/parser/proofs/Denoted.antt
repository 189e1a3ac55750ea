-- What an accepted reading says stands in the text, strict and lenient: each identifier and each value is the bytes between its places. Assumes nothing.
use Rattle.lists.proofs.Prelude.{◌≡◌, subst, ℕ, Bool, true, false, List, ltb, length, pick}
use Rattle.lists.specs.All.{All}
use Rattle.text_utf8.specs.Text.{Ink, blank, inked, Utf, whole, part, bad, utfs}
use Rattle.lexer.specs.Token.{End, done, broken}
use Rattle.lexer_laws.proofs.Invariant.{OfTok}
use Rattle.lexer_laws.proofs.Contents.{Denotes, tokens-denote}
use Rattle.tables.specs.Numbers.{text_limit}
use Rattle.tables.specs.Record.{Tree, all_nodes, all_props}
use Rattle.tables.specs.declared.Reason.TheVariants.{TextTooLong}
use Rattle.parser.specs.Read.{refused, accepted, lexing, tokenize, parse_utf8, read}
use Rattle.parser.proofs.Lift.{OfAnswer, of-tokens, of-trees}

ink-denotes : (k : Ink) (t : List ℕ) → All (OfTok (Denotes t)) (tokenize k t).toks
ink-denotes blank t = tt
ink-denotes (inked f l) t = tokens-denote f l t

lexing-denotes : (len : Bool) (e : End) (k : Ink) (t : List ℕ) → OfAnswer (Denotes t) (lexing len e (tokenize k t).toks)
lexing-denotes true e k t = of-tokens (Denotes t) true (tokenize k t).toks (ink-denotes k t)
lexing-denotes false done k t = of-tokens (Denotes t) false (tokenize k t).toks (ink-denotes k t)
lexing-denotes false (broken f s) k t = tt

decoded-denotes : (len : Bool) (u : Utf) (t : List ℕ) → OfAnswer (Denotes t) (parse_utf8 len u t)
decoded-denotes len (whole k) t = lexing-denotes len (tokenize k t).end k t
decoded-denotes len (part k s n r c) t = tt
decoded-denotes len (bad p) t = tt

answer-denotes : (len : Bool) (t : List ℕ) → OfAnswer (Denotes t) (read len t)
answer-denotes len t = go (ltb text_limit (length t))
  where
    go : (b : Bool) → OfAnswer (Denotes t) (pick b (refused TextTooLong 0) (parse_utf8 len (utfs (whole blank) 0 t) t))
    go true = tt
    go false = decoded-denotes len (utfs (whole blank) 0 t) t

pub read-denotes : (len : Bool) (t : List ℕ) (ts : List Tree) → read len t ≡ accepted ts → All (Denotes t) (all_props (all_nodes ts))
read-denotes len t ts h = of-trees (Denotes t) ts (subst (OfAnswer (Denotes t)) h (answer-denotes len t))
