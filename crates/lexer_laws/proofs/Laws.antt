-- What the layers above may cite of the tokens: each law is stated here and proved elsewhere in this crate. Assumes nothing.
use Rattle.lists.proofs.Prelude.{◌≡◌, ℕ, ◌≤◌, ◌<◌, true, false, List, [], ◌∷◌, ◌++◌, length, take, drop}
use Rattle.lists.specs.All.{All}
use Rattle.text_chars.specs.White.{white}
use Rattle.text_utf8.specs.Text.{Ink, blank, whole, utfs}
use Rattle.text_utf8.proofs.Steps.{place}
use Rattle.lexer.specs.Token.{Val, St, between, value, emits, state_after, lex_from, lex_at, broken}
use Rattle.lexer.specs.Closed.{closed_from}
use Rattle.lexer.specs.Move.{starts_at, ends_at, new_raw}
use Rattle.lexer_scan.specs.Scan.{space, ident_from}
use Rattle.lexer_close.specs.Close.{close_from}
use Rattle.lexer.specs.Step.{next_at, step_on}
use Rattle.lexer_laws.proofs.Blank as blanks
use Rattle.lexer_laws.proofs.Machine as machine
use Rattle.lexer_laws.proofs.Join as join
use Rattle.lexer.proofs.Within as within
use Rattle.lexer_laws.proofs.Contents as contents
use Rattle.lexer_laws.proofs.Invariant.{OfTok}
use Rattle.lexer_laws.proofs.Moved.{move_lexed}
use Rattle.lexer_laws.proofs.Proper as proper
use Rattle.lexer_laws.proofs.Replace as replace
use Rattle.lexer_laws.proofs.Exactly as exactly
use Rattle.lexer_laws.proofs.Faults as faults
use Rattle.lexer_laws.specs.Reach.{Reaches}
use Rattle.lexer.specs.declared.Fault.{Fault}
use Rattle.lexer_scan.specs.declared.Ident.{Ident}
use Rattle.lexer.specs.declared.Step.TheVariants.{Refused}
use Rattle.std.specs.Prelude.{Option}

-- the tokens of a joined text are those of the first part, then those of the second from the state that the first leaves
pub tokens_append : (st : St) (o : ℕ) (xs ys : List ℕ)
    → (emits st o (xs ++ ys) ≡ emits st o xs ++ emits (state_after st o xs) (place o xs) ys) × (state_after st o (xs ++ ys) ≡ state_after (state_after st o xs) (place o xs) ys)
tokens_append st o xs ys = (machine.emits-append st o xs ys, machine.ends-append st o xs ys)

-- the machine from a place on gives the next token, then what it gives from behind that
pub tokens-step : (u : List ℕ) (i : ℕ) → lex_at u i ≡ step_on u (next_at u i)
tokens-step = join.lex-next

-- a token lies in the text, from the place where it was looked for on
pub token-bounds : (u : List ℕ) (i : ℕ) → within.Within u i (next_at u i)
token-bounds = within.next-within

-- spans denote contents: names and raw values are the text between their places
pub spans-denote : (f l : ℕ) (t : List ℕ) → All (OfTok (contents.Denotes t)) (lex_from f l (drop f (take l t))).toks
spans-denote = contents.tokens-denote

-- each property of a valid text has a value, and each value is closed and valid by itself
pub values-proper : (t : List ℕ) (k : Ink) → utfs (whole blank) 0 t ≡ whole k → (f l : ℕ) → All (OfTok proper.HasProper) (lex_from f l (drop f (take l t))).toks
values-proper = proper.proper-tokens

-- another closed text in the place of a value changes nothing but places, and that value's bytes
pub value-replaced : (f l : ℕ) (pre body new post : List ℕ) (s i : ℕ) (w : List ℕ) (vs : List Val)
    → state_after between f pre ≡ value s i w vs false (place f pre) [] → closed_from false body ≡ true → closed_from false new ≡ true → place (place f pre) body ≤ l
    → lex_from f (ends_at (place f pre) (place (place f pre) body) (length new) l) (pre ++ (new ++ (0x5d ∷ post)))
    ≡ move_lexed (starts_at (place f pre) (place (place f pre) body) (length new)) (ends_at (place f pre) (place (place f pre) body) (length new)) (new_raw (place f pre) new)
    (lex_from f l (pre ++ (body ++ (0x5d ∷ post))))
value-replaced = replace.replaced

-- what is skipped between tokens is exactly the ASCII part of what trimming drops
pub space-exactly : (b : ℕ) → (b < 0x80 → space b ≡ white b) × (space b ≡ true → b < 0x80)
space-exactly b = (blanks.space-white b, blanks.space-ascii b)

-- an identifier ends where, and is refused when, its bytes say so, and in no other way
pub identifier-exactly : (i : ℕ) (bs : List ℕ) (x : Ident) → exactly.IdentIs i bs x → ident_from i bs ≡ x
identifier-exactly = exactly.ident-exactly

-- a value closes at the first unescaped bracket, and is unclosed where there is none
pub value-exactly : (i : ℕ) (bs : List ℕ) (x : Option ℕ) → exactly.CloseIs false i bs x → close_from false i bs ≡ x
value-exactly = exactly.close-exactly false

-- the tokens end with a fault exactly where the first token at fault is reached by tokens, and at its start
pub fault-exactly : (u : List ℕ) (i : ℕ) (f : Fault) (j : ℕ)
    → (((k : ℕ) × Reaches u i k × (next_at u k ≡ Refused f j)) → (lex_at u i).end ≡ broken f j)
    × ((lex_at u i).end ≡ broken f j → (k : ℕ) × Reaches u i k × (next_at u k ≡ Refused f j))
fault-exactly u i f j = ((λ r. faults.fault-if u i r.0 r.1 f j r.2), faults.fault-only u i f j)
