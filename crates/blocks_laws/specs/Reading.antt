-- One reading of a whole text into token rows: what trimming keeps, its tokens, and what is left in the lent rows.
use Rattle.std.specs.Prelude.{◌-◌, ◌*◌, ◌/◌, ◌≡◌, ◌∷◌, ◌++◌}
use Rattle.lists.specs.Prelude.{ℕ, suc, List, [], length, take, drop, replicate, ltb, pick}
use Rattle.tables.specs.Numbers.{text_limit}
use Rattle.text_utf8.specs.declared.Trimmed.{Trimmed}
use Rattle.text_utf8.specs.declared.Trimmed.TheVariants.{NotUtf8, Blank, Kept}
use Rattle.text_utf8.specs.Trim.{trimmed}
use Rattle.lexer.specs.Token.{Tok, start, end, node, prop, End, done, broken, lex_from, fault_number}
use Rattle.blocks_step.specs.Lean.{token_kind, token_from}
use Rattle.blocks.specs.Room.{token_row}

-- where a token ends; a property with the white space after it
abbrev pub token_to : Tok → ℕ
token_to (start o) = suc o
token_to (end o) = suc o
token_to (node o) = suc o
token_to (prop p e) = e

-- the row of a token
abbrev pub row_of_token : Tok → List ℕ
row_of_token t = token_row (token_kind t) (token_from t) (token_to t)

-- the rows of tokens
abbrev pub token_rows : List Tok → List (List ℕ)
token_rows [] = []
token_rows (t ∷ ts) = row_of_token t ∷ token_rows ts

-- token rows, or a number and a place
pub data TokenReading : Type 0 where
  tokens_read : List (List ℕ) → TokenReading
  not_read : (number place : ℕ) → TokenReading

-- by how the tokens end
abbrev pub read_end : End → List (List ℕ) → TokenReading
read_end done rs = tokens_read rs
read_end (broken f s) rs = not_read (fault_number f) s

-- the tokens of what trimming keeps
abbrev pub read_trimmed : Trimmed → List ℕ → TokenReading
read_trimmed (NotUtf8 p) t = not_read 2 p
read_trimmed Blank t = tokens_read []
read_trimmed (Kept f l) t = read_end (lex_from f l (drop f (take l t))).end (token_rows (lex_from f l (drop f (take l t))).toks)

-- a whole text: 1, then 2, then 3 to 5 (SCOPE 182)
unfoldable pub read_tokens : List ℕ → TokenReading
read_tokens t = pick (ltb text_limit (length t)) (not_read 1 0) (read_trimmed (trimmed t) t)

-- rows one behind the other
abbrev pub flat_rows : List (List ℕ) → List ℕ
flat_rows [] = []
flat_rows (r ∷ rs) = r ++ flat_rows rs

-- what is lent then: these rows, zeros to the last whole row, and a rest that is no row as it was (SCOPE 185)
abbrev pub rows_left : List (List ℕ) → List ℕ → List ℕ
rows_left rs t = flat_rows rs ++ (replicate (length t / 3 * 3 - length rs * 3) 0 ++ drop (length t / 3 * 3) t)

-- no row is left, and a rest that is no row is as it was
abbrev pub NoRows : (before after : List ℕ) → Type 0
NoRows t t' = t' ≡ replicate (length t / 3 * 3) 0 ++ drop (length t / 3 * 3) t

-- behind n rows are zeros to the last whole row, and a rest that is no row is as it was
abbrev pub ZerosBehind : ℕ → (before after : List ℕ) → Type 0
ZerosBehind n t t' = drop (n * 3) t' ≡ replicate (length t / 3 * 3 - n * 3) 0 ++ drop (length t / 3 * 3) t
