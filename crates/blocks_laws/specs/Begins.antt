-- A strict reading begins with the reading of tokens.
use Rattle.std.specs.Prelude.{◌≡◌}
use Rattle.lists.specs.Prelude.{false, List}
use Rattle.tables.specs.Numbers.{number_of}
use Rattle.tables.specs.declared.Reason.{Reason}
use Rattle.lexer.specs.Token.{Tok}
use Rattle.parser.specs.Read.{Answer, refused, parsed}
use Rattle.blocks_laws.specs.Reading.{TokenReading, tokens_read, not_read, token_rows}

-- where the tokens are refused, so is the text, with the same number and place; else it is what splitting makes of tokens with these rows
abbrev pub BeginsWith : TokenReading → Answer → Type 0
BeginsWith (tokens_read rs) a = (ts : List Tok) × (rs ≡ token_rows ts) × (a ≡ parsed false ts)
BeginsWith (not_read n p) a = (r : Reason) × (a ≡ refused r p) × (number_of r ≡ n)
