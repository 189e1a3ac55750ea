-- The table of short texts, by computation. Assumes nothing.
use Rattle.lists.proofs.Prelude.{refl}
use Rattle.text_chars.specs.White.{white}
use Rattle.text_utf8.specs.Trim.{trimmed}
use Rattle.lexer_scan.specs.Scan.{space}
use Rattle.lexer.specs.Token.{lex_at}
use Rattle.values.specs.Read.{read_from}
use Rattle.values.specs.Decimal.{decimal_of, digits_from, digit_of}
use Rattle.why_blame.specs.Cuts.{foreign_from}
use Rattle.why_grounds.specs.Examples.{told_texts, AsTold}

pub texts-told : AsTold told_texts
unfolding white trimmed space lex_at read_from decimal_of digits_from digit_of foreign_from
texts-told = refl
