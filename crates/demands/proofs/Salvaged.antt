-- What lenient reading keeps of texts that strict reading refuses: by computation. Assumes nothing.
use Rattle.lists.proofs.Prelude.{List, [], ◌∷◌, ◌≡◌, refl}
use Rattle.text_chars.specs.White.{white}
use Rattle.text_utf8.specs.Trim.{trimmed}
use Rattle.lexer_scan.specs.Scan.{space}
use Rattle.values.specs.Decimal as decimal
use Rattle.values.specs.Read.{read_identifier, read_from}
use Rattle.tables.specs.Numbers.{none}
use Rattle.parser.specs.Examples.{lenient}
use Rattle.serialize_laws.specs.Examples as paper

-- an open tree; a value cut off; an end too many, behind which nothing is read; a wrong GM; a start without a node; a property behind a variation
abbrev pub salvaged : List paper.Row
salvaged =
    paper.row "(;;" (paper.reading lenient) (paper.rows (0 ∷ 0 ∷ []) (none ∷ 1 ∷ none ∷ 0 ∷ 0 ∷ 0 ∷ 0 ∷ none ∷ none ∷ 0 ∷ 0 ∷ 1 ∷ []) [] [])
    ∷ paper.row "(;B[aa];W[bb" (paper.reading lenient)
    (paper.rows (0 ∷ 0 ∷ []) (none ∷ 1 ∷ none ∷ 0 ∷ 1 ∷ 0 ∷ 0 ∷ none ∷ none ∷ 1 ∷ 0 ∷ 1 ∷ []) (2 ∷ 3 ∷ 0 ∷ 1 ∷ []) (4 ∷ 6 ∷ []))
    ∷ paper.row "(;))(;;)" (paper.reading lenient) (paper.rows (0 ∷ 0 ∷ []) (none ∷ none ∷ none ∷ 0 ∷ 0 ∷ 0 ∷ []) [] [])
    ∷ paper.row "(;GM[x])" (paper.reading lenient) (paper.rows (0 ∷ 0 ∷ []) (none ∷ none ∷ none ∷ 0 ∷ 1 ∷ 0 ∷ []) (2 ∷ 4 ∷ 0 ∷ 1 ∷ []) (5 ∷ 6 ∷ []))
    ∷ paper.row "((;))" (paper.reading lenient) (paper.rows (0 ∷ 0 ∷ []) (none ∷ none ∷ none ∷ 0 ∷ 0 ∷ 0 ∷ []) [] [])
    ∷ paper.row "(;B[aa](;)W[bb];)" (paper.reading lenient)
    (paper.rows (0 ∷ 0 ∷ []) (none ∷ 1 ∷ none ∷ 0 ∷ 1 ∷ 0 ∷ 0 ∷ none ∷ none ∷ 1 ∷ 0 ∷ 1 ∷ []) (2 ∷ 3 ∷ 0 ∷ 1 ∷ []) (4 ∷ 6 ∷ []))
    ∷ []

-- each is read as its row says
pub salvaged-right : paper.answered salvaged ≡ paper.wanted salvaged
unfolding white space read_identifier trimmed read_from decimal.decimal_of decimal.digits_from decimal.digit_of
salvaged-right = refl
