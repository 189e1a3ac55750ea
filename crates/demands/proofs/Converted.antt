-- Reading always converts: texts that were refused with 13, or lost a property for it. Assumes nothing.
use Rattle.lists.proofs.Prelude.{List, [], ◌∷◌, ◌≡◌, refl}
use Rattle.text_chars.specs.White.{white}
use Rattle.text_utf8.specs.Trim.{trimmed}
use Rattle.lexer_scan.specs.Scan.{space}
use Rattle.values.specs.Read.{read_identifier}
use Rattle.tables.specs.Numbers.{none}
use Rattle.parser.specs.Examples.{strict, lenient}
use Rattle.serialize_laws.specs.Examples as paper

-- an identifier without an uppercase letter: read strictly, with its property; leniently, with both
abbrev pub converted : List paper.Row
converted =
    paper.row "(;a[])" (paper.reading strict) (paper.rows (0 ∷ 0 ∷ []) (none ∷ none ∷ none ∷ 0 ∷ 1 ∷ 0 ∷ []) (2 ∷ 3 ∷ 0 ∷ 1 ∷ []) (4 ∷ 4 ∷ []))
    ∷ paper.row "(;a[]B[aa])" (paper.reading lenient)
    (paper.rows (0 ∷ 0 ∷ []) (none ∷ none ∷ none ∷ 0 ∷ 2 ∷ 0 ∷ []) (2 ∷ 3 ∷ 0 ∷ 1 ∷ 5 ∷ 6 ∷ 1 ∷ 1 ∷ []) (4 ∷ 4 ∷ 7 ∷ 9 ∷ []))
    ∷ []

-- each is read as its row says
pub converted-right : paper.answered converted ≡ paper.wanted converted
unfolding white space read_identifier trimmed
converted-right = refl
