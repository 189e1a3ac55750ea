-- A report in bytes: its columns are parted by tabs, and a name comes last.
use Rattle.std.specs.Prelude.{◌+◌, ◌∷◌, ◌++◌}
use Rattle.lists.specs.Prelude.{ℕ, zero, suc, List, [], eqb, get_or, pick}
use Rattle.values.specs.Decimal.{decimal}
use Rattle.season_tag.specs.Hex.{hex_of}
use Rattle.season_totals.specs.declared.Tally.{Tally}
use Rattle.season_totals.specs.declared.Line.{Line}
use Rattle.season_totals.specs.declared.Line.TheVariants.{Unread, Refused, Counted}

-- `unread`
abbrev pub unread_word : List ℕ
unread_word = 0x75 ∷ 0x6e ∷ 0x72 ∷ 0x65 ∷ 0x61 ∷ 0x64 ∷ []

-- `accepted`
abbrev pub accepted_word : List ℕ
accepted_word = 0x61 ∷ 0x63 ∷ 0x63 ∷ 0x65 ∷ 0x70 ∷ 0x74 ∷ 0x65 ∷ 0x64 ∷ []

-- `refused`
abbrev pub refused_word : List ℕ
refused_word = 0x72 ∷ 0x65 ∷ 0x66 ∷ 0x75 ∷ 0x73 ∷ 0x65 ∷ 0x64 ∷ []

-- `total`
abbrev pub total_word : List ℕ
total_word = 0x74 ∷ 0x6f ∷ 0x74 ∷ 0x61 ∷ 0x6c ∷ []

-- a dash in each of the six columns that a refused record lacks
abbrev pub dashes : List ℕ
dashes = 9 ∷ 0x2d ∷ 9 ∷ 0x2d ∷ 9 ∷ 0x2d ∷ 9 ∷ 0x2d ∷ 9 ∷ 0x2d ∷ 9 ∷ 0x2d ∷ []

-- a number in its column
abbrev pub column : ℕ → List ℕ
column n = (9 ∷ []) ++ decimal n

-- trees, nodes, black, white, passes
abbrev pub tally_text : Tally → List ℕ
tally_text t = column t.trees ++ (column t.nodes ++ (column t.black ++ (column t.white ++ column t.passes)))

-- the name of a file, at the end of its line
abbrev pub named : List ℕ → List ℕ
named name = (9 ∷ []) ++ (name ++ (10 ∷ []))

-- a line: `accepted`, the tally and the tag; or the number and dashes; or `unread`
unfoldable pub line_text : Line → (name : List ℕ) → List ℕ
line_text Unread name = unread_word ++ named name
line_text (Refused n) name = decimal n ++ (dashes ++ named name)
line_text (Counted t tag) name = accepted_word ++ (tally_text t ++ ((9 ∷ []) ++ (hex_of tag ++ named name)))

-- how many records a number refused, where there are any
unfoldable pub count_text : (number count : ℕ) → List ℕ
count_text number count = pick (eqb count 0) [] (refused_word ++ (column number ++ (column count ++ (10 ∷ []))))

-- the n numbers from `number` on
unfoldable pub refused_text : (number n : ℕ) → (sums : List ℕ) → List ℕ
refused_text number zero sums = []
refused_text number (suc n) sums = count_text number (get_or sums (6 + number) 0) ++ refused_text (suc number) n sums

-- `total`, trees, nodes, black, white, passes
unfoldable pub sums_text : List ℕ → List ℕ
sums_text sums =
    total_word
    ++ (column (get_or sums 1 0) ++ (column (get_or sums 2 0) ++ (column (get_or sums 3 0) ++ (column (get_or sums 4 0) ++ column (get_or sums 5 0)))))

-- the totals: the sums of the columns; the accepted records; the refused ones by their numbers, ascending
unfoldable pub totals_text : List ℕ → List ℕ
totals_text sums = sums_text sums ++ ((10 ∷ accepted_word) ++ (column (get_or sums 0 0) ++ ((10 ∷ []) ++ refused_text 0 32 sums)))
