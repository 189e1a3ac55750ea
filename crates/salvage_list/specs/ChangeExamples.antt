-- Texts and their lists of changes: one table, one statement.
use Rattle.std.specs.Prelude.{◌≡◌, ◌∷◌}
use Rattle.lists.specs.Prelude.{refl, List, []}
use Prim.Native.String.{String}
use Rattle.text_chars.specs.White.{white}
use Rattle.lexer_scan.specs.Scan.{space}
use Rattle.values.specs.Read.{read_from, read_identifier}
use Rattle.values.specs.Decimal.{decimal_of, digits_from, digit_of}
use Rattle.parser.specs.Examples.{bytes}
use Rattle.salvage_mend.specs.Changes.{Change, empty_root, unnamed, removed_gm, spelled_anew, cut_short, tail_dropped}
use Rattle.salvage_list.specs.Listed.{changes_of}

-- a text and what salvage lists of it
pub record Lists : Type 0 where
  pub text : String
  pub changes : List Change

-- a row of the table
abbrev listed_for : String → List Change → Lists
listed_for t cs = record { text = t; changes = cs }

-- every kind; a fault inside an open tree is a tail and no cut; an end that is added, a type that changes and another form of the values are not listed (SCOPE 285)
abbrev pub listed_texts : List Lists
listed_texts =
    listed_for "(;GaM[2]B[aa])" (spelled_anew 0 ∷ [])
    ∷ listed_for ";;GM[2](;)" []
    ∷ listed_for "(A[]GM[2])" (empty_root 0 ∷ cut_short 0 1 ∷ [])
    ∷ listed_for "(;GM[1]GaM[2])" (removed_gm 0 ∷ removed_gm 1 ∷ [])
    ∷ listed_for "(;GaM[x])" (removed_gm 0 ∷ [])
    ∷ listed_for "(;GM[\\1])" []
    ∷ listed_for "(;;GM[x])" []
    ∷ listed_for "(;" []
    ∷ listed_for "(;[x]b[aa](;A[y" (unnamed 0 ∷ unnamed 1 ∷ tail_dropped 12 ∷ [])
    ∷ listed_for "(;);)" (tail_dropped 3 ∷ [])
    ∷ listed_for "(;(;)A[x];)" (cut_short 0 5 ∷ [])
    ∷ listed_for "(;)(;((;)))" (cut_short 1 6 ∷ [])
    ∷ listed_for "(;A[x]B" (tail_dropped 6 ∷ [])
    ∷ listed_for "(;)(;Bl[a])" (spelled_anew 0 ∷ [])
    ∷ listed_for "(;AB[aa:ab])" []
    ∷ listed_for ";" (empty_root 0 ∷ tail_dropped 0 ∷ [])
    ∷ listed_for "x" (empty_root 0 ∷ tail_dropped 0 ∷ [])
    ∷ listed_for "" (empty_root 0 ∷ [])
    ∷ []

-- the lists of the texts
abbrev lists_given : List Lists → List (List Change)
lists_given [] = []
lists_given (r ∷ rs) = changes_of (bytes r.text) ∷ lists_given rs

-- what the rows say
abbrev lists_said : List Lists → List (List Change)
lists_said [] = []
lists_said (r ∷ rs) = r.changes ∷ lists_said rs

-- each list is as its row says
pub changes-right : lists_given listed_texts ≡ lists_said listed_texts
unfolding white space read_from read_identifier decimal_of digits_from digit_of
changes-right = refl
