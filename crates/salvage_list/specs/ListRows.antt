-- The list of a text as rows of numbers.
use Rattle.std.specs.Prelude.{◌∷◌, ◌++◌}
use Rattle.lists.specs.Prelude.{ℕ, List, [], length, drop, leb, ltb, pick}
use Rattle.tables.specs.Numbers.{text_limit}
use Rattle.salvage_mend.specs.Changes.{Change, empty_root, unnamed, removed_gm, spelled_anew, cut_short, tail_dropped}
use Rattle.salvage_list.specs.Listed.{changes_of}

-- the list of a text; one above the text limit has none (SCOPE 289)
abbrev pub text_changes : List ℕ → List Change
text_changes t = pick (ltb text_limit (length t)) [] (changes_of t)

-- an entry: its kind, the number of the tree or property, the place (SCOPE 289)
abbrev pub change_row : Change → List ℕ
change_row (cut_short i o) = 0 ∷ i ∷ o ∷ []
change_row (empty_root i) = 1 ∷ i ∷ 0 ∷ []
change_row (unnamed k) = 2 ∷ k ∷ 0 ∷ []
change_row (spelled_anew k) = 3 ∷ k ∷ 0 ∷ []
change_row (removed_gm k) = 4 ∷ k ∷ 0 ∷ []
change_row (tail_dropped o) = 5 ∷ 0 ∷ o ∷ []

-- all entries, one behind another
abbrev pub change_rows : List Change → List ℕ
change_rows [] = []
change_rows (c ∷ cs) = change_row c ++ change_rows cs

-- the lent rows with the list in front, where there is room for all of it (SCOPE 290)
abbrev pub with_changes : List Change → (rows : List ℕ) → List ℕ
with_changes cs rows = pick (leb (length (change_rows cs)) (length rows)) (change_rows cs ++ drop (length (change_rows cs)) rows) rows
