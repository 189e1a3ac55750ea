-- A column of a report.
use Rattle.std.specs.Prelude.{◌+◌, ◌^◌, ◌<◌, ◌≤◌, ◌∷◌}
use Rattle.lists.specs.Prelude.{ℕ, List, [], get_or}
use Rattle.season_totals.specs.declared.Line.{Line}
use Rattle.season_totals.specs.Totals.{line_sums}

-- column k of each line, added up
abbrev pub sum_over : (k : ℕ) → List Line → ℕ
sum_over k [] = 0
sum_over k (l ∷ ls) = get_or (line_sums l) k 0 + sum_over k ls

-- no column of a line is above 2 ^ 17
abbrev pub small_line : Line → Type 0
small_line l = (k : ℕ) → k < 38 → get_or (line_sums l) k 0 ≤ 2 ^ 17
