-- Totals: the sums of lines, column by column.
use Rattle.lists.specs.Prelude.{ℕ, Bool, true, List, [], leb, get_or, replicate, pick}
use Rattle.tables.specs.Each.{tabulate}
use Rattle.std.specs.Prelude.{set, Option, Some, None, ◌+◌, ◌-◌, ◌^◌, ◌&&◌, ◌∷◌}
use Rattle.season_totals.specs.declared.Line.{Line}
use Rattle.season_totals.specs.declared.Line.TheVariants.{Unread, Refused, Counted}
use Rattle.season_totals.specs.declared.Totals.{Totals}

-- nothing counted in any of the 38 columns
abbrev pub no_sums : List ℕ
no_sums = replicate 38 0

-- a counted record adds 1 accepted and its tally; a refused one adds 1 to its number; a file that was not read adds nothing
abbrev pub line_sums : Line → List ℕ
line_sums Unread = no_sums
line_sums (Refused n) = set no_sums (6 + n) 1
line_sums (Counted t tag) = 1 ∷ t.trees ∷ t.nodes ∷ t.black ∷ t.white ∷ t.passes ∷ replicate 32 0

-- column by column
unfoldable pub plus_sums : List ℕ → List ℕ → List ℕ
plus_sums xs ys = tabulate (λ i. get_or xs i 0 + get_or ys i 0) 0 38

-- the totals of lines
abbrev pub totals_of : List Line → List ℕ
totals_of [] = no_sums
totals_of (l ∷ ls) = plus_sums (line_sums l) (totals_of ls)

-- every sum is below 2 ^ 64
abbrev pub small_sums : List ℕ → Bool
small_sums [] = true
small_sums (x ∷ xs) = leb x (2 ^ 64 - 1) && small_sums xs

-- the sums of both, where each is below 2 ^ 64
unfoldable pub added_to : (xs ys : List ℕ) → Option Totals
added_to xs ys = pick (small_sums (plus_sums xs ys)) (Some (record { sums = plus_sums xs ys })) None
