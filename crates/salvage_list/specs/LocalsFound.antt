-- What trimming and the first pass over the tokens find of a text. Nothing public is stated by these.
use Rattle.std.specs.Prelude.{◌≤◌, ◌≡◌}
use Rattle.lists.specs.Prelude.{ℕ, List, length, take}
use Rattle.text_utf8.specs.Trim.{trimmed}
use Rattle.text_utf8.specs.declared.Trimmed.TheVariants.{Kept}
use Rattle.tables.specs.Numbers.{text_limit}
use Rattle.salvage_list.specs.LocalsWalk.{ListReady}

-- so many slices stand from the first token to the end of what trimming keeps
pub record SlicesFound (t : List ℕ) (first last count : ℕ) : Type 0 where
  pub short : length t ≤ text_limit
  pub kept : trimmed t ≡ Kept first last
  pub ready : ListReady (take last t) first count
