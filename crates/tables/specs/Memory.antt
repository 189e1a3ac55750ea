-- What a caller lends and keeps for a record.
use Rattle.lists.specs.Prelude.{ℕ, List}
use Rattle.tables.specs.declared.Counts.{Counts}

-- a text's buffer and how much of it is used, the counts, the four tables
pub record Memory : Type 0 where
  pub text : List ℕ
  pub used : ℕ
  pub counts : Counts
  pub trees : List ℕ
  pub nodes : List ℕ
  pub properties : List ℕ
  pub values : List ℕ

-- the seven together
abbrev pub memory : (text : List ℕ) (used : ℕ) (counts : Counts) (trees nodes properties values : List ℕ) → Memory
memory t used c tr nd pr vl = record { text = t; used = used; counts = c; trees = tr; nodes = nd; properties = pr; values = vl }
