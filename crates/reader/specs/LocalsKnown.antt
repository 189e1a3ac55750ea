-- What the census says of a text.
use Rattle.lists.specs.Prelude.{ℕ, List, ltb, length, take, pick}
use Rattle.text_utf8.specs.Trim.{trimmed}
use Rattle.text_utf8.specs.declared.Trimmed.{Trimmed}
use Rattle.text_utf8.specs.declared.Trimmed.TheVariants.{NotUtf8, Blank, Kept}
use Rattle.lexer.specs.Token.{lex_at}
use Rattle.tables.specs.Numbers.{text_limit}
use Rattle.parser_census.specs.LocalsCensus.{census_of}
use Rattle.std.specs.Prelude.{Option, Some, None}
use Rattle.tables.specs.declared.Counts.{Counts}

-- of the part from f to l
abbrev pub known_by : (f l : ℕ) → Option (ℕ × ℕ × ℕ × ℕ) → Option (ℕ × ℕ × Counts)
known_by f l (Some (t, n, p, v)) = Some (f, l, record { trees = t; nodes = n; properties = p; values = v })
known_by f l None = None

-- of what trimming keeps
abbrev pub known_kept : (t : List ℕ) → Trimmed → Option (ℕ × ℕ × Counts)
known_kept t (NotUtf8 p) = None
known_kept t Blank = None
known_kept t (Kept f l) = known_by f l (census_of (lex_at (take l t) f))

-- of a text within the limit
abbrev pub known_of : List ℕ → Option (ℕ × ℕ × Counts)
known_of t = pick (ltb text_limit (length t)) None (known_kept t (trimmed t))
