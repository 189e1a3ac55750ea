-- What the scans of the token rules find, over the list of a text's bytes.
use Rattle.std.specs.Prelude.{◌+◌, ◌||◌, ◌∷◌, Option, Some, None}
use Rattle.lists.specs.Prelude.{ℕ, suc, Bool, List, [], eqb, leb, length, drop, get_or, pick}
use Rattle.lists.specs.Run.{Next, more, done, run}
use Rattle.lexer_close.specs.Close.{close_at}
use Rattle.lexer_scan.specs.declared.Ident.{Ident}
use Rattle.lexer_scan.specs.declared.Ident.TheVariants.{Opens, Missing, Foreign}
use Rattle.lexer_scan.specs.declared.ValueStep.{ValueStep}
use Rattle.lexer_scan.specs.declared.ValueStep.TheVariants.{Value, NoMore, Unclosed}

-- white space between tokens: space, tab, LF, VT, FF, CR (SCOPE 69, 167)
unfoldable pub space : ℕ → Bool
space b = eqb b 0x20 || eqb b 0x9 || eqb b 0xa || eqb b 0xb || eqb b 0xc || eqb b 0xd

-- of the bytes that stand from place i on: the first that is no white space
unfoldable pub skip_from : ℕ → List ℕ → ℕ
skip_from i [] = i
skip_from i (b ∷ s) = pick (space b) (skip_from (i + 1) s) i

-- the same of a text
abbrev pub skip_at : List ℕ → ℕ → ℕ
skip_at s i = skip_from i (drop i s)

-- an identifier runs to `[`, whatever ASCII it crosses; the text ends first: Missing; a byte that is not ASCII first: Foreign (SCOPE 34, 35, 71, 72, 140)
unfoldable pub ident_from : ℕ → List ℕ → Ident
ident_from i [] = Missing
ident_from i (b ∷ s) = pick (eqb b 0x5b) (Opens i) (pick (leb 0x80 b) Foreign (ident_from (i + 1) s))

-- the same of a text
abbrev pub ident_at : List ℕ → ℕ → Ident
ident_at s i = ident_from i (drop i s)

-- the value whose `[` is at k, once its closing bracket is looked for
abbrev pub on_close : List ℕ → ℕ → Option ℕ → ValueStep
on_close s k (Some j) = Value (k + 1) j (skip_at s (j + 1))
on_close s k None = Unclosed

-- the value that opens at k: from after its `[` to its `]`, then the white space after it. Past the end of the text `get_or` gives 0, which opens nothing
unfoldable pub value_step_at : List ℕ → ℕ → ValueStep
value_step_at s k = pick (eqb (get_or s k 0) 0x5b) (on_close s k (close_at s (k + 1))) NoMore

-- after a value, the next one; no more: they end here
abbrev pub on_value : ℕ → ValueStep → Next ℕ (Option ℕ)
on_value k (Value a e n) = more n
on_value k NoMore = done (Some k)
on_value k Unclosed = done None

-- past the values that stand from k on, and the white space after each (SCOPE 76)
unfoldable pub values_end_at : List ℕ → ℕ → Option ℕ
values_end_at s k = run (λ (i : ℕ). on_value i (value_step_at s i)) None (suc (length s)) k
