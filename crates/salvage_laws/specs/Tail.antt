-- A text whose tokens are all in its trees.
use Rattle.std.specs.Prelude.{◌≡◌}
use Rattle.lists.specs.Prelude.{ℕ, List, [], length, drop}
use Rattle.text_utf8.specs.Text.{whole, blank, utfs}
use Rattle.lexer.specs.Token.{Tok}
use Rattle.parser.specs.Split.{Slices, no, slices}
use Rattle.why_blame.specs.Cuts.{sliced_tokens}
use Rattle.serialize_laws.specs.Back.{toks_of, slices_in}

-- the slices have all these tokens
abbrev pub AllSliced : Slices → List Tok → Type 0
AllSliced (no r) ts = ⊥
AllSliced (slices ss) ts = drop (length (sliced_tokens ss)) ts ≡ []

-- nothing stands behind the last tree of a text
abbrev pub NoTail : List ℕ → Type 0
NoTail t = AllSliced (slices_in t) (toks_of (utfs (whole blank) 0 t) t)
