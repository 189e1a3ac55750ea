-- Reading back: what is asked of a text and its trees; and trees places aside.
use Rattle.std.specs.Prelude.{◌≡◌, ◌&&◌, ◌∷◌}
use Rattle.lists.specs.Prelude.{ℕ, Bool, true, false, List, [], get_or, leb}
use Rattle.lists.specs.All.{All}
use Rattle.text_utf8.specs.Text.{Utf, whole, part, bad, blank, utfs}
use Rattle.lexer.specs.Token.{Prop, Tok, token_place}
use Rattle.lexer.specs.Move.{move_prop, move_tok}
use Rattle.tables.specs.Record.{Node, Tree}
use Rattle.tables.specs.Move.{move_node, move_tree}
use Rattle.parser.specs.Split.{Slices, no, slices, split_by_gametree}
use Rattle.parser.specs.Read.{tokenize}

-- not empty
abbrev pub some : List ℕ → Bool
some [] = false
some (b ∷ bs) = true

-- uppercase letters only
abbrev pub uppers : List ℕ → Bool
uppers [] = true
uppers (b ∷ bs) = (leb 0x41 b && leb b 0x5a) && uppers bs

-- an identifier of uppercase letters only, and not empty (SCOPE 119)
abbrev pub Named : Prop → Type 0
Named p = (some p.name ≡ true) × (uppers p.name ≡ true)

-- the tokens of a text that is UTF-8
abbrev pub toks_of : Utf → List ℕ → List Tok
toks_of (whole k) t = (tokenize k t).toks
toks_of (part k s n r c) t = []
toks_of (bad p) t = []

-- the slices of a text
abbrev pub slices_in : List ℕ → Slices
slices_in t = split_by_gametree false (toks_of (utfs (whole blank) 0 t) t)

-- the byte at the first of a tree's tokens is `(`
abbrev pub Begins : List ℕ → List Tok → Type 0
Begins t [] = ⊥
Begins t (x ∷ xs) = get_or t (token_place x) 0 ≡ 0x28

-- of each slice
abbrev pub Each : (List Tok → Type 0) → Slices → Type 0
Each P (no r) = Unit {0}
Each P (slices ss) = All P ss

-- each tree of a text begins with `(` (SCOPE 118)
abbrev pub BeginsAll : List ℕ → Type 0
BeginsAll t = Each (Begins t) (slices_in t)

-- places aside: every place is 0
abbrev pub no_place : ℕ → ℕ
no_place n = 0

-- bytes as they are
abbrev pub same_bytes : ℕ → List ℕ → List ℕ
same_bytes n r = r

-- places aside, of a property
abbrev pub placeless_prop : Prop → Prop
placeless_prop = move_prop no_place no_place same_bytes

-- of a token
abbrev pub placeless_tok : Tok → Tok
placeless_tok = move_tok no_place no_place same_bytes

-- of a node
abbrev pub placeless_node : Node → Node
placeless_node = move_node no_place no_place same_bytes

-- of a tree
abbrev pub placeless_tree : Tree → Tree
placeless_tree = move_tree no_place no_place same_bytes
