-- The game type of a slice.
use Rattle.std.specs.Prelude.{◌-◌, ◌^◌, ◌∷◌}
use Rattle.lists.specs.Prelude.{ℕ, Bool, true, false, List, [], drop, pick}
use Rattle.lists.specs.Same.{same}
use Rattle.lexer.specs.Token.{Val, Prop, Tok, start, end, node, prop}
use Rattle.values.specs.Read.{read_value}
use Rattle.values.specs.Decimal.{decimal_of}
use Rattle.values.specs.declared.decimal.Number.{Number}
use Rattle.values.specs.declared.decimal.Number.TheVariants.{Bad, Plus, Minus}
use Rattle.tables.specs.declared.Reason.{Reason}
use Rattle.tables.specs.declared.Reason.TheVariants.{UnexpectedProperty, InvalidGameType}

-- the properties that the tokens begin with (SCOPE 83)
abbrev pub props : List Tok → List Prop
props [] = []
props (start o ∷ ts) = []
props (end o ∷ ts) = []
props (node o ∷ ts) = []
props (prop p e ∷ ts) = p ∷ props ts

-- the properties with this raw identifier (SCOPE 83)
abbrev pub props_named : List ℕ → List Prop → List Prop
props_named w [] = []
props_named w (p ∷ ps) = let r = props_named w ps in pick (same p.name w) (p ∷ r) r

-- the raw identifier GM (SCOPE 48)
abbrev pub GM : List ℕ
GM = 0x47 ∷ 0x4d ∷ []

-- a game type (0 Go, 1 Unknown), or why there is none
pub data Game : Type 0 where
  is : ℕ → Game
  no_game : Reason → Game

-- an optional sign and digits within i32
abbrev pub is_i32 : Number → Bool
is_i32 Bad = false
is_i32 (Plus n) = true
is_i32 (Minus n) = true

-- a read value: `1` is Go, any other number Unknown (SCOPE 43, 85, 86)
abbrev pub game_of : List ℕ → Game
game_of v = pick (is_i32 (decimal_of (2 ^ 31 - 1) v)) (is (pick (same v (0x31 ∷ [])) 0 1)) (no_game InvalidGameType)

-- exactly one value (SCOPE 43, 85)
abbrev pub game_vals : List Val → Game
game_vals [] = no_game InvalidGameType
game_vals (v ∷ []) = game_of (read_value v.raw)
game_vals (v ∷ u ∷ vs) = no_game InvalidGameType

-- none: Go; two or more are refused (SCOPE 42, 84)
abbrev pub game_props : List Prop → Game
game_props [] = is 0
game_props (p ∷ []) = game_vals p.vals
game_props (p ∷ q ∷ ps) = no_game UnexpectedProperty

-- skip two tokens of the slice, take the properties that follow (SCOPE 83, 141)
abbrev pub find_gametype : List Tok → Game
find_gametype ts = game_props (props_named GM (props (drop 2 ts)))
