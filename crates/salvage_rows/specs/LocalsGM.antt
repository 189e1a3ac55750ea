-- The game type that a root's GMs give, by the rows: what the mended record keeps of them (salvage_mend/specs/Mend).
use Rattle.std.specs.Prelude.{◌∷◌}
use Rattle.lists.specs.Prelude.{ℕ, Bool, List, [], pick}
use Rattle.lists.specs.Same.{same}
use Rattle.values.specs.Read.{read_value}
use Rattle.parts_props.specs.Props.{Property, properties_at}
use Rattle.tables.specs.declared.Reason.TheVariants.{UnexpectedProperty, InvalidGameType}
use Rattle.parser.specs.Game.{Game, is, no_game, GM, game_of}
use Rattle.fit_rule.specs.Rule.{root_properties_at}
use Rattle.salvage_mend.specs.Mend.{kept_game, gms_bad}

-- the raw values of each property that reads as GM
abbrev pub gms_in : List Property → List (List (List ℕ))
gms_in [] = []
gms_in (p ∷ ps) = let r = gms_in ps in pick (same p.name GM) (p.raws ∷ r) r

-- exactly one value
unfoldable pub game_of_values : List (List ℕ) → Game
game_of_values [] = no_game InvalidGameType
game_of_values (v ∷ []) = game_of (read_value v)
game_of_values (v ∷ w ∷ vs) = no_game InvalidGameType

-- no GM, one, or several
abbrev pub game_by : List (List (List ℕ)) → Game
game_by [] = is 0
game_by (vs ∷ []) = game_of_values vs
game_by (vs ∷ ws ∷ rest) = no_game UnexpectedProperty

-- none: Go; one with one value that is a number: its type; else why there is none
unfoldable pub game_in : List Property → Game
game_in ps = game_by (gms_in ps)

-- the GMs of `count` rows from `first` on give no game type, and are removed where a root has them
abbrev pub bad_in : (text pr vl : List ℕ) (first count : ℕ) → Bool
bad_in text pr vl first count = gms_bad (game_in (properties_at text pr vl first count))

-- the game type that the root of tree r keeps
abbrev pub kept_at : (text tr nd pr vl : List ℕ) → ℕ → ℕ
kept_at text tr nd pr vl r = kept_game (game_in (root_properties_at text tr nd pr vl r))
