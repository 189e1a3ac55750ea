-- The game type that rows say is the one that the properties say which they denote. Assumes nothing.
use Rattle.lists.proofs.Prelude.{◌≡◌, refl, ap, ◌∙◌, ℕ, Bool, true, false, List, [], ◌∷◌, map, pick}
use Rattle.lexer.specs.Token.{Val, Prop}
use Rattle.parser.specs.Game.{game_vals, game_props}
use Rattle.fit.specs.Record.{raw_of, raws_of}
use Rattle.fit_rule.specs.Rule.{property_of}
use Rattle.salvage_mend.specs.Mend.{reads_gm, gms_among}
use Rattle.salvage_rows.specs.LocalsGM.{gms_in, game_of_values, game_by, game_in}

gms-are : (ps : List Prop) → gms_in (map property_of ps) ≡ map raws_of (gms_among ps)
gms-are [] = refl
gms-are (p ∷ ps) = go (reads_gm p) (gms-are ps)
  where
    go : (b : Bool) → gms_in (map property_of ps) ≡ map raws_of (gms_among ps)
        → pick b (raws_of p ∷ gms_in (map property_of ps)) (gms_in (map property_of ps)) ≡ map raws_of (pick b (p ∷ gms_among ps) (gms_among ps))
    go true r = ap (λ (z : List (List (List ℕ))). raws_of p ∷ z) r
    go false r = r

one-is : (vs : List Val) → game_of_values (map raw_of vs) ≡ game_vals vs
unfolding game_of_values
one-is [] = refl
one-is (v ∷ []) = refl
one-is (v ∷ u ∷ vs) = refl

by-is : (qs : List Prop) → game_by (map raws_of qs) ≡ game_props qs
by-is [] = refl
by-is (p ∷ []) = one-is p.vals
by-is (p ∷ q ∷ qs) = refl

pub game-props : (ps : List Prop) → game_in (map property_of ps) ≡ game_props (gms_among ps)
unfolding game_in
game-props ps = ap game_by (gms-are ps) ∙ by-is (gms_among ps)
