-- The game type of the mended tree is read off the GMs that stay. Assumes nothing.
use Rattle.lists.proofs.Prelude.{◌≡◌, refl, sym, ap, ◌∙◌, Bool, true, false, not, true≢false, List, [], ◌∷◌, map, length, leb, pick}
use Rattle.lists.proofs.Tests.{and_both}
use Rattle.lexer.specs.Token.{Prop}
use Rattle.values.specs.Read.{read_identifier}
use Rattle.parser.specs.Game.{Game, is, no_game, GM, game_props, props_named}
use Rattle.fit.proofs.RootRows.{same-equal}
use Rattle.salvage_mend.specs.Mend.{reads_gm, gms_among, kept_game, gms_bad, prop_stays, respelled, mend_props}

-- a GM that is not removed has a name
gm-stays : (p : Prop) → reads_gm p ≡ true → prop_stays false p ≡ true
gm-stays p h = let e : read_identifier p.name ≡ GM = same-equal (read_identifier p.name) GM h in rw e

gms-kept : (ps : List Prop) → props_named GM (mend_props false ps) ≡ map respelled (gms_among ps)
gms-kept [] = refl
gms-kept (p ∷ ps) = go (prop_stays false p) (reads_gm p) refl refl (gms-kept ps)
  where
    go : (a b : Bool) → prop_stays false p ≡ a → reads_gm p ≡ b → props_named GM (mend_props false ps) ≡ map respelled (gms_among ps)
        → props_named GM (pick a (respelled p ∷ mend_props false ps) (mend_props false ps)) ≡ map respelled (pick b (p ∷ gms_among ps) (gms_among ps))
    go true true ea eb r = rw eb (ap (λ (z : List Prop). respelled p ∷ z) r)
    go true false ea eb r = rw eb r
    go false false ea eb r = r
    go false true ea eb r = absurd (true≢false (sym (gm-stays p eb) ∙ ea))

gms-gone : (ps : List Prop) → props_named GM (mend_props true ps) ≡ []
gms-gone [] = refl
gms-gone (p ∷ ps) = go (prop_stays true p) (reads_gm p) refl refl (gms-gone ps)
  where
    go : (a b : Bool) → prop_stays true p ≡ a → reads_gm p ≡ b → props_named GM (mend_props true ps) ≡ []
        → props_named GM (pick a (respelled p ∷ mend_props true ps) (mend_props true ps)) ≡ []
    go true true ea eb r = absurd (true≢false (sym (and_both (not (leb (length (read_identifier p.name)) 0)) (not (reads_gm p)) ea).1 ∙ ap not eb))
    go true false ea eb r = rw eb r
    go false b ea eb r = r

-- it is read off the values
game-respelled : (qs : List Prop) → game_props (map respelled qs) ≡ game_props qs
game-respelled [] = refl
game-respelled (p ∷ []) = refl
game-respelled (p ∷ q ∷ qs) = refl

-- the GMs that stay give the game type that is kept
pub game-kept : (ps : List Prop) → game_props (props_named GM (mend_props (gms_bad (game_props (gms_among ps))) ps)) ≡ is (kept_game (game_props (gms_among ps)))
game-kept ps = go (game_props (gms_among ps)) refl
  where
    go : (g : Game) → game_props (gms_among ps) ≡ g → game_props (props_named GM (mend_props (gms_bad g) ps)) ≡ is (kept_game g)
    go (is k) e = ap game_props (gms-kept ps) ∙ game-respelled (gms_among ps) ∙ e
    go (no_game r) e = ap game_props (gms-gone ps)
