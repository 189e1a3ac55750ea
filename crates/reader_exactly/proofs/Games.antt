-- Why a game type is refused: 11 and 12 as the scope says; and the reasons of a slice. Assumes nothing.
use Rattle.lists.proofs.Prelude.{ℕ, ◌-◌, ◌^◌, ◌≤◌, ◌≡◌, refl, sym, ap, ◌∙◌, subst, Bool, true, false, false≢true, inl, List, [], ◌∷◌, arith, length, pick}
use Rattle.lists.specs.Same.{same}
use Rattle.lists.proofs.Tests.{never}
use Rattle.values.specs.Read.{read_value}
use Rattle.values.specs.Decimal.{decimal_of}
use Rattle.lexer.specs.Token.{Val, Prop, Tok}
use Rattle.tables.specs.declared.Reason.{Reason}
use Rattle.tables.specs.declared.Reason.TheVariants.{TextTooLong, NotUtf8, MissingPropertyIdentifier, UnexpectedEndOfPropertyIdentifier, UnexpectedEndOfPropertyValue, UnexpectedGameTreeEnd, UnexpectedEndOfData, NoGameTrees, TooDeep, UnexpectedGameTreeStart, UnexpectedProperty, InvalidGameType, NoRoom, EmptyIdentifier, NoSuchNumber, GameTypeFixed, NotClosed, NotFitting}
use Rattle.parser.specs.Game.{Game, is, no_game, is_i32, game_vals, game_props, find_gametype}
use Rattle.reader_exactly.specs.When.{games, Numeric, WrongGame, TwoGames, StartsEmpty, Unexpected, Nodeless}

-- why a slice is refused, by the reason
abbrev pub Refuses : (base : ℕ) → List Tok → Reason → Type 0
Refuses base s TextTooLong = ⊥
Refuses base s NotUtf8 = ⊥
Refuses base s MissingPropertyIdentifier = ⊥
Refuses base s UnexpectedEndOfPropertyIdentifier = ⊥
Refuses base s UnexpectedEndOfPropertyValue = ⊥
Refuses base s UnexpectedGameTreeEnd = ⊥
Refuses base s UnexpectedEndOfData = Nodeless base s
Refuses base s NoGameTrees = ⊥
Refuses base s TooDeep = ⊥
Refuses base s UnexpectedGameTreeStart = StartsEmpty base s
Refuses base s UnexpectedProperty = Unexpected base s
Refuses base s InvalidGameType = WrongGame s
Refuses base s NoRoom = ⊥
Refuses base s EmptyIdentifier = ⊥
Refuses base s NoSuchNumber = ⊥
Refuses base s GameTypeFixed = ⊥
Refuses base s NotClosed = ⊥
Refuses base s NotFitting = ⊥

abbrev valid : Val → Bool
valid v = is_i32 (decimal_of (2 ^ 31 - 1) (read_value v.raw))

not-numeric : (v : Val) → valid v ≡ false → Numeric (v ∷ []) → ⊥
not-numeric v e (w, q, n) = let z : v ≡ w = cc in false≢true (sym e ∙ ap valid z ∙ n)

module _ (base : ℕ) (s : List Tok) where
  abbrev KindWhy : Game → Type 0
  KindWhy (is k) = Unit {0}
  KindWhy (no_game r) = Refuses base s r

  -- one GM property, by its values
  vals-why : (p : Prop) → games s ≡ p ∷ [] → (vs : List Val) → p.vals ≡ vs → KindWhy (game_vals vs)
  vals-why p e [] q = (p, e, λ x. let y : [] ≡ x.0 ∷ [] = sym q ∙ x.1 in never cc)
  vals-why p e (v ∷ []) q = go (valid v) refl
    where
      go : (b : Bool) → valid v ≡ b → KindWhy (pick b (is (pick (same (read_value v.raw) (0x31 ∷ [])) 0 1)) (no_game InvalidGameType))
      go true f = tt
      go false f = (p, e, λ x. not-numeric v f (subst Numeric q x))
  vals-why p e (v ∷ u ∷ vs) q = (p, e, λ x. let y : v ∷ u ∷ vs ≡ x.0 ∷ [] = sym q ∙ x.1 in let z = ap length y in absurd (omega (arith, z)))

  games-why : (ps : List Prop) → games s ≡ ps → KindWhy (game_props ps)
  games-why [] e = tt
  games-why (p ∷ []) e = vals-why p e p.vals refl
  games-why (p ∷ q ∷ ps) e = inl (omega (arith, ap length e))

  pub game-why : (r : Reason) → find_gametype s ≡ no_game r → Refuses base s r
  game-why r e = subst KindWhy e (games-why (games s) refl)

-- ---- and so it is refused

two-games : (ps : List Prop) → 2 ≤ length ps → game_props ps ≡ no_game UnexpectedProperty
two-games [] h = absurd (omega arith)
two-games (p ∷ []) h = absurd (omega arith)
two-games (p ∷ q ∷ ps) h = refl

wrong-vals : (vs : List Val) → (Numeric vs → ⊥) → game_vals vs ≡ no_game InvalidGameType
wrong-vals [] n = refl
wrong-vals (v ∷ []) n = go (valid v) refl
  where
    go : (b : Bool) → valid v ≡ b → pick b (is (pick (same (read_value v.raw) (0x31 ∷ [])) 0 1)) (no_game InvalidGameType) ≡ no_game InvalidGameType
    go true f = absurd (n (v, refl, f))
    go false f = refl
wrong-vals (v ∷ u ∷ vs) n = refl

pub two-unkind : (s : List Tok) → TwoGames s → find_gametype s ≡ no_game UnexpectedProperty
two-unkind s h = two-games (games s) h

pub wrong-unkind : (s : List Tok) → WrongGame s → find_gametype s ≡ no_game InvalidGameType
wrong-unkind s (p, e, n) = ap game_props e ∙ wrong-vals p.vals n
