-- How deep the census is by its mode. Assumes nothing.
use Rattle.lists.proofs.Prelude.{ℕ, zero, suc, ◌<◌, ◌≡◌, refl, Bool, true, false, List, arith}
use Rattle.lexer.specs.Token.{Val}
use Rattle.parser.specs.Game.{Game, is, no_game, game_vals}
use Rattle.parser_census.specs.LocalsCensus.{on_start, on_end, on_last, on_node, on_kind, on_prop}
use Rattle.parser_census.specs.declared.Mode.{Mode}
use Rattle.parser_census.specs.declared.Mode.TheVariants.{Outside, First, Root, Typed, Node, Opened, Bare, Full, Odd}

-- how deep a mode is
abbrev pub Level : Mode → ℕ → Type 0
Level Outside d = d ≡ 0
Level First d = 0 < d
Level Root d = 0 < d
Level Typed d = 0 < d
Level Node d = 0 < d
Level Opened d = 0 < d
Level Bare d = 0 < d
Level Full d = 0 < d
Level Odd d = Unit {0}

pub level-start : (m : Mode) (d : ℕ) → Level (on_start m) (suc d)
level-start Outside d = omega arith
level-start First d = tt
level-start Root d = omega arith
level-start Typed d = omega arith
level-start Node d = omega arith
level-start Opened d = tt
level-start Bare d = omega arith
level-start Full d = omega arith
level-start Odd d = tt

pub level-end : (m : Mode) (d : ℕ) → Level (on_end m) (suc d)
level-end Outside d = tt
level-end First d = tt
level-end Root d = omega arith
level-end Typed d = omega arith
level-end Node d = omega arith
level-end Opened d = omega arith
level-end Bare d = omega arith
level-end Full d = omega arith
level-end Odd d = tt

pub level-last : (m : Mode) → Level (on_last m) 0
level-last Outside = tt
level-last First = tt
level-last Root = refl
level-last Typed = refl
level-last Node = refl
level-last Opened = refl
level-last Bare = refl
level-last Full = refl
level-last Odd = tt

pub level-node : (m : Mode) (d : ℕ) → Level m d → Level (on_node m) d
level-node Outside d h = tt
level-node First d h = h
level-node Root d h = h
level-node Typed d h = h
level-node Node d h = h
level-node Opened d h = h
level-node Bare d h = h
level-node Full d h = h
level-node Odd d h = tt

level-game : (k : Game) (d : ℕ) → 0 < d → Level (on_kind k) d
level-game (is zero) d h = h
level-game (is (suc k)) d h = tt
level-game (no_game r) d h = tt

module _ (q : List Val) where
  pub level-prop : (m : Mode) (b : Bool) (d : ℕ) → Level m d → Level (on_prop m b q) d
  level-prop Outside b d h = tt
  level-prop First b d h = tt
  level-prop Root true d h = level-game (game_vals q) d h
  level-prop Root false d h = h
  level-prop Typed true d h = tt
  level-prop Typed false d h = h
  level-prop Node b d h = h
  level-prop Opened b d h = tt
  level-prop Bare b d h = tt
  level-prop Full b d h = tt
  level-prop Odd b d h = tt

-- at depth 0 a mode is outside or odd
pub level-zero : (P : Mode → Type 0) → P Outside → P Odd → (m : Mode) → Level m 0 → P m
level-zero P a b Outside h = a
level-zero P a b First h = absurd (omega (arith, h))
level-zero P a b Root h = absurd (omega (arith, h))
level-zero P a b Typed h = absurd (omega (arith, h))
level-zero P a b Node h = absurd (omega (arith, h))
level-zero P a b Opened h = absurd (omega (arith, h))
level-zero P a b Bare h = absurd (omega (arith, h))
level-zero P a b Full h = absurd (omega (arith, h))
level-zero P a b Odd h = b
