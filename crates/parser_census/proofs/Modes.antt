-- Modes behind a property, and behind the last token. Assumes nothing.
use Rattle.lists.proofs.Prelude.{ℕ, zero, suc, ◌≡◌, refl, sym, ap, ◌∙◌, Bool, true, false, List, arith, pick}
use Rattle.lists.proofs.Tests.{never}
use Rattle.lexer.specs.Token.{Val}
use Rattle.tables.specs.declared.Reason.{Reason}
use Rattle.parser.specs.Game.{Game, is, no_game, game_vals}
use Rattle.parser_game.specs.LocalsGame.{type_of}
use Rattle.parser_census.specs.LocalsCensus.{on_kind, on_prop}
use Rattle.parser_census.specs.declared.Mode.{Mode}
use Rattle.parser_census.specs.declared.Mode.TheVariants.{Root, Typed, Odd}
use Rattle.std.specs.Prelude.{Result, Ok, Err}

-- ---- the root's game type

module _ {x : Result ℕ Reason} (K : Game) (e : x ≡ type_of K) where
  pub type-refused : {r : Reason} → x ≡ Err r → Odd ≡ on_kind K
  type-refused {r} q = go K (sym e ∙ q)
    where
      go : (K : Game) → type_of K ≡ Err r → Odd ≡ on_kind K
      go (is zero) w = never cc
      go (is (suc k)) w = refl
      go (no_game s) w = refl

  pub type-go : {k : ℕ} → x ≡ Ok k → k ≡ 0 → Typed ≡ on_kind K
  type-go {k} q z = go K (sym e ∙ q)
    where
      go : (K : Game) → type_of K ≡ Ok k → Typed ≡ on_kind K
      go (is zero) w = refl
      go (is (suc j)) w = let y : suc j ≡ k = cc in absurd (omega (arith, y, z))
      go (no_game s) w = never cc

  pub type-other : {k : ℕ} → x ≡ Ok k → (k ≡ 0 → ⊥) → Odd ≡ on_kind K
  type-other {k} q z = go K (sym e ∙ q)
    where
      go : (K : Game) → type_of K ≡ Ok k → Odd ≡ on_kind K
      go (is zero) w = let y : 0 ≡ k = cc in absurd (z (sym y))
      go (is (suc j)) w = refl
      go (no_game s) w = never cc

-- ---- behind a property

module _ {m : Mode} {b g : Bool} (vs : List Val) (eg : g ≡ b) where
  pub root-typed : m ≡ Root → g ≡ true → {r : Mode} → r ≡ on_kind (game_vals vs) → r ≡ on_prop m b vs
  root-typed em et er = er ∙ sym (ap (λ (z : Mode). on_prop z b vs) em ∙ ap (λ (z : Bool). pick z (on_kind (game_vals vs)) Root) (sym eg ∙ et))

  pub root-other : m ≡ Root → g ≡ false → Root ≡ on_prop m b vs
  root-other em ef = sym (ap (λ (z : Mode). on_prop z b vs) em ∙ ap (λ (z : Bool). pick z (on_kind (game_vals vs)) Root) (sym eg ∙ ef))

  pub typed-twice : m ≡ Typed → g ≡ true → Odd ≡ on_prop m b vs
  typed-twice em et = sym (ap (λ (z : Mode). on_prop z b vs) em ∙ ap (λ (z : Bool). pick z Odd Typed) (sym eg ∙ et))

  pub typed-other : m ≡ Typed → g ≡ false → Typed ≡ on_prop m b vs
  typed-other em ef = sym (ap (λ (z : Mode). on_prop z b vs) em ∙ ap (λ (z : Bool). pick z Odd Typed) (sym eg ∙ ef))
