-- A slice by its game type, as the mode takes it. Assumes nothing.
use Rattle.lists.proofs.Prelude.{ℕ, ◌≡◌, refl, sym, ap, ◌∙◌, Bool, true, false, List, [], ◌∷◌}
use Rattle.lists.proofs.Tests.{never}
use Rattle.lexer.specs.Token.{Tok}
use Rattle.tables.specs.Numbers.{none}
use Rattle.tables.specs.Record.{Tree}
use Rattle.tables.specs.declared.Reason.{Reason}
use Rattle.parser.specs.Walk.{walk, walked}
use Rattle.parser.specs.Game.{Game, is, no_game}
use Rattle.parser.specs.Read.{no_trees, tree_of_walk, tree_of_game, parse_gametrees}
use Rattle.reader.specs.LocalsSlices.{leniently}
use Rattle.parser_game.specs.LocalsGame.{type_of}
use Rattle.std.specs.Prelude.{Result, Ok, Err}

-- ---- what lenient reading makes of a refusal

module _ (x : Game) {g : Result ℕ Reason} (e : g ≡ type_of x) where
  pub type-is : (len : Bool) (k : ℕ) → g ≡ Ok k → Ok k ≡ type_of (leniently len x)
  type-is len k q = go len x (sym q ∙ e)
    where
      go : (l : Bool) (y : Game) → Ok k ≡ type_of y → Ok k ≡ type_of (leniently l y)
      go true (is j) w = w
      go true (no_game r) w = never (cc)
      go false y w = w

  pub type-go : (len : Bool) (r : Reason) → g ≡ Err r → len ≡ true → Ok 0 ≡ type_of (leniently len x)
  type-go len r q t = go x (sym q ∙ e) ∙ ap (λ (l : Bool). type_of (leniently l x)) (sym t)
    where
      go : (y : Game) → Err r ≡ type_of y → Ok 0 ≡ type_of (leniently true y)
      go (is j) w = never (cc)
      go (no_game s) w = refl

  pub type-refused : (len : Bool) (r : Reason) → g ≡ Err r → len ≡ false → Err r ≡ type_of (leniently len x)
  type-refused len r q t = sym q ∙ e ∙ ap (λ (l : Bool). type_of (leniently l x)) (sym t)

-- ---- a slice

-- a tree that is refused stays refused
pub fails : (len : Bool) (r : Reason) (ss : List (List Tok)) → parse_gametrees len (no_trees r) ss ≡ no_trees r
fails len r [] = refl
fails len r (s ∷ ss) = fails len r ss

module _ (len : Bool) (base : ℕ) (s : List Tok) (ts : List Tree) where
  pub kinded-is : (x : Game) (k : ℕ) → Ok k ≡ type_of (leniently len x) → tree_of_game len base x s ts ≡ tree_of_walk len base k (walked len base (walk none [] false []) s) ts
  kinded-is x k e = go len x e
    where
      go : (l : Bool) (x : Game) → Ok k ≡ type_of (leniently l x) → tree_of_game l base x s ts ≡ tree_of_walk l base k (walked l base (walk none [] false []) s) ts
      go true (is j) e = let z : j ≡ k = cc in ap (λ (y : ℕ). tree_of_walk true base y (walked true base (walk none [] false []) s) ts) z
      go true (no_game r) e = let z : 0 ≡ k = cc in ap (λ (y : ℕ). tree_of_walk true base y (walked true base (walk none [] false []) s) ts) z
      go false (is j) e = let z : j ≡ k = cc in ap (λ (y : ℕ). tree_of_walk false base y (walked false base (walk none [] false []) s) ts) z
      go false (no_game r) e = never (cc)

  pub kinded-refused : (x : Game) (r : Reason) → Err r ≡ type_of (leniently len x) → tree_of_game len base x s ts ≡ no_trees r
  kinded-refused x r e = go len x e
    where
      go : (l : Bool) (x : Game) → Err r ≡ type_of (leniently l x) → tree_of_game l base x s ts ≡ no_trees r
      go true (is j) e = never (cc)
      go true (no_game q) e = never (cc)
      go false (is j) e = never (cc)
      go false (no_game q) e = let z : q ≡ r = cc in ap no_trees z
