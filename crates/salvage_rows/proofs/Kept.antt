-- What is kept of a game type that the code found, by rows that may not be there. Assumes nothing.
use Rattle.lists.proofs.Prelude.{ℕ, ◌/◌, ◌≤◌, ◌<◌, ◌≡◌, refl, sym, ap, ◌∙◌, Bool, true, false, and-false, List, length, le-ltb, lt-ltb}
use Rattle.tables.specs.declared.Reason.{Reason}
use Rattle.tables.specs.Columns.{root_at, first_prop_at, prop_count_at}
use Rattle.parts_props.specs.Props.{properties_at}
use Rattle.parser.specs.Game.{Game, is, no_game}
use Rattle.parser_game.specs.LocalsGame.{type_of}
use Rattle.fit_rule.specs.Rule.{root_properties_at}
use Rattle.salvage_mend.specs.Mend.{kept_game, gms_bad}
use Rattle.salvage_rows.specs.LocalsGM.{game_in, kept_at}
use Rattle.std.specs.Prelude.{Result, Ok, Err}

-- the type and the badness, of the code's answer
abbrev kept_of : Result ℕ Reason → ℕ
kept_of (Ok k) = k
kept_of (Err r) = 0

abbrev bad_of : Result ℕ Reason → Bool
bad_of (Ok k) = false
bad_of (Err r) = true

kept_of_lem : (g : Game) → kept_of (type_of g) ≡ kept_game g
kept_of_lem (is k) = refl
kept_of_lem (no_game r) = refl

bad-of : (g : Game) → bad_of (type_of g) ≡ gms_bad g
bad-of (is k) = refl
bad-of (no_game r) = refl

module _ (g : Game) {x : Result ℕ Reason} (e : x ≡ type_of g) where
  pub good-told : {k : ℕ} → x ≡ Ok k → false ≡ gms_bad g
  good-told h = ap bad_of (sym h ∙ e) ∙ bad-of g

  pub bad-told : {r : Reason} → x ≡ Err r → true ≡ gms_bad g
  bad-told h = ap bad_of (sym h ∙ e) ∙ bad-of g

  pub type-told : {k : ℕ} → x ≡ Ok k → k ≡ kept_game g
  type-told h = ap kept_of (sym h ∙ e) ∙ kept_of_lem g

  pub none_told : {r : Reason} → x ≡ Err r → 0 ≡ kept_game g
  none_told h = ap kept_of (sym h ∙ e) ∙ kept_of_lem g

module _ (t tr nd pr vl : List ℕ) (r : ℕ) where
  pub kept-no-tree : length tr / 2 ≤ r → 0 ≡ kept_at t tr nd pr vl r
  unfolding root_properties_at game_in
  kept-no-tree l = rw (le-ltb r (length tr / 2) l)

  pub kept-no-node : {k : ℕ} → k ≡ root_at tr r → length nd / 6 ≤ k → 0 ≡ kept_at t tr nd pr vl r
  unfolding root_properties_at game_in
  kept-no-node e l = rw (← e, le-ltb _ (length nd / 6) l, and-false)

  pub kept_there : r < length tr / 2 → {k f n : ℕ} {g : ℕ} → k ≡ root_at tr r → k < length nd / 6 → f ≡ first_prop_at nd k → n ≡ prop_count_at nd k
      → g ≡ kept_game (game_in (properties_at t pr vl f n)) → g ≡ kept_at t tr nd pr vl r
  unfolding root_properties_at
  kept_there l e b x y h = rw (lt-ltb r (length tr / 2) l, ← e, lt-ltb _ (length nd / 6) b, ← x, ← y) h
