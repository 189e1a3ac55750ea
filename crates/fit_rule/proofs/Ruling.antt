-- The rule of a tree and the size that its root says, by rows that may not be there. Assumes nothing.
use Rattle.lists.proofs.Prelude.{ℕ, ◌/◌, ◌≤◌, ◌<◌, ◌≡◌, sym, ap, true, false, ◌&&◌, List, leb, length, arith, get_or-eq_default, eq-eqb, ne_eqb, lt-ltb, le-ltb, and-false}
use Rattle.tables.specs.Columns.{root_at, game_at, first_prop_at, prop_count_at}
use Rattle.parts_props.specs.Props.{properties_at}
use Rattle.go_size.specs.Root.{size_in}
use Rattle.go_size.specs.declared.RootSize.{RootSize}
use Rattle.go_size.specs.declared.RootSize.TheVariants.{Absent, Sized, Wrong}
use Rattle.fit_rule.specs.Rule.{tt_passes, rule_by, root_properties_at, size_at}

module _ {s : RootSize} where
  pub passes-absent : s ≡ Absent → true ≡ tt_passes s
  unfolding tt_passes
  passes-absent e = ap tt_passes (sym e)

  pub passes-sized : {x y : ℕ} → s ≡ Sized x y → leb x 19 && leb y 19 ≡ tt_passes s
  unfolding tt_passes
  passes-sized e = ap tt_passes (sym e)

  pub passes-wrong : s ≡ Wrong → false ≡ tt_passes s
  unfolding tt_passes
  passes-wrong e = ap tt_passes (sym e)

module _ (game : ℕ) (s : RootSize) where
  pub rule-other : (game ≡ 0 → ⊥) → 1 ≡ rule_by game s
  unfolding rule_by
  rule-other h = rw (ne_eqb game 0 h)

  module _ (h : game ≡ 0) where
    pub rule-pass : tt_passes s ≡ true → 0 ≡ rule_by game s
    unfolding rule_by
    rule-pass e = rw (eq-eqb game 0 h, e)

    pub rule-point : tt_passes s ≡ false → 2 ≡ rule_by game s
    unfolding rule_by
    rule-point e = rw (eq-eqb game 0 h, e)

pub game-none : (tr : List ℕ) (r : ℕ) → length tr / 2 ≤ r → 0 ≡ game_at tr r
game-none tr r l = sym (get_or-eq_default tr 0 (omega arith))

module _ (t tr nd pr vl : List ℕ) (r : ℕ) where
  pub size-no-tree : length tr / 2 ≤ r → Absent ≡ size_at t tr nd pr vl r
  unfolding root_properties_at size_in
  size-no-tree l = rw (le-ltb r (length tr / 2) l)

  pub size-no-node : {k : ℕ} → k ≡ root_at tr r → length nd / 6 ≤ k → Absent ≡ size_at t tr nd pr vl r
  unfolding root_properties_at size_in
  size-no-node e l = rw (← e, le-ltb _ (length nd / 6) l, and-false)

  pub size-there : r < length tr / 2 → {k f n : ℕ} {s : RootSize} → k ≡ root_at tr r → k < length nd / 6 → f ≡ first_prop_at nd k → n ≡ prop_count_at nd k
      → s ≡ size_in (properties_at t pr vl f n) → s ≡ size_at t tr nd pr vl r
  unfolding root_properties_at
  size-there l e b x y h = rw (lt-ltb r (length tr / 2) l, ← e, lt-ltb _ (length nd / 6) b, ← x, ← y) h
