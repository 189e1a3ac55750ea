-- The answer of a Go value: what fitting tables give its steps, and each of its cases. Assumes nothing.
use Rattle.lists.proofs.Prelude.{ℕ, ◌-◌, ◌≤◌, ◌<◌, true, false, ◌≡◌, sym, ap, ◌∙◌, arith, lt-ltb, le-ltb}
use Rattle.values.specs.Read.{read_identifier}
use Rattle.parts.specs.Rows.{values_at}
use Rattle.go.specs.Value.{go_value}
use Rattle.go.specs.declared.value.GoValue.{GoValue}
use Rattle.tables.specs.declared.Reason.TheVariants.{NoSuchNumber, NotFitting}
use Rattle.tables.specs.Columns.{first_val_at, val_count_at}
use Rattle.tables.specs.Memory.{Memory}
use Rattle.fit.specs.Fit.{Fit}
use Rattle.fit.proofs.Clauses.{Clauses, fit-clauses, name_in}
use Rattle.fit.proofs.RootRows.{root_in}
use Rattle.ask.specs.Ask.{given, refuses, go_answer}
use Rattle.ask.specs.Locals.{Rooted, tree_from, name_at}
use Rattle.ask.proofs.ByNumber.{trees-some}
use Rattle.ask.proofs.Goes.{go-of-rows}
use Rattle.fit.specs.Record.{text_in}
use Rattle.fit_rule.specs.Rule.{rule_at}
use Rattle.tables.specs.LocalsNames.{NameHeld}

module _ (m : Memory) (p : ℕ) where
  pub go-unfit : Fit m ≡ false → refuses NotFitting ≡ go_answer m p
  unfolding go_answer
  go-unfit h = rw h

  module _ (h : Fit m ≡ true) where
    f : Clauses (text_in m) m.counts m.trees m.nodes m.properties m.values
    f = fit-clauses m h

    pub go-no : m.counts.properties ≤ p → refuses NoSuchNumber ≡ go_answer m p
    unfolding go_answer
    go-no l = rw (h, le-ltb p m.counts.properties l)

    module _ (l : p < m.counts.properties) where
      pub go-rooted : Rooted m.counts.trees m.trees m.nodes
      go-rooted =
          record {
            some = trees-some f p l;
            lent = f.held.trees;
            roots = λ r b. omega (arith, (root_in m.trees m.nodes m.counts.trees m.counts.nodes f.roots r b).0, f.held.nodes);
          }

      pub go_named : NameHeld (text_in m) m.properties p
      go_named = record { row = omega (arith, f.held.properties); rises = (name_in f p l).0; inside = (name_in f p l).1 }

      pub go-yes : {r k : ℕ} {g : GoValue} → r ≡ tree_from m.trees m.nodes p 0 (m.counts.trees - 1) → k ≡ rule_at (text_in m) m.trees m.nodes m.properties m.values r → g ≡ go_value k (read_identifier (name_at (text_in m) m.properties p)) (values_at (text_in m) m.values (first_val_at m.properties p) (val_count_at m.properties p))
          → given g ≡ go_answer m p
      unfolding go_answer
      go-yes w y e = rw (h, lt-ltb p m.counts.properties l) (ap given (e ∙ ap (λ (z : ℕ). go_value z (read_identifier (name_at (text_in m) m.properties p)) (values_at (text_in m) m.values (first_val_at m.properties p) (val_count_at m.properties p))) (y ∙ ap (rule_at (text_in m) m.trees m.nodes m.properties m.values) w) ∙ sym (go-of-rows f p l)))
