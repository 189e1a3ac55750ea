-- The answer of a simple value, each of its cases. Assumes nothing.
use Rattle.lists.proofs.Prelude.{ℕ, ◌-◌, ◌≤◌, ◌<◌, true, false, List, take, drop, ◌≡◌, sym, ap, ◌∙◌, lt-ltb, le-ltb}
use Rattle.values.specs.Read.{read_identifier}
use Rattle.parts.specs.Rows.{values_at}
use Rattle.ff4_values.specs.Simple.{simple_value}
use Rattle.ff4_values.specs.declared.Simple.{Simple}
use Rattle.tables.specs.declared.Reason.TheVariants.{NoSuchNumber, NotFitting}
use Rattle.tables.specs.Columns.{game_at, name_from_at, name_to_at, first_val_at, val_count_at}
use Rattle.tables.specs.Memory.{Memory}
use Rattle.fit_spans.proofs.Lists.{part_slice}
use Rattle.fit.specs.Fit.{Fit}
use Rattle.fit.specs.Record.{text_in}
use Rattle.fit.proofs.Clauses.{fit-clauses}
use Rattle.ask.specs.Locals.{tree_from, name_at}
use Rattle.ask_simple.specs.AskSimple.{simple_answer}
use Rattle.ask_simple.proofs.Simples.{simple-of-rows}
use Rattle.std.specs.Prelude.{Ok, Err}

-- the simple value of property p, whose row is read into a, e, f, n
pub simple-is : (game : ℕ) (t pr vl : List ℕ) (p : ℕ) {a e f n : ℕ} → a ≡ name_from_at pr p → e ≡ name_to_at pr p → f ≡ first_val_at pr p → n ≡ val_count_at pr p
    → {g : Simple} → g ≡ simple_value game (read_identifier (take (e - a) (drop a t))) (values_at t vl f n)
    → g ≡ simple_value game (read_identifier (name_at t pr p)) (values_at t vl (first_val_at pr p) (val_count_at pr p))
simple-is game t pr vl p {a} {e} x y z w h = rw (← x, ← y, ← z, ← w, ← part_slice a e t) h

module _ (m : Memory) (p : ℕ) where
  pub simple-unfit : Fit m ≡ false → Err NotFitting ≡ simple_answer m p
  unfolding simple_answer
  simple-unfit h = rw h

  module _ (h : Fit m ≡ true) where
    pub simple-no : m.counts.properties ≤ p → Err NoSuchNumber ≡ simple_answer m p
    unfolding simple_answer
    simple-no l = rw (h, le-ltb p m.counts.properties l)

    pub simple-yes : p < m.counts.properties → {k : ℕ} {g : Simple} → k ≡ game_at m.trees (tree_from m.trees m.nodes p 0 (m.counts.trees - 1))
        → g ≡ simple_value k (read_identifier (name_at (text_in m) m.properties p)) (values_at (text_in m) m.values (first_val_at m.properties p) (val_count_at m.properties p))
        → Ok g ≡ simple_answer m p
    unfolding simple_answer
    simple-yes l x e =
        rw (h, lt-ltb p m.counts.properties l)
        (ap Ok (e
        ∙ ap (λ (z : ℕ). simple_value z (read_identifier (name_at (text_in m) m.properties p)) (values_at (text_in m) m.values (first_val_at m.properties p) (val_count_at m.properties p))) x
        ∙ sym (simple-of-rows (fit-clauses m h) p l)))
