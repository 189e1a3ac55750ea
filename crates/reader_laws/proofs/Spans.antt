-- Lent tables that have the rows of an accepted reading: spans ascend, identifiers are plain, each property has a value, values stand in brackets and are closed. Assumes nothing.
use Rattle.lists.proofs.Prelude.{◌≡◌, refl, sym, ap, ap₂, ◌∙◌, subst, ℕ, suc, ◌+◌, ◌≤◌, ◌<◌, arith, true, List, [], ◌∷◌, ◌++◌, head-eq_of_cons-eq, tail-eq_of_cons-eq, length, slice, le-leb, Bool}
use Rattle.lists.specs.All.{All}
use Rattle.lists.proofs.All.{all_map}
use Rattle.lexer.specs.Token.{Val, Prop}
use Rattle.lexer_laws.proofs.Proper.{HasProper}
use Rattle.tables.specs.Record.{Tree, all_nodes, all_props, all_vals}
use Rattle.tables.specs.Rows.{PropRow, ValRow, prop_rows, val_rows}
use Rattle.tables.specs.Columns.{name_from_at, name_to_at, val_count_at, val_from_at, val_to_at}
use Rattle.tables.specs.Each.{each, tabulate}
use Rattle.fit_spans.specs.Ranges.{has_value}
use Rattle.fit.specs.Record.{prop_row, val_row}
use Rattle.fit_spans.specs.Spans.{Span, span, val_span, prop_spans, spans, ascending, plain_name, name_right, in_brackets_closed, value_right}
use Rattle.lists.proofs.Tests.{same_or}
use Rattle.tables.proofs.Each.{each_all}
use Rattle.parser.specs.Read.{accepted, read}
use Rattle.reader_laws.proofs.Properties.{props-ascend, props-proper, props-plain, values-boxed}
use Rattle.reader_laws.proofs.Climbs.{spans_of_values, spans_of_prop, spans_of}

-- ---- the rows and the record

-- the values of a property, and those behind them
value-spans : (vl : List ℕ) (f : ℕ) (vs ws : List Val) → tabulate (val_row vl) f (length (vs ++ ws)) ≡ val_rows (vs ++ ws)
    → (tabulate (val_span vl) f (length vs) ≡ spans_of_values vs) × (tabulate (val_row vl) (f + length vs) (length ws) ≡ val_rows ws)
unfolding tabulate
value-spans vl f [] ws e = let z : f + 0 ≡ f = omega arith in (refl, rw z e)
value-spans vl f (v ∷ vs) ws e =
    let row = head-eq_of_cons-eq e in
    let r = value-spans vl (suc f) vs ws (tail-eq_of_cons-eq e) in
    let z : suc f + length vs ≡ f + suc (length vs) = omega arith in (
      ap₂ (λ (x : Span) (xs : List Span). x ∷ xs) (ap (λ (y : ValRow). span y.from y.to) row) r.0,
      subst (λ (k : ℕ). tabulate (val_row vl) k (length ws) ≡ val_rows ws) z r.1,
    )

prop-spans : (pr vl : List ℕ) (b f : ℕ) (ps : List Prop) → tabulate (prop_row pr) b (length ps) ≡ prop_rows f ps → tabulate (val_row vl) f (length (all_vals ps)) ≡ val_rows (all_vals ps)
    → spans pr vl b (length ps) ≡ spans_of ps
unfolding spans tabulate
prop-spans pr vl b f [] e d = refl
prop-spans pr vl b f (p ∷ ps) e d =
    let row = head-eq_of_cons-eq e in
    let v = value-spans vl f p.vals (all_vals ps) d in
    let own : prop_spans pr vl b ≡ spans_of_prop p =
    ap (λ (y : PropRow). span y.from y.to ∷ tabulate (val_span vl) y.first y.count) row ∙ ap (λ (z : List Span). span p.from p.to ∷ z) v.0 in
    ap₂ (λ (x xs : List Span). x ++ xs) own (prop-spans pr vl (suc b) (f + length p.vals) ps (tail-eq_of_cons-eq e) v.1)

-- a fact of each property's span and count, and of each value's span
prop-each : (F : ℕ → ℕ → ℕ → Type 0) (pr : List ℕ) (b f : ℕ) (ps : List Prop) → tabulate (prop_row pr) b (length ps) ≡ prop_rows f ps
    → All (λ p. F p.from p.to (length p.vals)) ps → (i : ℕ) → b ≤ i → i < b + length ps → F (name_from_at pr i) (name_to_at pr i) (val_count_at pr i)
unfolding tabulate
prop-each F pr b f [] e h i a l = absurd (omega arith)
prop-each F pr b f (p ∷ ps) e h i a l =
    let row = head-eq_of_cons-eq e in
    same_or i b (λ w. rw w (subst (λ (y : PropRow). F y.from y.to y.count) (sym row) h.0))
    (λ w. prop-each F pr (suc b) (f + length p.vals) ps (tail-eq_of_cons-eq e) h.1 i (omega arith) (omega arith))

value-each : (F : ℕ → ℕ → Type 0) (vl : List ℕ) (b : ℕ) (vs : List Val) → tabulate (val_row vl) b (length vs) ≡ val_rows vs
    → All (λ v. F v.from v.to) vs → (i : ℕ) → b ≤ i → i < b + length vs → F (val_from_at vl i) (val_to_at vl i)
unfolding tabulate
value-each F vl b [] e h i a l = absurd (omega arith)
value-each F vl b (v ∷ vs) e h i a l =
    let row = head-eq_of_cons-eq e in
    same_or i b (λ w. rw w (subst (λ (y : ValRow). F y.from y.to) (sym row) h.0))
    (λ w. value-each F vl (suc b) vs (tail-eq_of_cons-eq e) h.1 i (omega arith) (omega arith))

-- ---- of a reading

module _ (len : Bool) (t : List ℕ) (ts : List Tree) (h : read len t ≡ accepted ts) (pr vl : List ℕ) where
  abbrev ps : List Prop
  ps = all_props (all_nodes ts)

  module _ (props : tabulate (prop_row pr) 0 (length ps) ≡ prop_rows 0 ps) where
    pub names-fit : each (length ps) (name_right t pr) ≡ true
    names-fit =
        each_all (name_right t pr) (length ps)
        (λ i l. prop-each (λ a e n. plain_name (slice a e t) ≡ true) pr 0 0 ps props (props-plain len t ts h) i (omega arith) (omega arith))

    pub have-values : each (length ps) (has_value pr) ≡ true
    have-values =
        let v = all_map HasProper (λ p. 1 ≤ length p.vals) (λ p g. g.0) ps (props-proper len t ts h) in
        each_all (has_value pr) (length ps) (λ i l. le-leb 1 (val_count_at pr i) (prop-each (λ a e n. 1 ≤ n) pr 0 0 ps props v i (omega arith) (omega arith)))

    module _ (vals : tabulate (val_row vl) 0 (length (all_vals ps)) ≡ val_rows (all_vals ps)) where
      pub ascent-fits : ascending (length t) 0 (spans pr vl 0 (length ps)) ≡ true
      ascent-fits = rw (prop-spans pr vl 0 0 ps props vals) (props-ascend len t ts h)

  pub values-fit : tabulate (val_row vl) 0 (length (all_vals ps)) ≡ val_rows (all_vals ps) → each (length (all_vals ps)) (value_right t vl) ≡ true
  values-fit vals =
      each_all (value_right t vl) (length (all_vals ps))
      (λ i l. value-each (λ a e. in_brackets_closed t a e ≡ true) vl 0 (all_vals ps) vals (values-boxed len t ts h) i (omega arith) (omega arith))
