-- The writer's answer: 19, 15, 14, then the writing. Assumes nothing.
use Rattle.lists.proofs.Prelude.{ℕ, ◌+◌, ◌-◌, ◌^◌, ◌≤◌, ◌<◌, Bool, true, false, not, ◌&&◌, List, [], ◌++◌, ◌≡◌, refl, sym, ap, ap₂, ◌∙◌, subst, arith, ltb, eqb, length, get_or, slice, ltb-true, drop, length-take-le, lt-ltb, le-ltb, not-true, not-false}
use Rattle.store_bytes.specs.LocalsWrote.{Wrote}
use Rattle.store_bytes.proofs.Lists.{sets-out}
use Rattle.store_bytes.proofs.Written.{wrote-all}
use Rattle.tables.specs.Record.{Tree, all_nodes, all_props}
use Rattle.tables.specs.declared.Reason.TheVariants.{NoRoom, EmptyIdentifier, NotFitting}
use Rattle.tables.specs.Columns.{first_prop_at, prop_count_at, val_from_at, val_to_at}
use Rattle.tables.specs.Memory.{Memory}
use Rattle.fit.specs.Fit.{Fit}
use Rattle.fit.specs.Record.{text_in, record_in}
use Rattle.fit.proofs.Clauses.{Clauses, fit-clauses, name_in, value_in}
use Rattle.lists.proofs.Tests.{and_both}
use Rattle.lexer.specs.Closed.{closed}
use Rattle.tables.proofs.Each.{each_at}
use Rattle.fit_spans.specs.Spans.{in_brackets_closed, value_right}
use Rattle.fit_spans.proofs.Ranges.{gapless-in}
use Rattle.fit.proofs.Whole.{fit-lent}
use Rattle.serialize.specs.Form.{writing, written, WriteIs}
use Rattle.serialize.specs.Locals.{write_answer, EndHeld, NodesHeld}
use Rattle.serialize.specs.LocalsWalk.{corner_end, node_by, links_text, names_good}
use Rattle.serialize.specs.Branch.{nameless}
use Rattle.serialize.proofs.AllNames.{names-are}
use Rattle.serialize.proofs.Corners.{node-calm}
use Rattle.serialize.proofs.Linked.{linked-is}
use Rattle.tables.specs.LocalsNames.{NameHeld}
use Rattle.std.specs.Prelude.{Ok, Err}

-- the measure leaves its empty part, and so the bytes lent
measure-kept : {w e : List ℕ} {need : ℕ} (out : List ℕ) → Wrote w [] 0 e need → e ++ out ≡ out
measure-kept {w} out m = ap (λ (z : List ℕ). z ++ out) (m.bytes ∙ sets-out [] 0 w (omega arith))

-- a value stands behind its bracket
boxed-after : (t : List ℕ) (a e : ℕ) → in_brackets_closed t a e ≡ true → 0 < a
boxed-after t a e h = ltb-true 0 a (and_both (ltb 0 a) (eqb (get_or t (a - 1) 0) 0x5b && (eqb (get_or t e 0) 0x5d && closed (slice a e t))) h).0

module _ (m : Memory) (out : List ℕ) where
  abbrev trees : List Tree
  trees = record_in m

  abbrev blank : Bool
  blank = nameless (all_props (all_nodes trees))

  abbrev short : Bool
  short = ltb (length out) (length (writing trees))

  pub write-unfit : {f : Bool} → f ≡ Fit m → f ≡ false → WriteIs m out out (Err NotFitting)
  write-unfit e h = record { is = ap (λ (z : Bool). write_answer z blank short (writing trees)) (sym h ∙ e); bytes = refl }

  module _ (fit : Fit m ≡ true) where
    clauses : Clauses (text_in m) m.counts m.trees m.nodes m.properties m.values
    clauses = fit-clauses m fit

    pub fit-used : m.used ≡ length (text_in m)
    fit-used = sym (length-take-le m.used m.text (fit-lent m fit).0)

    pub fit-property : (p : ℕ) → p < m.counts.properties → NameHeld (text_in m) m.properties p
    fit-property p h =
        let l = name_in clauses p h in
        record { row = omega (arith, clauses.held.properties); rises = l.0; inside = l.1 }

    pub fit-nodes : NodesHeld (text_in m) m.nodes m.properties m.counts.nodes
    fit-nodes =
        let g = gapless-in (first_prop_at m.nodes) (prop_count_at m.nodes) m.counts.nodes m.counts.properties clauses.node-ranges in
        record {
          lent = clauses.held.nodes;
          ruled = record { most = clauses.held.below_none; rule = clauses.parents };
          props = λ k h i l. fit-property (first_prop_at m.nodes k + i) (omega (arith, g k h));
        }

    -- each value ends behind a byte, at least its bracket
    pub fit-ends : (v : ℕ) → v < m.counts.values → EndHeld (text_in m) m.values v
    fit-ends v h =
        let i = value_in clauses v h in
        let b = boxed-after (text_in m) (val_from_at m.values v) (val_to_at m.values v) (each_at (value_right (text_in m) m.values) m.counts.values v clauses.values h) in
        record { row = omega (arith, clauses.held.values); some = omega (arith, i, b); rises = i.0; inside = i.1 }

    pub fit-calm : (mends : Bool) {b : Bool} → (b ≡ false → (v : ℕ) → v < m.counts.values → corner_end (text_in m) m.values v ≡ false)
        → b ≡ false → (k : ℕ) → k < m.counts.nodes → node_by mends (text_in m) m.nodes m.properties m.values 0 k ≡ node_by mends (text_in m) m.nodes m.properties m.values 2 k
    fit-calm mends f e k h = node-calm clauses (f e) mends k h

    -- the answer, where the names and the room are known
    decided : {b s : Bool} → blank ≡ b → short ≡ s → write_answer true b s (writing trees) ≡ written m (length out)
    decided {b} {s} eb es =
        ap₂ (λ (x y : Bool). write_answer true x y (writing trees)) (sym eb) (sym es) ∙ ap (λ (z : Bool). write_answer z blank short (writing trees)) (sym fit)

    names : names_good (text_in m) m.properties m.counts.properties ≡ not blank
    names = names-are m fit

    pub write-nameless : names_good (text_in m) m.properties m.counts.properties ≡ false → WriteIs m out out (Err EmptyIdentifier)
    write-nameless h = record { is = decided (not-false blank (sym names ∙ h)) refl; bytes = refl }

    module _ (good : names_good (text_in m) m.properties m.counts.properties ≡ true) (small : length out < 2 ^ 63) where
      abbrev walked : List ℕ
      walked = links_text false (text_in m) m.trees m.nodes m.properties m.values m.counts.nodes

      same : walked ≡ writing trees
      same = linked-is m fit

      named : blank ≡ false
      named = not-true blank (sym names ∙ good)

      module _ {e : List ℕ} {need : ℕ} (x : Wrote walked [] 0 e need) where
        pub write-short : length (e ++ out) < need → WriteIs m out (e ++ out) (Err NoRoom)
        write-short h =
            let k = measure-kept out x in
            record {
              is = decided named (lt-ltb (length out) (length (writing trees)) (omega (arith, x.place, ap length same, ap length k)));
              bytes = k;
            }

        pub write_done : need ≤ length (e ++ out) → {out2 : List ℕ} {n : ℕ} → Wrote walked (e ++ out) 0 out2 n → WriteIs m out out2 (Ok n)
        write_done h {out2} {n} y =
            let k = measure-kept out x in
            let l : length walked ≤ length out = omega (arith, x.place, ap length k) in
            let q : n ≡ length walked = omega (arith, y.place) in
            let w : out2 ≡ walked ++ drop (length walked) out = wrote-all (subst (λ (z : List ℕ). Wrote walked z 0 out2 n) k y) l in
            record {
              is = ap Ok (q ∙ ap length same) ∙ decided named (le-ltb (length out) (length (writing trees)) (omega (arith, ap length same)));
              bytes = w ∙ ap₂ (λ (u : List ℕ) (i : ℕ). u ++ drop i out) same (sym q);
            }
