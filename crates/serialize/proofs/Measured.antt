-- The length without an output: 19, 15, then how long the writing is. Assumes nothing.
use Rattle.lists.proofs.Prelude.{ℕ, ◌^◌, ◌-◌, Bool, true, false, not, List, [], ◌≡◌, refl, sym, ap, ◌∙◌, arith, ltb, length, lt-ltb, le-ltb, not-true, not-false}
use Rattle.store_bytes.specs.LocalsWrote.{Wrote}
use Rattle.tables.specs.Record.{all_nodes, all_props}
use Rattle.tables.specs.declared.Reason.TheVariants.{NoRoom, EmptyIdentifier, NotFitting}
use Rattle.tables.specs.Memory.{Memory}
use Rattle.fit.specs.Fit.{Fit}
use Rattle.fit.specs.Record.{text_in, record_in}
use Rattle.serialize.specs.Form.{writing, amplest, written_length}
use Rattle.serialize.specs.Locals.{write_answer}
use Rattle.serialize.specs.LocalsWalk.{links_text, names_good}
use Rattle.serialize.specs.Branch.{nameless}
use Rattle.serialize.proofs.AllNames.{names-are}
use Rattle.serialize.proofs.Linked.{linked-is}
use Rattle.std.specs.Prelude.{Ok, Err}

module _ (m : Memory) where
  abbrev w : List ℕ
  w = writing (record_in m)

  abbrev blank : Bool
  blank = nameless (all_props (all_nodes (record_in m)))

  pub length-unfit : {f : Bool} → f ≡ Fit m → f ≡ false → Err NotFitting ≡ written_length m
  length-unfit e h = ap (λ (z : Bool). write_answer z blank (ltb amplest (length w)) w) (sym h ∙ e)

  module _ (fit : Fit m ≡ true) where
    decided : {b s : Bool} → blank ≡ b → ltb amplest (length w) ≡ s → write_answer true b s w ≡ written_length m
    decided {b} {s} eb es =
        ap (λ (z : Bool). write_answer true z s w) (sym eb)
        ∙ ap (λ (z : Bool). write_answer true blank z w) (sym es)
        ∙ ap (λ (z : Bool). write_answer z blank (ltb amplest (length w)) w) (sym fit)

    names : names_good (text_in m) m.properties m.counts.properties ≡ not blank
    names = names-are m fit

    pub length-nameless : names_good (text_in m) m.properties m.counts.properties ≡ false → Err EmptyIdentifier ≡ written_length m
    length-nameless h = decided (not-false blank (sym names ∙ h)) refl

    module _ (good : names_good (text_in m) m.properties m.counts.properties ≡ true) {e : List ℕ} {need : ℕ}
        (x : Wrote (links_text false (text_in m) m.trees m.nodes m.properties m.values m.counts.nodes) [] 0 e need) where
      named : blank ≡ false
      named = not-true blank (sym names ∙ good)

      pub length-beyond : need ≡ 2 ^ 64 - 1 → Err NoRoom ≡ written_length m
      length-beyond h = decided named (lt-ltb amplest (length w) (omega (arith, x.place, h, ap length (linked-is m fit))))

      pub length-done : (need ≡ 2 ^ 64 - 1 → ⊥) → Ok need ≡ written_length m
      length-done h =
          let q : need ≡ length w = omega (arith, x.place, h, ap length (linked-is m fit)) in
          ap Ok q ∙ decided named (le-ltb amplest (length w) (omega (arith, x.place, h, ap length (linked-is m fit))))
