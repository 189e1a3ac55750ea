-- What an accepted edit says: the tables fit, the value is there, the new text is within the limit and the room. Assumes nothing.
use Rattle.lists.proofs.Prelude.{ℕ, ◌+◌, ◌-◌, ◌≤◌, ◌<◌, Bool, true, false, List, ◌++◌, ◌≡◌, refl, sym, ap, ap₂, ◌∙◌, arith, ltb, length, drop, ltb-true, ltb-false}
use Rattle.lists.specs.Same.{same}
use Rattle.lists.proofs.Tests.{never}
use Rattle.text_utf8.specs.Text.{blank, Ink, Utf, whole, part, bad, utfs}
use Rattle.lexer.specs.Closed.{closed}
use Rattle.tables.specs.Flat.{over}
use Rattle.tables.specs.Numbers.{text_limit}
use Rattle.tables.specs.Rows.{Tables}
use Rattle.tables.specs.declared.Reason.{Reason}
use Rattle.parser.specs.Game.{GM}
use Rattle.tables.specs.Columns.{val_from_at, val_to_at}
use Rattle.tables.specs.Each.{tabulate}
use Rattle.tables.specs.Memory.{Memory, memory}
use Rattle.fit.specs.Fit.{Fit}
use Rattle.fit.specs.Record.{prop_row, text_in}
use Rattle.tables.proofs.Cases.{either-bool}
use Rattle.fit.proofs.Clauses.{fit-short}
use Rattle.edit_splice.specs.Locals.{Replaceable}
use Rattle.edit_splice.specs.Splice.{cleared, replaced}
use Rattle.edit_splice.proofs.May.{replaced-is}
use Rattle.edit_answer.specs.Answer.{outcome_of, edited_for}
use Rattle.edit_answer.specs.Edit.{owner_name, Outcome, refuses, gives}
use Rattle.edit_answer.specs.Locals.{outcome}
use Rattle.edit_answer.proofs.Fitting.{fit-within}
use Rattle.edit_answer.proofs.Judged.{new_text, new_rows, answer-misfit, answer-beyond, tests-are, length-new}
use Rattle.edit.specs.Lent.{memory_after, EditIs}
use Rattle.edit.specs.Locals.{properties_moved, values_moved}
use Rattle.std.specs.Prelude.{Ok, Err}
use Rattle.tables.specs.Refusals.{refusal}

not-both : {A : Type 0} (n : ℕ) (r : Reason) (p : ℕ) → Ok n ≡ Err (refusal r p) → A
not-both n r p e = never cc

-- a refusal leaves all memory
pub edit-refused : (m : Memory) (k : ℕ) (new : List ℕ) {r : Reason} {p : ℕ} → Err (refusal r p) ≡ edited_for (outcome_of m k new) → EditIs m m k new (Err (refusal r p))
edit-refused m k new {r} {p} h = record { answer = h; memory = go (outcome_of m k new) h }
  where
    go : (o : Outcome) → Err (refusal r p) ≡ edited_for o → m ≡ memory_after o m
    go (refuses _ _) h = refl
    go (gives t T) h = not-both (length t) r p (sym h)

-- the tests that an acceptance has passed
pub record Passed (n : ℕ) (g : Bool) (u : Utf) (d l m : Bool) (t : List ℕ) (T : Tables) : Type 0 where
  pub is : outcome true g u d l m t T ≡ gives t T
  pub free : g ≡ false
  pub ink : Ink
  pub valid : u ≡ whole ink
  pub shut : d ≡ true
  pub short : l ≡ false
  pub room : m ≡ false
  pub count : n ≡ length t

passed : (n : ℕ) (g : Bool) (u : Utf) (d l m : Bool) (t : List ℕ) (T : Tables) → Ok n ≡ edited_for (outcome true g u d l m t T) → Passed n g u d l m t T
passed n true u d l m t T h = not-both n _ _ h
passed n false (part i s j r x) d l m t T h = not-both n _ _ h
passed n false (bad p) d l m t T h = not-both n _ _ h
passed n false (whole i) false l m t T h = not-both n _ _ h
passed n false (whole i) true true m t T h = not-both n _ _ h
passed n false (whole i) true false true t T h = not-both n _ _ h
passed n false (whole i) true false false t T h = record { is = refl; free = refl; ink = i; valid = refl; shut = refl; short = refl; room = refl; count = cc }

module _ (m : Memory) (k : ℕ) (new : List ℕ) where
  abbrev Text : List ℕ
  Text = new_text m k new

  abbrev Rows : Tables
  Rows = new_rows m k new

  pub record Given (n : ℕ) : Type 0 where
    pub fit : Fit m ≡ true
    pub below : k < m.counts.values
    pub is : outcome_of m k new ≡ gives Text Rows
    pub tests : Passed n (same (owner_name (text_in m) (tabulate (prop_row m.properties) 0 m.counts.properties) k) GM) (utfs (whole blank) 0 new) (closed new) (ltb text_limit (length Text)) (ltb (length m.text) (length Text)) Text Rows

  pub given : (n : ℕ) → Ok n ≡ edited_for (outcome_of m k new) → Given n
  given n h =
      either-bool (Fit m)
      (λ f.
      either-bool (ltb k m.counts.values)
      (λ l.
      let below = ltb-true k m.counts.values l in
      let e = tests-are m k new f below in
      let p = passed n _ _ _ _ _ Text Rows (h ∙ ap edited_for e) in
      record { fit = f; below = below; is = e ∙ p.is; tests = p })
      (λ l. not-both n _ _ (h ∙ sym (answer-beyond m k new f (ltb-false k m.counts.values l)))))
      (λ f. not-both n _ _ (h ∙ sym (answer-misfit m k new f)))

  -- ---- what the steps of the change ask for

  module _ {n : ℕ} (x : Given n) where
    pub given-long : length Text ≤ text_limit
    given-long = ltb-false text_limit (length Text) x.tests.short

    long-is : length Text ≡ val_from_at m.values k + length new + (m.used - val_to_at m.values k)
    long-is = length-new m k new x.fit x.below

    pub given-replaceable : Replaceable m.text m.used (val_from_at m.values k) (val_to_at m.values k) (length new)
    given-replaceable =
        record {
          within = fit-within m x.fit k x.below;
          room = omega (arith, long-is, ltb-false (length m.text) (length Text) x.tests.room);
        }

    pub given-new : length new ≤ text_limit
    given-new = omega (arith, long-is, given-long)

    pub given-end : val_to_at m.values k ≤ text_limit
    given-end = let w = given-replaceable.within in omega (arith, w.inside, fit-short m x.fit)

    -- the text's buffer holds the new text
    text-put : replaced m.text m.used (val_from_at m.values k) (val_to_at m.values k) new ≡ over (cleared Text m.used) m.text
    text-put =
        let z : 0 + length (cleared Text m.used) ≡ length (cleared Text m.used) = omega arith in
        replaced-is m.text m.used (val_from_at m.values k) (val_to_at m.values k) new given-replaceable ∙ ap (λ (i : ℕ). cleared Text m.used ++ drop i m.text) z

    -- the change is the one that is asked for
    pub edit-given : {b' pr' vl' : List ℕ} {a e : ℕ} → a ≡ val_from_at m.values k → e ≡ val_to_at m.values k
        → b' ≡ replaced m.text m.used a e new
        → pr' ≡ over (properties_moved a e (length new) m.counts.properties m.properties) m.properties
        → vl' ≡ over (values_moved a e (length new) m.counts.values m.values) m.values
        → EditIs m (memory b' m.used m.counts m.trees m.nodes pr' vl') k new (Ok n)
    edit-given {b'} {pr'} {vl'} {a} {e} ea ee eb ep ev =
        record {
          answer = ap Ok x.tests.count ∙ ap edited_for (sym x.is);
          memory =
              ap (λ (z : List ℕ). memory z m.used m.counts m.trees m.nodes pr' vl') (eb ∙ ap₂ (λ (y z : ℕ). replaced m.text m.used y z new) ea ee ∙ text-put)
              ∙ ap₂ (λ (y z : List ℕ). memory (over (cleared Text m.used) m.text) m.used m.counts m.trees m.nodes y z)
              (ep ∙ ap₂ (λ (y z : ℕ). over (properties_moved y z (length new) m.counts.properties m.properties) m.properties) ea ee)
              (ev ∙ ap₂ (λ (y z : ℕ). over (values_moved y z (length new) m.counts.values m.values) m.values) ea ee)
              ∙ ap (λ (o : Outcome). memory_after o m) (sym x.is);
        }
