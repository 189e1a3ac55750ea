-- Tables that fit stay fitting: after an accepted edit they fit the new text. Assumes nothing.
use Rattle.lists.proofs.Prelude.{ℕ, ◌+◌, ◌-◌, ◌≤◌, ◌<◌, true, List, map, ◌⊎◌, inl, inr, ◌≡◌, refl, ap, ◌∙◌, subst, subst⁻¹, arith, length, slice, length-take-le}
use Rattle.lexer.specs.Move.{starts_at, ends_at}
use Rattle.lexer_laws.proofs.Replace.{starts-low}
use Rattle.lists.specs.All.{All}
use Rattle.tables.specs.Flat.{flat_props, flat_vals, over}
use Rattle.tables.specs.Move.{move_props, move_vals}
use Rattle.tables.specs.Rows.{PropRow, ValRow}
use Rattle.tables.specs.Columns.{name_from_at, name_to_at, first_val_at, val_count_at, val_from_at, val_to_at}
use Rattle.tables.specs.Each.{each, sum, tabulate}
use Rattle.tables.specs.Memory.{Memory, memory}
use Rattle.tables.specs.Memory.{Memory, memory}
use Rattle.fit.specs.Fit.{Fit}
use Rattle.fit.specs.Locals.{RowsLent}
use Rattle.fit.specs.Record.{prop_row, val_row, text_in}
use Rattle.fit_spans.specs.Spans.{span, spans, ascending, plain_name, name_right, in_brackets_closed, value_right}
use Rattle.lists.proofs.Tests.{same_or}
use Rattle.fit.proofs.Clauses.{Clauses, fit-clauses, clauses-fit, fit-vals}
use Rattle.tables.proofs.Each.{each_at, each_all}
use Rattle.fit_spans.proofs.Lying.{names-lie}
use Rattle.fit_spans.proofs.Ranges.{gapless-first, gapless-sum, gapless-in}
use Rattle.fit.proofs.Whole.{fit-lent}
use Rattle.edit_splice.specs.Splice.{cleared}
use Rattle.edit_answer.specs.Edit.{Outcome}
use Rattle.edit.specs.Lent.{memory_after, EditIs}
use Rattle.edit.proofs.Apart.{AllApart, all_apart}
use Rattle.edit_laws.proofs.Ascended.{Apart, moved-ascend, first-same, count_same, spans-moved, all-spans, ranges-same, have-same}
use Rattle.edit_laws.proofs.Boxes.{Boxed, boxed-is, value-box, slice-apart, box-apart, box-new}
use Rattle.edit_answer.proofs.Judged.{new_text, length-new}
use Rattle.edit.proofs.Given.{Given, given, given-long, given-replaceable}
use Rattle.edit_laws.specs.Calls.{memory_next}
use Rattle.edit_laws.proofs.Left.{text-left, prop-row-left, val-row-left, length-buffer-left, length-props-left, length-vals-left}
use Rattle.edit_laws.proofs.Pasted.{valid-still}
use Rattle.std.specs.Prelude.{Ok}

module _ (m : Memory) (k : ℕ) (new : List ℕ) {n : ℕ} (x : Given m k new n) where
  abbrev t : List ℕ
  t = text_in m

  abbrev q : ℕ
  q = val_from_at m.values k

  abbrev e : ℕ
  e = val_to_at m.values k

  abbrev f : ℕ → ℕ
  f = starts_at (val_from_at m.values k) (val_to_at m.values k) (length new)

  abbrev g : ℕ → ℕ
  g = ends_at (val_from_at m.values k) (val_to_at m.values k) (length new)

  abbrev u : List ℕ
  u = new_text m k new

  abbrev pr' : List ℕ
  pr' = over (flat_props (map (move_props f g) (tabulate (prop_row m.properties) 0 m.counts.properties))) m.properties

  abbrev vl' : List ℕ
  vl' = over (flat_vals (map (move_vals f g) (tabulate (val_row m.values) 0 m.counts.values))) m.values

  F : Clauses t m.counts m.trees m.nodes m.properties m.values
  F = fit-clauses m x.fit

  held : (m.used ≤ length m.text) × RowsLent m.counts m.trees m.nodes m.properties m.values
  held = fit-lent m x.fit

  long : length t ≡ m.used
  long = length-take-le m.used m.text held.0

  order : q ≤ e
  order = (fit-vals m x.fit k x.below).0

  within : e ≤ length t
  within = omega (arith, (fit-vals m x.fit k x.below).1, long)

  new-long : length u ≡ q + length new + (m.used - e)
  new-long = length-new m k new x.fit x.below

  prop-row : (p : ℕ) → p < m.counts.properties → prop_row pr' p ≡ move_props f g (prop_row m.properties p)
  prop-row = prop-row-left f g m.properties m.counts.properties

  val-row : (j : ℕ) → j < m.counts.values → val_row vl' j ≡ move_vals f g (val_row m.values j)
  val-row = val-row-left f g m.values m.counts.values

  -- ---- every other span lies apart

  up-all : sum (val_count_at m.properties) (0 + m.counts.properties) ≡ m.counts.values
  up-all = let z : 0 + m.counts.properties ≡ m.counts.properties = omega arith in ap (sum (val_count_at m.properties)) z ∙ gapless-sum (first_val_at m.properties) (val_count_at m.properties) m.counts.properties m.counts.values F.prop-ranges

  up_none : sum (val_count_at m.properties) 0 ≡ 0
  unfolding sum
  up_none = refl

  apart : AllApart m.properties m.values (length t) k 0 m.counts.properties
  apart =
      all_apart m.properties m.values (length t) k m.counts.properties 0 0 (λ i _ l. gapless-first (first_val_at m.properties) (val_count_at m.properties) m.counts.properties m.counts.values F.prop-ranges i (omega arith)) F.ascend
      (omega (arith, up_none)) (omega (arith, x.below, up-all))

  pub name-apart : (p : ℕ) → p < m.counts.properties → (name_to_at m.properties p < q) ⊎ (e < name_from_at m.properties p)
  name-apart p l = apart.names p (omega arith) (omega arith)

  pub val-apart : (j : ℕ) → j < m.counts.values → (j ≡ k → ⊥) → (val_to_at m.values j < q) ⊎ (e < val_from_at m.values j)
  val-apart j l d = apart.values j (omega (arith, up_none)) (omega (arith, up-all)) d

  -- ---- the clauses

  names-stay : each m.counts.properties (name_right u pr') ≡ true
  names-stay =
      each_all (name_right u pr') m.counts.properties
      (λ p l.
      let o = (names-lie m.properties m.values (length t) m.counts.properties F.ascend p l).0 in
      ap (λ (r : PropRow). plain_name (slice r.from r.to u)) (prop-row p l)
      ∙ ap plain_name (slice-apart t m.counts m.trees m.nodes m.properties m.values F k x.below new order within (name_from_at m.properties p) (name_to_at m.properties p) o (name-apart p l))
      ∙ each_at (name_right t m.properties) m.counts.properties p F.names l)

  box-stays : (j : ℕ) → j < m.counts.values → Boxed u (f (val_from_at m.values j)) (g (val_to_at m.values j))
  box-stays j l =
      same_or j k (λ z. rw z (box-new t m.counts m.trees m.nodes m.properties m.values F k x.below new order within x.tests.shut))
      (λ z.
      let o = (fit-vals m x.fit j l).0 in
      box-apart t m.counts m.trees m.nodes m.properties m.values F k x.below new order within (val_from_at m.values j) (val_to_at m.values j) o (val-apart j l z) (value-box t m.counts m.trees m.nodes m.properties m.values F k x.below new order within j l))

  values-stay : each m.counts.values (value_right u vl') ≡ true
  values-stay =
      each_all (value_right u vl') m.counts.values
      (λ j l. ap (λ (r : ValRow). in_brackets_closed u r.from r.to) (val-row j l) ∙ boxed-is u (f (val_from_at m.values j)) (g (val_to_at m.values j)) (box-stays j l))

  all-ok : All (Apart (length t) q e (length new) order within) (spans m.properties m.values 0 m.counts.properties)
  all-ok =
      all-spans (Apart (length t) q e (length new) order within) m.properties m.values m.counts.properties 0 (λ i _ l. inl (name-apart i (omega arith)))
      (λ i j _ l a z.
      let h : j < m.counts.values = omega (arith, gapless-in (first_val_at m.properties) (val_count_at m.properties) m.counts.properties m.counts.values F.prop-ranges i (omega arith)) in
      same_or j k (λ w. rw w (inr (refl, refl))) (λ w. inl (val-apart j h w)))

  ascends-still : ascending (length u) 0 (spans pr' vl' 0 m.counts.properties) ≡ true
  ascends-still =
      let l : q + length new + (length t - e) ≡ length u = omega (arith, new-long, long) in
      let z : starts_at q e (length new) 0 ≡ 0 = starts-low q e (length new) 0 (omega arith) in
      ap (ascending (length u) 0) (spans-moved f g m.properties m.values pr' vl' m.counts.properties m.counts.values prop-row val-row (gapless-in (first_val_at m.properties) (val_count_at m.properties) m.counts.properties m.counts.values F.prop-ranges) m.counts.properties 0 (omega arith))
      ∙ subst (λ (w : ℕ). ascending (length u) w (map (λ s. span (f s.from) (g s.to)) (spans m.properties m.values 0 m.counts.properties)) ≡ true) z
      (subst (λ (w : ℕ). ascending w (starts_at q e (length new) 0) (map (λ s. span (f s.from) (g s.to)) (spans m.properties m.values 0 m.counts.properties)) ≡ true) l
      (moved-ascend (length t) q e (length new) order within 0 (spans m.properties m.values 0 m.counts.properties) (inl (omega arith)) F.ascend all-ok))

  held-still : RowsLent m.counts m.trees m.nodes pr' vl'
  held-still =
      let h = held.1 in
      record {
        trees = h.trees;
        nodes = h.nodes;
        below_none = h.below_none;
        properties = rw (length-props-left f g m.properties m.counts.properties h.properties) h.properties;
        values = rw (length-vals-left f g m.values m.counts.values h.values) h.values;
      }

  text-stays : Clauses u m.counts m.trees m.nodes pr' vl'
  text-stays =
      let v = value-box t m.counts m.trees m.nodes m.properties m.values F k x.below new order within k x.below in
      let first = first-same f g m.properties m.values pr' vl' m.counts.properties m.counts.values prop-row val-row in
      let count = count_same f g m.properties m.values pr' vl' m.counts.properties m.counts.values prop-row val-row in
      record {
        held = held-still;
        short = given-long m k new x;
        utf8 = valid-still t new q e order within v.some v.opens v.closes F.utf8 x.tests.ink x.tests.valid;
        roots = F.roots;
        parents = F.parents;
        children = F.children;
        siblings = F.siblings;
        games = F.games;
        depths = F.depths;
        node-ranges = F.node-ranges;
        prop-ranges = ranges-same m.properties pr' m.counts.properties first count m.counts.values ∙ F.prop-ranges;
        have-values = have-same m.properties pr' m.counts.properties first count ∙ F.have-values;
        ascend = ascends-still;
        names = names-stay;
        values = values-stay;
      }

  fit-still : Fit (memory (over (cleared u m.used) m.text) (length u) m.counts m.trees m.nodes pr' vl') ≡ true
  fit-still =
      let r = (given-replaceable m k new x).room in
      let lb = length-buffer-left u m.text m.used held.0 (omega (arith, new-long)) in
      clauses-fit (memory (over (cleared u m.used) m.text) (length u) m.counts m.trees m.nodes pr' vl') (omega (arith, new-long, lb)) (rw (text-left u m.text m.used) text-stays)

-- of any tables that fit, and any answer that meets the contract: accepted, they fit the new text with the new used length
pub edit-stays : (m m' : Memory) (k : ℕ) (new : List ℕ) (n : ℕ) → EditIs m m' k new (Ok n) → Fit (memory_next m' (Ok n)) ≡ true
edit-stays m m' k new n h =
    let x = given m k new n h.answer in
    let l = h.memory ∙ ap (λ (o : Outcome). memory_after o m) x.is in
    subst⁻¹ (λ (z : ℕ). Fit (memory_next m' (Ok z)) ≡ true) x.tests.count
    (subst⁻¹ (λ (z : Memory). Fit (memory_next z (Ok (length (new_text m k new)))) ≡ true) l
    (fit-still m k new x))
