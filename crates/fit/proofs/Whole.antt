-- What is lent for tables that fit; where it is lent, links and parts fit by their clauses alone. Assumes nothing.
use Rattle.lists.proofs.Prelude.{ℕ, ◌/◌, ◌≤◌, Bool, true, ◌&&◌, List, ◌≡◌, refl, leb, length, leb-true, le-leb}
use Rattle.tables.specs.Numbers.{none, text_limit}
use Rattle.tables.specs.declared.Counts.{Counts}
use Rattle.tables.specs.Memory.{Memory}
use Rattle.tables.proofs.Cases.{and_left, and_right}
use Rattle.tables.specs.Columns.{node_stride}
use Rattle.fit_nodes.specs.Nodes.{nodes_fit, links_fit}
use Rattle.fit_spans.specs.LocalsParts.{parts_fit}
use Rattle.fit_spans.specs.Ranges.{ranges_fit}
use Rattle.fit_spans.specs.Spans.{spans_fit}
use Rattle.fit.specs.Fit.{lent_for, sound, fit_text, Fit}
use Rattle.fit.specs.Locals.{RowsLent}
use Rattle.text_utf8.specs.Text.{Ink, blank, inked, whole}
use Rattle.text_utf8.specs.Trim.{trim_of}
use Rattle.fit.specs.Record.{text_in}

module _ (c : Counts) (tr nd pr vl : List ℕ) (held : RowsLent c tr nd pr vl) where
  pub links-held : links_fit c tr nd ≡ nodes_fit c tr nd
  unfolding links_fit
  links-held = rw (le-leb _ _ held.trees, le-leb _ _ held.nodes, le-leb _ _ held.below_none)

  pub parts_held : (t : List ℕ) → length t ≤ text_limit → parts_fit t c nd pr vl ≡ (ranges_fit c nd pr && spans_fit t c pr vl)
  unfolding parts_fit
  parts_held t short = rw (le-leb _ _ short, le-leb _ _ held.nodes, le-leb _ _ held.properties, le-leb _ _ held.values)

-- ---- of what is lent

module _ (m : Memory) where
  six : (p q r s u v : Bool) → (p && q && r && s && u && v) ≡ true → (p ≡ true) × (q ≡ true) × (r ≡ true) × (s ≡ true) × (u ≡ true) × (v ≡ true)
  six p q r s u v h =
      let h5 = and_left (p && q && r && s && u) v h in
      let h4 = and_left (p && q && r && s) u h5 in
      let h3 = and_left (p && q && r) s h4 in
      let h2 = and_left (p && q) r h3 in
      (and_left p q h2, and_right p q h2, and_right (p && q) r h3, and_right (p && q && r) s h4, and_right (p && q && r && s) u h5, and_right (p && q && r && s && u) v h)

  pub lent_is : lent_for m ≡ true → (m.used ≤ length m.text) × RowsLent m.counts m.trees m.nodes m.properties m.values
  lent_is h =
      let s = six (leb m.used (length m.text)) (leb m.counts.trees (length m.trees / 2)) (leb m.counts.nodes (length m.nodes / node_stride)) (leb m.counts.nodes none) (leb m.counts.properties (length m.properties / 4)) (leb m.counts.values (length m.values / 2)) h in (
        leb-true m.used (length m.text) s.0,
        record {
          trees = leb-true m.counts.trees (length m.trees / 2) s.1;
          nodes = leb-true m.counts.nodes (length m.nodes / node_stride) s.2;
          below_none = leb-true m.counts.nodes none s.3;
          properties = leb-true m.counts.properties (length m.properties / 4) s.4;
          values = leb-true m.counts.values (length m.values / 2) s.5;
        },
      )

  pub fit-lent : Fit m ≡ true → (m.used ≤ length m.text) × RowsLent m.counts m.trees m.nodes m.properties m.values
  unfolding Fit
  fit-lent fit = lent_is (and_left (lent_for m) (fit_text (text_in m) m.counts m.trees m.nodes m.properties m.values) fit)

-- ---- of the text

pub whole-sound : (k : Ink) → sound (trim_of (whole k)) ≡ true
whole-sound blank = refl
whole-sound (inked f l) = refl
