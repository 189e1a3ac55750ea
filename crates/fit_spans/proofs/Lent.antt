-- What is lent where the test of it is passed; the value ranges of ranges that fit. Assumes nothing.
use Rattle.lists.proofs.Prelude.{ℕ, ◌/◌, ◌≤◌, Bool, true, ◌&&◌, List, ◌≡◌, leb, length, leb-true}
use Rattle.tables.specs.Columns.{node_stride, first_prop_at, prop_count_at, first_val_at, val_count_at}
use Rattle.tables.specs.Each.{each}
use Rattle.tables.specs.Numbers.{text_limit}
use Rattle.tables.specs.declared.Counts.{Counts}
use Rattle.tables.proofs.Cases.{and_left, and_right}
use Rattle.fit_spans.specs.LocalsParts.{lent_parts}
use Rattle.fit_spans.specs.Ranges.{gapless, has_value, ranges_fit}

-- the text is within the limit, and so many nodes, properties and values are lent
pub lent_is : (t : List ℕ) (c : Counts) (nd pr vl : List ℕ) → lent_parts t c nd pr vl ≡ true
    → (length t ≤ text_limit) × (c.nodes ≤ length nd / node_stride) × (c.properties ≤ length pr / 4) × (c.values ≤ length vl / 2)
lent_is t c nd pr vl h =
    let p : Bool = leb (length t) text_limit in
    let q : Bool = leb c.nodes (length nd / node_stride) in
    let r : Bool = leb c.properties (length pr / 4) in
    let s : Bool = leb c.values (length vl / 2) in
    let h3 = and_left (p && q && r) s h in
    let h2 = and_left (p && q) r h3 in
    (leb-true _ _ (and_left p q h2), leb-true _ _ (and_right p q h2), leb-true _ _ (and_right (p && q) r h3), leb-true _ _ (and_right (p && q && r) s h))

pub ranges-values : (c : Counts) (nd pr : List ℕ) → ranges_fit c nd pr ≡ true → gapless (first_val_at pr) (val_count_at pr) c.properties c.values ≡ true
unfolding ranges_fit
ranges-values c nd pr h =
    let a : Bool = gapless (first_prop_at nd) (prop_count_at nd) c.nodes c.properties in
    let b : Bool = gapless (first_val_at pr) (val_count_at pr) c.properties c.values in
    and_right a b (and_left (a && b) (each c.properties (has_value pr)) h)
