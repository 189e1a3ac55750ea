-- What all trees of an accepted reading have, against what its tokens weigh, strict and lenient. Assumes nothing.
use Rattle.lists.proofs.Prelude.{◌≡◌, refl, sym, ap, ◌∙◌, subst, ℕ, zero, suc, ◌+◌, ◌*◌, ◌-◌, ◌≤◌, ◌<◌, max, arith, Bool, true, false, List, [], ◌∷◌, ◌++◌, length, length-append, length-reverse}
use Rattle.lists.specs.All.{All}
use Rattle.lexer.specs.Token.{Tok, start, end, node, prop}
use Rattle.tables.specs.Record.{Node, Tree, all_nodes, all_props}
use Rattle.parser.specs.LocalsSlice.{slice_from, rest_from, first_slices}
use Rattle.parser_tree.proofs.Flats.{props-append}
use Rattle.reader_laws.proofs.Bracketing.{starts_in, ends_in, inner, weight-parts, Complete, Ending}
use Rattle.reader_laws.proofs.Grown.{FromSlice, Grew, walk_of, in_order}
use Rattle.reader_laws.proofs.Loads.{values_in, values-in, slice-loads}
use Rattle.reader_laws.proofs.Sizes.{slice-rest}
use Rattle.reader_laws.proofs.Spaced.{Spaced, spaced-off}
use Rattle.reader_laws.proofs.Thinned.{order-props}
use Rattle.reader_laws.proofs.Weights.{weight, weight-append}

spaced-parts : (b : Bool) (xs ys : List Tok) → Spaced b (xs ++ ys) → Spaced b xs × Spaced false ys
spaced-parts b [] ys h = (tt, spaced-off b ys h)
spaced-parts b (start o ∷ xs) ys h = spaced-parts false xs ys h
spaced-parts b (end o ∷ xs) ys h = spaced-parts false xs ys h
spaced-parts b (node o ∷ xs) ys h = spaced-parts false xs ys h
spaced-parts b (prop p e ∷ xs) ys h = let r = spaced-parts true xs ys h.2 in ((h.0, h.1, r.0), r.1)

slice-spaced : (us : List Tok) → Spaced false us → Spaced false (slice_from 0 us) × Spaced false (rest_from 0 us)
slice-spaced us h = spaced-parts false (slice_from 0 us) (rest_from 0 us) (subst (Spaced false) (sym (slice-rest 0 us)) h)

slice-weight : (us : List Tok) → weight us ≡ starts_in (slice_from 0 us) + ends_in (slice_from 0 us) + inner (slice_from 0 us) + weight (rest_from 0 us)
slice-weight us =
    ap weight (sym (slice-rest 0 us)) ∙ weight-append (slice_from 0 us) (rest_from 0 us) ∙ ap (λ (z : ℕ). z + weight (rest_from 0 us)) (weight-parts (slice_from 0 us))

-- ---- one tree

-- n: those of its nodes that are tokens; i: what the slice weighs without brackets
record Loads (len : Bool) (i : ℕ) (ns : List Node) : Type 0 where
  n : ℕ
  nodes : length ns ≡ max 1 n
  values : 2 * values_in (all_props ns) + n ≤ i
  props : 3 * length (all_props ns) ≤ i
  bare : n ≡ 0 → values_in (all_props ns) ≡ 0
  some : len ≡ false → 0 < n

order-length : (ns : List Node) → length (in_order ns) ≡ max 1 (length ns)
order-length [] = refl
order-length (n ∷ ns) = omega (arith, length-reverse (n ∷ ns))

order-bare : (ns : List Node) → length ns ≡ 0 → values_in (all_props (in_order ns)) ≡ 0
order-bare [] h = refl
order-bare (n ∷ ns) h = absurd (omega arith)

tree-loads : (len : Bool) (base : ℕ) (us : List Tok) (t : Tree) → FromSlice len base us t → Spaced false (slice_from 0 us) → Loads len (inner (slice_from 0 us)) t.nodes
tree-loads len base us t f h =
    let ns : List Node = walk_of len base (slice_from 0 us) in
    let l = slice-loads len base (slice_from 0 us) h in
    subst (Loads len (inner (slice_from 0 us))) (sym f.nodes)
    (record {
      n = length ns;
      nodes = order-length ns;
      values = rw (order-props ns) l.0;
      props = rw (order-props ns) l.1;
      bare = order-bare ns;
      some = f.some;
    })

-- ---- all trees

abbrev node_count : List Tree → ℕ
node_count ts = length (all_nodes ts)

abbrev prop_count : List Tree → ℕ
prop_count ts = length (all_props (all_nodes ts))

abbrev val_count : List Tree → ℕ
val_count ts = values_in (all_props (all_nodes ts))

module _ (t : Tree) (ts : List Tree) where
  more-nodes : node_count (t ∷ ts) ≡ length t.nodes + node_count ts
  more-nodes = length-append t.nodes (all_nodes ts)

  more-props : prop_count (t ∷ ts) ≡ length (all_props t.nodes) + prop_count ts
  more-props = ap length (props-append t.nodes (all_nodes ts)) ∙ length-append (all_props t.nodes) (all_props (all_nodes ts))

  more-vals : val_count (t ∷ ts) ≡ values_in (all_props t.nodes) + val_count ts
  more-vals = ap values_in (props-append t.nodes (all_nodes ts)) ∙ values-in (all_props t.nodes) (all_props (all_nodes ts))

-- strict: w is what the tokens weigh
abbrev pub StrictTotal : ℕ → List Tree → Type 0
StrictTotal w ts = (3 * length ts ≤ w) × (node_count ts + 2 * length ts ≤ w) × (3 * prop_count ts + 2 * length ts ≤ w) × (2 * val_count ts + node_count ts + 2 * length ts ≤ w) × (length ts ≤ node_count ts)

pub strict-total : (len : Bool) → len ≡ false → (base k : ℕ) (us : List Tok) (ts : List Tree) → Grew len base k us ts → All Complete (first_slices k us) → Spaced false us → StrictTotal (weight us) ts
unfolding first_slices
strict-total len s base zero us [] g c h = (omega arith, omega arith, omega arith, omega arith, omega arith)
strict-total len s base zero us (t ∷ ts) g c h = absurd g
strict-total len s base (suc k) us [] g c h = absurd g
strict-total len s base (suc k) us (t ∷ ts) g c h =
    let p = slice-spaced us h in
    let w = slice-weight us in
    let l = tree-loads len base us t g.0 p.0 in
    let r = strict-total len s (base + length t.nodes) k (rest_from 0 us) ts g.1 c.1 p.1 in
    let a = l.nodes in
    let b = l.values in
    let d = l.props in
    let e = l.some s in
    let f = c.0.0 in
    let i = c.0.1 in (
      omega (arith, r.0),
      omega (arith, r.1, more-nodes t ts),
      omega (arith, r.2, more-props t ts),
      omega (arith, r.3, more-nodes t ts, more-vals t ts),
      omega (arith, r.4, more-nodes t ts),
    )

-- lenient
abbrev pub LenientTotal : ℕ → List Tree → Type 0
LenientTotal w ts = (2 * length ts ≤ w + 1) × (node_count ts ≤ max 1 (w - 1)) × (1 ≤ w) × (3 * prop_count ts ≤ w - 1) × (2 * val_count ts ≤ w - 2)

-- a slice with a start
open-values : (n v i w : ℕ) → 2 * v + n ≤ i → (n ≡ 0 → v ≡ 0) → suc i ≤ w → 2 * v ≤ w - 2
open-values zero v i w h b l = let z = b refl in omega arith
open-values (suc n) v i w h b l = omega arith

pub lenient-total : (len : Bool) (base k : ℕ) (us : List Tok) (ts : List Tree) → Grew len base k us ts → Ending (first_slices k us) → Spaced false us → LenientTotal (weight us) ts
unfolding first_slices
lenient-total len base zero us ts g c h = absurd c
lenient-total len base (suc k) us [] g c h = absurd g
lenient-total len base (suc zero) us (t ∷ u ∷ ts) g c h = absurd g.1
lenient-total len base (suc zero) us (t ∷ []) g c h =
    let p = slice-spaced us h in
    let w = slice-weight us in
    let l = tree-loads len base us t g.0 p.0 in
    let a = l.nodes in
    let b = l.values in
    let d = l.props in
    let v = open-values l.n (values_in (all_props t.nodes)) (inner (slice_from 0 us)) (weight us) b l.bare (omega arith) in (
      omega arith,
      omega (arith, more-nodes t []),
      omega arith,
      omega (arith, more-props t []),
      omega (arith, more-vals t []),
    )
lenient-total len base (suc (suc k)) us (t ∷ ts) g c h =
    let p = slice-spaced us h in
    let w = slice-weight us in
    let l = tree-loads len base us t g.0 p.0 in
    let r = lenient-total len (base + length t.nodes) (suc k) (rest_from 0 us) ts g.1 c.1 p.1 in
    let a = l.nodes in
    let b = l.values in
    let d = l.props in
    let f = c.0.0 in
    let i = c.0.1 in (
      omega (arith, r.0),
      omega (arith, r.1, r.2, more-nodes t ts),
      omega (arith, r.2),
      omega (arith, r.2, r.3, more-props t ts),
      omega (arith, r.2, r.4, more-vals t ts),
    )
