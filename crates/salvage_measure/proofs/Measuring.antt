-- The slices of a text, measured one after the other. Assumes nothing.
use Rattle.lists.proofs.Prelude.{ℕ, suc, ◌+◌, ◌-◌, ◌*◌, ◌≤◌, ◌<◌, ◌≡◌, refl, sym, ap, ap₂, ◌∙◌, subst, max, true, List, [], ◌∷◌, arith, length}
use Rattle.lists.specs.All.{All}
use Rattle.lists.proofs.Tests.{never}
use Rattle.lexer.specs.Token.{Tok, lex_at}
use Rattle.tables.specs.Record.{Node}
use Rattle.tables.specs.Rows.{parents}
use Rattle.tables.specs.declared.Reason.{Reason}
use Rattle.parser.specs.Split.{Slices, no, slices, split_by_gametree}
use Rattle.parser.specs.LocalsSlice.{rest_from, first_slices, Shallow}
use Rattle.parser.specs.LocalsSurvey.{survey_of_slices}
use Rattle.parser.specs.declared.Survey.{Survey}
use Rattle.parser.specs.declared.Survey.TheVariants.{Refused, Empty}
use Rattle.fit_rule.specs.Rule.{first_props}
use Rattle.salvage_form.specs.Measured.{length_limit}
use Rattle.salvage_form.specs.Rooted.{root_rule}
use Rattle.salvage_list.specs.LocalsWalk.{tokens_at, nodes_from, ListReady}
use Rattle.salvage_shape.specs.LocalsShape.{brackets_of, shape_depth}
use Rattle.salvage_shape.specs.LocalsSum.{nodes_length}
use Rattle.salvage_shape.specs.LocalsWalk.{ShapeReady, ShapeIs}
use Rattle.salvage_shape.specs.declared.TreeShape.{TreeShape}
use Rattle.salvage_shape.proofs.Siblings.{brackets-few}
use Rattle.salvage_shape.proofs.Walking.{parents-length}
use Rattle.salvage_size.specs.LocalsSlices.{tree_length, slices_length, slices_depth}
use Rattle.salvage_measure.specs.LocalsMeasure.{measured, unmeasured, slices_measure, SlicesMeasured}

less : (count k : ℕ) → k < count → count - k ≡ suc (count - (k + 1))
less count k h = omega arith

pub measuring-first : {u : List ℕ} {from count : ℕ} → ListReady u from count → SlicesMeasured u from count from 0 0 0 0
measuring-first {u} {from} {count} x =
    let e : count ≡ count - 0 = omega arith in
    let a = ap (λ (z : ℕ). slices_length 0 (first_slices z (lex_at u from).toks)) e in
    let b = ap (λ (z : ℕ). slices_depth 0 (first_slices z (lex_at u from).toks)) e in
    record {
      ready = x;
      inside = x.inside;
      below = omega arith;
      nodes = omega arith;
      shallow = subst (λ (z : ℕ). All (Shallow 0) (first_slices z (lex_at u from).toks)) e x.shallow;
      long = omega (arith, a);
      deep = omega (arith, b);
      bound = omega arith;
    }

module _ {u : List ℕ} {from count at base bytes depth k : ℕ} (x : SlicesMeasured u from count at base bytes depth k) where
  module _ (h : k < count) where
    next : first_slices (count - k) (lex_at u at).toks ≡ tokens_at u at ∷ first_slices (count - (k + 1)) (rest_from 0 (lex_at u at).toks)
    unfolding first_slices
    next = ap (λ (z : ℕ). first_slices z (lex_at u at).toks) (less count k h)

    pub measuring-ready : ShapeReady u at base
    measuring-ready =
        let a = x.nodes in
        let b = x.ready.bound in
        let c = x.inside in
        let d = x.ready.short in
        record { short = x.ready.short; inside = x.inside; nodes = omega (arith, a, b, c, d, h); shallow = (subst (All (Shallow 0)) next x.shallow).0 }

    module _ {r : TreeShape} (y : ShapeIs u at base r) where
      -- the nodes and brackets are few
      pub measuring-few : (r.nodes + at ≤ r.next) × (r.next ≤ length u) × (r.brackets ≤ r.nodes) × (r.bytes + length_limit * at ≤ length_limit * r.next)
      measuring-few =
          let a = brackets-few (parents (nodes_from u at base)) in
          let b = parents-length (nodes_from u at base) in
          let c = y.brackets in
          let d = y.nodes in (y.node-bound, y.behind.inside, omega (arith, a, b, c, d), y.byte-bound)

      pub measuring-more : {m b2 d2 : ℕ} → m ≡ max 1 r.nodes → b2 ≡ bytes + (2 + m + r.brackets * 2 + r.bytes) → d2 ≡ max depth r.depth
          → SlicesMeasured u from count r.next (base + m) b2 d2 (k + 1)
      measuring-more {m} {b2} {d2} em eb ed =
          let N : List Node = nodes_from u at base in
          let more : List (List Tok) = first_slices (count - (k + 1)) (lex_at u r.next).toks in
          let q : first_slices (count - k) (lex_at u at).toks ≡ tokens_at u at ∷ more = next ∙ ap (λ (z : List Tok). tokens_at u at ∷ first_slices (count - (k + 1)) z) y.behind.rest in
          let f = measuring-few in
          let f0 = f.0 in
          let f2 = f.2 in
          let f3 = f.3 in
          let a = x.nodes in
          let yn = y.nodes in
          let yb = y.brackets in
          let yy = y.bytes in
          let em2 : m ≡ max 1 (length N) = em ∙ ap (max 1) yn in
          let sl : slices_length base (first_slices (count - k) (lex_at u at).toks) ≡ tree_length N + slices_length (base + m) more =
          ap (slices_length base) q ∙ ap (λ (z : ℕ). tree_length N + slices_length (base + z) more) (sym em2) in
          let sd : slices_depth base (first_slices (count - k) (lex_at u at).toks) ≡ max (shape_depth base (parents N)) (slices_depth (base + m) more) =
          ap (slices_depth base) q ∙ ap (λ (z : ℕ). max (shape_depth base (parents N)) (slices_depth (base + z) more)) (sym em2) in
          let tl : tree_length N ≡ 2 + max 1 (length N) + 2 * brackets_of (parents N) + nodes_length (root_rule (first_props N)) N = refl in
          let xl = x.long in
          let xd = x.deep in
          let yd = y.depth in
          let xb = x.bound in
          let on = y.behind.on in
          record {
            ready = x.ready;
            inside = y.behind.inside;
            below = omega (arith, h);
            nodes = omega (arith, a, em, f0, on);
            shallow = subst (λ (z : List Tok). All (Shallow 0) (first_slices (count - (k + 1)) z)) y.behind.rest (subst (All (Shallow 0)) next x.shallow).1;
            long = omega (arith, xl, sl, tl, eb, em2, yn, yb, yy);
            deep = omega (arith, xd, sd, ed, yd);
            bound = omega (arith, xb, eb, em, f0, f2, f3);
          }

  pub measuring-end : count ≤ k → measured bytes depth ≡ slices_measure (split_by_gametree true (lex_at u from).toks)
  unfolding first_slices
  measuring-end h =
      let z : count - k ≡ 0 = omega (arith, h) in
      let a : slices_length base (first_slices (count - k) (lex_at u at).toks) ≡ 0 = ap (λ (i : ℕ). slices_length base (first_slices i (lex_at u at).toks)) z in
      let b : slices_depth base (first_slices (count - k) (lex_at u at).toks) ≡ 0 = ap (λ (i : ℕ). slices_depth base (first_slices i (lex_at u at).toks)) z in
      let xl = x.long in
      let xd = x.deep in
      let e : bytes ≡ slices_length 0 (first_slices count (lex_at u from).toks) = omega (arith, xl, a) in
      let f : depth ≡ slices_depth 0 (first_slices count (lex_at u from).toks) = omega (arith, xd, b) in
      ap₂ measured e f ∙ sym (ap slices_measure x.ready.are)

-- ---- from the first pass over the tokens

none-by : (x : Slices) {r : Reason} {p : ℕ} → survey_of_slices x ≡ Refused r p → unmeasured ≡ slices_measure x
none-by (no q) e = refl
none-by (slices []) e = never (cc)
none-by (slices ([] ∷ [])) e = never (cc)
none-by (slices ((t ∷ ts) ∷ [])) e = never (cc)
none-by (slices (s ∷ u ∷ ss)) e = never (cc)

empty-by : (x : Slices) → survey_of_slices x ≡ Empty → measured 3 1 ≡ slices_measure x
empty-by (no q) e = never (cc)
empty-by (slices []) e = never (cc)
empty-by (slices ([] ∷ [])) e = refl
empty-by (slices ((t ∷ ts) ∷ [])) e = never (cc)
empty-by (slices (s ∷ u ∷ ss)) e = never (cc)

module _ (u : List ℕ) (from : ℕ) {y : Survey} (e : y ≡ survey_of_slices (split_by_gametree true (lex_at u from).toks)) where
  pub tokens-refused : {r : Reason} {p : ℕ} → y ≡ Refused r p → unmeasured ≡ slices_measure (split_by_gametree true (lex_at u from).toks)
  tokens-refused q = none-by (split_by_gametree true (lex_at u from).toks) (sym e ∙ q)

  pub tokens-bare : y ≡ Empty → measured 3 1 ≡ slices_measure (split_by_gametree true (lex_at u from).toks)
  tokens-bare q = empty-by (split_by_gametree true (lex_at u from).toks) (sym e ∙ q)
