-- From what the census says to the definition's answer. Assumes nothing.
use Rattle.lists.proofs.Prelude.{ℕ, ◌≤◌, ◌<◌, ◌≡◌, refl, sym, ap, ◌∙◌, subst, Bool, true, false, List, [], reverse, append-nil, arith, ltb, lt-ltb, le-ltb, ltb-false, length, take, length-take-le, pick}
use Rattle.lists.specs.All.{All}
use Rattle.lists.proofs.Tests.{never}
use Rattle.text_utf8.specs.Trim.{trimmed}
use Rattle.text_utf8.specs.declared.Trimmed.{Trimmed}
use Rattle.text_utf8.specs.declared.Trimmed.TheVariants.{NotUtf8, Blank, Kept}
use Rattle.text_utf8.proofs.Extent.{trim-bounds}
use Rattle.lexer.specs.Token.{Tok, Lexed, lex_at}
use Rattle.tables.specs.Numbers.{text_limit}
use Rattle.tables.specs.Record.{all_nodes, all_props, all_vals}
use Rattle.tables.specs.Rows.{tree_rows, node_rows, parents, prop_rows, val_rows}
use Rattle.tables.specs.declared.Counts.{Counts}
use Rattle.tables.specs.declared.Reason.TheVariants.{TextTooLong}
use Rattle.tables.proofs.Lengths.{prop-rows-length, val-rows-length, node-rows-length}
use Rattle.parser.specs.Game.{is, find_gametype}
use Rattle.parser.specs.LocalsSlice.{first_slices}
use Rattle.parser.specs.Read.{trees_so_far, parse_gametrees, read}
use Rattle.parser_split.specs.LocalsPlans.{plan_found, plan_kept, plan_text}
use Rattle.parser_census.specs.LocalsCensus.{census_of}
use Rattle.parser_census.proofs.Grow.{shown}
use Rattle.parser_census.proofs.Slices.{census-found}
use Rattle.reader.specs.LocalsSlices.{read_of, CountedAs, FillReady}
use Rattle.reader.specs.LocalsKnown.{known_by, known_kept, known_of}
use Rattle.reader.proofs.Rooms.{tree-count}
use Rattle.reader.proofs.Surveyed.{PlanIs}
use Rattle.reader.proofs.Texts.{planned}
use Rattle.std.specs.Prelude.{Option, Some, None, Ok, Err}
use Rattle.tables.specs.Refusals.{refusal}
use Rattle.lists.proofs.Parts.{some-three}

-- ---- the trees, whose rows the census counts

module _ (len : Bool) (l : Lexed) (c : Counts) (h : census_of l ≡ Some (c.trees, c.nodes, c.properties, c.values)) where
  pub census-counted : CountedAs (read_of len c.trees l.toks) c × All (λ (s : List Tok). find_gametype s ≡ is 0) (first_slices c.trees l.toks)
  unfolding census_of read_of
  census-counted =
      let g = (shown c.trees c.nodes c.properties c.values l.end len l.toks).outer 0 0 0 0 h in
      let e : length g.us ≡ c.trees = omega (arith, g.trees) in
      let e1 : length (tree_rows g.us) ≡ c.trees = tree-count g.us ∙ e in
      let e2 : length (node_rows (parents (all_nodes g.us)) 0 0 (all_nodes g.us)) ≡ c.nodes = omega (arith, node-rows-length (parents (all_nodes g.us)) 0 0 (all_nodes g.us), g.nodes) in
      let e3 : length (prop_rows 0 (all_props (all_nodes g.us))) ≡ c.properties = omega (arith, prop-rows-length 0 (all_props (all_nodes g.us)), g.props) in
      let e4 : length (val_rows (all_vals (all_props (all_nodes g.us)))) ≡ c.values = omega (arith, val-rows-length (all_vals (all_props (all_nodes g.us))), g.vals) in (
        record {
          ts = g.us;
          trees-are = ap (λ (z : ℕ). parse_gametrees len (trees_so_far 0 []) (first_slices z l.toks)) (sym e) ∙ g.grown [] ∙ ap (trees_so_far c.nodes) (append-nil (reverse g.us));
          counts = rw (e1, e2, e3, e4);
        },
        subst (λ (z : ℕ). All (λ (s : List Tok). find_gametype s ≡ is 0) (first_slices z l.toks)) e g.games,
      )

-- ---- what is known of a text

-- it is that of a census of what trimming keeps
pub record KnownIs (t : List ℕ) (f l : ℕ) (c : Counts) : Type 0 where
  pub short : length t ≤ text_limit
  pub kept : trimmed t ≡ Kept f l
  pub says : census_of (lex_at (take l t) f) ≡ Some (c.trees, c.nodes, c.properties, c.values)

known-by : (f l g m : ℕ) (x : Option (ℕ × ℕ × ℕ × ℕ)) (c : Counts) → known_by f l x ≡ Some (g, m, c) → (f ≡ g) × (l ≡ m) × (x ≡ Some (c.trees, c.nodes, c.properties, c.values))
known-by f l g m (Some (t, n, p, v)) c e =
    let x = some-three e in
    (x.0, x.1, ap (λ (z : Counts). Some (z.trees, z.nodes, z.properties, z.values)) x.2)
known-by f l g m None c e = never cc

known_kept_lem : (t : List ℕ) (f l : ℕ) (c : Counts) → length t ≤ text_limit → (x : Trimmed) → trimmed t ≡ x → known_kept t x ≡ Some (f, l, c) → KnownIs t f l c
known_kept_lem t f l c h (NotUtf8 p) q e = never cc
known_kept_lem t f l c h Blank q e = never cc
known_kept_lem t f l c h (Kept g m) q e =
    let w = known-by g m f l (census_of (lex_at (take m t) g)) c e in
    record {
      short = h;
      kept = q ∙ ap (λ (z : ℕ). Kept z m) w.0 ∙ ap (Kept f) w.1;
      says = ap (λ (z : ℕ). census_of (lex_at (take l t) z)) (sym w.0) ∙ ap (λ (z : ℕ). census_of (lex_at (take z t) g)) (sym w.1) ∙ w.2;
    }

pub known_is : (t : List ℕ) {x : Option (ℕ × ℕ × Counts)} → x ≡ known_of t → {f l : ℕ} {c : Counts} → x ≡ Some (f, l, c) → KnownIs t f l c
known_is t {x} e {f} {l} {c} q = go (ltb text_limit (length t)) refl (sym e ∙ q)
  where
    go : (b : Bool) → ltb text_limit (length t) ≡ b → pick b None (known_kept t (trimmed t)) ≡ Some (f, l, c) → KnownIs t f l c
    go true r w = never cc
    go false r w = known_kept_lem t f l c (ltb-false text_limit (length t) r) (trimmed t) refl w

-- ---- the plan of such a text, and that its rows are counted

module _ {t : List ℕ} {f l : ℕ} {c : Counts} (k : KnownIs t f l c) where
  pub known-inside : l ≤ length t
  known-inside = (trim-bounds t f l k.kept).1

  module _ (len : Bool) where
    known-plan-is : plan_text len t ≡ Ok (f, l, c.trees)
    known-plan-is =
        ap (λ (b : Bool). pick b (Err (refusal TextTooLong 0)) (plan_kept len t (trimmed t))) (le-ltb text_limit (length t) k.short)
        ∙ ap (plan_kept len t) k.kept
        ∙ ap (plan_found f (length (take l t))) (census-found (lex_at (take l t) f) c.trees c.nodes c.properties c.values k.says len)
        ∙ ap (λ (z : ℕ). Ok (f, z, c.trees)) (length-take-le l t known-inside)

    pub known-plan : PlanIs len t (read len t) (Ok (f, l, c.trees))
    known-plan = planned len t refl known-plan-is

    pub known-ready : FillReady len true (take l t) f c
    known-ready =
        let w = census-counted len (lex_at (take l t) f) c k.says in
        record { ready = known-plan.1; counted = w.0; games = λ e. w.1 }

-- ---- what the code is told

pub known-long : (t : List ℕ) → text_limit < length t → None ≡ known_of t
known-long t h = sym (ap (λ (b : Bool). pick b None (known_kept t (trimmed t))) (lt-ltb text_limit (length t) h))

pub known-short : (t : List ℕ) → length t ≤ text_limit → {x y : Trimmed} → x ≡ trimmed t → x ≡ y → known_kept t y ≡ known_of t
known-short t h e q = ap (known_kept t) (sym q ∙ e) ∙ sym (ap (λ (b : Bool). pick b None (known_kept t (trimmed t))) (le-ltb text_limit (length t) h))
