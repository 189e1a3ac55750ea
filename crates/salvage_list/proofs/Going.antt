-- The walk of a slice for its entries, one token a turn: the state, and a start. Assumes nothing.
use Rattle.lists.proofs.Prelude.{ℕ, suc, ◌+◌, ◌≤◌, ◌<◌, ◌≡◌, refl, sym, ap, ◌∙◌, subst, subst⁻¹, Bool, true, false, false≢true, List, [], ◌∷◌, ◌++◌, reverse, arith, add-one, length, length-reverse, set, length-set, pick}
use Rattle.lexer.specs.Token.{Tok, start, Lexed, lexed, lex_at, token_place}
use Rattle.tables.specs.Numbers.{text_limit, depth_limit, none}
use Rattle.tables.specs.Record.{Node, all_props}
use Rattle.parser.specs.Walk.{Walk, walk, halted, walks, walked}
use Rattle.parser.specs.LocalsSlice.{slice_from, Shallow}
use Rattle.parser_step.specs.LocalsActs.{stack_of, may_open}
use Rattle.parser_tree.specs.LocalsTurns.{BehindIs}
use Rattle.parser_tree.proofs.Stacks.{stack_push}
use Rattle.parser_tree.proofs.Lines.{Line, line_first, line-open, line-may}
use Rattle.parser_tree.proofs.Behind.{Skipping, skipping-first, skipping-start, skipping-behind}
use Rattle.why_blame.specs.Blame.{blame, is_stopped}
use Rattle.why_blame.proofs.Found.{blame-on, blame-here}
use Rattle.salvage_mend.specs.Mend.{root_game, gms_bad}
use Rattle.salvage_mend.specs.Changes.{cut_short}
use Rattle.salvage_list.specs.Listed.{cut_of, walk_nodes}
use Rattle.salvage_list.specs.LocalsPuts.{EntriesPut, cut_if}
use Rattle.salvage_list.specs.LocalsWalk.{tokens_at, nodes_from, cut_from, StandReady, StoodIs}
use Rattle.salvage_list.proofs.Puts.{puts_none, puts-as}
use Rattle.salvage_list.proofs.Rooted.{with_root, bad_for, with_root_lem}

-- before the first token
abbrev pub unwalked : Walk
unwalked = walk none [] false []

-- are the GMs of the first node of the slice removed
abbrev pub root_bad : List ℕ → (from base : ℕ) → Bool
root_bad u from base = gms_bad (root_game (nodes_from u from base))

-- halted: the walk stays so
pub stays-halted : (base : ℕ) (ns : List Node) (ts : List Tok) → walked true base (halted ns) ts ≡ halted ns
stays-halted base ns [] = refl
stays-halted base ns (t ∷ ts) = stays-halted base ns ts

-- ns are the nodes so far; the walk from the start is the walk from here
pub record Going (u : List ℕ) (from base : ℕ) (a : List ℕ) (at d cur n : ℕ) (g : Bool) : Type 0 where
  pub short : length u ≤ text_limit
  pub low : base ≤ text_limit + text_limit
  pub ns : List Node
  pub pre : List Tok
  pub count : n ≡ base + length ns
  pub array : length a ≡ depth_limit
  pub deep : d ≤ depth_limit
  pub few : n + from ≤ base + at
  pub skip : Skipping true u from 0 at d
  pub blames : cut_from u from base ≡ blame (walks true base) is_stopped (walk cur (stack_of a d) g ns) pre (slice_from d (lex_at u at).toks)
  pub walkeds : walked true base unwalked (tokens_at u from) ≡ walked true base (walk cur (stack_of a d) g ns) (slice_from d (lex_at u at).toks)
  pub shallow : Shallow d (slice_from d (lex_at u at).toks)
  pub line : Line base ns cur (stack_of a d)
  pub some : g ≡ true → 0 < length ns

-- the entries of the properties of these nodes are put
pub record Put (u : List ℕ) (from base p0 e0 : ℕ) (t : List ℕ) (ns : List Node) (at : ℕ) (bad : Bool) (p e : ℕ) (t' : List ℕ) : Type 0 where
  pub props : p ≡ p0 + length (all_props (reverse ns))
  pub puts : EntriesPut t e0 (with_root (root_bad u from base) p0 (reverse ns)) e t'
  pub bads : bad ≡ bad_for (root_bad u from base) ns
  pub prop-bound : p ≤ at
  pub entry-bound : e + p0 ≤ e0 + p
  pub entries : e0 ≤ text_limit + text_limit + p0

-- both
pub record Standing (u : List ℕ) (from base p0 e0 : ℕ) (t : List ℕ) (a : List ℕ) (at d cur n : ℕ) (g bad : Bool) (p e : ℕ) (t' : List ℕ) : Type 0 where
  pub go : Going u from base a at d cur n g
  pub has : Put u from base p0 e0 t go.ns at bad p e t'

pub standing-first : {u : List ℕ} {from base p0 e0 : ℕ} (t a : List ℕ) → StandReady u from base p0 e0 → length a ≡ depth_limit → Standing u from base p0 e0 t a from 0 none base false false p0 e0 t
unfolding stack_of
standing-first {u} {from} {base} {p0} {e0} t a x h =
    record {
      go = record {
        short = x.short;
        low = x.nodes;
        ns = [];
        pre = [];
        count = omega arith;
        array = h;
        deep = omega arith;
        few = omega arith;
        skip = skipping-first true u from 0 x.inside;
        blames = refl;
        walkeds = refl;
        shallow = x.shallow;
        line = line_first base;
        some = λ e. absurd (false≢true e);
      };
      has = record {
        props = omega arith;
        puts = puts_none t e0;
        bads = refl;
        prop-bound = x.props;
        entry-bound = omega arith;
        entries = x.entries;
      };
    }

-- entries that stay as they are, further on
pub put_on : {u : List ℕ} {from base p0 e0 : ℕ} {t : List ℕ} {ns : List Node} {at bt : ℕ} {bad : Bool} {p e : ℕ} {t' : List ℕ} → Put u from base p0 e0 t ns at bad p e t' → at ≤ bt → Put u from base p0 e0 t ns bt bad p e t'
put_on x h = let b = x.prop-bound in record { props = x.props; puts = x.puts; bads = x.bads; prop-bound = omega arith; entry-bound = x.entry-bound; entries = x.entries }

module _ {u : List ℕ} {from base : ℕ} {a : List ℕ} {at d cur n : ℕ} {g : Bool} (x : Going u from base a at d cur n g) where
  abbrev pub here : Walk
  here = walk cur (stack_of a d) g x.ns

  -- ---- one token

  module _ (t : Tok) (ts : List Tok) (q : slice_from d (lex_at u at).toks ≡ t ∷ ts) where
    pub blames-on : {w : Walk} → walks true base here t ≡ w → is_stopped w ≡ false → cut_from u from base ≡ blame (walks true base) is_stopped w (x.pre ++ (t ∷ [])) ts
    blames-on {w} e h = x.blames ∙ ap (blame (walks true base) is_stopped here x.pre) q ∙ blame-on (walks true base) is_stopped here w x.pre ts t e h

    pub walkeds-on : {w : Walk} → walks true base here t ≡ w → walked true base unwalked (tokens_at u from) ≡ walked true base w ts
    walkeds-on e = x.walkeds ∙ ap (walked true base here) q ∙ ap (λ (z : Walk). walked true base z ts) e

    module _ (e : walks true base here t ≡ halted x.ns) where
      pub stops-here : (i : ℕ) → cut_of i (cut_from u from base) ≡ cut_short i (token_place t) ∷ []
      stops-here i = ap (cut_of i) (x.blames ∙ ap (blame (walks true base) is_stopped here x.pre) q ∙ blame-here (walks true base) is_stopped here (halted x.ns) x.pre ts t e refl)

      pub stopped-nodes : nodes_from u from base ≡ reverse x.ns
      stopped-nodes = ap walk_nodes (walkeds-on e ∙ stays-halted base x.ns ts)

  -- ---- where the walk ends

  module _ {p0 e0 : ℕ} {t : List ℕ} {bad : Bool} {p e : ℕ} {t' : List ℕ} (y : Put u from base p0 e0 t x.ns at bad p e t') (en : nodes_from u from base ≡ reverse x.ns) {next place : ℕ} {cut : Bool} where
    pub stands : ((i : ℕ) → cut_of i (cut_from u from base) ≡ cut_if cut i place) → BehindIs true u from 0 next → at ≤ next → place ≤ length u
        → StoodIs u from base p0 e0 t (record { next = next; nodes = n; properties = p; entries = e; cut = cut; place = place }) t'
    stands ec b h i =
        let f = x.few in
        let pb = y.prop-bound in
        record {
          nodes = x.count ∙ ap (λ (m : ℕ). base + m) (sym (ap length en ∙ length-reverse x.ns));
          props = y.props ∙ ap (λ (ms : List Node). p0 + length (all_props ms)) (sym en);
          put = puts-as y.puts (ap (with_root (root_bad u from base) p0) (sym en) ∙ with_root_lem p0 (nodes_from u from base));
          cuts = ec;
          behind = b;
          inside = i;
          node-bound = omega arith;
          prop-bound = omega arith;
          entry-bound = y.entry-bound;
        }

  -- ---- a start

  module _ {i : ℕ} (lo : at ≤ i) (hi : i < length u) where
    module _ (q : lex_at u at ≡ lexed (start i ∷ []) (lex_at u (i + 1))) where
      pub start-slice : slice_from d (lex_at u at).toks ≡ start i ∷ slice_from (suc d) (lex_at u (i + 1)).toks
      unfolding slice_from
      start-slice = ap (λ (z : Lexed). slice_from d z.toks) q

      pub start-deep : d < depth_limit
      unfolding Shallow
      start-deep = (subst (Shallow d) start-slice x.shallow).0

      module _ {b : Bool} (m : b ≡ may_open base n (stack_of a d)) where
        pub start-walk : walks true base here (start i) ≡ pick b (walk cur (cur ∷ stack_of a d) false x.ns) (halted x.ns)
        start-walk =
            line-may true x.line
            ∙ ap (λ (z : ℕ). pick (may_open base z (stack_of a d)) (walk cur (cur ∷ stack_of a d) false x.ns) (halted x.ns)) (sym x.count)
            ∙ ap (λ (z : Bool). pick z (walk cur (cur ∷ stack_of a d) false x.ns) (halted x.ns)) (sym m)

        pub start-stops : b ≡ false → {p0 e0 : ℕ} {t : List ℕ} {bad : Bool} {p e : ℕ} {t' : List ℕ} → Put u from base p0 e0 t x.ns at bad p e t' → {r : ℕ} → BehindIs true u at d r
            → StoodIs u from base p0 e0 t (record { next = r; nodes = n; properties = p; entries = e; cut = true; place = i }) t'
        start-stops f y b =
            let w : walks true base here (start i) ≡ halted x.ns = start-walk ∙ ap (λ (z : Bool). pick z (walk cur (cur ∷ stack_of a d) false x.ns) (halted x.ns)) f in
            stands y (stopped-nodes (start i) (slice_from (suc d) (lex_at u (i + 1)).toks) start-slice w)
            (stops-here (start i) (slice_from (suc d) (lex_at u (i + 1)).toks) start-slice w) (skipping-behind x.skip b) b.on (omega arith)

        going_start : b ≡ true → {a' : List ℕ} → a' ≡ set a d cur → Going u from base a' (i + 1) (d + 1) cur n false
        unfolding Shallow
        going_start f {a'} ea =
            let dl = start-deep in
            let ar = x.array in
            let fe = x.few in
            let s : stack_of a' (d + 1) ≡ cur ∷ stack_of a d = ap (λ (z : List ℕ). stack_of z (d + 1)) ea ∙ stack_push a d cur (omega arith) in
            let w : walks true base here (start i) ≡ walk cur (stack_of a' (d + 1)) false x.ns =
            start-walk ∙ ap (λ (z : Bool). pick z (walk cur (cur ∷ stack_of a d) false x.ns) (halted x.ns)) f ∙ ap (λ (z : List ℕ). walk cur z false x.ns) (sym s) in
            let k : slice_from d (lex_at u at).toks ≡ start i ∷ slice_from (d + 1) (lex_at u (i + 1)).toks = start-slice ∙ ap (λ (z : ℕ). start i ∷ slice_from z (lex_at u (i + 1)).toks) (sym (add-one d)) in
            record {
              short = x.short;
              low = x.low;
              ns = x.ns;
              pre = x.pre ++ (start i ∷ []);
              count = x.count;
              array = ap length ea ∙ length-set a d cur ∙ x.array;
              deep = omega arith;
              few = omega arith;
              skip = skipping-start x.skip lo hi q;
              blames = blames-on (start i) (slice_from (d + 1) (lex_at u (i + 1)).toks) k w refl;
              walkeds = walkeds-on (start i) (slice_from (d + 1) (lex_at u (i + 1)).toks) k w;
              shallow = subst⁻¹ (λ (z : ℕ). Shallow z (slice_from z (lex_at u (i + 1)).toks)) (add-one d) (subst (Shallow d) start-slice x.shallow).1;
              line = subst⁻¹ (Line base x.ns cur) s (line-open x.line);
              some = λ z. absurd (false≢true z);
            }

        pub standing-start : b ≡ true → {a' : List ℕ} → a' ≡ set a d cur → {p0 e0 : ℕ} {t : List ℕ} {bad : Bool} {p e : ℕ} {t' : List ℕ} → Put u from base p0 e0 t x.ns at bad p e t'
            → Standing u from base p0 e0 t a' (i + 1) (d + 1) cur n false bad p e t'
        unfolding going_start
        standing-start f ea y = record { go = going_start f ea; has = put_on y (omega arith) }
