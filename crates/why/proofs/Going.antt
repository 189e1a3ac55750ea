-- The walk of a slice for the token to blame, one token a turn. Assumes nothing.
use Rattle.lists.proofs.Prelude.{ℕ, zero, suc, ◌+◌, ◌-◌, ◌≤◌, ◌<◌, ◌≡◌, refl, sym, ap, ◌∙◌, subst, subst⁻¹, Bool, true, false, false≢true, List, [], ◌∷◌, ◌++◌, arith, add-one, length, get_or, set, length-set, pick}
use Rattle.lexer.specs.Token.{Tok, start, end, Lexed, lexed, lex_at}
use Rattle.tables.specs.Numbers.{text_limit, depth_limit, none}
use Rattle.tables.specs.Record.{Node}
use Rattle.tables.specs.declared.Reason.{Reason}
use Rattle.tables.specs.declared.Reason.TheVariants.{UnexpectedGameTreeStart}
use Rattle.parser.specs.Walk.{Walk, walk, stopped, walks, walked, closes}
use Rattle.parser.specs.LocalsSlice.{slice_from, Shallow}
use Rattle.parser_step.specs.LocalsActs.{stack_of, may_open, may_start}
use Rattle.parser_tree.specs.LocalsTurns.{BehindIs}
use Rattle.parser_step.proofs.Stacks.{stack-none, stack-pop, may-within}
use Rattle.parser_tree.proofs.Stacks.{stack_push}
use Rattle.parser_tree.proofs.Lines.{Line, line_first, line-open, line-shut, line-may}
use Rattle.parser_tree.proofs.Behind.{Skipping, skipping-first, skipping-start, skipping-end, skipping-last, slice-last, slice-end, shallow-end}
use Rattle.why_blame.specs.Blame.{nowhere, found, blame, is_stopped}
use Rattle.why_blame.specs.declared.Fact.TheVariants.{EmptyList, EndBeyond}
use Rattle.why_blame.proofs.Found.{blame-on, blame-here}
use Rattle.why.specs.Trees.{top_node, stop_blame, tree_blame, nodes_of}
use Rattle.why.specs.LocalsTrees.{slice_at, SliceReady, SoundSlice}
use Rattle.std.specs.Prelude.{Some}
use Rattle.tables.specs.Refusals.{refusal}

-- before the first token
abbrev pub unwalked : Walk
unwalked = walk none [] false []

-- ns are the nodes so far; the walk from the start is the walk from here
pub record Going (u : List ℕ) (from base : ℕ) (a : List ℕ) (at d cur n : ℕ) (g : Bool) : Type 0 where
  pub short : length u ≤ text_limit
  pub ns : List Node
  pub pre : List Tok
  pub count : n ≡ base + length ns
  pub array : length a ≡ depth_limit
  pub deep : d ≤ depth_limit
  pub few : n ≤ at
  pub skip : Skipping true u from 0 at d
  pub blames : blame (walks false base) is_stopped unwalked [] (slice_at u from) ≡ blame (walks false base) is_stopped (walk cur (stack_of a d) g ns) pre (slice_from d (lex_at u at).toks)
  pub walkeds : walked false base unwalked (slice_at u from) ≡ walked false base (walk cur (stack_of a d) g ns) (slice_from d (lex_at u at).toks)
  pub shallow : Shallow d (slice_from d (lex_at u at).toks)
  pub line : Line base ns cur (stack_of a d)
  pub some : g ≡ true → 0 < length ns

pub going-first : {u : List ℕ} {from base : ℕ} (a : List ℕ) → SliceReady u from base → length a ≡ depth_limit → Going u from base a from 0 none base false
unfolding stack_of
going-first {u} {from} {base} a x h =
    record {
      short = x.short;
      ns = [];
      pre = [];
      count = omega arith;
      array = h;
      deep = omega arith;
      few = x.nodes;
      skip = skipping-first true u from 0 x.inside;
      blames = refl;
      walkeds = refl;
      shallow = x.shallow;
      line = line_first base;
      some = λ e. absurd (false≢true e);
    }

module _ {u : List ℕ} {from base : ℕ} {a : List ℕ} {at d cur n : ℕ} {g : Bool} (x : Going u from base a at d cur n g) where
  abbrev pub here : Walk
  here = walk cur (stack_of a d) g x.ns

  -- ---- one token

  module _ (t : Tok) (ts : List Tok) (q : slice_from d (lex_at u at).toks ≡ t ∷ ts) where
    pub blames-on : {w : Walk} → walks false base here t ≡ w → is_stopped w ≡ false → blame (walks false base) is_stopped unwalked [] (slice_at u from) ≡ blame (walks false base) is_stopped w (x.pre ++ (t ∷ [])) ts
    blames-on {w} e h = x.blames ∙ ap (blame (walks false base) is_stopped here x.pre) q ∙ blame-on (walks false base) is_stopped here w x.pre ts t e h

    pub walkeds-on : {w : Walk} → walks false base here t ≡ w → walked false base unwalked (slice_at u from) ≡ walked false base w ts
    walkeds-on e = x.walkeds ∙ ap (walked false base here) q ∙ ap (λ (z : Walk). walked false base z ts) e

    pub stops-here : {r : Reason} → walks false base here t ≡ stopped r → tree_blame base (slice_at u from) ≡ stop_blame (found here x.pre t)
    stops-here {r} e = ap stop_blame (x.blames ∙ ap (blame (walks false base) is_stopped here x.pre) q ∙ blame-here (walks false base) is_stopped here (stopped r) x.pre ts t e refl)

  -- the slice is at its end
  module _ {w : Walk} (eb : blame (walks false base) is_stopped unwalked [] (slice_at u from) ≡ nowhere) (ew : walked false base unwalked (slice_at u from) ≡ w) (en : nodes_of w ≡ x.ns) where
    pub sound-by : {next : ℕ} → at ≤ next → BehindIs true u from 0 next → SoundSlice u from base next n
    sound-by h b =
        let f = x.few in
        record {
          none-stops = ap stop_blame eb;
          count = x.count ∙ sym (ap (λ (z : Walk). base + length (nodes_of z)) ew ∙ ap (λ (z : List Node). base + length z) en);
          behind = b;
          bound = omega arith;
        }

  -- ---- a start

  module _ {i : ℕ} (lo : at ≤ i) (hi : i < length u) where
    module _ (q : lex_at u at ≡ lexed (start i ∷ []) (lex_at u (i + 1))) where
      start-slice : slice_from d (lex_at u at).toks ≡ start i ∷ slice_from (suc d) (lex_at u (i + 1)).toks
      unfolding slice_from
      start-slice = ap (λ (z : Lexed). slice_from d z.toks) q

      pub start-deep : d < depth_limit
      unfolding Shallow
      start-deep = (subst (Shallow d) start-slice x.shallow).0

      module _ {b : Bool} (m : b ≡ may_start base n d a) where
        start-walk : walks false base here (start i) ≡ pick b (walk cur (cur ∷ stack_of a d) false x.ns) (stopped UnexpectedGameTreeStart)
        start-walk =
            line-may false x.line
            ∙ ap (λ (z : ℕ). pick (may_open base z (stack_of a d)) (walk cur (cur ∷ stack_of a d) false x.ns) (stopped UnexpectedGameTreeStart)) (sym x.count)
            ∙ ap (λ (z : Bool). pick z (walk cur (cur ∷ stack_of a d) false x.ns) (stopped UnexpectedGameTreeStart)) (sym (m ∙ may-within a d base n x.deep))

        pub start-stops : b ≡ false → {p : ℕ} → p ≡ top_node (stack_of a d) → tree_blame base (slice_at u from) ≡ Some (refusal (EmptyList p) i)
        start-stops f e =
            stops-here (start i) (slice_from (suc d) (lex_at u (i + 1)).toks) start-slice (start-walk ∙ ap (λ (z : Bool). pick z (walk cur (cur ∷ stack_of a d) false x.ns) (stopped UnexpectedGameTreeStart)) f)
            ∙ ap (λ (z : ℕ). Some (refusal (EmptyList z) i)) (sym e)

        pub going_start : b ≡ true → {a' : List ℕ} → a' ≡ set a d cur → Going u from base a' (i + 1) (d + 1) cur n false
        unfolding Shallow
        going_start f {a'} ea =
            let dl = start-deep in
            let ar = x.array in
            let fe = x.few in
            let s : stack_of a' (d + 1) ≡ cur ∷ stack_of a d = ap (λ (z : List ℕ). stack_of z (d + 1)) ea ∙ stack_push a d cur (omega arith) in
            let w : walks false base here (start i) ≡ walk cur (stack_of a' (d + 1)) false x.ns =
            start-walk ∙ ap (λ (z : Bool). pick z (walk cur (cur ∷ stack_of a d) false x.ns) (stopped UnexpectedGameTreeStart)) f ∙ ap (λ (z : List ℕ). walk cur z false x.ns) (sym s) in
            let k : slice_from d (lex_at u at).toks ≡ start i ∷ slice_from (d + 1) (lex_at u (i + 1)).toks = start-slice ∙ ap (λ (z : ℕ). start i ∷ slice_from z (lex_at u (i + 1)).toks) (sym (add-one d)) in
            record {
              short = x.short;
              ns = x.ns;
              pre = x.pre ++ (start i ∷ []);
              count = x.count;
              array = ap length ea ∙ length-set a d cur ∙ x.array;
              deep = omega arith;
              few = omega arith;
              skip = skipping-start x.skip lo hi q;
              blames = blames-on (start i) (slice_from (d + 1) (lex_at u (i + 1)).toks) k w refl;
              walkeds = walkeds-on (start i) (slice_from (d + 1) (lex_at u (i + 1)).toks) k w;
              shallow = subst⁻¹ (λ (z : ℕ). Shallow z (slice_from z (lex_at u (i + 1)).toks)) (add-one d) (subst (Shallow d) start-slice x.shallow).1;
              line = subst⁻¹ (Line base x.ns cur) s (line-open x.line);
              some = λ z. absurd (false≢true z);
            }

    -- ---- an end

    module _ (q : lex_at u at ≡ lexed (end i ∷ []) (lex_at u (i + 1))) where
      last-slice : d ≤ 1 → slice_from d (lex_at u at).toks ≡ end i ∷ []
      last-slice h = ap (λ (z : Lexed). slice_from d z.toks) q ∙ slice-last d i (lex_at u (i + 1)).toks h

      pub end-stops : d ≡ 0 → tree_blame base (slice_at u from) ≡ Some (refusal EndBeyond i)
      end-stops z = stops-here (end i) [] (last-slice (omega arith)) (ap (λ (st : List ℕ). closes false cur st x.ns) (stack-none a d z))

      popped : (d ≡ 0 → ⊥) → walks false base here (end i) ≡ walk (get_or a (d - 1) 0) (stack_of a (d - 1)) false x.ns
      popped h = ap (λ (st : List ℕ). closes false cur st x.ns) (stack-pop a d h)

      pub end-tree : d ≡ 1 → SoundSlice u from base (i + 1) n
      end-tree z =
          let h : d ≡ 0 → ⊥ = λ y. omega arith in
          sound-by (blames-on (end i) [] (last-slice (omega arith)) (popped h) refl) (walkeds-on (end i) [] (last-slice (omega arith)) (popped h)) refl (omega arith)
          (skipping-last x.skip lo hi q (omega arith))

      pub going_end : (d ≡ 0 → ⊥) → (d ≡ 1 → ⊥) → {c : ℕ} → c ≡ get_or a (d - 1) 0 → Going u from base a (i + 1) (d - 1) c n false
      going_end h0 h1 {c} ec =
          let de = x.deep in
          let fe = x.few in
          let l : 1 < d = above d h0 h1 in
          let k : slice_from d (lex_at u at).toks ≡ end i ∷ slice_from (d - 1) (lex_at u (i + 1)).toks = ap (λ (z : Lexed). slice_from d z.toks) q ∙ slice-end d i (lex_at u (i + 1)).toks l in
          let w : walks false base here (end i) ≡ walk c (stack_of a (d - 1)) false x.ns = popped h0 ∙ ap (λ (z : ℕ). walk z (stack_of a (d - 1)) false x.ns) (sym ec) in
          record {
            short = x.short;
            ns = x.ns;
            pre = x.pre ++ (end i ∷ []);
            count = x.count;
            array = x.array;
            deep = omega arith;
            few = omega arith;
            skip = skipping-end x.skip lo hi q l;
            blames = blames-on (end i) (slice_from (d - 1) (lex_at u (i + 1)).toks) k w refl;
            walkeds = walkeds-on (end i) (slice_from (d - 1) (lex_at u (i + 1)).toks) k w;
            shallow = shallow-end d i (slice_from (d - 1) (lex_at u (i + 1)).toks) l (subst (Shallow d) k x.shallow);
            line = subst⁻¹ (λ (z : ℕ). Line base x.ns z (stack_of a (d - 1))) ec (line-shut (subst (Line base x.ns cur) (stack-pop a d h0) x.line));
            some = λ z. absurd (false≢true z);
          }
        where
          above : (k : ℕ) → (k ≡ 0 → ⊥) → (k ≡ 1 → ⊥) → 1 < k
          above zero a b = absurd (a refl)
          above (suc zero) a b = absurd (b refl)
          above (suc (suc k)) a b = omega arith
