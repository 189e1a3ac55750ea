-- A turn of the walk for the token to blame at a node, at a property, and where no token is left. Assumes nothing.
use Rattle.lists.proofs.Prelude.{ℕ, ◌+◌, ◌-◌, ◌≤◌, ◌<◌, ◌≡◌, refl, sym, ap, ◌∙◌, subst, subst⁻¹, Bool, true, false, List, [], ◌∷◌, ◌++◌, arith, length, get_or}
use Rattle.lexer.specs.Token.{Tok, node, prop, Lexed, lexed, lex_at}
use Rattle.lexer.specs.Step.{prop_at}
use Rattle.tables.specs.Numbers.{none}
use Rattle.tables.specs.Record.{Node}
use Rattle.tables.specs.declared.Reason.TheVariants.{UnexpectedProperty}
use Rattle.parser.specs.Walk.{walk, walks, walked, adds, gated}
use Rattle.parser.specs.LocalsSlice.{slice_from, Shallow}
use Rattle.parser_step.specs.LocalsActs.{stack_of}
use Rattle.parser_step.proofs.Stacks.{stack-none, stack-pop}
use Rattle.parser_tree.proofs.Lines.{Line, line-prop, line-node}
use Rattle.parser_tree.proofs.Behind.{skipping-node, skipping-prop, skipping-over}
use Rattle.why_blame.specs.Blame.{blame, is_stopped}
use Rattle.why_blame.specs.declared.Fact.TheVariants.{Stray}
use Rattle.why.specs.Trees.{top_node, tree_blame}
use Rattle.why.specs.LocalsTrees.{slice_at, SoundSlice}
use Rattle.why.proofs.Going.{Going, here, blames-on, walkeds-on, stops-here, sound-by}
use Rattle.std.specs.Prelude.{Some}
use Rattle.tables.specs.Refusals.{refusal}

module _ {u : List ℕ} {from base : ℕ} {a : List ℕ} {at d cur n : ℕ} {g : Bool} (x : Going u from base a at d cur n g) where
  module _ {i : ℕ} (lo : at ≤ i) (hi : i < length u) where
    -- ---- a node

    pub going-node : lex_at u at ≡ lexed (node i ∷ []) (lex_at u (i + 1)) → {c : ℕ} → c ≡ n → Going u from base a (i + 1) d c (n + 1) true
    unfolding slice_from Shallow
    going-node q {c} ec =
        let fe = x.few in
        let sh = x.short in
        let co = x.count in
        let k : slice_from d (lex_at u at).toks ≡ node i ∷ slice_from d (lex_at u (i + 1)).toks = ap (λ (z : Lexed). slice_from d z.toks) q in
        let w : walks false base (here x) (node i) ≡ walk c (stack_of a d) true (record { parent = cur; props = [] } ∷ x.ns) =
        ap (λ (z : ℕ). walk z (stack_of a d) true (record { parent = cur; props = [] } ∷ x.ns)) (sym (ec ∙ co)) in
        record {
          short = x.short;
          ns = record { parent = cur; props = [] } ∷ x.ns;
          pre = x.pre ++ (node i ∷ []);
          count = omega arith;
          array = x.array;
          deep = x.deep;
          few = omega arith;
          skip = skipping-node x.skip lo hi q;
          blames = blames-on x (node i) (slice_from d (lex_at u (i + 1)).toks) k w refl;
          walkeds = walkeds-on x (node i) (slice_from d (lex_at u (i + 1)).toks) k w;
          shallow = subst (Shallow d) k x.shallow;
          line = subst⁻¹ (λ (z : ℕ). Line base (record { parent = cur; props = [] } ∷ x.ns) z (stack_of a d)) (ec ∙ co) (line-node (omega arith) x.line);
          some = λ z. omega arith;
        }

  -- ---- a property

  module _ (i k e : ℕ) (q : lex_at u at ≡ lexed (prop (prop_at u i k) e ∷ []) (lex_at u e)) where
    prop-slice : slice_from d (lex_at u at).toks ≡ prop (prop_at u i k) e ∷ slice_from d (lex_at u e).toks
    unfolding slice_from
    prop-slice = ap (λ (z : Lexed). slice_from d z.toks) q

    pub prop-stops : g ≡ false → tree_blame base (slice_at u from) ≡ Some (refusal Stray i)
    unfolding prop_at
    prop-stops f = stops-here x (prop (prop_at u i k) e) (slice_from d (lex_at u e).toks) prop-slice {r = UnexpectedProperty} (ap (λ (z : Bool). gated false z (prop_at u i k) cur (stack_of a d) x.ns) f)

    pub going-prop : at ≤ e → e ≤ length u → g ≡ true → Going u from base a e d cur n g
    unfolding Shallow
    going-prop lo hi f = go x.ns refl (x.some f)
      where
        go : (ns : List Node) → x.ns ≡ ns → 0 < length x.ns → Going u from base a e d cur n g
        go [] z l = absurd (let y : length x.ns ≡ 0 = ap length z in omega arith)
        go (m ∷ ms) z l =
            let fe = x.few in
            let w : walks false base (here x) (prop (prop_at u i k) e) ≡ walk cur (stack_of a d) g (record { parent = m.parent; props = m.props ++ (prop_at u i k ∷ []) } ∷ ms) =
            ap (λ (b : Bool). gated false b (prop_at u i k) cur (stack_of a d) x.ns) f
            ∙ ap (adds false (prop_at u i k) cur (stack_of a d)) z
            ∙ ap (λ (b : Bool). walk cur (stack_of a d) b (record { parent = m.parent; props = m.props ++ (prop_at u i k ∷ []) } ∷ ms)) (sym f) in
            record {
              short = x.short;
              ns = record { parent = m.parent; props = m.props ++ (prop_at u i k ∷ []) } ∷ ms;
              pre = x.pre ++ (prop (prop_at u i k) e ∷ []);
              count = x.count ∙ ap (λ (y : List Node). base + length y) z;
              array = x.array;
              deep = x.deep;
              few = omega arith;
              skip = skipping-prop x.skip lo hi q;
              blames = blames-on x (prop (prop_at u i k) e) (slice_from d (lex_at u e).toks) prop-slice w refl;
              walkeds = walkeds-on x (prop (prop_at u i k) e) (slice_from d (lex_at u e).toks) prop-slice w;
              shallow = subst (Shallow d) prop-slice x.shallow;
              line = line-prop (m.props ++ (prop_at u i k ∷ [])) (subst (λ (y : List Node). Line base y cur (stack_of a d)) z x.line);
              some = λ y. omega arith;
            }

  -- ---- no token is left

  pub none_left : (lex_at u at).toks ≡ [] → SoundSlice u from base at n
  unfolding slice_from
  none_left h =
      let k : slice_from d (lex_at u at).toks ≡ [] = ap (slice_from d) h in
      sound-by x (x.blames ∙ ap (blame (walks false base) is_stopped (here x) x.pre) k) (x.walkeds ∙ ap (walked false base (here x)) k) refl (omega arith)
      (skipping-over x.skip (ap (λ (z : List Tok). z ++ []) h))

-- ---- the stack

pub top-none : (a : List ℕ) (d : ℕ) → d ≡ 0 → none ≡ top_node (stack_of a d)
top-none a d e = sym (ap top_node (stack-none a d e))

pub top-is : (a : List ℕ) (d : ℕ) → (d ≡ 0 → ⊥) → {x : ℕ} → x ≡ get_or a (d - 1) 0 → x ≡ top_node (stack_of a d)
top-is a d h e = e ∙ sym (ap top_node (stack-pop a d h))
