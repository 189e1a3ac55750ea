-- A turn of the walk for the entries at an end. Assumes nothing.
use Rattle.lists.proofs.Prelude.{ℕ, zero, suc, ◌+◌, ◌-◌, ◌≤◌, ◌<◌, ◌≡◌, refl, sym, ap, ◌∙◌, subst, subst⁻¹, Bool, true, false, false≢true, List, [], ◌∷◌, ◌++◌, arith, length, get_or}
use Rattle.lexer.specs.Token.{end, Lexed, lexed, lex_at}
use Rattle.parser.specs.Walk.{walk, halted, walks, closes}
use Rattle.parser.specs.LocalsSlice.{slice_from, Shallow}
use Rattle.parser_step.specs.LocalsActs.{stack_of}
use Rattle.parser_step.proofs.Stacks.{stack-none, stack-pop}
use Rattle.parser_tree.proofs.Lines.{Line, line-shut}
use Rattle.parser_tree.proofs.Behind.{skipping-end, skipping-last, slice-last, slice-end, shallow-end}
use Rattle.salvage_list.specs.Listed.{cut_of, walk_nodes}
use Rattle.salvage_list.specs.LocalsWalk.{StoodIs}
use Rattle.salvage_list.proofs.Going.{Going, Put, Standing, here, blames-on, walkeds-on, stops-here, stopped-nodes, stands, put_on}

module _ {u : List ℕ} {from base : ℕ} {a : List ℕ} {at d cur n : ℕ} {g : Bool} (x : Going u from base a at d cur n g) where
  module _ {i : ℕ} (lo : at ≤ i) (hi : i < length u) where
    module _ (q : lex_at u at ≡ lexed (end i ∷ []) (lex_at u (i + 1))) where
      pub last-slice : d ≤ 1 → slice_from d (lex_at u at).toks ≡ end i ∷ []
      last-slice h = ap (λ (z : Lexed). slice_from d z.toks) q ∙ slice-last d i (lex_at u (i + 1)).toks h

      pub popped : (d ≡ 0 → ⊥) → walks true base (here x) (end i) ≡ walk (get_or a (d - 1) 0) (stack_of a (d - 1)) false x.ns
      popped h = ap (λ (st : List ℕ). closes true cur st x.ns) (stack-pop a d h)

      going_end : (d ≡ 0 → ⊥) → (d ≡ 1 → ⊥) → {c : ℕ} → c ≡ get_or a (d - 1) 0 → Going u from base a (i + 1) (d - 1) c n false
      going_end h0 h1 {c} ec =
          let de = x.deep in
          let fe = x.few in
          let l : 1 < d = above d h0 h1 in
          let k : slice_from d (lex_at u at).toks ≡ end i ∷ slice_from (d - 1) (lex_at u (i + 1)).toks = ap (λ (z : Lexed). slice_from d z.toks) q ∙ slice-end d i (lex_at u (i + 1)).toks l in
          let w : walks true base (here x) (end i) ≡ walk c (stack_of a (d - 1)) false x.ns = popped h0 ∙ ap (λ (z : ℕ). walk z (stack_of a (d - 1)) false x.ns) (sym ec) in
          record {
            short = x.short;
            low = x.low;
            ns = x.ns;
            pre = x.pre ++ (end i ∷ []);
            count = x.count;
            array = x.array;
            deep = omega arith;
            few = omega arith;
            skip = skipping-end x.skip lo hi q l;
            blames = blames-on x (end i) (slice_from (d - 1) (lex_at u (i + 1)).toks) k w refl;
            walkeds = walkeds-on x (end i) (slice_from (d - 1) (lex_at u (i + 1)).toks) k w;
            shallow = shallow-end d i (slice_from (d - 1) (lex_at u (i + 1)).toks) l (subst (Shallow d) k x.shallow);
            line = subst⁻¹ (λ (z : ℕ). Line base x.ns z (stack_of a (d - 1))) ec (line-shut (subst (Line base x.ns cur) (stack-pop a d h0) x.line));
            some = λ z. absurd (false≢true z);
          }
        where
          above : (k : ℕ) → (k ≡ 0 → ⊥) → (k ≡ 1 → ⊥) → 1 < k
          above zero a b = absurd (a refl)
          above (suc zero) a b = absurd (b refl)
          above (suc (suc k)) a b = omega arith

      module _ {p0 e0 : ℕ} {t : List ℕ} {bad : Bool} {p e : ℕ} {t' : List ℕ} (y : Put u from base p0 e0 t x.ns at bad p e t') where
        pub end-stops : d ≡ 0 → StoodIs u from base p0 e0 t (record { next = i + 1; nodes = n; properties = p; entries = e; cut = true; place = i }) t'
        end-stops z =
            let w : walks true base (here x) (end i) ≡ halted x.ns = ap (λ (st : List ℕ). closes true cur st x.ns) (stack-none a d z) in
            stands x y (stopped-nodes x (end i) [] (last-slice (omega arith)) w) (stops-here x (end i) [] (last-slice (omega arith)) w)
            (skipping-last x.skip lo hi q (omega arith)) (omega arith) (omega arith)

        pub end-tree : d ≡ 1 → StoodIs u from base p0 e0 t (record { next = i + 1; nodes = n; properties = p; entries = e; cut = false; place = 0 }) t'
        end-tree z =
            let h : d ≡ 0 → ⊥ = λ c. omega arith in
            stands x y (ap walk_nodes (walkeds-on x (end i) [] (last-slice (omega arith)) (popped h))) (λ j. ap (cut_of j) (blames-on x (end i) [] (last-slice (omega arith)) (popped h) refl))
            (skipping-last x.skip lo hi q (omega arith)) (omega arith) (omega arith)

        pub standing-end : (d ≡ 0 → ⊥) → (d ≡ 1 → ⊥) → {c : ℕ} → c ≡ get_or a (d - 1) 0 → Standing u from base p0 e0 t a (i + 1) (d - 1) c n false bad p e t'
        unfolding going_end
        standing-end h0 h1 ec = record { go = going_end h0 h1 ec; has = put_on y (omega arith) }
