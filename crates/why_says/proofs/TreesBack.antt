-- What the scope's words say of the first slice that is refused is what is blamed of all slices. Assumes nothing.
use Rattle.lists.proofs.Prelude.{ℕ, zero, suc, ◌+◌, ◌≡◌, refl, sym, ap, ◌∙◌, subst, Bool, true, false, List, [], ◌∷◌, ◌++◌, reverse, arith, length, ltb, pick}
use Rattle.lists.proofs.Tests.{never}
use Rattle.lists.specs.All.{All}
use Rattle.lists.proofs.All.{all_left, all_right}
use Rattle.lexer.specs.Token.{Tok, Lexed}
use Rattle.tables.specs.Numbers.{depth_limit}
use Rattle.tables.specs.Record.{Tree}
use Rattle.tables.specs.declared.Reason.TheVariants.{TooDeep as too_deep}
use Rattle.parser.specs.Split.{Splitting, splitting, over, wrong, no, slices, sliced}
use Rattle.parser.specs.Read.{Trees, trees_so_far, no_trees, parse_gametree, parse_gametrees}
use Rattle.parser.specs.Balance.{Covered}
use Rattle.parser.proofs.Runs.{failing-stays}
use Rattle.reader_exactly.specs.Slicing.{slices_from}
use Rattle.reader_exactly.specs.When.{First}
use Rattle.reader_exactly.proofs.Firm.{slices-covered}
use Rattle.why_blame.specs.Cuts.{deep_at, loose, cut_deep, cutting}
use Rattle.why_blame.specs.declared.Fact.{Fact}
use Rattle.why_blame.specs.declared.Fact.TheVariants.{TooDeep}
use Rattle.why.specs.Trees.{or_blame, nodes_in, slice_blame, slices_blame}
use Rattle.why_says.proofs.Counts.{HasToken, slices-some}
use Rattle.why_says.proofs.SlicesBack.{tree-unblamed}
use Rattle.std.specs.Prelude.{Option, Some, Ok, Err, Result}
use Rattle.tables.specs.Refusals.{refusal}
use Rattle.tables.specs.declared.Refusal.{Refusal}

-- where splitting gives slices, none of them is too deep
module _ (n : ℕ) (l : Lexed) where
  deep-sliced : (m : ℕ) (us ss : List (List Tok)) → pick (ltb depth_limit m) (no too_deep) (slices us) ≡ slices ss
      → (k q : ℕ) × (cut_deep false n l m us ≡ Ok (k, q))
  deep-sliced m us ss e = go (ltb depth_limit m) e
    where
      go : (b : Bool) → pick b (no too_deep) (slices us) ≡ slices ss
          → (k q : ℕ) × (pick {A = Result (ℕ × ℕ) (Refusal Fact)} b (Err (refusal TooDeep (deep_at false l.toks))) (Ok (length us, loose n us l)) ≡ Ok (k, q))
      go true e = never cc
      go false e = (_, _, refl)

  pub sliced-cut : (x : Splitting) (ss : List (List Tok)) → sliced false x ≡ slices ss → (k q : ℕ) × (cutting false n l x ≡ Ok (k, q))
  sliced-cut (splitting zero m cur []) ss e = never cc
  sliced-cut (splitting zero m cur (u ∷ us)) ss e = deep-sliced m (reverse (u ∷ us)) ss e
  sliced-cut (splitting (suc d) m cur us) ss e = never cc
  sliced-cut (over m []) ss e = never cc
  sliced-cut (over m (u ∷ us)) ss e = deep-sliced m (reverse (u ∷ us)) ss e
  sliced-cut (wrong r) ss e = never cc

-- slices that are trees are not blamed
trees-unblamed : (before rest : List (List Tok)) (n base : ℕ) (ts : List Tree) (m : ℕ) (us : List Tree) → All (Covered 0) before → All HasToken before
    → parse_gametrees false (trees_so_far base ts) before ≡ trees_so_far m us → slices_blame n base (before ++ rest) ≡ slices_blame (n + length before) m rest
trees-unblamed [] rest n base ts m us cv so e =
    let z : n ≡ n + 0 = omega arith in
    let w : base ≡ m = cc in
    ap (λ (k : ℕ). slices_blame k base rest) z ∙ ap (λ (k : ℕ). slices_blame (n + 0) k rest) w
trees-unblamed (s ∷ before) rest n base ts m us cv so e = go (parse_gametree false (trees_so_far base ts) s) refl (λ k vs. trees-unblamed before rest (suc n) k vs m us cv.1 so.1) e
  where
    go : (x : Trees) → parse_gametree false (trees_so_far base ts) s ≡ x
        → ((k : ℕ) (vs : List Tree) → parse_gametrees false (trees_so_far k vs) before ≡ trees_so_far m us → slices_blame (suc n) k (before ++ rest) ≡ slices_blame (suc n + length before) m rest)
        → parse_gametrees false x before ≡ trees_so_far m us → slices_blame n base (s ∷ (before ++ rest)) ≡ slices_blame (n + suc (length before)) m rest
    go (trees_so_far k vs) q ih h =
        let y = tree-unblamed n base s cv.0 so.0 ts k vs q in
        let z : suc n + length before ≡ n + suc (length before) = omega arith in
        ap (λ (b : Option (Refusal Fact)). or_blame b (slices_blame (suc n) (base + nodes_in base s) (before ++ rest))) y.0
        ∙ ap (λ (k : ℕ). slices_blame (suc n) k (before ++ rest)) (sym y.1) ∙ ih k vs h ∙ ap (λ (k : ℕ). slices_blame k m rest) z
    go (no_trees r) q ih h = let z : no_trees r ≡ trees_so_far m us = sym (failing-stays false r before) ∙ h in never cc

pub first-blamed : (ts : List Tok) (P : ℕ → List Tok → Type 0) (x : First P (slices_from 0 ts)) (f : Fact) (p : ℕ)
    → (Covered 0 x.slice → P x.nodes x.slice → slice_blame (length x.before) x.nodes x.slice ≡ Some (refusal f p)) → slices_blame 0 0 (slices_from 0 ts) ≡ Some (refusal f p)
first-blamed ts P x f p h =
    let cv : All (Covered 0) (x.before ++ (x.slice ∷ x.after)) = subst (All (Covered 0)) x.are (slices-covered ts) in
    let so : All HasToken (x.before ++ (x.slice ∷ x.after)) = subst (All HasToken) x.are (slices-some ts) in
    let z : 0 + length x.before ≡ length x.before = omega arith in
    ap (slices_blame 0 0) x.are
    ∙ trees-unblamed x.before (x.slice ∷ x.after) 0 0 [] x.nodes x.trees (all_left (Covered 0) x.before (x.slice ∷ x.after) cv) (all_left HasToken x.before (x.slice ∷ x.after) so) x.trees-are
    ∙ ap (λ (k : ℕ). slices_blame k x.nodes (x.slice ∷ x.after)) z
    ∙ ap (λ (b : Option (Refusal Fact)). or_blame b (slices_blame (suc (length x.before)) (x.nodes + nodes_in x.nodes x.slice) x.after))
    (h (all_right (Covered 0) x.before (x.slice ∷ x.after) cv).0 x.holds)
