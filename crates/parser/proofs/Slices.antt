-- The slices of an accepted splitting, strict or lenient, are those cut off one by one from the front; no token of them goes too deep; and there are no more of them than tokens. Assumes nothing.
use Rattle.lists.proofs.Prelude.{ℕ, zero, suc, ◌≤◌, ◌≡◌, refl, sym, ap, ◌∙◌, subst, Bool, true, false, List, [], ◌∷◌, reverse, arith, length, ltb, ltb-false, pick}
use Rattle.lists.specs.All.{All}
use Rattle.lists.proofs.Tests.{never}
use Rattle.lexer.specs.Token.{Tok}
use Rattle.tables.specs.Numbers.{depth_limit}
use Rattle.tables.specs.declared.Reason.TheVariants.{TooDeep}
use Rattle.parser.specs.Split.{Splitting, splitting, over, wrong, split, no, slices, deep, filled, sliced, split_by_gametree}
use Rattle.parser.specs.LocalsSlice.{rest_from, first_slices, Shallow}
use Rattle.parser.specs.LocalsSurvey.{found_as, survey_of_slices}
use Rattle.parser.specs.declared.Survey.TheVariants.{Slices as found}
use Rattle.parser.proofs.Cuts.{standing, deepest, Right, cut-first, deep-first, split-cut}

-- what is known of k slices that were found
pub record SlicesAre (len : Bool) (ts : List Tok) (k : ℕ) : Type 0 where
  pub are : split_by_gametree len ts ≡ slices (first_slices k ts)
  pub shallow : All (Shallow 0) (first_slices k ts)
  pub bound : k ≤ length ts

cut-length : (j : ℕ) (ts : List Tok) → length (first_slices j ts) ≡ j
unfolding first_slices
cut-length zero ts = refl
cut-length (suc j) ts = ap suc (cut-length j (rest_from 0 ts))

found-length : (us : List (List Tok)) (k : ℕ) → found_as us ≡ found k → length us ≡ k
found-length [] k e = cc
found-length ([] ∷ []) k e = never (cc)
found-length ((t ∷ ts) ∷ []) k e = cc
found-length (s ∷ u ∷ us) k e = cc

not-deep : (m k : ℕ) (us : List (List Tok)) → survey_of_slices (deep m us) ≡ found k → (m ≤ depth_limit) × (deep m us ≡ slices us) × (length us ≡ k)
not-deep m k us e = go (ltb depth_limit m) refl e
  where
    go : (b : Bool) → ltb depth_limit m ≡ b → survey_of_slices (pick b (no TooDeep) (slices us)) ≡ found k → (m ≤ depth_limit) × (pick b (no TooDeep) (slices us) ≡ slices us) × (length us ≡ k)
    go true q e = never (cc)
    go false q e = (ltb-false depth_limit m q, refl, found-length us k e)

not_none : (len : Bool) (m k : ℕ) (us : List (List Tok)) → survey_of_slices (filled len m us) ≡ found k → (m ≤ depth_limit) × (filled len m us ≡ slices (reverse us)) × (length (reverse us) ≡ k)
not_none true m k [] e = never (cc)
not_none false m k [] e = never (cc)
not_none len m k (s ∷ us) e = not-deep m k (reverse (s ∷ us)) e

-- the state after the last token
abbrev Ends : Bool → ℕ → Splitting → Type 0
Ends len k x = Right x × (deepest x ≤ depth_limit) × (sliced len x ≡ slices (reverse (standing x))) × (length (reverse (standing x)) ≡ k)

ends-well : (len : Bool) (k : ℕ) (x : Splitting) → survey_of_slices (sliced len x) ≡ found k → Ends len k x
ends-well len k (splitting zero m cur ss) e = let w = not_none len m k ss e in (tt, w.0, w.1, w.2)
ends-well true k (splitting (suc d) m cur ss) e = let w = not-deep m k (reverse (reverse cur ∷ ss)) e in (tt, w.0, w.1, w.2)
ends-well false k (splitting (suc d) m cur ss) e = never (cc)
ends-well len k (over m ss) e = let w = not_none len m k ss e in (tt, w.0, w.1, w.2)
ends-well len k (wrong r) e = never (cc)

pub slices-cut : (len : Bool) (ts : List Tok) (k : ℕ) → survey_of_slices (split_by_gametree len ts) ≡ found k → SlicesAre len ts k
slices-cut len ts k e =
    let w = ends-well len k (split len (splitting 0 0 [] []) ts) e in
    let c = split-cut len ts 0 0 [] [] (omega arith) w.0 in
    let r : reverse (standing (split len (splitting 0 0 [] []) ts)) ≡ first_slices c.more ts = c.are ∙ cut-first c.more ts in
    let q : c.more ≡ k = sym (cut-length c.more ts) ∙ ap length (sym r) ∙ w.3 in
    let f = c.bound in
    record {
      are = w.2 ∙ ap slices (r ∙ ap (λ (z : ℕ). first_slices z ts) q);
      shallow = subst (λ (z : ℕ). All (Shallow 0) (first_slices z ts)) q (deep-first c.more ts (c.shallow w.1));
      bound = omega arith;
    }
