-- What splitting blames, in the scope's words: the first end beyond the starts, the slice that stays open, the first start that is too deep. Assumes nothing.
use Rattle.lists.proofs.Prelude.{ℕ, zero, suc, max, ◌≡◌, refl, sym, ap, ◌∙◌, subst, subst⁻¹, Bool, true, false, false≢true, List, [], ◌∷◌, ◌++◌, reverse, reverse-cons, arith, ltb-true, ltb-false}
use Rattle.lists.specs.All.{All}
use Rattle.lists.proofs.All.{all_right}
use Rattle.lexer.specs.Token.{Tok, start, end, node, prop, done, token_place}
use Rattle.tables.specs.Numbers.{depth_limit}
use Rattle.parser.specs.Split.{Splitting, splitting, over, wrong, splits, split}
use Rattle.parser.proofs.Cuts.{standing, Right}
use Rattle.reader_exactly.specs.Slicing.{slices_from}
use Rattle.reader_exactly.proofs.Standing.{slices-are}
use Rattle.why_blame.specs.Blame.{Blame, nowhere, found, blame, split_wrong, is_deep, blame_place}
use Rattle.why_blame.specs.Cuts.{wrong_at, deep_at, first_place}
use Rattle.why_blame.proofs.Found.{Says, blame-says, split-folds}
use Rattle.why_says.specs.Says.{TokenAt, HeadAt, ExceedsAt, OpenAt, DeepAt}
use Rattle.why_says.proofs.Counts.{Counted, Counts, counts, HasToken, slices-some}

-- ---- where a token stands

pub token-at : (t : Tok) {p : ℕ} → p ≡ token_place t → TokenAt t p
token-at (start o) e = e
token-at (end o) e = e
token-at (node o) e = e
token-at (prop a o) e = e

pub at-token : (t : Tok) {p : ℕ} → TokenAt t p → p ≡ token_place t
at-token (start o) e = e
at-token (end o) e = e
at-token (node o) e = e
at-token (prop a o) e = e

-- ---- splitting

abbrev pub begun : Splitting
begun = splitting 0 0 [] []

module _ (ts : List Tok) where
  -- ---- the first start that is too deep

  module _ (len : Bool) where
    deep_one : (s : Splitting) (before : List Tok) (t : Tok) → Counts len 0 0 before s → is_deep s ≡ false → is_deep (splits len s t) ≡ true → (behind : List Tok) → ts ≡ before ++ (t ∷ behind) → DeepAt ts (token_place t)
    deep_one (splitting d m cur ss) before (start p) c f h behind e =
        let a = ltb-false depth_limit m f in
        let b = ltb-true depth_limit (max m (suc d)) h in
        let k = c.high (omega arith) in
        record {
          before = before;
          behind = behind;
          are = e;
          covered = c.covered;
          full = omega (arith, c.count);
          shallow = λ x. omega (arith, x.1, c.bound (omega arith) x.0);
        }
    deep_one (splitting d m cur ss) before (end p) c f h behind e = absurd (same d h)
      where
        same : (d : ℕ) → is_deep (splits len (splitting d m cur ss) (end p)) ≡ true → ⊥
        same zero h = go len h
          where
            go : (b : Bool) → is_deep (splits b (splitting 0 m cur ss) (end p)) ≡ true → ⊥
            go true h = false≢true (sym f ∙ h)
            go false h = false≢true h
        same (suc zero) h = false≢true (sym f ∙ h)
        same (suc (suc d)) h = false≢true (sym f ∙ h)
    deep_one (splitting d m cur ss) before (node p) c f h behind e = absurd (false≢true (sym f ∙ h))
    deep_one (splitting d m cur ss) before (prop p o) c f h behind e = absurd (false≢true (sym f ∙ h))
    deep_one (over m ss) before t c f h behind e = absurd (false≢true (sym f ∙ h))
    deep_one (wrong r) before t c f h behind e = absurd (false≢true h)

    pub deep-found : is_deep (split len begun ts) ≡ true → DeepAt ts (deep_at len ts)
    deep-found h = go (blame (splits len) is_deep begun [] ts) (blame-says (splits len) is_deep begun ts refl)
      where
        go : (b : Blame Splitting) → Says (splits len) is_deep begun ts b → DeepAt ts (blame_place b)
        go nowhere x = absurd (false≢true (sym x ∙ ap is_deep (split-folds len is_deep begun ts) ∙ h))
        go (found s before t) x =
            deep_one s before t (subst (Counts len 0 0 before) (sym (split-folds len is_deep begun before) ∙ x.state) (counts len before 0 0 [] []))
            x.sound x.here x.behind x.are

  -- ---- the first end beyond the starts

  wrong-one : (s : Splitting) (before : List Tok) (t : Tok) → Counts false 0 0 before s → split_wrong s ≡ false → split_wrong (splits false s t) ≡ true → (behind : List Tok) → ts ≡ before ++ (t ∷ behind) → ExceedsAt ts (token_place t)
  wrong-one (splitting zero m cur ss) before (end p) c f h behind e = record { before = before; behind = behind; are = e; covered = c.covered; even = omega (arith, c.count) }
  wrong-one (splitting (suc zero) m cur ss) before (end p) c f h behind e = absurd (false≢true h)
  wrong-one (splitting (suc (suc d)) m cur ss) before (end p) c f h behind e = absurd (false≢true h)
  wrong-one (splitting d m cur ss) before (start p) c f h behind e = absurd (false≢true h)
  wrong-one (splitting d m cur ss) before (node p) c f h behind e = absurd (false≢true h)
  wrong-one (splitting d m cur ss) before (prop p o) c f h behind e = absurd (false≢true h)
  wrong-one (over m ss) before t c f h behind e = absurd (false≢true h)
  wrong-one (wrong r) before t c f h behind e = absurd (false≢true (sym f))

  pub wrong-found : split_wrong (split false begun ts) ≡ true → ExceedsAt ts (wrong_at ts)
  wrong-found h = go (blame (splits false) split_wrong begun [] ts) (blame-says (splits false) split_wrong begun ts refl)
    where
      go : (b : Blame Splitting) → Says (splits false) split_wrong begun ts b → ExceedsAt ts (blame_place b)
      go nowhere x = absurd (false≢true (sym x ∙ ap split_wrong (split-folds false split_wrong begun ts) ∙ h))
      go (found s before t) x =
          wrong-one s before t (subst (Counts false 0 0 before) (sym (split-folds false split_wrong begun before) ∙ x.state) (counts false before 0 0 [] []))
          x.sound x.here x.behind x.are

  -- ---- the slice that stays open

  pub head_at : (s : List Tok) → HasToken s → HeadAt s (first_place 0 s done)
  head_at [] h = absurd h
  head_at (t ∷ s) h = (t, s, refl, token-at t refl)

  pub open-found : (d m : ℕ) (cur : List Tok) (ss : List (List Tok)) → split false begun ts ≡ splitting (suc d) m cur ss → OpenAt ts (suc d) (first_place 0 (reverse cur) done)
  open-found d m cur ss e =
      let c : Counted 0 0 ts (suc d) m = subst (Counts false 0 0 ts) e (counts false ts 0 0 [] []) in
      let q : slices_from 0 ts ≡ reverse ss ++ (reverse cur ∷ []) =
      sym (slices-are false ts (subst⁻¹ Right e tt)) ∙ ap (λ (x : Splitting). reverse (standing x)) e ∙ reverse-cons (reverse cur) ss in
      record {
        more = omega (arith, c.count);
        some = omega arith;
        shut = reverse ss;
        last = reverse cur;
        are = q;
        head = head_at (reverse cur) (all_right HasToken (reverse ss) (reverse cur ∷ []) (subst (λ (z : List (List Tok)). All HasToken z) q (slices-some ts))).0;
      }
