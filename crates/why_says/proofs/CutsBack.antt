-- What the scope's words say of splitting is what splitting blames. Assumes nothing.
use Rattle.lists.proofs.Prelude.{ℕ, zero, suc, ◌+◌, ◌≤◌, ◌<◌, max, ◌≡◌, refl, sym, ap, ◌∙◌, subst, Bool, true, false, List, [], ◌∷◌, ◌++◌, reverse, arith, lt_of_not-le, length, take, lt-ltb, le-ltb, pick, head-eq_of_cons-eq, tail-eq_of_cons-eq}
use native.Mathlib.Decide.{dec_le}
use Rattle.lists.proofs.Tests.{never}
use Rattle.lexer.specs.Token.{Tok, start, end, done, Lexed}
use Rattle.tables.specs.Numbers.{depth_limit}
use Rattle.tables.specs.declared.Reason.TheVariants.{UnexpectedGameTreeEnd}
use Rattle.parser.specs.Split.{Splitting, splitting, over, wrong, splits, split}
use Rattle.parser.specs.Balance.{starts, ends, Covered, Balanced}
use Rattle.parser.proofs.Balanced.{Comes, comes}
use Rattle.parser.proofs.Surveys.{wrong_stays}
use Rattle.why_blame.specs.Blame.{blame, split_wrong, is_deep, blame_place}
use Rattle.why_blame.specs.Cuts.{wrong_at, deep_at, first_place, loose, cut_deep, cut_slices, cutting, cut_tokens}
use Rattle.why_blame.specs.declared.Fact.TheVariants.{EndBeyond, StaysOpen, NoEnd, TooDeep}
use Rattle.why_blame.proofs.Found.{folds, split-folds}
use Rattle.why_says.specs.Says.{HeadAt, ExceedsAt, OpenAt, DeepAt}
use Rattle.why_says.proofs.Along.{found_at, right-back, NotDeep, deep_back}
use Rattle.why_says.proofs.Counts.{Counted, Counts, counts, Going, going, Sliced, some-sliced}
use Rattle.why_says.proofs.Cuts.{at-token, begun, open-found}
use Rattle.std.specs.Prelude.{Ok, Err}
use Rattle.tables.specs.Refusals.{refusal}

-- ---- where splitting comes to

split-append : (len : Bool) (x : Splitting) (xs ys : List Tok) → split len x (xs ++ ys) ≡ split len (split len x xs) ys
split-append len x [] ys = refl
split-append len x (t ∷ xs) ys = split-append len (splits len x t) xs ys

-- splitting goes on, and has counted
record Comes-to (len : Bool) (xs : List Tok) : Type 0 where
  pub d : ℕ
  pub m : ℕ
  pub cur : List Tok
  pub ss : List (List Tok)
  pub is : split len begun xs ≡ splitting d m cur ss
  pub counted : Counted 0 0 xs d m

comes-to : (len : Bool) (xs : List Tok) → Covered 0 xs → Comes-to len xs
comes-to len xs c = go (split len begun xs) refl (going len xs 0 0 [] [] c) (counts len xs 0 0 [] [])
  where
    go : (x : Splitting) → split len begun xs ≡ x → Going x → Counts len 0 0 xs x → Comes-to len xs
    go (splitting d m cur ss) e g k = record { d = d; m = m; cur = cur; ss = ss; is = e; counted = k }
    go (over m ss) e g k = absurd g
    go (wrong r) e g k = absurd g

-- ---- lists

snoc-last : (xs ys : List (List Tok)) (a b : List Tok) → xs ++ (a ∷ []) ≡ ys ++ (b ∷ []) → a ≡ b
snoc-last [] [] a b e = head-eq_of_cons-eq e
snoc-last [] (y ∷ []) a b e = let z = ap length e in absurd (omega (arith, z))
snoc-last [] (y ∷ w ∷ ys) a b e = let z = ap length e in absurd (omega (arith, z))
snoc-last (x ∷ []) [] a b e = let z = ap length e in absurd (omega (arith, z))
snoc-last (x ∷ w ∷ xs) [] a b e = let z = ap length e in absurd (omega (arith, z))
snoc-last (x ∷ xs) (y ∷ ys) a b e = snoc-last xs ys a b (tail-eq_of_cons-eq e)

pub head-place : (s : List Tok) {p : ℕ} → HeadAt s p → p ≡ first_place 0 s done
head-place [] (t, r, e, q) = never cc
head-place (u ∷ s) (t, r, e, q) = at-token t q ∙ ap (λ (z : List Tok). first_place 0 z done) (sym e)

module _ (n : ℕ) (l : Lexed) where
  -- ---- 6

  module _ {p : ℕ} (x : ExceedsAt l.toks p) where
    even-state : (m : ℕ) × (cur : List Tok) × (ss : List (List Tok)) × (split false begun x.before ≡ splitting 0 m cur ss)
    even-state =
        let c = comes-to false x.before x.covered in
        let q = c.counted.count in
        let e = x.even in
        let z : c.d ≡ 0 = omega arith in
        (c.m, c.cur, c.ss, c.is ∙ ap (λ (k : ℕ). splitting k c.m c.cur c.ss) z)

    pub exceeds-wrong : split false begun l.toks ≡ wrong UnexpectedGameTreeEnd
    exceeds-wrong =
        ap (split false begun) x.are ∙ split-append false begun x.before (end p ∷ x.behind)
        ∙ ap (λ (z : Splitting). split false z (end p ∷ x.behind)) even-state.3 ∙ wrong_stays false UnexpectedGameTreeEnd x.behind

    exceeds-place : wrong_at l.toks ≡ p
    exceeds-place =
        let f = split-folds false split_wrong begun x.before ∙ even-state.3 in
        ap (λ (z : List Tok). blame_place (blame (splits false) split_wrong begun [] z)) x.are
        ∙ ap blame_place (found_at (splits false) split_wrong (λ (s : Splitting). split_wrong s ≡ false) (right-back false) (λ _ h. h) begun x.before (end p) x.behind
        (ap split_wrong f) (ap (λ (z : Splitting). split_wrong (splits false z (end p))) f))

    pub exceeds-cut : cut_tokens false n l ≡ Err (refusal EndBeyond p)
    exceeds-cut = ap (cutting false n l) exceeds-wrong ∙ ap (λ (z : ℕ). Err (refusal EndBeyond z)) exceeds-place

  -- ---- 7

  pub open-cut : {d p : ℕ} → Covered 0 l.toks → OpenAt l.toks d p → cut_tokens false n l ≡ Err (refusal (StaysOpen d) p)
  open-cut {d} {p} cv x = go d x.some (let q = c.counted.count in let e = x.more in omega arith) refl
    where
      c : Comes-to false l.toks
      c = comes-to false l.toks cv

      go : (k : ℕ) → 0 < k → c.d ≡ k → k ≡ d → cut_tokens false n l ≡ Err (refusal (StaysOpen d) p)
      go zero h e w = absurd (omega arith)
      go (suc k) h e w =
          let q = c.is ∙ ap (λ (z : ℕ). splitting z c.m c.cur c.ss) e in
          let y = open-found l.toks k c.m c.cur c.ss q in
          let z : y.last ≡ x.last = snoc-last y.shut x.shut y.last x.last (sym y.are ∙ x.are) in
          ap (cutting false n l) q ∙ ap (λ (z : ℕ). Err (refusal (StaysOpen z) (first_place 0 (reverse c.cur) done))) w
          ∙ ap (λ (z : ℕ). Err (refusal (StaysOpen d) z)) (sym (head-place x.last x.head ∙ ap (λ (s : List Tok). first_place 0 s done) (sym z) ∙ sym (head-place y.last y.head)))

  -- ---- 8

  pub none-cut : Covered 0 l.toks → starts l.toks ≡ ends l.toks → ends l.toks ≡ 0 → cut_tokens false n l ≡ Err (refusal NoEnd 0)
  none-cut cv e z = go (split false begun l.toks) (comes l.toks 0 0 [] [] cv)
    where
      go : (x : Splitting) → Comes (ends l.toks) (starts l.toks) 0 0 x → cutting false n l x ≡ Err (refusal NoEnd 0)
      go (splitting zero m cur []) k = refl
      go (splitting zero m cur (s ∷ ss)) (a, b, c, h) = absurd (omega (arith, c, z))
      go (splitting (suc d) m cur ss) (a, b, c, h) = absurd (omega (arith, a, e))
      go (over m ss) k = absurd k
      go (wrong r) k = absurd k

  -- ---- 9

  module _ (len : Bool) {p : ℕ} (x : DeepAt l.toks p) where
    c : Comes-to len x.before
    c = comes-to len x.before x.covered

    full : c.d ≡ depth_limit
    full = let q = c.counted.count in let e = x.full in omega arith

    low : c.m ≤ depth_limit
    low = c.counted.least depth_limit (omega arith) (λ k. elim (dec_le (0 + starts (take k x.before)) (depth_limit + ends (take k x.before))) [ yes h ↦ h | no h ↦ absurd (x.shallow (k, lt_of_not-le h)) ])

    folded : folds (splits len) is_deep begun x.before ≡ splitting c.d c.m c.cur c.ss
    folded = split-folds len is_deep begun x.before ∙ c.is

    not-deep : NotDeep (folds (splits len) is_deep begun x.before)
    not-deep = (ap split_wrong folded, ap is_deep folded ∙ le-ltb depth_limit c.m low)

    deep-here : is_deep (splits len (folds (splits len) is_deep begun x.before) (start p)) ≡ true
    deep-here = ap (λ (z : Splitting). is_deep (splits len z (start p))) folded ∙ lt-ltb depth_limit (max c.m (suc c.d)) (let q = full in omega arith)

    deep-place : deep_at len l.toks ≡ p
    deep-place =
        ap (λ (z : List Tok). blame_place (blame (splits len) is_deep begun [] z)) x.are
        ∙ ap blame_place (found_at (splits len) is_deep NotDeep (deep_back len) (λ _ h. h.1) begun x.before (start p) x.behind not-deep deep-here)

    -- the state behind the start, and what comes of it
    then : Splitting
    then = splitting (suc c.d) (max c.m (suc c.d)) (start p ∷ c.cur) c.ss

    whole : split len begun l.toks ≡ split len then x.behind
    unfolding then
    whole =
        ap (split len begun) x.are ∙ split-append len begun x.before (start p ∷ x.behind)
        ∙ ap (λ (z : Splitting). split len z (start p ∷ x.behind)) c.is

    cut-deep : (m : ℕ) (us : List (List Tok)) → max c.m (suc c.d) ≤ m → cut_deep len n l m us ≡ Err (refusal TooDeep p)
    cut-deep m us h =
        ap (λ (b : Bool). pick b (Err (refusal TooDeep (deep_at len l.toks))) (Ok (length us, loose n us l))) (lt-ltb depth_limit m (let q = full in omega arith))
        ∙ ap (λ (z : ℕ). Err (refusal TooDeep z)) deep-place

    cut-slices : (m : ℕ) (ss : List (List Tok)) → max c.m (suc c.d) ≤ m → (0 < m → 0 < length ss) → cut_slices len n l m ss ≡ Err (refusal TooDeep p)
    cut-slices m [] h g = absurd (omega (arith, g (omega arith)))
    cut-slices m (s ∷ ss) h g = cut-deep m (reverse (s ∷ ss)) h

  pub deep-lenient : {p : ℕ} → DeepAt l.toks p → cut_tokens true n l ≡ Err (refusal TooDeep p)
  unfolding then
  deep-lenient {p} x =
      ap (cutting true n l) (whole true x)
      ∙ go (split true (then true x) x.behind) (counts true x.behind _ _ _ _) (some-sliced true x.behind (then true x) (λ z _. absurd (omega arith)))
    where
      go : (y : Splitting) → Counts true (suc (c true x).d) (max (c true x).m (suc (c true x).d)) x.behind y → Sliced y
          → cutting true n l y ≡ Err (refusal TooDeep p)
      go (splitting zero m cur ss) k h = cut-slices true x m ss k.low (h refl)
      go (splitting (suc d) m cur ss) k h = cut-deep true x m (reverse (reverse cur ∷ ss)) k.low
      go (over m ss) k h = cut-slices true x m ss k.1 h
      go (wrong r) k h = never cc

  pub deep-strict : {p : ℕ} → Balanced l.toks → DeepAt l.toks p → cut_tokens false n l ≡ Err (refusal TooDeep p)
  unfolding then
  deep-strict {p} b x =
      go (split false begun l.toks) (comes l.toks 0 0 [] [] b.covered)
      (subst (Counts false (suc (c false x).d) (max (c false x).m (suc (c false x).d)) x.behind) (sym (whole false x)) (counts false x.behind _ _ _ _))
      (some-sliced false l.toks begun (λ _ h. absurd (omega (arith, h))))
    where
      go : (y : Splitting) → Comes (ends l.toks) (starts l.toks) 0 0 y → Counts false (suc (c false x).d) (max (c false x).m (suc (c false x).d)) x.behind y → Sliced y
          → cutting false n l y ≡ Err (refusal TooDeep p)
      go (splitting zero m cur ss) a k h = cut-slices false x m ss k.low (h refl)
      go (splitting (suc d) m cur ss) a k h = absurd (omega (arith, a.0, b.equal))
      go (over m ss) a k h = absurd a
      go (wrong r) a k h = absurd a
