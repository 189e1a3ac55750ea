-- A fold ends wrong exactly where a token is to blame, and that is the first. Assumes nothing.
use Rattle.lists.proofs.Prelude.{◌≡◌, refl, ap, ◌∙◌, subst, Bool, true, false, false≢true, List, [], ◌∷◌, ◌++◌, append_assoc, append-nil, pick}
use Rattle.lexer.specs.Token.{Tok}
use Rattle.parser.specs.Split.{Splitting, splitting, over, wrong, splits, split}
use Rattle.parser.specs.Walk.{Walk, walk, halted, stopped, walks, walked}
use Rattle.why_blame.specs.Blame.{Blame, nowhere, found, blame, split_wrong, is_stopped}

module _ {S : Type 0} (f : S → Tok → S) (bad : S → Bool) where
  -- all tokens
  abbrev pub folds : S → List Tok → S
  folds s [] = s
  folds s (t ∷ ts) = folds (f s t) ts

  pub folds-append : (s : S) (xs ys : List Tok) → folds s (xs ++ ys) ≡ folds (folds s xs) ys
  folds-append s [] ys = refl
  folds-append s (x ∷ xs) ys = folds-append (f s x) xs ys

  -- a token that leaves the state sound
  pub blame-on : (s s' : S) (pre ts : List Tok) (t : Tok) → f s t ≡ s' → bad s' ≡ false → blame f bad s pre (t ∷ ts) ≡ blame f bad s' (pre ++ (t ∷ [])) ts
  blame-on s s' pre ts t e h =
      ap (λ (z : S). pick (bad z) (found s pre t) (blame f bad z (pre ++ (t ∷ [])) ts)) e
      ∙ ap (λ (b : Bool). pick b (found s pre t) (blame f bad s' (pre ++ (t ∷ [])) ts)) h

  -- a token that does not
  pub blame-here : (s s' : S) (pre ts : List Tok) (t : Tok) → f s t ≡ s' → bad s' ≡ true → blame f bad s pre (t ∷ ts) ≡ found s pre t
  blame-here s s' pre ts t e h =
      ap (λ (z : S). pick (bad z) (found s pre t) (blame f bad z (pre ++ (t ∷ [])) ts)) e
      ∙ ap (λ (b : Bool). pick b (found s pre t) (blame f bad s' (pre ++ (t ∷ [])) ts)) h

  -- of the tokens ts from s₀ on: `before` leads to s, which is not wrong, and t makes it wrong
  pub record First (s₀ : S) (ts : List Tok) (s : S) (before : List Tok) (t : Tok) : Type 0 where
    pub behind : List Tok
    pub are : ts ≡ before ++ (t ∷ behind)
    pub state : folds s₀ before ≡ s
    pub sound : bad s ≡ false
    pub here : bad (f s t) ≡ true

  -- what it says
  abbrev pub Says : S → List Tok → Blame S → Type 0
  Says s₀ ts nowhere = bad (folds s₀ ts) ≡ false
  Says s₀ ts (found s before t) = First s₀ ts s before t

  says-from : (s₀ : S) (pre : List Tok) (s : S) (ts : List Tok) → folds s₀ pre ≡ s → bad s ≡ false → Says s₀ (pre ++ ts) (blame f bad s pre ts)
  says-from s₀ pre s [] e h = ap (λ (z : List Tok). bad (folds s₀ z)) (append-nil pre) ∙ ap bad e ∙ h
  says-from s₀ pre s (t ∷ ts) e h = go (bad (f s t)) refl (says-from s₀ (pre ++ (t ∷ [])) (f s t) ts (folds-append s₀ pre (t ∷ []) ∙ ap (λ (z : S). f z t) e))
    where
      go : (c : Bool) → bad (f s t) ≡ c → (bad (f s t) ≡ false → Says s₀ ((pre ++ (t ∷ [])) ++ ts) (blame f bad (f s t) (pre ++ (t ∷ [])) ts))
          → Says s₀ (pre ++ (t ∷ ts)) (pick c (found s pre t) (blame f bad (f s t) (pre ++ (t ∷ [])) ts))
      go true q r = record { behind = ts; are = refl; state = e; sound = h; here = q }
      go false q r = subst (λ (z : List Tok). Says s₀ z (blame f bad (f s t) (pre ++ (t ∷ [])) ts)) (append_assoc pre (t ∷ []) ts) (r q)

  -- what is found is the first; nothing is found: the fold ends sound
  pub blame-says : (s : S) (ts : List Tok) → bad s ≡ false → Says s ts (blame f bad s [] ts)
  blame-says s ts h = says-from s [] s ts refl h

  -- and where a wrong state stays wrong, the first makes the whole wrong
  module _ (stays : (s : S) (t : Tok) → bad s ≡ true → bad (f s t) ≡ true) where
    still : (s : S) (ts : List Tok) → bad s ≡ true → bad (folds s ts) ≡ true
    still s [] h = h
    still s (t ∷ ts) h = still (f s t) ts (stays s t h)

    pub first-wrong : (s₀ : S) (ts : List Tok) (s : S) (before : List Tok) (t : Tok) → First s₀ ts s before t → bad (folds s₀ ts) ≡ true
    first-wrong s₀ ts s before t x =
        ap (λ (z : List Tok). bad (folds s₀ z)) x.are ∙ ap bad (folds-append s₀ before (t ∷ x.behind))
        ∙ ap (λ (z : S). bad (folds z (t ∷ x.behind))) x.state ∙ still (f s t) x.behind x.here

-- ---- splitting and the walk are such folds

pub split-folds : (len : Bool) (bad : Splitting → Bool) (s : Splitting) (ts : List Tok) → folds (splits len) bad s ts ≡ split len s ts
split-folds len bad s [] = refl
split-folds len bad s (t ∷ ts) = split-folds len bad (splits len s t) ts

pub walk-folds : (len : Bool) (base : _) (bad : Walk → Bool) (w : Walk) (ts : List Tok) → folds (walks len base) bad w ts ≡ walked len base w ts
walk-folds len base bad w [] = refl
walk-folds len base bad w (t ∷ ts) = walk-folds len base bad (walks len base w t) ts

pub wrong_stays : (len : Bool) (s : Splitting) (t : Tok) → split_wrong s ≡ true → split_wrong (splits len s t) ≡ true
wrong_stays len (splitting d m cur ss) t h = absurd (false≢true h)
wrong_stays len (over m ss) t h = absurd (false≢true h)
wrong_stays len (wrong r) t h = refl

pub stopped-stays : (len : Bool) (base : _) (w : Walk) (t : Tok) → is_stopped w ≡ true → is_stopped (walks len base w t) ≡ true
stopped-stays len base (walk cur st g ns) t h = absurd (false≢true h)
stopped-stays len base (halted ns) t h = refl
stopped-stays len base (stopped r) t h = refl
