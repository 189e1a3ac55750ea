-- A search finds the token that is first in the scope's words. Assumes nothing.
use Rattle.lists.proofs.Prelude.{ℕ, zero, suc, max, ◌≡◌, refl, sym, ap, ◌∙◌, Bool, true, false, false≢true, List, [], ◌∷◌, ◌++◌, append_assoc, append-nil, arith, ltb-false, le-ltb}
use Rattle.lexer.specs.Token.{Tok, start, end, node, prop}
use Rattle.tables.specs.Numbers.{depth_limit}
use Rattle.parser.specs.Split.{Splitting, splitting, over, wrong, splits}
use Rattle.parser.specs.Walk.{Walk, walk, halted, stopped, walks}
use Rattle.why_blame.specs.Blame.{nowhere, found, blame, split_wrong, is_deep, is_stopped}
use Rattle.why_blame.proofs.Found.{folds, blame-on, blame-here}

module _ {S : Type 0} (f : S → Tok → S) (bad : S → Bool) where
  -- no token of these makes the state bad
  abbrev Along : S → List Tok → Type 0
  Along s [] = Unit {0}
  Along s (x ∷ xs) = (bad (f s x) ≡ false) × Along (f s x) xs

  blame-at : (s : S) (pre xs : List Tok) (t : Tok) (ys : List Tok) → Along s xs → bad (f (folds f bad s xs) t) ≡ true → blame f bad s pre (xs ++ (t ∷ ys)) ≡ found (folds f bad s xs) (pre ++ xs) t
  blame-at s pre [] t ys a h = blame-here f bad s (f s t) pre ys t refl h ∙ ap (λ (z : List Tok). found s z t) (sym (append-nil pre))
  blame-at s pre (x ∷ xs) t ys a h =
      blame-on f bad s (f s x) pre (xs ++ (t ∷ ys)) x refl a.0 ∙ blame-at (f s x) (pre ++ (x ∷ [])) xs t ys a.1 h
      ∙ ap (λ (z : List Tok). found (folds f bad (f s x) xs) z t) (append_assoc pre (x ∷ []) xs)

  along-none : (s : S) (xs : List Tok) → Along s xs → (bad s ≡ false) → (pre : List Tok) → blame f bad s pre xs ≡ blame f bad (folds f bad s xs) (pre ++ xs) []
  along-none s [] a h pre = refl
  along-none s (x ∷ xs) a h pre = blame-on f bad s (f s x) pre xs x refl a.0 ∙ along-none (f s x) xs a.1 a.0 (pre ++ (x ∷ []))

  -- soundness goes back from the last state
  module _ (P : S → Type 0) (back : (s : S) (t : Tok) → P (f s t) → P s) (sound : (s : S) → P s → bad s ≡ false) where
    folds-back : (s : S) (xs : List Tok) → P (folds f bad s xs) → P s
    folds-back s [] h = h
    folds-back s (x ∷ xs) h = back s x (folds-back (f s x) xs h)

    along : (s : S) (xs : List Tok) → P (folds f bad s xs) → Along s xs
    along s [] h = tt
    along s (x ∷ xs) h = (sound (f s x) (folds-back (f s x) xs h), along (f s x) xs h)

    pub found_at : (s : S) (xs : List Tok) (t : Tok) (ys : List Tok) → P (folds f bad s xs) → bad (f (folds f bad s xs) t) ≡ true → blame f bad s [] (xs ++ (t ∷ ys)) ≡ found (folds f bad s xs) xs t
    found_at s xs t ys h q = blame-at s [] xs t ys (along s xs h) q

    pub found_nowhere : (s : S) (xs : List Tok) → P (folds f bad s xs) → blame f bad s [] xs ≡ nowhere
    found_nowhere s xs h = along-none s xs (along s xs h) (sound s (folds-back s xs h)) []

-- ---- the three searches

pub right-back : (len : Bool) (s : Splitting) (t : Tok) → split_wrong (splits len s t) ≡ false → split_wrong s ≡ false
right-back len (splitting d m cur ss) t h = refl
right-back len (over m ss) t h = refl
right-back len (wrong r) t h = h

abbrev pub NotDeep : Splitting → Type 0
NotDeep s = (split_wrong s ≡ false) × (is_deep s ≡ false)

pub deep_back : (len : Bool) (s : Splitting) (t : Tok) → NotDeep (splits len s t) → NotDeep s
deep_back len (splitting d m cur ss) (start o) h = let z = ltb-false depth_limit (max m (suc d)) h.1 in (refl, le-ltb depth_limit m (omega arith))
deep_back true (splitting zero m cur ss) (end o) h = (refl, h.1)
deep_back false (splitting zero m cur ss) (end o) h = absurd (false≢true (sym h.0))
deep_back len (splitting (suc zero) m cur ss) (end o) h = (refl, h.1)
deep_back len (splitting (suc (suc d)) m cur ss) (end o) h = (refl, h.1)
deep_back len (splitting d m cur ss) (node o) h = (refl, h.1)
deep_back len (splitting d m cur ss) (prop p e) h = (refl, h.1)
deep_back len (over m ss) t h = h
deep_back len (wrong r) t h = absurd (false≢true (sym h.0))

pub on-back : (base : ℕ) (w : Walk) (t : Tok) → is_stopped (walks false base w t) ≡ false → is_stopped w ≡ false
on-back base (walk cur st g ns) t h = refl
on-back base (halted ns) t h = h
on-back base (stopped r) t h = h
