-- What the first pass finds, from where splitting stops. Assumes nothing.
use Rattle.lists.proofs.Prelude.{ℕ, zero, suc, ◌+◌, ◌≤◌, ◌<◌, ◌≡◌, refl, sym, ap, ◌∙◌, Bool, true, false, List, [], ◌∷◌, reverse, arith, length, length-reverse, ltb, pick}
use Rattle.lists.specs.All.{All}
use Rattle.lists.proofs.All.{all-reverse}
use Rattle.lexer.specs.Token.{Tok, End, Lexed, lex_at}
use Rattle.lexer.specs.declared.Fault.{Fault}
use Rattle.tables.specs.Numbers.{depth_limit, reason_of}
use Rattle.tables.specs.declared.Reason.{Reason}
use Rattle.tables.specs.declared.Reason.TheVariants.{UnexpectedGameTreeEnd, UnexpectedEndOfData, NoGameTrees, TooDeep}
use Rattle.parser.specs.Split.{Splitting, splitting, over, wrong, split, no, slices, deep, filled, sliced, split_by_gametree}
use Rattle.parser.specs.LocalsSurvey.{found_as, survey_of_slices, survey_strict, survey_of, left_at, StopsAt, SplitsTo, SplitIs}
use Rattle.parser.specs.declared.Survey.{Survey}
use Rattle.parser.specs.declared.Survey.TheVariants.{Refused, Slices as found, Empty}
use Rattle.parser.specs.declared.Stop.{Stop}
use Rattle.parser.specs.declared.Stop.TheVariants.{End as stop_end, Fault as stop_fault, Done}

pub wrong_stays : (len : Bool) (r : Reason) (ts : List Tok) → split len (wrong r) ts ≡ wrong r
wrong_stays len r [] = refl
wrong_stays len r (t ∷ ts) = wrong_stays len r ts

pub over-stays : (len : Bool) (m : ℕ) (ss : List (List Tok)) (ts : List Tok) → split len (over m ss) ts ≡ over m ss
over-stays len m ss [] = refl
over-stays len m ss (t ∷ ts) = over-stays len m ss ts

-- a slice has a token
abbrev Full : List Tok → Type 0
Full x = 0 < length x

found-full : (us : List (List Tok)) → All Full us → found_as us ≡ found (length us)
found-full [] h = refl
found-full ([] ∷ []) h = absurd (omega (arith, h.0))
found-full ((t ∷ ts) ∷ []) h = refl
found-full (s ∷ u ∷ us) h = refl

-- slices that are accepted unless a token is too deep
deep-counted : (m n : ℕ) (us : List (List Tok)) → All Full us → length us ≡ n → survey_of_slices (deep m us) ≡ pick (ltb depth_limit m) (Refused TooDeep 0) (found n)
deep-counted m n us f e = go (ltb depth_limit m)
  where
    go : (b : Bool) → survey_of_slices (pick b (no TooDeep) (slices us)) ≡ pick b (Refused TooDeep 0) (found n)
    go true = refl
    go false = found-full us f ∙ ap found e

some : (len : Bool) (m : ℕ) (ss : List (List Tok)) → (length ss ≡ 0 → ⊥) → filled len m ss ≡ deep m (reverse ss)
some len m [] q = absurd (q refl)
some len m (t ∷ ts) q = refl

module _ {l r : Lexed} {d m n : ℕ} (x : SplitsTo l r d m n) where
  -- slices where none is open
  filled-counted : (len : Bool) → (n ≡ 0 → ⊥) → survey_of_slices (filled len m x.ss) ≡ pick (ltb depth_limit m) (Refused TooDeep 0) (found n)
  filled-counted len h =
      ap survey_of_slices (some len m x.ss (λ q. h (sym x.count ∙ q)))
      ∙ deep-counted m n (reverse x.ss) (all-reverse Full x.ss x.full) (length-reverse x.ss ∙ x.count)

  -- none
  filled_none : (len : Bool) → n ≡ 0 → filled len m x.ss ≡ filled len m []
  filled_none len h = ap (filled len m) (none x.ss (x.count ∙ h))
    where
      none : (ss : List (List Tok)) → length ss ≡ 0 → ss ≡ []
      none [] e = refl
      none (t ∷ ts) e = absurd (omega arith)

module _ {s : List ℕ} {l : Lexed} {d m n : ℕ} {stop : Stop} (x : SplitIs s l d m n stop) where
  -- ---- lenient

  shut-as : d ≡ 0 → (p : Stop) → stop ≡ p → split_by_gametree true l.toks ≡ filled true m x.splits.ss
  shut-as z p e = ap (sliced true) (x.splits.same true ∙ ap (λ (q : Stop). split true (splitting d m x.splits.cur x.splits.ss) (left_at s q).toks) e) ∙ ap (λ (k : ℕ). sliced true (split true (splitting k m x.splits.cur x.splits.ss) (left_at s p).toks)) z ∙ go p
    where
      go : (p : Stop) → sliced true (split true (splitting 0 m x.splits.cur x.splits.ss) (left_at s p).toks) ≡ filled true m x.splits.ss
      go (stop_end i) = ap (sliced true) (over-stays true m x.splits.ss (lex_at s (i + 1)).toks)
      go (stop_fault f i) = refl
      go Done = refl

  pub lenient-empty : d ≡ 0 → n ≡ 0 → survey_of true l ≡ Empty
  lenient-empty z h = ap survey_of_slices (shut-as z stop refl ∙ filled_none x.splits true h)

  pub lenient-slices : d ≡ 0 → (n ≡ 0 → ⊥) → survey_of true l ≡ pick (ltb depth_limit m) (Refused TooDeep 0) (found n)
  lenient-slices z h = ap survey_of_slices (shut-as z stop refl) ∙ filled-counted x.splits true h

  pub lenient-open : (d ≡ 0 → ⊥) → survey_of true l ≡ pick (ltb depth_limit m) (Refused TooDeep 0) (found (n + 1))
  lenient-open h =
      ap (λ (y : Splitting). survey_of_slices (sliced true y)) (x.splits.same true ∙ left stop x.stops)
      ∙ open-counted d h x.splits.begun
    where
      left : (p : Stop) → StopsAt s d p → split true (splitting d m x.splits.cur x.splits.ss) (left_at s p).toks ≡ splitting d m x.splits.cur x.splits.ss
      left (stop_end i) z = absurd (h z.0)
      left (stop_fault f i) z = refl
      left Done z = refl

      open-counted : (k : ℕ) → (k ≡ 0 → ⊥) → k ≤ length x.splits.cur → survey_of_slices (sliced true (splitting k m x.splits.cur x.splits.ss)) ≡ pick (ltb depth_limit m) (Refused TooDeep 0) (found (n + 1))
      open-counted zero h b = absurd (h refl)
      open-counted (suc k) h b =
          let c = x.splits.count in
          let v = length-reverse x.splits.cur in
          let w = length-reverse (reverse x.splits.cur ∷ x.splits.ss) in
          deep-counted m (n + 1) (reverse (reverse x.splits.cur ∷ x.splits.ss))
          (all-reverse Full (reverse x.splits.cur ∷ x.splits.ss) (omega arith, x.splits.full)) (omega arith)

-- ---- strict

module _ {s : List ℕ} {l : Lexed} {d m n i : ℕ} (x : SplitIs s l d m n (stop_end i)) where
  pub strict-end : {y : Survey} → y ≡ survey_strict (lex_at s (i + 1)).end (no UnexpectedGameTreeEnd) → y ≡ survey_of false l
  strict-end e =
      e
      ∙ ap (λ (z : End). survey_strict z (no UnexpectedGameTreeEnd)) (sym x.splits.ends)
      ∙ ap (λ (z : Splitting). survey_strict l.end (sliced false z))
      (sym (x.splits.same false ∙ ap (λ (k : ℕ). split false (splitting k m x.splits.cur x.splits.ss) (left_at s (stop_end i)).toks) x.stops.0 ∙ wrong_stays false UnexpectedGameTreeEnd (lex_at s (i + 1)).toks))

pub strict-fault : {s : List ℕ} {l : Lexed} {d m n i : ℕ} {f : Fault} → SplitIs s l d m n (stop_fault f i) → Refused (reason_of f) i ≡ survey_of false l
strict-fault {l = l} x = ap (λ (z : End). survey_strict z (split_by_gametree false l.toks)) (sym x.splits.ends)

module _ {s : List ℕ} {l : Lexed} {d m n : ℕ} (x : SplitIs s l d m n Done) where
  done-as : survey_of false l ≡ survey_of_slices (sliced false (splitting d m x.splits.cur x.splits.ss))
  done-as =
      ap (λ (z : End). survey_strict z (split_by_gametree false l.toks)) x.splits.ends
      ∙ ap (λ (z : Splitting). survey_of_slices (sliced false z)) (x.splits.same false)

  pub strict-open : (d ≡ 0 → ⊥) → survey_of false l ≡ Refused UnexpectedEndOfData 0
  strict-open h = done-as ∙ go d h
    where
      go : (k : ℕ) → (k ≡ 0 → ⊥) → survey_of_slices (sliced false (splitting k m x.splits.cur x.splits.ss)) ≡ Refused UnexpectedEndOfData 0
      go zero h = absurd (h refl)
      go (suc k) h = refl

  module _ (z : d ≡ 0) where
    shut : survey_of false l ≡ survey_of_slices (filled false m x.splits.ss)
    shut = done-as ∙ ap (λ (k : ℕ). survey_of_slices (sliced false (splitting k m x.splits.cur x.splits.ss))) z

    pub strict_none : n ≡ 0 → survey_of false l ≡ Refused NoGameTrees 0
    strict_none h = shut ∙ ap survey_of_slices (filled_none x.splits false h)

    pub strict-slices : (n ≡ 0 → ⊥) → survey_of false l ≡ pick (ltb depth_limit m) (Refused TooDeep 0) (found n)
    strict-slices h = shut ∙ filled-counted x.splits false h
