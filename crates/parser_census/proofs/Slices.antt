-- A census that says `Simple` counts the slices of the text, no token of them is too deep, and none stands outside of them. Assumes nothing.
use Rattle.lists.proofs.Prelude.{ℕ, zero, suc, ◌+◌, ◌≤◌, ◌<◌, max, ◌≡◌, refl, sym, ap, ◌∙◌, subst, Bool, true, false, List, [], ◌∷◌, reverse, arith, add-one, length, length-reverse, le-ltb, pick}
use Rattle.lists.specs.All.{All}
use Rattle.lists.proofs.All.{all-reverse}
use Rattle.lists.specs.Same.{same}
use Rattle.lexer.specs.Token.{Tok, start, end, node, prop, End, done, Lexed}
use Rattle.tables.specs.Numbers.{depth_limit}
use Rattle.tables.specs.declared.Reason.TheVariants.{TooDeep}
use Rattle.parser.specs.Game.{GM}
use Rattle.parser.specs.Split.{Splitting, splitting, split, no, slices, filled, sliced, split_by_gametree}
use Rattle.parser.specs.LocalsSurvey.{found_as, survey_of_slices, survey_strict, survey_of}
use Rattle.parser.specs.declared.Survey.TheVariants.{Slices as found}
use Rattle.parser_census.specs.LocalsCensus.{on_start, on_end, on_last, on_node, on_prop, census_of}
use Rattle.parser_census.specs.declared.Mode.{Mode}
use Rattle.parser_census.specs.declared.Mode.TheVariants.{Outside, Odd}
use Rattle.parser_census.proofs.Levels.{Level, level-start, level-end, level-last, level-node, level-prop, level-zero}
use Rattle.parser_census.proofs.Odds.{Says, odd-mode, says-start, says_last, says-end, says_none}
use Rattle.std.specs.Prelude.{Some}

abbrev Full-slice : List Tok → Type 0
Full-slice x = 0 < length x

module _ (ct cn cp cv : ℕ) (e : End) where
  -- from this state on splitting ends at depth 0 with so many slices, and no token is behind them
  record Ends (d deepest : ℕ) (cur : List Tok) (ss : List (List Tok)) (ts : List Tok) : Type 0 where
    m : ℕ
    all : List (List Tok)
    same : (len : Bool) → split len (splitting d deepest cur ss) ts ≡ splitting 0 m [] all
    low : m ≤ depth_limit
    count : length all ≡ ct
    full : All Full-slice all
    over : e ≡ done
    some : 0 < ct

  -- one token
  ends_on : (tok : Tok) (d deepest d' deepest' : ℕ) (cur cur' : List Tok) (ss ss' : List (List Tok)) (ts : List Tok)
      → ((len : Bool) → split len (splitting d deepest cur ss) (tok ∷ ts) ≡ split len (splitting d' deepest' cur' ss') ts)
      → Ends d' deepest' cur' ss' ts → Ends d deepest cur ss (tok ∷ ts)
  ends_on tok d deepest d' deepest' cur cur' ss ss' ts q x =
      record { m = x.m; all = x.all; same = λ len. q len ∙ x.same len; low = x.low; count = x.count; full = x.full; over = x.over; some = x.some }

  ends : (ts : List Tok) (md : Mode) (d t n p v deepest : ℕ) (cur : List Tok) (ss : List (List Tok)) → Level md d → Says ct cn cp cv e md d t n p v ts
      → deepest ≤ depth_limit → length ss ≡ t → All Full-slice ss → (d ≡ 0 → cur ≡ []) → Ends d deepest cur ss ts
  ends [] md d t n p v deepest cur ss l h b c f g =
      let s = says_none ct cn cp cv e md d t n p v h in
      let z : d ≡ 0 = subst (λ (x : Mode). Level x d) s.0 l in
      record {
        m = deepest;
        all = ss;
        same = λ len. ap (λ (x : ℕ). splitting x deepest cur ss) z ∙ ap (λ (x : List Tok). splitting 0 deepest x ss) (g z);
        low = b;
        count = c ∙ sym s.3;
        full = f;
        over = s.1;
        some = omega (arith, s.2, s.3);
      }
  ends (start o ∷ ts) md d t n p v deepest cur ss l h b c f g =
      let s = says-start ct cn cp cv e md d t n p v o ts h in
      let w = subst (λ (x : ℕ). Says ct cn cp cv e (on_start md) x t n p v ts) (add-one d) s.1 in
      ends_on (start o) d deepest (suc d) (max deepest (suc d)) cur (start o ∷ cur) ss ss ts (λ len. refl)
      (ends ts (on_start md) (suc d) t n p v (max deepest (suc d)) (start o ∷ cur) ss (level-start md d) w (omega (arith, s.0, b)) c f (λ z. absurd (omega (arith, z))))
  ends (end o ∷ ts) md zero t n p v deepest cur ss l h b c f g =
      odd-mode ct cn cp cv e (on_last md) 0 (t + 1) n p v ts (level-zero (λ (x : Mode). on_last x ≡ Odd) refl refl md l) (says_last ct cn cp cv e md 0 t n p v o ts (omega arith) h)
  ends (end o ∷ ts) md (suc zero) t n p v deepest cur ss l h b c f g =
      ends_on (end o) 1 deepest 0 deepest cur [] ss (reverse (end o ∷ cur) ∷ ss) ts (λ len. refl)
      (ends ts (on_last md) 0 (t + 1) n p v deepest [] (reverse (end o ∷ cur) ∷ ss) (level-last md) (says_last ct cn cp cv e md 1 t n p v o ts (omega arith) h) b
      (omega (arith, c)) (omega (arith, length-reverse (end o ∷ cur)), f) (λ z. refl))
  ends (end o ∷ ts) md (suc (suc d)) t n p v deepest cur ss l h b c f g =
      ends_on (end o) (suc (suc d)) deepest (suc d) deepest cur (end o ∷ cur) ss ss ts (λ len. refl)
      (ends ts (on_end md) (suc d) t n p v deepest (end o ∷ cur) ss (level-end md d) (says-end ct cn cp cv e md d t n p v o ts h) b c f (λ z. absurd (omega (arith, z))))
  ends (node o ∷ ts) md d t n p v deepest cur ss l h b c f g =
      ends_on (node o) d deepest d deepest cur (node o ∷ cur) ss ss ts (λ len. refl)
      (ends ts (on_node md) d t (n + 1) p v deepest (node o ∷ cur) ss (level-node md d l) h b c f
      (λ z. odd-mode ct cn cp cv e (on_node md) d t (n + 1) p v ts (level-zero (λ (x : Mode). on_node x ≡ Odd) refl refl md (subst (Level md) z l)) h))
  ends (prop q o ∷ ts) md d t n p v deepest cur ss l h b c f g =
      ends_on (prop q o) d deepest d deepest cur (prop q o ∷ cur) ss ss ts (λ len. refl)
      (ends ts (on_prop md (same q.name GM) q.vals) d t n (p + 1) (v + length q.vals) deepest (prop q o ∷ cur) ss (level-prop q.vals md (same q.name GM) d l) h b c f
      (λ z. odd-mode ct cn cp cv e (on_prop md (same q.name GM) q.vals) d t n (p + 1) (v + length q.vals) ts
      (level-zero (λ (x : Mode). on_prop x (same q.name GM) q.vals ≡ Odd) refl refl md (subst (Level md) z l)) h))

-- ---- what the first pass over the tokens finds

found_all : (us : List (List Tok)) → All Full-slice us → found_as us ≡ found (length us)
found_all [] h = refl
found_all ([] ∷ []) h = absurd (omega (arith, h.0))
found_all ((t ∷ ts) ∷ []) h = refl
found_all (s ∷ u ∷ us) h = refl

filled-found : (len : Bool) (m : ℕ) (us : List (List Tok)) → m ≤ depth_limit → 0 < length us → All Full-slice us → survey_of_slices (filled len m us) ≡ found (length us)
filled-found len m [] b h f = absurd (omega (arith, h))
filled-found len m (s ∷ us) b h f =
    ap (λ (z : Bool). survey_of_slices (pick z (no TooDeep) (slices (reverse (s ∷ us))))) (le-ltb depth_limit m b)
    ∙ found_all (reverse (s ∷ us)) (all-reverse Full-slice (s ∷ us) f)
    ∙ ap found (length-reverse (s ∷ us))

module _ (l : Lexed) (ct cn cp cv : ℕ) (h : census_of l ≡ Some (ct, cn, cp, cv)) where
  all_end : Ends ct cn cp cv l.end 0 0 [] [] l.toks
  unfolding census_of
  all_end = ends ct cn cp cv l.end l.toks Outside 0 0 0 0 0 0 [] [] refl h (omega arith) refl tt (λ z. refl)

  sliced-found : (len : Bool) → survey_of_slices (split_by_gametree len l.toks) ≡ found ct
  sliced-found len =
      ap (λ (z : Splitting). survey_of_slices (sliced len z)) (all_end.same len)
      ∙ filled-found len all_end.m all_end.all all_end.low (omega (arith, all_end.count, all_end.some)) all_end.full
      ∙ ap found all_end.count

  -- so many slices are found, strict or lenient
  pub census-found : (len : Bool) → survey_of len l ≡ found ct
  census-found true = sliced-found true
  census-found false = ap (λ (z : End). survey_strict z (split_by_gametree false l.toks)) all_end.over ∙ sliced-found false

  -- no token has a fault, and the last one ends the last slice
  pub census-shut : (l.end ≡ done) × ((len : Bool) → (m : ℕ) × (all : List (List Tok)) × (split len (splitting 0 0 [] []) l.toks ≡ splitting 0 m [] all))
  census-shut = (all_end.over, λ len. (all_end.m, all_end.all, all_end.same len))
