-- Splitting where the pass stops, against the definition. Assumes nothing.
use Rattle.lists.proofs.Prelude.{ℕ, zero, suc, ◌+◌, ◌≤◌, ◌<◌, ◌≡◌, refl, sym, ap, ◌∙◌, Bool, true, false, false≢true, List, [], ◌∷◌, ◌++◌, append_assoc, reverse, reverse-cons, arith, length, length-reverse, drop, drop-append-add, ltb, pick}
use Rattle.lexer.specs.Token.{Tok, end, End, done, Lexed, lexed, lex_at}
use Rattle.tables.specs.Numbers.{depth_limit}
use Rattle.tables.specs.declared.Reason.TheVariants.{UnexpectedGameTreeEnd}
use Rattle.parser.specs.Split.{splitting, over, wrong, splits, split}
use Rattle.parser.proofs.Surveys.{wrong_stays, over-stays}
use Rattle.why_blame.specs.Blame.{blame, split_wrong, blame_place}
use Rattle.why_blame.specs.Cuts.{wrong_at, deep_at, sliced_tokens, first_place, loose, cut_deep, cut_slices, cutting, cut_tokens}
use Rattle.why_blame.specs.LocalsCuts.{unsplit, Seen, StopsBy}
use Rattle.why_blame.specs.declared.Fact.TheVariants.{EndBeyond, StaysOpen, NoEnd, TooDeep}
use Rattle.why_blame.proofs.Cuts.{sliced-snoc}
use Rattle.std.specs.Prelude.{Ok, Err, Result}
use Rattle.tables.specs.Refusals.{refusal}
use Rattle.why_blame.specs.declared.Fact.{Fact}
use Rattle.tables.specs.declared.Refusal.{Refusal}

drop-front : (xs ys : List Tok) → drop (length xs) (xs ++ ys) ≡ ys
drop-front xs ys = let e : length xs ≡ length xs + 0 = omega arith in ap (λ (k : ℕ). drop k (xs ++ ys)) e ∙ drop-append-add xs ys 0

none_left : (ss : List (List Tok)) → length ss ≡ 0 → ss ≡ []
none_left [] e = refl
none_left (s ∷ ss) e = absurd (omega arith)

some_left : (len : Bool) (n : ℕ) (l : Lexed) (m : ℕ) (ss : List (List Tok)) → (length ss ≡ 0 → ⊥) → cut_slices len n l m ss ≡ cut_deep len n l m (reverse ss)
some_left len n l m [] h = absurd (h refl)
some_left len n l m (s ∷ ss) h = refl

first-front : (n : ℕ) (xs ys : List Tok) (e f : End) → 0 < length xs → first_place n xs e ≡ first_place n (xs ++ ys) f
first-front n [] ys e f h = absurd (omega arith)
first-front n (x ∷ xs) ys e f h = refl

module _ {u : List ℕ} {from at d m n behind deep : ℕ} (x : Seen u from at d m n behind deep) (size : ℕ) where
  abbrev L : Lexed
  L = lex_at u from

  -- where the next token is looked for, and behind the slices
  abbrev Here : ℕ
  Here = first_place size (lex_at u at).toks (lex_at u at).end

  abbrev Behind : ℕ
  Behind = first_place size (lex_at u behind).toks (lex_at u behind).end

  loose-by : (ss : List (List Tok)) (l : Lexed) → L.toks ≡ sliced_tokens ss ++ l.toks → L.end ≡ l.end → loose size ss L ≡ first_place size l.toks l.end
  loose-by ss l e q =
      ap (λ (z : List Tok). first_place size (drop (length (sliced_tokens ss)) z) L.end) e
      ∙ ap (λ (z : List Tok). first_place size z L.end) (drop-front (sliced_tokens ss) l.toks)
      ∙ ap (first_place size l.toks) q

  loose-shut : loose size (reverse x.ss) L ≡ Behind
  loose-shut = loose-by (reverse x.ss) (lex_at u behind) x.parts (x.ends ∙ sym (ap (λ (z : Lexed). z.end) x.opens))

  loose_open : loose size (reverse (reverse x.cur ∷ x.ss)) L ≡ Here
  loose_open =
      loose-by (reverse (reverse x.cur ∷ x.ss)) (lex_at u at)
      (x.parts
      ∙ ap (λ (z : Lexed). sliced_tokens (reverse x.ss) ++ z.toks) x.opens
      ∙ sym (append_assoc (sliced_tokens (reverse x.ss)) (reverse x.cur) (lex_at u at).toks)
      ∙ ap (λ (z : List Tok). z ++ (lex_at u at).toks) (sym (ap sliced_tokens (reverse-cons (reverse x.cur) x.ss) ∙ sliced-snoc (reverse x.ss) (reverse x.cur))))
      x.ends

  -- by the depth
  deep-by : (len : Bool) (ss : List (List Tok)) {k q : ℕ} → length ss ≡ k → loose size ss L ≡ q → pick (ltb depth_limit m) (Err (refusal TooDeep deep)) (Ok (k, q)) ≡ cut_deep len size L m ss
  deep-by len ss {k} {q} e f = go (ltb depth_limit m) refl
    where
      go : (b : Bool) → ltb depth_limit m ≡ b → pick {A = Result (ℕ × ℕ) (Refusal Fact)} b (Err (refusal TooDeep deep)) (Ok (k, q)) ≡ pick b (Err (refusal TooDeep (deep_at len L.toks))) (Ok (length ss, loose size ss L))
      go true h = ap (λ (z : ℕ). Err (refusal TooDeep z)) (sym (x.deep_is len h))
      go false h = ap (λ (z : ℕ). Ok (z, q)) (sym e) ∙ ap (λ (z : ℕ). Ok ((length ss), z)) (sym f)

  -- no slice is open
  slices-by : (len : Bool) → (n ≡ 0 → ⊥) → pick (ltb depth_limit m) (Err (refusal TooDeep deep)) (Ok (n, Behind)) ≡ cut_slices len size L m x.ss
  slices-by len h =
      deep-by len (reverse x.ss) (length-reverse x.ss ∙ x.count) loose-shut
      ∙ sym (some_left len size L m x.ss (λ z. h (sym x.count ∙ z)))

  lenient-none : n ≡ 0 → Ok (0, Behind) ≡ cut_slices true size L m x.ss
  lenient-none h =
      let e = none_left x.ss (x.count ∙ h) in
      ap (λ (z : ℕ). Ok (0, z)) (sym (ap (λ (z : List (List Tok)). loose size (reverse z) L) (sym e) ∙ loose-shut)) ∙ ap (cut_slices true size L m) (sym e)

  strict_none : n ≡ 0 → Err (refusal NoEnd 0) ≡ cut_slices false size L m x.ss
  strict_none h = ap (cut_slices false size L m) (sym (none_left x.ss (x.count ∙ h)))

  -- ---- no token is left

  module _ (h : (lex_at u at).toks ≡ []) where
    ended-as : (len : Bool) → cut_tokens len size L ≡ cutting len size L (splitting d m x.cur x.ss)
    ended-as len = ap (cutting len size L) (x.same len ∙ ap (split len (splitting d m x.cur x.ss)) h)

    ended-shut : (len : Bool) → d ≡ 0 → cut_tokens len size L ≡ cut_slices len size L m x.ss
    ended-shut len z = ended-as len ∙ ap (λ (k : ℕ). cutting len size L (splitting k m x.cur x.ss)) z

    open-lenient : (k : ℕ) → (k ≡ 0 → ⊥) → cut_deep true size L m (reverse (reverse x.cur ∷ x.ss)) ≡ cutting true size L (splitting k m x.cur x.ss)
    open-lenient zero g = absurd (g refl)
    open-lenient (suc k) g = refl

    pub cut-open-lenient : (d ≡ 0 → ⊥) → pick (ltb depth_limit m) (Err (refusal TooDeep deep)) (Ok (n + 1, Here)) ≡ cut_tokens true size L
    cut-open-lenient g =
        let c = x.count in
        let r = length-reverse (reverse x.cur ∷ x.ss) in
        deep-by true (reverse (reverse x.cur ∷ x.ss)) (omega arith) loose_open ∙ open-lenient d g ∙ sym (ended-as true)

    open-strict : (k : ℕ) (q : ℕ) → (k ≡ 0 → ⊥) → q ≡ first_place 0 (reverse x.cur) done → Err (refusal (StaysOpen k) q) ≡ cutting false size L (splitting k m x.cur x.ss)
    open-strict zero q g e = absurd (g refl)
    open-strict (suc k) q g e = ap (λ (z : ℕ). Err (refusal (StaysOpen (suc k)) z)) e

    pub cut-open-strict : (d ≡ 0 → ⊥) → Err (refusal (StaysOpen d) (first_place 0 (lex_at u behind).toks (lex_at u behind).end)) ≡ cut_tokens false size L
    cut-open-strict g =
        let b = x.begun in
        let r = length-reverse x.cur in
        open-strict d _ g
        (ap (λ (z : Lexed). first_place 0 z.toks z.end) x.opens
        ∙ sym (first-front 0 (reverse x.cur) (lex_at u at).toks done (lex_at u at).end (lt-some d g b r)))
        ∙ sym (ended-as false)
      where
        lt-some : (k : ℕ) → (k ≡ 0 → ⊥) → k ≤ length x.cur → length (reverse x.cur) ≡ length x.cur → 0 < length (reverse x.cur)
        lt-some zero g b r = absurd (g refl)
        lt-some (suc k) g b r = omega arith

  -- ---- an end at depth 0

  module _ {i : ℕ} (z : d ≡ 0) (q : lex_at u at ≡ lexed (end i ∷ []) (lex_at u (i + 1))) where
    beyond-as : (len : Bool) → split len unsplit L.toks ≡ split len (pick len (over m x.ss) (wrong UnexpectedGameTreeEnd)) (lex_at u (i + 1)).toks
    beyond-as len =
        x.same len ∙ ap (λ (l : Lexed). split len (splitting d m x.cur x.ss) l.toks) q
        ∙ ap (λ (k : ℕ). split len (splitting k m x.cur x.ss) (end i ∷ (lex_at u (i + 1)).toks)) z

    over-as : cut_tokens true size L ≡ cut_slices true size L m x.ss
    over-as = ap (cutting true size L) (beyond-as true ∙ over-stays true m x.ss (lex_at u (i + 1)).toks)

    wrong-place : wrong_at L.toks ≡ i
    wrong-place =
        ap blame_place (x.wrongs ∙ ap (λ (l : Lexed). blame (splits false) split_wrong (splitting d m x.cur x.ss) x.pre l.toks) q
        ∙ ap (λ (k : ℕ). blame (splits false) split_wrong (splitting k m x.cur x.ss) x.pre (end i ∷ (lex_at u (i + 1)).toks)) z)
        ∙ ap (λ (k : ℕ). i) z

    pub cut-beyond : Err (refusal EndBeyond (first_place 0 (lex_at u at).toks (lex_at u at).end)) ≡ cut_tokens false size L
    cut-beyond =
        ap (λ (z : ℕ). Err (refusal EndBeyond z)) (ap (λ (l : Lexed). first_place 0 l.toks l.end) q ∙ sym wrong-place)
        ∙ sym (ap (cutting false size L) (beyond-as false ∙ wrong_stays false UnexpectedGameTreeEnd (lex_at u (i + 1)).toks))

  -- ---- by where the pass stops

  shut_by : (b len : Bool) → StopsBy b u at d → d ≡ 0 → (b ≡ true → len ≡ true) → cut_tokens len size L ≡ cut_slices len size L m x.ss
  shut_by true true s z h = over-as s.0 s.1.1
  shut_by true false s z h = absurd (false≢true (h refl))
  shut_by false len s z h = ended-shut s len z

  module _ {b len : Bool} (s : StopsBy b u at d) (h : b ≡ true → len ≡ true) (z : d ≡ 0) where
    pub cut-shut : (n ≡ 0 → ⊥) → pick (ltb depth_limit m) (Err (refusal TooDeep deep)) (Ok (n, Behind)) ≡ cut_tokens len size L
    cut-shut g = slices-by len g ∙ sym (shut_by b len s z h)

    pub cut-none-lenient : n ≡ 0 → len ≡ true → Ok (0, Behind) ≡ cut_tokens len size L
    cut-none-lenient g e = lenient-none g ∙ sym (ap (λ (l : Bool). cut_slices l size L m x.ss) e) ∙ sym (shut_by b len s z h)

    pub cut-none-strict : n ≡ 0 → len ≡ false → Err (refusal NoEnd 0) ≡ cut_tokens len size L
    cut-none-strict g e = strict_none g ∙ sym (ap (λ (l : Bool). cut_slices l size L m x.ss) e) ∙ sym (shut_by b len s z h)

-- an open slice is not stopped by an end
pub stops-open : (b : Bool) (u : List ℕ) (at d : ℕ) → StopsBy b u at d → (d ≡ 0 → ⊥) → (lex_at u at).toks ≡ []
stops-open true u at d s h = absurd (h s.0)
stops-open false u at d s h = s
