-- What is explained by a fact is so in the scope's words, with the number in the fact and the place, and nothing earlier applies. Assumes nothing.
use Rattle.lists.proofs.Prelude.{ℕ, zero, suc, ◌+◌, ◌≤◌, ◌<◌, ◌≡◌, refl, sym, ap, ◌∙◌, subst, subst⁻¹, Bool, true, false, List, [], ◌∷◌, reverse, arith, length, length-take-le, take, drop, ltb, ltb-true, ltb-false, pick, ap₂}
use Rattle.lists.proofs.Tests.{never}
use Rattle.lists.specs.All.{All}
use Rattle.text_utf8.specs.Trim.{trimmed}
use Rattle.text_utf8.specs.declared.Trimmed.{Trimmed}
use Rattle.text_utf8.specs.declared.Trimmed.TheVariants.{NotUtf8, Blank, Kept}
use Rattle.text_utf8.proofs.Extent.{trim-bounds}
use Rattle.text_utf8.proofs.WellFormed.{trimmed-bad, trimmed-well-formed}
use Rattle.lexer.specs.Token.{Tok, End, done, broken, Lexed, lex_at}
use Rattle.lexer.specs.declared.Fault.{Fault}
use Rattle.lexer.specs.declared.Fault.TheVariants.{MissingPropertyIdentifier, UnexpectedEndOfPropertyIdentifier, UnexpectedEndOfPropertyValue}
use Rattle.lexer_laws.proofs.Faults.{fault-only}
use Rattle.tables.specs.Numbers.{text_limit, depth_limit}
use Rattle.parser.specs.Split.{Splitting, splitting, over, wrong, split}
use Rattle.parser.specs.Read.{Answer, refused, accepted, read}
use Rattle.parser.specs.Balance.{starts, ends}
use Rattle.parser.proofs.Balanced.{Comes, comes}
use Rattle.reader.specs.Lent.{rows_counted}
use Rattle.reader_exactly.specs.When.{Valid, tokens_in, tokens_of, FailsAt, Lexes}
use Rattle.why_blame.specs.Blame.{split_wrong, is_deep}
use Rattle.why_blame.specs.Cuts.{fault_fact, deep_at, loose, cut_deep, cut_slices, cutting}
use Rattle.why_blame.specs.declared.Fact.{Fact}
use Rattle.why_blame.specs.declared.Fact.TheVariants.{Length, BadSequence, TooDeep}
use Rattle.why.specs.Why.{cut_blame, tokens_blame, kept_blame, trim_blame, text_blame, trim_loose, explained_by, explained}
use Rattle.why.proofs.Trees.{Agree}
use Rattle.why.proofs.Agrees.{text-agrees}
use Rattle.why_says.specs.Says.{FactSays}
use Rattle.why_says.specs.Clear.{Clear, LenientClear}
use Rattle.why_says.specs.Scans.{Crossed, StaysUnclosed}
use Rattle.why_says.proofs.Scanned.{refused-scan, fails-property, missing-crossed, meets-foreign, stays-unclosed}
use Rattle.why_says.proofs.Counts.{Counted, Counts, counts}
use Rattle.why_says.proofs.Cuts.{begun, deep-found, wrong-found, open-found}
use Rattle.why_says.proofs.Held.{ClearIn, Held}
use Rattle.why_says.proofs.Trees.{trees-hold}
use Rattle.std.specs.Prelude.{Option, Some, None, Ok, Err}
use Rattle.tables.specs.Refusals.{refusal}
use Rattle.tables.specs.declared.Refusal.{Refusal}
use Rattle.tables.proofs.Refusals.{err-refusal}

module _ (t : List ℕ) where
  abbrev L : Lexed
  L = tokens_of t

  -- ---- faults of the tokens

  abbrev at-fault : (a l : ℕ) → trimmed t ≡ Kept a l → (f : Fault) (s : ℕ) → (lex_at (take l t) a).end ≡ broken f s → FailsAt t f s
  at-fault a l k f s q = let r = fault-only (take l t) a f s q in record { first = a; last = l; at = r.0; kept = k; reached = r.1; fails = r.2 }

  fault-holds : Valid t → (a l : ℕ) → trimmed t ≡ Kept a l → (f : Fault) (s : ℕ) → (lex_at (take l t) a).end ≡ broken f s
      → Held false t (Some (refusal (fault_fact (take l t) f s) s))
  fault-holds v a l k f s q = go f q
    where
      kept : length (take l t) ≡ l
      kept = length-take-le l t (trim-bounds t a l k).1

      same : take (length (take l t)) t ≡ take l t
      same = ap (λ (z : ℕ). take z t) kept

      go : (f : Fault) → (lex_at (take l t) a).end ≡ broken f s → Held false t (Some (refusal (fault_fact (take l t) f s) s))
      go MissingPropertyIdentifier q =
          let x = at-fault a l k MissingPropertyIdentifier s q in
          ((fails-property t x, kept, subst⁻¹ (λ (u : List ℕ). All Crossed (drop s u)) same (missing-crossed (take l t) s (refused-scan (take l t) x.at MissingPropertyIdentifier s x.fails).0)), v)
      go UnexpectedEndOfPropertyIdentifier q =
          let x = at-fault a l k UnexpectedEndOfPropertyIdentifier s q in
          ((fails-property t x, meets-foreign (take l t) s (refused-scan (take l t) x.at UnexpectedEndOfPropertyIdentifier s x.fails).0), v)
      go UnexpectedEndOfPropertyValue q =
          let x = at-fault a l k UnexpectedEndOfPropertyValue s q in
          let y = (refused-scan (take l t) x.at UnexpectedEndOfPropertyValue s x.fails).0 in
          ((fails-property t x, kept, subst⁻¹ (λ (u : List ℕ). StaysUnclosed u s) same (stays-unclosed (take l t) s y.0 y.1 y.2)), v)

  -- ---- splitting

  module _ (n : ℕ) where
    cut-lenient : Valid t → (x : Splitting) → split true begun L.toks ≡ x → Held true t (cut_blame true L.toks (cutting true n L x))
    cut-lenient v x e = go x e
      where
        deep : (m : ℕ) (ss : List (List Tok)) → (ltb depth_limit m ≡ true → is_deep (split true begun L.toks) ≡ true) → Held true t (cut_blame true L.toks (cut_deep true n L m ss))
        deep m ss h = by (ltb depth_limit m) refl
          where
            by : (b : Bool) → ltb depth_limit m ≡ b → Held true t (cut_blame true L.toks (pick b (Err (refusal TooDeep (deep_at true L.toks))) (Ok (length ss, loose n ss L))))
            by true q = (deep-found L.toks true (h q), v)
            by false q = tt

        filled : (m : ℕ) (ss : List (List Tok)) → (ltb depth_limit m ≡ true → is_deep (split true begun L.toks) ≡ true) → Held true t (cut_blame true L.toks (cut_slices true n L m ss))
        filled m [] h = tt
        filled m (s ∷ ss) h = deep m (reverse (s ∷ ss)) h

        go : (x : Splitting) → split true begun L.toks ≡ x → Held true t (cut_blame true L.toks (cutting true n L x))
        go (splitting zero m cur ss) e = filled m ss (λ h. ap is_deep e ∙ h)
        go (splitting (suc d) m cur ss) e = deep m (reverse (reverse cur ∷ ss)) (λ h. ap is_deep e ∙ h)
        go (over m ss) e = filled m ss (λ h. ap is_deep e ∙ h)
        go (wrong r) e = never (let z : true ≡ false = subst (Counts true 0 0 L.toks) e (counts true L.toks 0 0 [] []) in cc)

    cut-strict : Lexes t → (x : Splitting) → split false begun L.toks ≡ x → Held false t (cut_blame false L.toks (cutting false n L x))
    cut-strict l (splitting zero m cur []) e =
        let c : Counted 0 0 L.toks 0 m = subst (Counts false 0 0 L.toks) e (counts false L.toks 0 0 [] []) in
        let k : Comes (ends L.toks) (starts L.toks) 0 0 (splitting zero m cur []) = subst (Comes (ends L.toks) (starts L.toks) 0 0) e (comes L.toks 0 0 [] [] c.covered) in
        ((none (ends L.toks) (starts L.toks) c.count (k.3 refl), refl), (l, c.covered, omega (arith, c.count)))
      where
        none : (e s : ℕ) → 0 + s ≡ 0 + e → (0 < 0 + s → ◌<◌ 0 0) → e ≡ 0
        none zero s q h = refl
        none (suc e) s q h = absurd (omega (arith, h (omega (arith, q))))
    cut-strict l (splitting zero m cur (s ∷ ss)) e = by (ltb depth_limit m) refl
      where
        c : Counted 0 0 L.toks 0 m
        c = subst (Counts false 0 0 L.toks) e (counts false L.toks 0 0 [] [])

        k : Comes (ends L.toks) (starts L.toks) 0 0 (splitting zero m cur (s ∷ ss))
        k = subst (Comes (ends L.toks) (starts L.toks) 0 0) e (comes L.toks 0 0 [] [] c.covered)

        by : (b : Bool) → ltb depth_limit m ≡ b
            → Held false t (cut_blame false L.toks (pick b (Err (refusal TooDeep (deep_at false L.toks))) (Ok (length (reverse (s ∷ ss)), loose n (reverse (s ∷ ss)) L))))
        by true q = (deep-found L.toks false (ap is_deep e ∙ q), (l, record { covered = c.covered; equal = omega (arith, c.count); some = omega (arith, k.2) }))
        by false q = trees-hold t l
    cut-strict l (splitting (suc d) m cur ss) e =
        let c : Counted 0 0 L.toks (suc d) m = subst (Counts false 0 0 L.toks) e (counts false L.toks 0 0 [] []) in
        (open-found L.toks d m cur ss e, (l, c.covered))
    cut-strict l (over m ss) e = never (let z : false ≡ true = (subst (Counts false 0 0 L.toks) e (counts false L.toks 0 0 [] [])).0 in cc)
    cut-strict l (wrong r) e = (wrong-found L.toks (ap split_wrong e), l)

  -- ---- the tokens

  module _ (v : Valid t) (u : List ℕ) where
    tokens-hold : (len : Bool) → ((f : Fault) (s : ℕ) → L.end ≡ broken f s → Held false t (Some (refusal (fault_fact u f s) s)))
        → Held len t (tokens_blame len (length t) u L L.end)
    tokens-hold true h = cut-lenient (length t) v (split true begun L.toks) refl
    tokens-hold false h = go L.end refl
      where
        go : (e : End) → L.end ≡ e → Held false t (tokens_blame false (length t) u L e)
        go done q = cut-strict (length t) (record { valid = v; faultless = q }) (split false begun L.toks) refl
        go (broken f s) q = h f s q

    lexed-hold : (len : Bool) (x : Lexed) → L ≡ x → ((f : Fault) (s : ℕ) → x.end ≡ broken f s → Held false t (Some (refusal (fault_fact u f s) s)))
        → Held len t (tokens_blame len (length t) u x x.end)
    lexed-hold len x e h = subst (λ (z : Lexed). Held len t (tokens_blame len (length t) u z z.end)) e (tokens-hold len (λ f s q. h f s (ap (λ (z : Lexed). z.end) (sym e) ∙ q)))

  blank-holds : (len : Bool) → Valid t → trimmed t ≡ Blank → Held len t (kept_blame len t 0 0)
  unfolding lex_at
  blank-holds len v k = lexed-hold v [] len (lex_at [] 0) (ap (tokens_in t) k) (λ f s q. never cc)

  -- ---- the text

  clear-1 : (len : Bool) (n : ℕ) → ClearIn len t (Length n)
  clear-1 true n = tt
  clear-1 false n = tt

  clear-2 : (len : Bool) → length t ≤ text_limit → ClearIn len t BadSequence
  clear-2 true h = h
  clear-2 false h = h

  module _ (len : Bool) where
    trim-holds : length t ≤ text_limit → (x : Trimmed) → trimmed t ≡ x → Held len t (trim_blame len t x)
    trim-holds h (NotUtf8 p) k = (trimmed-bad t p k, clear-2 len h)
    trim-holds h Blank k = blank-holds len (record { short = h; formed = trimmed-well-formed t (λ p e. let z : Blank ≡ NotUtf8 p = sym k ∙ e in never cc) }) k
    trim-holds h (Kept a l) k =
        let v : Valid t = record { short = h; formed = trimmed-well-formed t (λ p e. let z : Kept a l ≡ NotUtf8 p = sym k ∙ e in never cc) } in
        lexed-hold v (take l t) len (lex_at (take l t) a) (ap (tokens_in t) k) (fault-holds v a l k)

    text-holds : Held len t (text_blame len t)
    text-holds = go (ltb text_limit (length t)) refl
      where
        go : (b : Bool) → ltb text_limit (length t) ≡ b → Held len t (pick b (Some (refusal (Length (length t)) 0)) (trim_blame len t (trimmed t)))
        go true e = ((refl, ltb-true text_limit (length t) e, refl), clear-1 len (length t))
        go false e = trim-holds (ltb-false text_limit (length t) e) (trimmed t) refl

    -- what is explained is what is blamed
    pub why-blamed : {f : Fact} {p : ℕ} → explained len t ≡ Err (refusal f p) → text_blame len t ≡ Some (refusal f p)
    why-blamed {f} {p} e = go (read len t) (text_blame len t) (text-agrees len t) e
      where
        go : (a : Answer) (b : Option (Refusal Fact)) → Agree a b → explained_by (rows_counted a) b (trim_loose len t (trimmed t)) ≡ Err (refusal f p)
            → b ≡ Some (refusal f p)
        go (refused r o) None h q = absurd h
        go (refused r o) (Some e) h w = let z = err-refusal w in ap₂ (λ (x : Fact) (y : ℕ). Some (refusal x y)) z.0 z.1
        go (accepted ts) b h q = never cc

    -- the fact holds of the text, with the number in it and the place
    pub why-says : (f : Fact) (p : ℕ) → explained len t ≡ Err (refusal f p) → FactSays t f p
    why-says f p e = (subst (Held len t) (why-blamed e) text-holds).0

  -- nothing earlier applies
  pub why-clear : (f : Fact) (p : ℕ) → explained false t ≡ Err (refusal f p) → Clear t f
  why-clear f p e = (subst (Held false t) (why-blamed false e) (text-holds false)).1

  -- the same of a lenient explanation: 1, 2, 9 and no other
  pub why-clear-lenient : (f : Fact) (p : ℕ) → explained true t ≡ Err (refusal f p) → LenientClear t f
  why-clear-lenient f p e = (subst (Held true t) (why-blamed true e) (text-holds true)).1
