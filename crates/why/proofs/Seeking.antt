-- What is found of a text before its rows are counted is its explanation. Assumes nothing.
use Rattle.lists.proofs.Prelude.{ℕ, ◌≤◌, ◌≡◌, refl, sym, ap, ◌∙◌, subst, subst⁻¹, Bool, true, false, List, [], ◌∷◌, length, take, drop, ltb, pick, reverse, ap₂}
use Rattle.lists.proofs.Tests.{never}
use Rattle.text_utf8.specs.Trim.{trimmed}
use Rattle.text_utf8.specs.declared.Trimmed.TheVariants.{Blank, Kept}
use Rattle.lexer.specs.Token.{Tok, done, Lexed, lex_at}
use Rattle.tables.specs.Numbers.{text_limit, depth_limit}
use Rattle.tables.specs.Lenient.{as_reading}
use Rattle.tables.specs.declared.Counts.{Counts}
use Rattle.tables.specs.declared.LenientRefusal.TheVariants.{TextTooLong, NotUtf8, TooDeep as too_deep, NoRoom}
use Rattle.parser.specs.Split.{Splitting}
use Rattle.parser.specs.Read.{Answer, refused, accepted, read}
use Rattle.parser_census.specs.LocalsCensus.{census_of}
use Rattle.parser_census.proofs.Slices.{census-shut}
use Rattle.reader.specs.Lent.{rows_counted}
use Rattle.reader.proofs.Whole.{count-as, count-accepted}
use Rattle.reader.proofs.Simple.{KnownIs, known-plan, known-ready}
use Rattle.why_blame.specs.Cuts.{deep_at, sliced_tokens, first_place, loose, cut_slices, cutting, cut_tokens}
use Rattle.why_blame.proofs.Held.{none-behind}
use Rattle.why_blame.specs.declared.Fact.{Fact}
use Rattle.why_blame.specs.declared.Fact.TheVariants.{NoEnd, TooDeep}
use Rattle.why.specs.Why.{kept_blame, text_blame, cut_loose, trim_loose, explained_by, explained}
use Rattle.why.specs.LocalsSought.{sought_by, sought_in, SoughtIs}
use Rattle.why.specs.declared.Sought.{Sought}
use Rattle.why.specs.declared.Sought.TheVariants.{Simple, Sound, Wrong}
use Rattle.why.proofs.Trees.{Agree}
use Rattle.why.proofs.Agrees.{text-agrees}
use Rattle.why.proofs.Texts.{text-short}
use Rattle.std.specs.Prelude.{Option, Some, None, Result, Ok, Err}
use Rattle.tables.specs.Refusals.{refusal}
use Rattle.tables.specs.declared.LenientRefusal.{LenientRefusal}
use Rattle.tables.specs.declared.Reason.{Reason}
use Rattle.tables.specs.declared.Refusal.{Refusal}
use Rattle.tables.proofs.Refusals.{some-refusal}

-- ---- a census that counts the rows leaves no token outside of the slices

module _ (n : ℕ) (l : Lexed) (q : l.end ≡ done) where
  loose_none : (ss : List (List Tok)) → drop (length (sliced_tokens ss)) l.toks ≡ [] → loose n ss l ≡ n
  loose_none ss d = ap (λ (z : List Tok). first_place n z l.end) d ∙ ap (first_place n []) q

  slices-none : (len : Bool) (m : ℕ) (ss : List (List Tok)) → drop (length (sliced_tokens (reverse ss))) l.toks ≡ [] → cut_loose n (cut_slices len n l m ss) ≡ n
  slices-none true m [] d = loose_none [] d
  slices-none false m [] d = refl
  slices-none len m (s ∷ ss) d = go (ltb depth_limit m)
    where
      go : (b : Bool) → cut_loose n (pick b (Err (refusal TooDeep (deep_at len l.toks))) (Ok (length (reverse (s ∷ ss)), loose n (reverse (s ∷ ss)) l))) ≡ n
      go true = refl
      go false = loose_none (reverse (s ∷ ss)) d

census-loose : (len : Bool) (n : ℕ) (l : Lexed) (c : Counts) → census_of l ≡ Some (c.trees, c.nodes, c.properties, c.values) → cut_loose n (cut_tokens len n l) ≡ n
census-loose len n l c h =
    let w = census-shut l c.trees c.nodes c.properties c.values h in
    let s = w.1 len in
    ap (λ (x : Splitting). cut_loose n (cutting len n l x)) s.2 ∙ slices-none n l w.0 len s.0 s.1 (none-behind len l.toks s.2)

module _ (len : Bool) (t : List ℕ) where
  -- ---- counted by the census

  known-told : {f l : ℕ} {c : Counts} → KnownIs t f l c → explained len t ≡ Ok (c, length t)
  known-told {f} {l} {c} k =
      ap (λ (z : Result Counts (Refusal Reason)). explained_by z (text_blame len t) (trim_loose len t (trimmed t))) (sym (count-as (known-plan k len).0 (count-accepted (known-ready k len).counted)))
      ∙ ap (λ (z : ℕ). Ok (c, z)) (ap (trim_loose len t) k.kept ∙ census-loose len (length t) (lex_at (take l t) f) c k.says)

  -- ---- by what is to blame

  by-sought : (b : Option (Refusal Fact)) (q : ℕ) → text_blame len t ≡ b → trim_loose len t (trimmed t) ≡ q → SoughtIs len t (sought_by b q)
  by-sought None q e f = (e, f)
  by-sought (Some r) q e f = e

  pub kept-sought : length t ≤ text_limit → {f l : ℕ} → trimmed t ≡ Kept f l → {r : Sought}
      → r ≡ sought_in (census_of (lex_at (take l t) f)) (length t) (sought_by (kept_blame len t f l) (cut_loose (length t) (cut_tokens len (length t) (lex_at (take l t) f)))) → SoughtIs len t r
  kept-sought s {f} {l} k {r} e = subst⁻¹ (SoughtIs len t) e (go (census_of (lex_at (take l t) f)) refl)
    where
      go : (x : Option (ℕ × ℕ × ℕ × ℕ)) → census_of (lex_at (take l t) f) ≡ x → SoughtIs len t (sought_in x (length t) (sought_by (kept_blame len t f l) (cut_loose (length t) (cut_tokens len (length t) (lex_at (take l t) f)))))
      go (Some (c, n, p, v)) h = known-told (record { short = s; kept = k; says = h })
      go None h = by-sought (kept_blame len t f l) _ (text-short len t s k) (ap (trim_loose len t) k)

  blank-loose : (b : Bool) → sought_by (kept_blame b t 0 0) (cut_loose (length t) (cut_tokens b (length t) (lex_at [] 0))) ≡ sought_by (kept_blame b t 0 0) (length t)
  unfolding lex_at
  blank-loose true = refl
  blank-loose false = refl

  pub blank-sought : length t ≤ text_limit → trimmed t ≡ Blank → {r : Sought} → r ≡ sought_by (kept_blame len t 0 0) (cut_loose (length t) (cut_tokens len (length t) (lex_at [] 0))) → SoughtIs len t r
  blank-sought s k {r} e = subst⁻¹ (SoughtIs len t) (e ∙ blank-loose len) (by-sought (kept_blame len t 0 0) (length t) (text-short len t s k) (ap (trim_loose len t) k))

  -- ---- what the code was told

  -- something is to blame: the reading is refused
  pub wrong-told : {x : Sought} {f : Fact} {p : ℕ} → SoughtIs len t x → x ≡ Wrong f p → Err (refusal f p) ≡ explained len t
  wrong-told {x} {f} {p} h e = go (read len t) (text_blame len t) (text-agrees len t) (subst (SoughtIs len t) e h)
    where
      go : (a : Answer) (b : Option (Refusal Fact)) → Agree a b → b ≡ Some (refusal f p) → Err (refusal f p) ≡ explained_by (rows_counted a) b (trim_loose len t (trimmed t))
      go (refused r o) None g q = absurd g
      go (refused r o) (Some e) g q = let z = some-refusal {r = e.reason} {p = e.place} q in ap₂ (λ (x : Fact) (y : ℕ). Err (refusal x y)) (sym z.0) (sym z.1)
      go (accepted ts) None g q = never cc
      go (accepted ts) (Some e) g q = absurd g

  pub simple-told : {x : Sought} {c : Counts} {q : ℕ} → SoughtIs len t x → x ≡ Simple c q → Ok (c, q) ≡ explained len t
  simple-told h e = sym (subst (SoughtIs len t) e h)

  -- nothing is to blame: the counts
  pub sound-told : {x : Sought} {q : ℕ} → SoughtIs len t x → x ≡ Sound q → {r y : Result Counts (Refusal Reason)} → r ≡ rows_counted (read len t) → r ≡ y → explained_by y None q ≡ explained len t
  sound-told {x} {q} h e {r} {y} c g =
      let w = subst (SoughtIs len t) e h in
      ap (λ (z : Result Counts (Refusal Reason)). explained_by z None q) (sym g ∙ c)
      ∙ ap (λ (b : Option (Refusal Fact)). explained_by (rows_counted (read len t)) b q) (sym w.0)
      ∙ ap (explained_by (rows_counted (read len t)) (text_blame len t)) (sym w.1)

-- a lenient reading that is not accepted
pub mild-refused : (x : LenientRefusal) (q : ℕ) → Err (refusal NoEnd 0) ≡ explained_by (as_reading (Err x)) None q
mild-refused TextTooLong q = refl
mild-refused (NotUtf8 p) q = refl
mild-refused too_deep q = refl
mild-refused NoRoom q = refl
