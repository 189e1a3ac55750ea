-- From what the first pass finds to the definition's answer. Assumes nothing.
use Rattle.lists.proofs.Prelude.{ℕ, ◌≤◌, ◌≡◌, refl, sym, ap, ◌∙◌, subst⁻¹, Bool, true, false, List, [], ◌∷◌, arith, length, take, take-length}
use Rattle.lists.proofs.Tests.{never}
use Rattle.lexer.specs.Token.{End, done, broken, Lexed, lex_at}
use Rattle.tables.specs.Numbers.{text_limit}
use Rattle.tables.specs.declared.Reason.{Reason}
use Rattle.parser.specs.Split.{Slices as Sliced, no, slices, split_by_gametree}
use Rattle.parser.specs.LocalsSlice.{slice_from, rest_from, first_slices, Shallow}
use Rattle.parser.specs.LocalsSurvey.{survey_of_slices, survey_strict, survey_of}
use Rattle.parser.specs.declared.Survey.{Survey}
use Rattle.parser.specs.declared.Survey.TheVariants.{Refused, Slices as found, Empty}
use Rattle.parser.specs.Read.{Answer, refused, answer, parse_slices, parsed, lexing}
use Rattle.parser.proofs.Slices.{slices-cut}
use Rattle.parser.proofs.Tokens.{tokens-few}
use Rattle.reader.specs.Lent.{Lent, ReadIs}
use Rattle.reader.specs.LocalsSlices.{read_of, SlicesReady}
use Rattle.parser_split.specs.LocalsPlans.{plan_found, plan_tokens}
use Rattle.std.specs.Prelude.{Result, Ok, Err}
use Rattle.tables.specs.declared.Counts.{Counts}
use Rattle.tables.specs.declared.Refusal.{Refusal}

-- the answer a is that of these slices of u, or is refused
abbrev pub PlanIs : Bool → (u : List ℕ) → (a : Answer) → Result (ℕ × ℕ × ℕ) (Refusal Reason) → Type 0
PlanIs len u a (Ok (first, last, count)) = (a ≡ answer (read_of len count (lex_at (take last u) first).toks)) × SlicesReady len (take last u) first count × (last ≤ length u)
PlanIs len u a (Err e) = a ≡ refused e.reason e.place

-- the answer of tokens
abbrev pub tokens_answer : Bool → Lexed → Answer
tokens_answer len l = lexing len l.end l.toks

pub read_as : {A B : Answer} → A ≡ B → {b a : Lent} {r : Result Counts (Refusal Reason)} → ReadIs B b a r → ReadIs A b a r
read_as {A} {B} e {b} {a} {r} x = subst⁻¹ (λ (z : Answer). ReadIs z b a r) e x

-- no fault, where reading is strict
abbrev Calm : Bool → Lexed → Type 0
Calm len l = len ≡ false → l.end ≡ done

calm-parsed : (len : Bool) (l : Lexed) → Calm len l → tokens_answer len l ≡ parsed len l.toks
calm-parsed true l c = refl
calm-parsed false l c = ap (λ (e : End). lexing false e l.toks) (c refl)

-- what is found is found in the slices
survey-of : (len : Bool) (l : Lexed) {x : Survey} → ((r : Reason) (p : ℕ) → x ≡ Refused r p → ⊥) → survey_of len l ≡ x → Calm len l × (survey_of_slices (split_by_gametree len l.toks) ≡ x)
survey-of true l h e = ((λ z. never (cc)), e)
survey-of false l {x} h e = go l.end refl e
  where
    go : (d : End) → l.end ≡ d → survey_strict d (split_by_gametree false l.toks) ≡ x → Calm false l × (survey_of_slices (split_by_gametree false l.toks) ≡ x)
    go done q w = ((λ z. q), w)
    go (broken f s) q w = absurd (h _ _ (sym w))

counted-empty : (s : Sliced) → survey_of_slices s ≡ Empty → s ≡ slices ([] ∷ [])
counted-empty (no r) e = never (cc)
counted-empty (slices []) e = never (cc)
counted-empty (slices ([] ∷ [])) e = refl
counted-empty (slices ((t ∷ ts) ∷ [])) e = never (cc)
counted-empty (slices (s ∷ u ∷ ss)) e = never (cc)

counted-refused : (s : Sliced) (r : Reason) (p : ℕ) → survey_of_slices s ≡ Refused r p → (s ≡ no r) × (p ≡ 0)
counted-refused (no q) r p e = let a : q ≡ r = cc in let b : 0 ≡ p = cc in (ap no a, sym b)
counted-refused (slices []) r p e = never (cc)
counted-refused (slices ([] ∷ [])) r p e = never (cc)
counted-refused (slices ((t ∷ ts) ∷ [])) r p e = never (cc)
counted-refused (slices (s ∷ u ∷ ss)) r p e = never (cc)

-- ---- refused

answer-refused : (len : Bool) (l : Lexed) (r : Reason) (p : ℕ) → survey_of len l ≡ Refused r p → tokens_answer len l ≡ refused r p
answer-refused true l r p e = let w = counted-refused (split_by_gametree true l.toks) r p e in ap (parse_slices true) w.0 ∙ ap (refused r) (sym w.1)
answer-refused false l r p e = go l.end e
  where
    go : (d : End) → survey_strict d (split_by_gametree false l.toks) ≡ Refused r p → lexing false d l.toks ≡ refused r p
    go done w = let v = counted-refused (split_by_gametree false l.toks) r p w in ap (parse_slices false) v.0 ∙ ap (refused r) (sym v.1)
    go (broken f s) w = cc

module _ (len : Bool) (u : List ℕ) (from : ℕ) {x : Survey} (e : x ≡ survey_of len (lex_at u from)) where
  abbrev L : Lexed
  L = lex_at u from

  tokens-refused : {r : Reason} {p : ℕ} → x ≡ Refused r p → tokens_answer len L ≡ refused r p
  tokens-refused {r} {p} q = answer-refused len L r p (sym e ∙ q)

  -- ---- so many slices

  module _ {k : ℕ} (q : x ≡ found k) where
    found_in : Calm len L × (survey_of_slices (split_by_gametree len L.toks) ≡ found k)
    found_in = survey-of len L (λ r p z. never (cc)) (sym e ∙ q)

    slices-answer : tokens_answer len L ≡ answer (read_of len k L.toks)
    unfolding read_of
    slices-answer = calm-parsed len L found_in.0 ∙ ap (parse_slices len) (slices-cut len L.toks k found_in.1).are

    slices-ready : length u ≤ text_limit → from ≤ length u → SlicesReady len u from k
    slices-ready h i =
        let s = slices-cut len L.toks k found_in.1 in
        let f = s.bound in
        record { short = h; inside = i; bound = omega (arith, tokens-few u from); shallow = s.shallow; faultless = found_in.0 }

    slices-plan : length u ≤ text_limit → from ≤ length u → PlanIs len u (tokens_answer len L) (Ok (from, length u, k))
    slices-plan h i =
        (slices-answer ∙ ap (λ (z : List ℕ). answer (read_of len k (lex_at z from).toks)) (sym (take-length u)), subst⁻¹ (λ (z : List ℕ). SlicesReady len z from k) (take-length u) (slices-ready h i), omega arith)

  -- ---- none: the empty text has the empty slice

  empty-answer : x ≡ Empty → tokens_answer len L ≡ answer (read_of len 1 (lex_at [] 0).toks)
  unfolding read_of first_slices slice_from rest_from lex_at
  empty-answer q =
      let w = survey-of len L (λ r p z. never (cc)) (sym e ∙ q) in
      calm-parsed len L w.0 ∙ ap (parse_slices len) (counted-empty (split_by_gametree len L.toks) w.1)

  empty-ready : SlicesReady len [] 0 1
  unfolding first_slices slice_from rest_from Shallow lex_at
  empty-ready = record { short = omega arith; inside = omega arith; bound = omega arith; shallow = (tt, tt); faultless = λ z. refl }

  empty-plan : x ≡ Empty → PlanIs len u (tokens_answer len L) (Ok (0, 0, 1))
  empty-plan q = (empty-answer q, empty-ready, omega arith)

-- ---- the plan of the tokens

pub tokens-plan : (len : Bool) (u : List ℕ) (from : ℕ) → length u ≤ text_limit → from ≤ length u → PlanIs len u (tokens_answer len (lex_at u from)) (plan_tokens len u from)
tokens-plan len u from h i = go (survey_of len (lex_at u from)) refl
  where
    go : (x : Survey) → x ≡ survey_of len (lex_at u from) → PlanIs len u (tokens_answer len (lex_at u from)) (plan_found from (length u) x)
    go (Refused r p) e = tokens-refused len u from e refl
    go (found k) e = slices-plan len u from e refl h i
    go Empty e = empty-plan len u from e refl
