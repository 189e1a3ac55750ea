-- From the whole text to its tokens: the limit, UTF-8, trimming. Assumes nothing.
use Rattle.lists.proofs.Prelude.{ℕ, ◌≤◌, ◌<◌, ◌≡◌, refl, sym, ap, ◌∙◌, subst, Bool, true, false, List, [], arith, ltb, length, take, length-take-le, take-take, ltb-true, ltb-false, pick}
use Rattle.text_utf8.specs.Trim.{trimmed}
use Rattle.text_utf8.specs.declared.Trimmed.{Trimmed}
use Rattle.text_utf8.specs.declared.Trimmed.TheVariants.{NotUtf8, Blank, Kept}
use Rattle.text_utf8.proofs.Extent.{trim-bounds}
use Rattle.lexer.specs.Token.{lex_at}
use Rattle.tables.specs.Numbers.{text_limit}
use Rattle.tables.specs.declared.Reason.TheVariants.{TextTooLong, NotUtf8 as not_utf8}
use Rattle.parser.proofs.Texts.{lex-prefix, text-long, on_trimmed, text-trimmed}
use Rattle.parser.specs.Read.{Answer, refused, answer, read}
use Rattle.reader.specs.LocalsSlices.{read_of, SlicesReady}
use Rattle.parser_split.specs.LocalsPlans.{plan_tokens, plan_kept, plan_text}
use Rattle.reader.proofs.Surveyed.{PlanIs, tokens_answer, tokens-plan}
use Rattle.std.specs.Prelude.{Result, Ok, Err}
use Rattle.tables.specs.Refusals.{refusal}
use Rattle.tables.specs.declared.Reason.{Reason}
use Rattle.tables.specs.declared.Refusal.{Refusal}

module _ (len : Bool) (t : List ℕ) (h : length t ≤ text_limit) {x : Trimmed} (e : x ≡ trimmed t) where
  text-bad : {p : ℕ} → x ≡ NotUtf8 p → read len t ≡ refused not_utf8 p
  text-bad q = text-trimmed len t h ∙ ap (on_trimmed len t) (sym e ∙ q)

  text-blank : x ≡ Blank → read len t ≡ tokens_answer len (lex_at [] 0)
  unfolding lex_at
  text-blank q = text-trimmed len t h ∙ ap (on_trimmed len t) (sym e ∙ q)

  text-kept : {f l : ℕ} → x ≡ Kept f l → read len t ≡ tokens_answer len (lex_at (take l t) f)
  text-kept {f} {l} q =
      text-trimmed len t h
      ∙ ap (on_trimmed len t) (sym e ∙ q)
      ∙ ap (tokens_answer len) (lex-prefix t f l (trim-bounds t f l (sym e ∙ q)).1)

  -- the front part, and the place in it
  kept-within : {f l : ℕ} → x ≡ Kept f l → (f < l) × (l ≤ length t)
  kept-within {f} {l} q = trim-bounds t f l (sym e ∙ q)

-- a plan for a front part of the text
plan-front : (len : Bool) (t : List ℕ) (l : ℕ) → l ≤ length t → {A B : Answer} → A ≡ B → (r : Result (ℕ × ℕ × ℕ) (Refusal Reason)) → PlanIs len (take l t) B r → PlanIs len t A r
plan-front len t l h e (Ok (f, o, k)) z =
    let b = z.2 in
    let n = length-take-le l t h in
    let s : take o (take l t) ≡ take o t = take-take o l t (omega arith) in
    (e ∙ z.0 ∙ ap (λ (y : List ℕ). answer (read_of len k (lex_at y f).toks)) s, subst (λ (y : List ℕ). SlicesReady len y f k) s z.1, omega arith)
plan-front len t l h e (Err x) z = e ∙ z

-- ---- the plan of the text

module _ (len : Bool) (t : List ℕ) where
  kept-plan : length t ≤ text_limit → (x : Trimmed) → x ≡ trimmed t → PlanIs len t (read len t) (plan_kept len t x)
  kept-plan h (NotUtf8 p) e = text-bad len t h e refl
  kept-plan h Blank e = plan-front len t 0 (omega arith) (text-blank len t h e refl) (plan_tokens len [] 0) (tokens-plan len [] 0 (omega arith) (omega arith))
  kept-plan h (Kept f l) e =
      let w = kept-within len t h e refl in
      let n = length-take-le l t w.1 in
      plan-front len t l w.1 (text-kept len t h e refl) (plan_tokens len (take l t) f) (tokens-plan len (take l t) f (omega arith) (omega arith))

  text-plan : PlanIs len t (read len t) (plan_text len t)
  text-plan = go (ltb text_limit (length t)) refl
    where
      go : (b : Bool) → ltb text_limit (length t) ≡ b → PlanIs len t (read len t) (pick b (Err (refusal TextTooLong 0)) (plan_kept len t (trimmed t)))
      go true e = text-long len t (ltb-true text_limit (length t) e)
      go false e = kept-plan (ltb-false text_limit (length t) e) (trimmed t) refl

  -- what a plan that was given says of the definition's answer
  pub planned : {x y : Result (ℕ × ℕ × ℕ) (Refusal Reason)} → x ≡ plan_text len t → x ≡ y → PlanIs len t (read len t) y
  planned e q = subst (PlanIs len t (read len t)) (sym e ∙ q) text-plan
