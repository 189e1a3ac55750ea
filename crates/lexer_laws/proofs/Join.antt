-- The steps and the machine: what the machine gives from a place on is the next token, then what it gives from behind that. Assumes nothing.
use Rattle.lists.proofs.Prelude.{ℕ, zero, suc, ◌+◌, ◌≤◌, ◌<◌, ◌-◌, ◌≡◌, refl, sym, ap, ◌∙◌, Bool, true, false, List, [], ◌∷◌, ◌++◌, append_assoc, append-nil, arith, add-one, length, drop, get_or, slice, slice_empty, eqb, ltb, ne_eqb, eq-eqb, eqb-true, eqb-false, ltb-true, ltb-false}
use Rattle.lists.proofs.Pick.{pick-elim}
use Rattle.lexer.specs.Token.{Val, Tok, start, end, node, prop, between, ident, value, after, Out, silent, step, Lexed, lexed, lex_at, done, broken}
use Rattle.lexer_scan.specs.Scan.{space, skip_at, ident_at, values_end_at}
use Rattle.lexer_close.specs.Close.{close_at}
use Rattle.lexer.specs.Step.{on_ident, head_from, head_at, on_values, on_head, next_at, vals_at, prop_at, step_on}
use Rattle.lexer_close.proofs.Bounds.{close-bounds}
use Rattle.lexer_scan.proofs.Bounds.{past, skip-bounds, skip-within, ident-bounds, value_on, value-open, value_none}
use Rattle.lexer_scan.proofs.Values.{values-more, values-unclosed, values-none}
use Rattle.lexer.proofs.Listed.{vals-more, vals-none}
use Rattle.lexer_laws.proofs.Rest.{rest, step-at, end-at, ident_on, ident-rest, made, close_on, value-rest, skip-rest, between-skips, after-skips, skip-stops}
use Rattle.lexer.specs.declared.Fault.TheVariants.{UnexpectedEndOfPropertyValue}
use Rattle.lexer_scan.specs.declared.Ident.{Ident}
use Rattle.lexer_scan.specs.declared.Ident.TheVariants.{Opens, Missing, Foreign}
use Rattle.lexer.specs.declared.Head.{Head}
use Rattle.std.specs.Prelude.{Option, Some, None}

module _ (u : List ℕ) (s k : ℕ) (w : List ℕ) where
  abbrev values_on : List Val → ℕ → Option ℕ → Lexed
  values_on vs q (Some e) = lexed (prop (made u s k w (vs ++ vals_at u q)) e ∷ []) (lex_at u e)
  values_on vs q None = record { toks = []; end = broken UnexpectedEndOfPropertyValue s }

  abbrev val_of : ℕ → ℕ → Val
  val_of q j = record { from = q + 1; to = j; raw = slice (q + 1) j u }

  -- after a value, at a place that is no white space and no `[`: the property comes out, and the tokens go on
  after-ends : (vs : List Val) (x : ℕ) → x ≤ length u → space (get_or u x 0) ≡ false → (get_or u x 0 ≡ 0x5b → ⊥)
      → rest (after (made u s k w vs)) x (length u) (drop x u) ≡ lexed (prop (made u s k w vs) x ∷ []) (lex_at u x)
  unfolding lex_at
  after-ends vs x h q n = go (ltb x (length u)) refl
    where
      go : (c : Bool) → ltb x (length u) ≡ c → rest (after (made u s k w vs)) x (length u) (drop x u) ≡ lexed (prop (made u s k w vs) x ∷ []) (rest between x (length u) (drop x u))
      go true e =
          let l = ltb-true x (length u) e in
          let y : step (after (made u s k w vs)) x (get_or u x 0) ≡ record { toks = prop (made u s k w vs) x ∷ (step between x (get_or u x 0)).toks; next = (step between x (get_or u x 0)).next } = rw (q, ne_eqb (get_or u x 0) 0x5b n) in
          step-at u (after (made u s k w vs)) x l
          ∙ ap (λ (z : Out). lexed z.toks (rest z.next (suc x) (length u) (drop (suc x) u))) y
          ∙ ap (lexed (prop (made u s k w vs) x ∷ [])) (sym (step-at u between x l))
      go false e =
          let l : length u ≤ x = ltb-false x (length u) e in
          let m : length u ≡ x = omega arith in
          end-at u (after (made u s k w vs)) x l
          ∙ ap (λ (z : ℕ). record { toks = prop (made u s k w vs) z ∷ []; end = done }) m
          ∙ ap (lexed (prop (made u s k w vs) x ∷ [])) (sym (end-at u between x l))

  abbrev Values : ℕ → Type 0
  Values n = (vs : List Val) (q : ℕ) → length u - q < n → get_or u q 0 ≡ 0x5b
      → rest (value s k w vs false (suc q) []) (suc q) (length u) (drop (suc q) u) ≡ values_on vs q (values_end_at u q)

  module _ (n : ℕ) (ih : Values n) (vs : List Val) (q : ℕ) (f : length u - q < suc n) (b : get_or u q 0 ≡ 0x5b) where
    abbrev grown : ℕ → List Val
    grown j = vs ++ (val_of q j ∷ [])

    -- one value, then those from x on
    module _ (j x : ℕ) (e : close_at u (q + 1) ≡ Some j) (ex : x ≡ skip_at u (j + 1)) where
      lists : grown j ++ vals_at u x ≡ vs ++ vals_at u q
      lists = append_assoc vs (val_of q j ∷ []) (vals_at u x) ∙ ap (λ (z : List Val). vs ++ z) (sym (vals-more u q (q + 1) j x (value_on u q j x b e ex)))

      join : (z : Option ℕ) → values_on (grown j) x z ≡ values_on vs q z
      join (Some g) = ap (λ (z : List Val). lexed (prop (made u s k w z) g ∷ []) (lex_at u g)) lists
      join None = refl

      same-values : values_end_at u x ≡ values_end_at u q
      same-values = sym (values-more u q (q + 1) j x (value_on u q j x b e ex))

      opened : x ≤ length u → space (get_or u x 0) ≡ false → get_or u x 0 ≡ 0x5b
          → rest (after (made u s k w (grown j))) x (length u) (drop x u) ≡ values_on vs q (values_end_at u q)
      opened h sp o =
          let cb = close-bounds u (q + 1) j e in
          let sb = skip-bounds u (j + 1) in
          let lt : x < length u = elim (ltb x (length u)) as (λ (t : Bool). ltb x (length u) ≡ t → x < length u)
          [ true ↦ λ t. ltb-true x (length u) t | false ↦ λ t. absurd (past u x (ltb-false x (length u) t) o) ] refl in
          let y : step (after (made u s k w (grown j))) x (get_or u x 0) ≡ silent (value s k w (grown j) false (suc x) []) = rw (sp, eq-eqb (get_or u x 0) 0x5b o) in
          step-at u (after (made u s k w (grown j))) x lt
          ∙ ap (λ (z : Out). lexed z.toks (rest z.next (suc x) (length u) (drop (suc x) u))) y
          ∙ ih (grown j) x (omega arith) o
          ∙ ap (values_on (grown j) x) same-values
          ∙ join (values_end_at u q)

      closed : x ≤ length u → space (get_or u x 0) ≡ false → (get_or u x 0 ≡ 0x5b → ⊥)
          → rest (after (made u s k w (grown j))) x (length u) (drop x u) ≡ values_on vs q (values_end_at u q)
      closed h sp o =
          after-ends (grown j) x h sp o
          ∙ ap (λ (z : List Val). lexed (prop (made u s k w z) x ∷ []) (lex_at u x))
          (sym (append-nil (grown j)) ∙ ap (λ (z : List Val). grown j ++ z) (sym (vals-none u x (value_none u x o))) ∙ lists)
          ∙ ap (values_on vs q) (sym (values-none u x (value_none u x o)) ∙ same-values)

    from-close : (z : Option ℕ) → close_at u (q + 1) ≡ z → close_on u s k w vs (q + 1) z ≡ values_on vs q (values_end_at u q)
    from-close (Some j) e =
        let cb = close-bounds u (q + 1) j e in
        skip-rest u (after (made u s k w (grown j))) (after-skips (made u s k w (grown j))) (drop (suc j) u) (suc j) refl
        ∙ go (skip_at u (suc j)) (ap (skip_at u) (sym (add-one j))) (skip-within u (suc j) (omega arith)) (skip-stops u (suc j))
      where
        go : (x : ℕ) → x ≡ skip_at u (j + 1) → x ≤ length u → space (get_or u x 0) ≡ false → rest (after (made u s k w (grown j))) x (length u) (drop x u) ≡ values_on vs q (values_end_at u q)
        go x ex h sp = elim (eqb (get_or u x 0) 0x5b) as (λ (c : Bool). eqb (get_or u x 0) 0x5b ≡ c → rest (after (made u s k w (grown j))) x (length u) (drop x u) ≡ values_on vs q (values_end_at u q))
            [ true ↦ λ c. opened j x e ex h sp (eqb-true (get_or u x 0) 0x5b c) | false ↦ λ c. closed j x e ex h sp (eqb-false (get_or u x 0) 0x5b c) ] refl
    from-close None e = ap (values_on vs q) (sym (values-unclosed u q (value-open u q b e)))

  values-lex : (n : ℕ) → Values n
  values-lex zero vs q f b = absurd (omega arith)
  values-lex (suc n) vs q f b =
      ap (λ (z : List ℕ). rest (value s k w vs false (suc q) z) (suc q) (length u) (drop (suc q) u)) (sym (slice_empty (suc q) u))
      ∙ value-rest u s k w (drop (suc q) u) false (suc q) vs (suc q) refl (omega arith)
      ∙ ap (λ (z : ℕ). close_on u s k w vs z (close_at u z)) (sym (add-one q))
      ∙ from-close n (values-lex n) vs q f b (close_at u (q + 1)) refl

-- ---- the next token

module _ (u : List ℕ) where
  token-one : (i : ℕ) → i < length u → (t : Tok) → step between i (get_or u i 0) ≡ record { toks = t ∷ []; next = between } → lex_at u i ≡ lexed (t ∷ []) (lex_at u (i + 1))
  unfolding lex_at
  token-one i h t e =
      step-at u between i h
      ∙ ap (λ (z : Out). lexed z.toks (rest z.next (suc i) (length u) (drop (suc i) u))) e
      ∙ ap (λ (z : ℕ). lexed (t ∷ []) (rest between z (length u) (drop z u))) (sym (add-one i))

  token-ident : (i : ℕ) → i < length u → eqb (get_or u i 0) 0x28 ≡ false → eqb (get_or u i 0) 0x29 ≡ false → eqb (get_or u i 0) 0x3b ≡ false → space (get_or u i 0) ≡ false
      → lex_at u i ≡ ident_on u i (ident_at u i)
  unfolding lex_at
  token-ident i h a b c sp =
      let x : step between i (get_or u i 0) ≡ step (ident i []) i (get_or u i 0) = rw (a, b, c, sp) in
      step-at u between i h
      ∙ ap (λ (z : Out). lexed z.toks (rest z.next (suc i) (length u) (drop (suc i) u))) x
      ∙ sym (step-at u (ident i []) i h)
      ∙ ap (λ (z : List ℕ). rest (ident i z) i (length u) (drop i u)) (sym (slice_empty i u))
      ∙ ident-rest u (drop i u) i i refl (omega arith)

  ident-token : (i : ℕ) (z : Ident) → ident_at u i ≡ z → ident_on u i z ≡ step_on u (on_head u (on_ident i z))
  unfolding prop_at
  ident-token i (Opens k) e =
      let b = ident-bounds u i k e in
      values-lex u i k (slice i k u) (suc (length u)) [] k (omega arith) b.2 ∙ on (values_end_at u k)
    where
      on : (z : Option ℕ) → values_on u i k (slice i k u) [] k z ≡ step_on u (on_values i k z)
      on (Some e) = refl
      on None = refl
  ident-token i Missing e = refl
  ident-token i Foreign e = refl

  head-lex : (i : ℕ) → space (get_or u i 0) ≡ false → lex_at u i ≡ step_on u (on_head u (head_from u i))
  unfolding head_from lex_at
  head-lex i sp =
      pick-elim P (ltb i (length u))
      (λ h.
      let l = ltb-true i (length u) h in
      pick-elim P (eqb (get_or u i 0) 0x28) (λ a. token-one i l (start i) (rw a))
      (λ a. pick-elim P (eqb (get_or u i 0) 0x29) (λ b. token-one i l (end i) (rw (a, b)))
      (λ b. pick-elim P (eqb (get_or u i 0) 0x3b) (λ c. token-one i l (node i) (rw (a, b, c)))
      (λ c. token-ident i l a b c sp ∙ ident-token i (ident_at u i) refl))))
      (λ h. end-at u between i (ltb-false i (length u) h))
    where
      P : Head → Type 0
      P x = lex_at u i ≡ step_on u (on_head u x)

  lex-skip : (i : ℕ) → lex_at u i ≡ lex_at u (skip_at u i)
  unfolding lex_at
  lex-skip i = skip-rest u between between-skips (drop i u) i refl

  -- what the machine gives from a place on is what the next token says
  pub lex-next : (i : ℕ) → lex_at u i ≡ step_on u (next_at u i)
  unfolding next_at head_at
  lex-next i = lex-skip i ∙ head-lex (skip_at u i) (skip-stops u i)
