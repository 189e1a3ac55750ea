-- What is met where a token has a fault: a property that a value leaves open is a token to strict reading only. Assumes nothing.
use Rattle.lists.proofs.Prelude.{ℕ, ◌≤◌, ◌<◌, ◌≡◌, refl, sym, ap, ◌∙◌, subst, Bool, true, false, false≢true, List, [], ◌∷◌, arith, length, get_or, eqb, ltb}
use Rattle.lists.proofs.Pick.{pick-elim}
use Rattle.lists.proofs.Tests.{never}
use Rattle.lexer.specs.Token.{Tok, prop, done, broken, lex_at}
use Rattle.lexer_scan.specs.Scan.{skip_at, ident_at, values_end_at}
use Rattle.lexer_scan.specs.declared.Ident.{Ident}
use Rattle.lexer_scan.specs.declared.Ident.TheVariants.{Opens, Missing, Foreign}
use Rattle.lexer.specs.Step.{prop_at, on_ident, head_from, head_at}
use Rattle.lexer.specs.declared.Fault.{Fault}
use Rattle.lexer.specs.declared.Fault.TheVariants.{UnexpectedEndOfPropertyValue}
use Rattle.lexer.specs.declared.Head.{Head}
use Rattle.lexer.specs.declared.Head.TheVariants.{Start, End, Node, Name, Refused, Done}
use Rattle.parser_step.specs.LocalsActs.{unclosed}
use Rattle.parser_tree.specs.LocalsTree.{open_property, open_token, token_tail, met_in}
use Rattle.parser_tree.specs.LocalsTurns.{end_or}
use Rattle.parser_tree.proofs.Meets.{name-next, step-meets, step-lies, head_meets, head-lies}
use Rattle.parser_tree.proofs.Behind.{Skipping, skipping-prop, skipping-open, lex-end}
use Rattle.std.specs.Prelude.{Option, Some, None}

-- lenient reading has found an open value
pub open-found : (len : Bool) (c : Option ℕ) → unclosed len c ≡ true → (len ≡ true) × (c ≡ None)
open-found true None e = (refl, refl)
open-found true (Some x) e = absurd (false≢true e)
open-found false c e = absurd (false≢true e)

-- strict reading goes on at one
open-strict : (len : Bool) {c : Option ℕ} → unclosed len c ≡ false → c ≡ None → len ≡ false
open-strict true e h = absurd (false≢true (sym e ∙ ap (unclosed true) h))
open-strict false e h = refl

module _ (u : List ℕ) where
  -- ---- how a token begins

  from-ident : (at i k : ℕ) → head_from u at ≡ Name i k → ident_at u i ≡ Opens k
  unfolding head_from
  from-ident at i k =
      pick-elim P (ltb at (length u))
      (λ _.
      pick-elim P (eqb (get_or u at 0) 0x28) (λ _ q. never (cc))
      (λ _. pick-elim P (eqb (get_or u at 0) 0x29) (λ _ q. never (cc))
      (λ _. pick-elim P (eqb (get_or u at 0) 0x3b) (λ _ q. never (cc))
      (λ _. go (ident_at u at) refl))))
      (λ _ q. never (cc))
    where
      P : Head → Type 0
      P h = h ≡ Name i k → ident_at u i ≡ Opens k

      go : (z : Ident) → ident_at u at ≡ z → on_ident at z ≡ Name i k → ident_at u i ≡ Opens k
      go (Opens j) e q = let a : at ≡ i = cc in let b : j ≡ k = cc in ap (ident_at u) (sym a) ∙ e ∙ ap Opens b
      go Missing e q = never (cc)
      go Foreign e q = never (cc)

  from-broken : (at : ℕ) (f : Fault) (i : ℕ) → head_from u at ≡ Refused f i → open_token u (broken f i) ≡ []
  unfolding head_from
  from-broken at f i =
      pick-elim P (ltb at (length u))
      (λ _.
      pick-elim P (eqb (get_or u at 0) 0x28) (λ _ q. never (cc))
      (λ _. pick-elim P (eqb (get_or u at 0) 0x29) (λ _ q. never (cc))
      (λ _. pick-elim P (eqb (get_or u at 0) 0x3b) (λ _ q. never (cc))
      (λ _. go (ident_at u at)))))
      (λ _ q. never (cc))
    where
      P : Head → Type 0
      P h = h ≡ Refused f i → open_token u (broken f i) ≡ []

      fault : Head → Fault
      fault (Start j) = f
      fault (End j) = f
      fault (Node j) = f
      fault (Name j k) = f
      fault (Refused g j) = g
      fault Done = f

      go : (z : Ident) → on_ident at z ≡ Refused f i → open_token u (broken f i) ≡ []
      go (Opens j) q = never (cc)
      go Missing q = subst (λ (g : Fault). open_token u (broken g i) ≡ []) (ap fault q) refl
      go Foreign q = subst (λ (g : Fault). open_token u (broken g i) ≡ []) (ap fault q) refl

  module _ (at : ℕ) where
    head-ident : {i k : ℕ} → head_at u at ≡ Name i k → ident_at u i ≡ Opens k
    unfolding head_at
    head-ident {i} {k} g = from-ident (skip_at u at) i k g

    head-broken : {f : Fault} {i : ℕ} → head_at u at ≡ Refused f i → open_token u (broken f i) ≡ []
    unfolding head_at
    head-broken {f} {i} g = from-broken (skip_at u at) f i g

    -- ---- a property

    module _ (i k : ℕ) (g : head_at u at ≡ Name i k) where
      -- as a token that ends the text
      opened : open_token u (broken UnexpectedEndOfPropertyValue i) ≡ prop (prop_at u i k) (length u) ∷ []
      opened = ap (open_property u i) (head-ident g)

      module _ (len : Bool) where
        open-met : values_end_at u k ≡ None → len ≡ false → met_in len u (lex_at u at) ≡ prop (prop_at u i k) (length u) ∷ met_in len u (lex_at u (length u))
        open-met h l =
            ap (met_in len u) (step-meets u at (name-next u at i k g h))
            ∙ ap (λ (b : Bool). token_tail b u (broken UnexpectedEndOfPropertyValue i)) l
            ∙ opened
            ∙ ap (λ (ts : List Tok). prop (prop_at u i k) (length u) ∷ ts) (sym (ap (met_in len u) (lex-end u) ∙ ap (λ (b : Bool). token_tail b u done) l))

        -- the property and what is behind it
        pub property-met : unclosed len (values_end_at u k) ≡ false → {e : ℕ} → e ≡ end_or (length u) (values_end_at u k) → met_in len u (lex_at u at) ≡ prop (prop_at u i k) e ∷ met_in len u (lex_at u e)
        property-met n {e} q = go (values_end_at u k) refl n q
          where
            go : (c : Option ℕ) → values_end_at u k ≡ c → unclosed len c ≡ false → e ≡ end_or (length u) c → met_in len u (lex_at u at) ≡ prop (prop_at u i k) e ∷ met_in len u (lex_at u e)
            go (Some x) h m q = subst (λ (z : ℕ). met_in len u (lex_at u at) ≡ prop (prop_at u i k) z ∷ met_in len u (lex_at u z)) (sym q) (ap (met_in len u) (step-meets u at (name-next u at i k g h)))
            go None h m q = subst (λ (z : ℕ). met_in len u (lex_at u at) ≡ prop (prop_at u i k) z ∷ met_in len u (lex_at u z)) (sym q) (open-met h (open-strict len m refl))

        -- it moves on
        pub property-lies : {e : ℕ} → e ≡ end_or (length u) (values_end_at u k) → (at < e) × (e ≤ length u)
        property-lies {e} q = go (values_end_at u k) refl q
          where
            go : (c : Option ℕ) → values_end_at u k ≡ c → e ≡ end_or (length u) c → (at < e) × (e ≤ length u)
            go (Some x) h q = let b = step-lies u at (name-next u at i k g h) in (omega arith, omega arith)
            go None h q = let b = head-lies u at g in (omega arith, omega arith)

        pub skipping-property : unclosed len (values_end_at u k) ≡ false → {from d n e : ℕ} → Skipping len u from d at n → e ≡ end_or (length u) (values_end_at u k) → Skipping len u from d e n
        skipping-property m {from} {d} {n} {e} x q = go (values_end_at u k) refl m q
          where
            go : (c : Option ℕ) → values_end_at u k ≡ c → unclosed len c ≡ false → e ≡ end_or (length u) c → Skipping len u from d e n
            go (Some y) h m q = let b = step-lies u at (name-next u at i k g h) in subst (λ (z : ℕ). Skipping len u from d z n) (sym q) (skipping-prop x (omega arith) b.4 (step-meets u at (name-next u at i k g h)))
            go None h m q = subst (λ (z : ℕ). Skipping len u from d z n) (sym q) (skipping-open x (open-strict len m refl) (step-meets u at (name-next u at i k g h)) opened)

        -- an open value, to lenient reading
        pub unclosed-over : unclosed len (values_end_at u k) ≡ true → met_in len u (lex_at u at) ≡ []
        unclosed-over h =
            let y = open-found len (values_end_at u k) h in
            ap (met_in len u) (step-meets u at (name-next u at i k g y.1)) ∙ ap (λ (b : Bool). token_tail b u (broken UnexpectedEndOfPropertyValue i)) y.0

    -- ---- no token

    pub broken-over : (len : Bool) {f : Fault} {i : ℕ} → head_at u at ≡ Refused f i → met_in len u (lex_at u at) ≡ []
    broken-over len {f} {i} g = ap (met_in len u) (head_meets u at g) ∙ go len
      where
        go : (l : Bool) → token_tail l u (broken f i) ≡ []
        go true = refl
        go false = head-broken g

    pub done-over : (len : Bool) → head_at u at ≡ Done → met_in len u (lex_at u at) ≡ []
    done-over len g = ap (met_in len u) (head_meets u at g) ∙ go len
      where
        go : (l : Bool) → token_tail l u done ≡ []
        go true = refl
        go false = refl
