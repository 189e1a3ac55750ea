-- Where the next token lies: in the text, from the place where it was looked for on. Assumes nothing.
use Rattle.lists.proofs.Prelude.{ℕ, suc, ◌+◌, ◌^◌, ◌≤◌, ◌<◌, ◌≡◌, refl, sym, ap, ◌∙◌, subst, List, arith, length, get_or, eqb, ltb, ltb-true}
use Rattle.lists.proofs.Pick.{pick-elim}
use Rattle.lexer_scan.specs.Scan.{skip_at, ident_at, values_end_at}
use Rattle.lexer.specs.Step.{on_ident, head_from, head_at, on_values, on_head, next_at, behind, SteppedIs, vals_at}
use Rattle.lexer_scan.proofs.Bounds.{skip-bounds, ident-bounds, opens-not-none}
use Rattle.lexer_scan.proofs.Values.{values-bounds, values-forward}
use Rattle.lexer.proofs.Listed.{vals-count}
use Rattle.lexer_scan.specs.declared.Ident.{Ident}
use Rattle.lexer_scan.specs.declared.Ident.TheVariants.{Opens, Missing, Foreign}
use Rattle.lexer.specs.declared.Head.{Head}
use Rattle.lexer.specs.declared.Head.TheVariants.{Start as head_start, End as head_end, Node as head_node, Name, Refused as head_refused, Done as head_done}
use Rattle.lexer.specs.declared.Step.{Step}
use Rattle.lexer.specs.declared.Step.TheVariants.{Start, End, Node, Property, Refused, Done}
use Rattle.std.specs.Prelude.{Option, Some, None}

module _ (u : List ℕ) where
  -- of how a token begins
  abbrev pub HeadWithin : ℕ → Head → Type 0
  HeadWithin i (head_start j) = (i ≤ j) × (j < length u)
  HeadWithin i (head_end j) = (i ≤ j) × (j < length u)
  HeadWithin i (head_node j) = (i ≤ j) × (j < length u)
  HeadWithin i (Name j k) = (i ≤ j) × (j ≤ k) × (k < length u) × (get_or u k 0 ≡ 0x5b)
  HeadWithin i (head_refused f j) = (i ≤ j) × (j < length u)
  HeadWithin i head_done = Unit {0}

  -- of a token; a property also has room for its values
  abbrev pub Within : ℕ → Step → Type 0
  Within i (Start j) = (i ≤ j) × (j < length u)
  Within i (End j) = (i ≤ j) × (j < length u)
  Within i (Node j) = (i ≤ j) × (j < length u)
  Within i (Property j k e) = (i ≤ j) × (j ≤ k) × (k < length u) × (k < e) × (e ≤ length u) × (k + length (vals_at u k) ≤ e)
  Within i (Refused f j) = (i ≤ j) × (j < length u)
  Within i Done = Unit {0}

  ident-head : (i j : ℕ) → i ≤ j → j < length u → (z : Ident) → ident_at u j ≡ z → HeadWithin i (on_ident j z)
  ident-head i j a l (Opens k) q = let w = ident-bounds u j k q in (a, w.0, w.1, w.2)
  ident-head i j a l Missing q = (a, l)
  ident-head i j a l Foreign q = (a, l)

  from-within : (i j : ℕ) → i ≤ j → HeadWithin i (head_from u j)
  unfolding head_from
  from-within i j h =
      pick-elim (HeadWithin i) (ltb j (length u))
      (λ l.
      let b = ltb-true j (length u) l in
      pick-elim (HeadWithin i) (eqb (get_or u j 0) 0x28) (λ _. (h, b))
      (λ _. pick-elim (HeadWithin i) (eqb (get_or u j 0) 0x29) (λ _. (h, b))
      (λ _. pick-elim (HeadWithin i) (eqb (get_or u j 0) 0x3b) (λ _. (h, b))
      (λ _. ident-head i j h b (ident_at u j) refl))))
      (λ _. tt)

  pub head-within : (i : ℕ) → HeadWithin i (head_at u i)
  unfolding head_at
  head-within i = from-within i (skip_at u i) (skip-bounds u i)

  values-within : (i j k : ℕ) → HeadWithin i (Name j k) → (z : Option ℕ) → values_end_at u k ≡ z → Within i (on_values j k z)
  values-within i j k w (Some e) q =
      let b = values-bounds u k e q in
      let f = values-forward u k e (opens-not-none u k w.3) q in
      (w.0, w.1, w.2, f, b.1 (omega (arith, w.2)), vals-count u (suc (length u)) k e (omega arith) q)
  values-within i j k w None q = (w.0, omega (arith, w.1, w.2))

  token-within : (i : ℕ) (h : Head) → HeadWithin i h → Within i (on_head u h)
  token-within i (head_start j) w = w
  token-within i (head_end j) w = w
  token-within i (head_node j) w = w
  token-within i (Name j k) w = values-within i j k w (values_end_at u k) refl
  token-within i (head_refused f j) w = w
  token-within i head_done w = tt

  pub next-within : (i : ℕ) → Within i (next_at u i)
  unfolding next_at
  next-within i = token-within i (head_at u i) (head-within i)

  -- what a call of `next_token` gave lies there
  pub found_within : (i : ℕ) (r token : Step) → r ≡ next_at u i → r ≡ token → Within i token
  found_within i r token p q = subst (Within i) (sym p ∙ q) (next-within i)

-- the place behind a token of the text can be counted
pub behind-fits : (s : List ℕ) (at : ℕ) (token : Step) → length s < 2 ^ 64 → at < 2 ^ 64 → Within s at token → behind at token < 2 ^ 64
behind-fits s at (Start i) l b w = omega (arith, w.1)
behind-fits s at (End i) l b w = omega (arith, w.1)
behind-fits s at (Node i) l b w = omega (arith, w.1)
behind-fits s at (Property i k e) l b w = omega (arith, w.4)
behind-fits s at (Refused f i) l b w = omega (arith, w.1)
behind-fits s at Done l b w = b

-- a step of the cursor, from what `next_token` gave
pub stepped : (s : List ℕ) (at : ℕ) {r : Step} {n : ℕ} → r ≡ next_at s at → n ≡ behind at r → SteppedIs s at r n
stepped s at p f = record { token-is = p; next-is = f ∙ ap (behind at) p }
