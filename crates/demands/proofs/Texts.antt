-- The exported questions about a text alone: trimming, tokens, the display of a value, plain text escaped. When each number is given, and which there are. Assumes nothing.
use Rattle.lists.proofs.Prelude.{ℕ, ◌≤◌, ◌<◌, Bool, List, ◌++◌, ◌⊎◌, inl, inr, ⊎_elim, ◌≡◌, refl, sym, ap, ◌∙◌, subst, subst⁻¹, arith, length, drop, le-leb, lt-leb, pick}
use Rattle.lists.proofs.Tests.{never}
use Rattle.text_chars.specs.Table.{WellFormed, BadFrom}
use Rattle.text_utf8.specs.Trim.{trimmed}
use Rattle.text_utf8.specs.declared.Trimmed.{Trimmed}
use Rattle.text_utf8.specs.declared.Trimmed.TheVariants as trim
use Rattle.text_utf8.proofs.WellFormed.{well-or-bad, bad-trimmed, well-formed-trimmed}
use Rattle.value_display.specs.Display.{displayed, displayed_in}
use Rattle.lexer.specs.Token.{fault_number as fault_number}
use Rattle.lexer.specs.Step.{next_at}
use Rattle.lexer.specs.declared.Fault.{Fault}
use Rattle.lexer.specs.declared.Fault.TheVariants.{MissingPropertyIdentifier, UnexpectedEndOfPropertyIdentifier, UnexpectedEndOfPropertyValue}
use Rattle.lexer.specs.declared.Step.{Step}
use Rattle.lexer.specs.declared.Step.TheVariants.{Start, End, Node, Property, Refused, Done}
use Rattle.c_tokens.specs.Tokens.{TrimIs, TokenIs}
use Rattle.tables.specs.Numbers.{number_of, reason_of}
use Rattle.tables.specs.declared.Reason.{Reason}
use Rattle.tables.specs.declared.Reason.TheVariants.{NotUtf8, NoRoom}
use Rattle.tables.proofs.Cases.{below_or}
use Rattle.ask.specs.Ask.{display_for}
use Rattle.c_answers.specs.Structs.{display_in_c}
use Rattle.c_answers.specs.declared.SgfDisplay.{SgfDisplay}
use Rattle.reader_exactly.specs.Kept.{Blanks, Keeps}
use Rattle.reader_exactly.proofs.Trims.{trimmed-blank-exactly, trimmed-kept-exactly}
use Rattle.demands.specs.When.{Exactly}
use Rattle.demands.specs.Lists.{OneOf, trim_numbers, token_numbers, raw_numbers}
use Rattle.demands.proofs.Listed.{one_of}
use Rattle.demands.proofs.Numbers.{exactly}
use Rattle.std.specs.Prelude.{Some, None}

module _ (t : List ℕ) (n p f l : ℕ) (s : TrimIs (trimmed t) n p f l) where
  trim-well : WellFormed t → n ≡ 0
  trim-well w = go (trimmed t) refl s
    where
      go : (u : Trimmed) → trimmed t ≡ u → TrimIs u n p f l → n ≡ 0
      go (trim.NotUtf8 q) e h = absurd (well-formed-trimmed t w q e)
      go trim.Blank e h = h.0
      go (trim.Kept a b) e h = h.0

  trim-bad : (q : ℕ) → BadFrom t q → (n ≡ 2) × (p ≡ q)
  trim-bad q x = let h = subst (λ (u : Trimmed). TrimIs u n p f l) (bad-trimmed t q x) s in (h.0, h.1)

  pub trim-exactly : Exactly n (WellFormed t) (λ x. (x ≡ NotUtf8) × BadFrom t p)
  trim-exactly =
      exactly n (WellFormed t) (λ x. (x ≡ NotUtf8) × BadFrom t p)
      (⊎_elim (λ w. inl w) (λ x. inr (NotUtf8, (refl, subst⁻¹ (BadFrom t) (trim-bad x.0 x.1).1 x.1))) (well-or-bad t))
      trim-well (λ x b. (trim-bad p b.1).0 ∙ ap number_of (sym b.0))

  pub trim-listed : OneOf trim_numbers n
  trim-listed = ⊎_elim (λ w. inl (trim-well w)) (λ x. inr (inl (trim-bad x.0 x.1).0)) (well-or-bad t)

  pub trim-kept : n ≡ 0 → (Blanks t × (f ≡ 0) × (l ≡ 0)) ⊎ Keeps t f l
  trim-kept z = go (trimmed t) refl s
    where
      go : (u : Trimmed) → trimmed t ≡ u → TrimIs u n p f l → (Blanks t × (f ≡ 0) × (l ≡ 0)) ⊎ Keeps t f l
      go (trim.NotUtf8 q) e h = absurd (omega (arith, z, h.0))
      go trim.Blank e h = inl ((trimmed-blank-exactly t).0 e, h.2, h.3)
      go (trim.Kept a b) e h = inr (subst⁻¹ (λ (y : ℕ). Keeps t f y) h.3 (subst⁻¹ (λ (y : ℕ). Keeps t y b) h.2 ((trimmed-kept-exactly t a b).0 e)))

  pub trim-keeps : (a b : ℕ) → Keeps t a b → (f ≡ a) × (l ≡ b)
  trim-keeps a b x = let h = subst (λ (u : Trimmed). TrimIs u n p f l) ((trimmed-kept-exactly t a b).1 x) s in (h.2, h.3)

-- ---- tokens

fault-listed : (x : Fault) → OneOf token_numbers (fault_number x)
fault-listed MissingPropertyIdentifier = one_of token_numbers 3 refl
fault-listed UnexpectedEndOfPropertyIdentifier = one_of token_numbers 4 refl
fault-listed UnexpectedEndOfPropertyValue = one_of token_numbers 5 refl

module _ (at k n f o to : ℕ) where
  none-listed : n ≡ 0 → OneOf token_numbers n
  none-listed e = inl e

  pub token-listed : (x : Step) → TokenIs at x k n f o to → OneOf token_numbers n
  token-listed (Start i) h = none-listed h.1
  token-listed (End i) h = none-listed h.1
  token-listed (Node i) h = none-listed h.1
  token-listed (Property i j e) h = none-listed h.1
  token-listed (Refused x i) h = subst⁻¹ (OneOf token_numbers) h.1 (fault-listed x)
  token-listed Done h = none-listed h.1

fault-number : (y : Fault) → fault_number y ≡ number_of (reason_of y)
fault-number MissingPropertyIdentifier = refl
fault-number UnexpectedEndOfPropertyIdentifier = refl
fault-number UnexpectedEndOfPropertyValue = refl

module _ (t : List ℕ) (at k n f o to : ℕ) (s : TokenIs at (next_at t at) k n f o to) where
  abbrev Calm : Type 0
  Calm = (y : Fault) (i : ℕ) → next_at t at ≡ Refused y i → ⊥

  abbrev Fails : Reason → Type 0
  Fails x = (y : Fault) × (next_at t at ≡ Refused y f) × (x ≡ reason_of y)

  token-decided : Calm ⊎ ((x : Reason) × Fails x)
  token-decided = go (next_at t at) refl s
    where
      other : (z : Step) → ((y : Fault) (i : ℕ) → z ≡ Refused y i → ⊥) → next_at t at ≡ z → Calm ⊎ ((x : Reason) × Fails x)
      other z h e = inl (λ y i q. h y i (sym e ∙ q))

      go : (z : Step) → next_at t at ≡ z → TokenIs at z k n f o to → Calm ⊎ ((x : Reason) × Fails x)
      go (Start i) e h = other (Start i) (λ y j q. never cc) e
      go (End i) e h = other (End i) (λ y j q. never cc) e
      go (Node i) e h = other (Node i) (λ y j q. never cc) e
      go (Property i j w) e h = other (Property i j w) (λ y a q. never cc) e
      go (Refused y i) e h = inr (reason_of y, (y, e ∙ ap (Refused y) (sym h.2), refl))
      go Done e h = other Done (λ y j q. never cc) e

  token-calm : Calm → n ≡ 0
  token-calm c = go (next_at t at) refl s
    where
      go : (z : Step) → next_at t at ≡ z → TokenIs at z k n f o to → n ≡ 0
      go (Start i) e h = h.1
      go (End i) e h = h.1
      go (Node i) e h = h.1
      go (Property i j w) e h = h.1
      go (Refused y i) e h = absurd (c y i e)
      go Done e h = h.1

  token-fails : (x : Reason) → Fails x → n ≡ number_of x
  token-fails x (y, e, q) = let h = subst (λ (z : Step). TokenIs at z k n f o to) e s in h.1 ∙ fault-number y ∙ ap number_of (sym q)

  pub token-exactly : Exactly n Calm Fails
  token-exactly = exactly n Calm Fails token-decided token-calm token-fails

-- ---- bytes that are made of lent ones alone: a display, plain text escaped

module _ (W out out' : List ℕ) (r : SgfDisplay) (is : r ≡ display_in_c (display_for (displayed W out))) (bytes : out' ≡ displayed_in W out) where
  placed-zero : length W ≤ length out → r.number ≡ 0
  unfolding displayed
  placed-zero l =
      ap (λ (z : SgfDisplay). z.number) is
      ∙ ap (λ (b : Bool). (display_in_c (display_for (pick b (Some (length W)) None))).number) (le-leb (length W) (length out) l)

  placed-full : length out < length W → r.number ≡ 14
  unfolding displayed
  placed-full l =
      ap (λ (z : SgfDisplay). z.number) is
      ∙ ap (λ (b : Bool). (display_in_c (display_for (pick b (Some (length W)) None))).number) (lt-leb (length W) (length out) l)

  pub placed-exactly : Exactly r.number (length W ≤ length out) (λ x. (x ≡ NoRoom) × (length out < length W))
  placed-exactly =
      exactly r.number (length W ≤ length out) (λ x. (x ≡ NoRoom) × (length out < length W))
      (below_or (length out) (length W) (λ l. inr (NoRoom, (refl, l))) (λ l. inl l)) placed-zero (λ x b. placed-full b.1 ∙ ap number_of (sym b.0))

  pub placed-stays : 0 < r.number → out' ≡ out
  unfolding displayed_in
  placed-stays z =
      below_or (length out) (length W)
      (λ l. bytes ∙ ap (λ (b : Bool). pick b (W ++ drop (length W) out) out) (lt-leb (length W) (length out) l))
      (λ l. absurd (omega (arith, z, placed-zero l)))

  pub placed-listed : OneOf raw_numbers r.number
  placed-listed =
      below_or (length out) (length W) (λ l. subst⁻¹ (OneOf raw_numbers) (placed-full l) (one_of raw_numbers 14 refl))
      (λ l. subst⁻¹ (OneOf raw_numbers) (placed-zero l) (one_of raw_numbers 0 refl))
