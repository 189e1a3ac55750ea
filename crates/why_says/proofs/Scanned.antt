-- Where the scan of a failing token stops. Assumes nothing.
use Rattle.lists.proofs.Prelude.{ℕ, zero, suc, ◌+◌, ◌-◌, ◌≤◌, ◌<◌, ◌≡◌, refl, sym, ap, ◌∙◌, subst, Bool, true, false, List, [], ◌∷◌, ◌++◌, arith, length, take, drop, get_or, eqb, ltb, eqb-true, eqb-false, ne_eqb, le-leb, lt-leb, ltb-true, lt-ltb, pick}
use Rattle.lists.proofs.Pick.{pick-elim}
use Rattle.lists.proofs.Tests.{never}
use Rattle.lists.specs.All.{All}
use Rattle.lexer_close.specs.Close.{close_at}
use Rattle.lexer_scan.specs.Scan.{skip_at, ident_at, value_step_at, values_end_at, on_close}
use Rattle.lexer_scan.specs.declared.Ident.{Ident}
use Rattle.lexer_scan.specs.declared.Ident.TheVariants.{Opens, Missing, Foreign}
use Rattle.lexer_scan.specs.declared.ValueStep.{ValueStep}
use Rattle.lexer_scan.specs.declared.ValueStep.TheVariants.{Value, NoMore, Unclosed}
use Rattle.lexer_scan.proofs.Bounds.{value-is}
use Rattle.lexer_scan.proofs.Values.{values-more, values-none, values-unclosed}
use Rattle.lexer.specs.Step.{head_from, head_at, on_ident, on_values, on_head, next_at}
use Rattle.lexer.specs.declared.Fault.{Fault}
use Rattle.lexer.specs.declared.Fault.TheVariants.{MissingPropertyIdentifier, UnexpectedEndOfPropertyIdentifier, UnexpectedEndOfPropertyValue}
use Rattle.lexer.specs.declared.Head.{Head}
use Rattle.lexer.specs.declared.Step.{Step}
use Rattle.lexer.specs.declared.Step.TheVariants.{Start, End, Node, Property, Refused, Done}
use Rattle.lexer_laws.proofs.Exactly.{IdentIs, ident-is, ident-exactly, CloseIs, close-is, close-exactly}
use Rattle.reader_exactly.specs.When.{FailsAt}
use Rattle.why_blame.specs.Cuts.{foreign_from}
use Rattle.why_says.specs.Scans.{PropertyIn, PropertyAt, Crossed, MeetsForeign, ReachesByValues, none_more, one_more, StaysUnclosed}
use Rattle.std.specs.Prelude.{Option, Some, None}

module _ (u : List ℕ) where
  -- ---- what the scan found where a token fails

  abbrev FaultScan : Fault → ℕ → Type 0
  FaultScan MissingPropertyIdentifier p = ident_at u p ≡ Missing
  FaultScan UnexpectedEndOfPropertyIdentifier p = ident_at u p ≡ Foreign
  FaultScan UnexpectedEndOfPropertyValue p = (k : ℕ) × (ident_at u p ≡ Opens k) × (values_end_at u k ≡ None)

  -- of a token that begins at j
  abbrev StepScan : ℕ → Step → Type 0
  StepScan j (Start i) = Unit {0}
  StepScan j (End i) = Unit {0}
  StepScan j (Node i) = Unit {0}
  StepScan j (Property i k e) = Unit {0}
  StepScan j (Refused f i) = FaultScan f i × (i ≡ j) × PropertyIn u i
  StepScan j Done = Unit {0}

  abbrev HeadScan : ℕ → Head → Type 0
  HeadScan j h = StepScan j (on_head u h)

  ident-scan : (i : ℕ) (x : Ident) → PropertyIn u i → ident_at u i ≡ x → HeadScan i (on_ident i x)
  ident-scan i (Opens k) h e = go (values_end_at u k) refl
    where
      go : (z : Option ℕ) → values_end_at u k ≡ z → StepScan i (on_values i k z)
      go (Some j) q = tt
      go None q = ((k, e, q), refl, h)
  ident-scan i Missing h e = (e, refl, h)
  ident-scan i Foreign h e = (e, refl, h)

  head-scan : (i : ℕ) → HeadScan i (head_from u i)
  unfolding head_from
  head-scan i =
      pick-elim (HeadScan i) (ltb i (length u))
      (λ l. pick-elim (HeadScan i) (eqb (get_or u i 0) 0x28) (λ _. tt)
      (λ a. pick-elim (HeadScan i) (eqb (get_or u i 0) 0x29) (λ _. tt)
      (λ b. pick-elim (HeadScan i) (eqb (get_or u i 0) 0x3b) (λ _. tt)
      (λ c. ident-scan i (ident_at u i) (record {
        inside = ltb-true i (length u) l;
        no_start = eqb-false (get_or u i 0) 0x28 a;
        no_end = eqb-false (get_or u i 0) 0x29 b;
        no_node = eqb-false (get_or u i 0) 0x3b c;
      }) refl))))
      (λ _. tt)

  next-scan : (i : ℕ) → StepScan (skip_at u i) (next_at u i)
  unfolding next_at head_at
  next-scan i = head-scan (skip_at u i)

  pub refused-scan : (i : ℕ) (f : Fault) (p : ℕ) → next_at u i ≡ Refused f p → FaultScan f p × (p ≡ skip_at u i) × PropertyIn u p
  refused-scan i f p e = subst (StepScan (skip_at u i)) e (next-scan i)

  -- ---- and a token fails where the scan finds that

  head-property : (i : ℕ) → PropertyIn u i → head_from u i ≡ on_ident i (ident_at u i)
  unfolding head_from
  head-property i h =
      rw (lt-ltb i (length u) h.inside, ne_eqb (get_or u i 0) 0x28 h.no_start, ne_eqb (get_or u i 0) 0x29 h.no_end, ne_eqb (get_or u i 0) 0x3b h.no_node)

  scan-head : (f : Fault) (p : ℕ) → FaultScan f p → on_head u (on_ident p (ident_at u p)) ≡ Refused f p
  scan-head MissingPropertyIdentifier p s = ap (λ (x : Ident). on_head u (on_ident p x)) s
  scan-head UnexpectedEndOfPropertyIdentifier p s = ap (λ (x : Ident). on_head u (on_ident p x)) s
  scan-head UnexpectedEndOfPropertyValue p s = ap (λ (x : Ident). on_head u (on_ident p x)) s.1 ∙ ap (on_values p s.0) s.2

  pub scan-refused : (i : ℕ) (f : Fault) (p : ℕ) → p ≡ skip_at u i → PropertyIn u p → FaultScan f p → next_at u i ≡ Refused f p
  unfolding next_at head_at
  scan-refused i f p e h s = ap (λ (z : ℕ). on_head u (head_from u z)) (sym e) ∙ ap (on_head u) (head-property p h) ∙ scan-head f p s

  -- ---- an identifier that is not ended

  pub missing-crossed : (p : ℕ) → ident_at u p ≡ Missing → All Crossed (drop p u)
  missing-crossed p e = subst (IdentIs p (drop p u)) e (ident-is p (drop p u))

  pub crossed-missing : (p : ℕ) → All Crossed (drop p u) → ident_at u p ≡ Missing
  crossed-missing p h = ident-exactly p (drop p u) Missing h

  foreign-over : (i : ℕ) (pre : List ℕ) (b : ℕ) (post : List ℕ) → All Crossed pre → 128 ≤ b → foreign_from i (pre ++ (b ∷ post)) ≡ i + length pre
  unfolding foreign_from
  foreign-over i [] b post h l = let z : i ≡ i + 0 = omega arith in rw (le-leb 128 b l) z
  foreign-over i (x ∷ pre) b post h l =
      let z : i + 1 + length pre ≡ i + suc (length pre) = omega arith in
      rw (lt-leb 128 x h.0.0) (foreign-over (i + 1) pre b post h.1 l ∙ z)

  pub meets-foreign : (p : ℕ) → ident_at u p ≡ Foreign → MeetsForeign u p (foreign_from p (drop p u))
  meets-foreign p e =
      let x : IdentIs p (drop p u) Foreign = subst (IdentIs p (drop p u)) e (ident-is p (drop p u)) in
      record { before = x.0; byte = x.1; behind = x.2; are = x.3; crossed = x.4; foreign = x.5; stop = ap (foreign_from p) x.3 ∙ foreign-over p x.0 x.1 x.2 x.4 x.5 }

  pub foreign-scan : {p e : ℕ} → MeetsForeign u p e → ident_at u p ≡ Foreign
  foreign-scan {p} {e} x = ident-exactly p (drop p u) Foreign (x.before, x.byte, x.behind, x.are, x.crossed, x.foreign)

  pub foreign-met : {p e : ℕ} → MeetsForeign u p e → e ≡ foreign_from p (drop p u)
  foreign-met {p} {e} x = x.stop ∙ sym (ap (foreign_from p) x.are ∙ foreign-over p x.before x.byte x.behind x.crossed x.foreign)

  -- ---- a value that is not closed

  unclosed_at : (p first k : ℕ) → ident_at u p ≡ Opens first → ReachesByValues u first k → value_step_at u k ≡ Unclosed → StaysUnclosed u p
  unfolding value_step_at
  unclosed_at p first k e r q = go (eqb (get_or u k 0) 0x5b) refl q
    where
      shut : (z : Option ℕ) → close_at u (k + 1) ≡ z → on_close u k z ≡ Unclosed → CloseIs false (k + 1) (drop (k + 1) u) None
      shut (Some j) f h = never cc
      shut None f h = subst (CloseIs false (k + 1) (drop (k + 1) u)) f (close-is false (k + 1) (drop (k + 1) u))

      go : (b : Bool) → eqb (get_or u k 0) 0x5b ≡ b → pick b (on_close u k (close_at u (k + 1))) NoMore ≡ Unclosed → StaysUnclosed u p
      go true f h =
          record { first = first; bracket = k; named = e; reached = r; opens = eqb-true (get_or u k 0) 0x5b f; never-closed = shut (close_at u (k + 1)) refl h }
      go false f h = never cc

  reach-on : (first k a e n : ℕ) → ReachesByValues u first k → value_step_at u k ≡ Value a e n → ReachesByValues u first n
  reach-on first k a e n none_more q = one_more a e n q none_more
  reach-on first k a e n (one_more b c m f r) q = one_more b c m f (reach-on m k a e n r q)

  unclosed-from : (f p first k : ℕ) → length u - k < f → ident_at u p ≡ Opens first → ReachesByValues u first k → values_end_at u k ≡ None → StaysUnclosed u p
  unclosed-from zero p first k l e r q = absurd (omega arith)
  unclosed-from (suc f) p first k l e r q = go (value_step_at u k) refl (unclosed-from f)
    where
      go : (v : ValueStep) → value_step_at u k ≡ v
          → ((p first k : ℕ) → length u - k < f → ident_at u p ≡ Opens first → ReachesByValues u first k → values_end_at u k ≡ None → StaysUnclosed u p) → StaysUnclosed u p
      go (Value a b n) h ih = let i = value-is u k a b n h in ih p first n (omega arith) e (reach-on first k a b n r h) (sym (values-more u k a b n h) ∙ q)
      go NoMore h ih = let z : Some k ≡ None = sym (values-none u k h) ∙ q in never cc
      go Unclosed h ih = unclosed_at p first k e r h

  pub stays-unclosed : (p k : ℕ) → ident_at u p ≡ Opens k → values_end_at u k ≡ None → StaysUnclosed u p
  stays-unclosed p k e q = unclosed-from (suc (length u)) p k k (omega arith) e none_more q

  values-reached : (i k : ℕ) → ReachesByValues u i k → values_end_at u i ≡ values_end_at u k
  values-reached i k none_more = refl
  values-reached i k (one_more a e n q r) = values-more u i a e n q ∙ values-reached n k r

  unclosed-step : (k : ℕ) → get_or u k 0 ≡ 0x5b → CloseIs false (k + 1) (drop (k + 1) u) None → value_step_at u k ≡ Unclosed
  unfolding value_step_at
  unclosed-step k o h =
      ap (λ (z : ℕ). pick (eqb z 0x5b) (on_close u k (close_at u (k + 1))) NoMore) o
      ∙ ap (on_close u k) (close-exactly false (k + 1) (drop (k + 1) u) None h)

  pub unclosed-scan : {p : ℕ} → StaysUnclosed u p → FaultScan UnexpectedEndOfPropertyValue p
  unclosed-scan x =
      let k = x.bracket in
      (x.first, x.named, values-reached x.first k x.reached ∙ values-unclosed u k (unclosed-step k x.opens x.never-closed))

-- ---- of a text: where its tokens fail, and where they come to a property whose scan finds that

module _ (t : List ℕ) {p : ℕ} where
  abbrev pub fails-property : {f : Fault} → FailsAt t f p → PropertyAt t p
  fails-property {f} x =
      let r = refused-scan (take x.last t) x.at f p x.fails in
      record { first = x.first; last = x.last; at = x.at; kept = x.kept; reached = x.reached; begins = r.1; is = r.2 }

  module _ (x : PropertyAt t p) where
    abbrev property-fails : {f : Fault} → FaultScan (take x.last t) f p → FailsAt t f p
    property-fails {f} s =
        record { first = x.first; last = x.last; at = x.at; kept = x.kept; reached = x.reached; fails = scan-refused (take x.last t) x.at f p x.begins x.is s }

    abbrev pub missing-fails : {e : ℕ} → e ≡ x.last → All Crossed (drop p (take e t)) → FailsAt t MissingPropertyIdentifier p
    missing-fails {e} q h = property-fails (crossed-missing (take x.last t) p (subst (λ (z : ℕ). All Crossed (drop p (take z t))) q h))

    abbrev pub foreign-fails : {e : ℕ} → MeetsForeign (take x.last t) p e → FailsAt t UnexpectedEndOfPropertyIdentifier p
    foreign-fails {e} h = property-fails (foreign-scan (take x.last t) h)

    abbrev pub unclosed-fails : {e : ℕ} → e ≡ x.last → StaysUnclosed (take e t) p → FailsAt t UnexpectedEndOfPropertyValue p
    unclosed-fails {e} q h = property-fails (unclosed-scan (take x.last t) (subst (λ (z : ℕ). StaysUnclosed (take z t) p) q h))
