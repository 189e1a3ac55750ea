-- Facts, places and numbers: an explanation is the one fact, with the one place, that the scope's words give. Assumes nothing.
use Rattle.lists.proofs.Prelude.{ℕ, ◌<◌, ◌≡◌, refl, sym, ap, ◌∙◌, subst, Bool, true, false, List}
use Rattle.text_utf8.specs.Trim.{trimmed}
use Rattle.tables.specs.declared.Reason.{Reason}
use Rattle.parser.specs.Read.{Answer, refused, accepted, read}
use Rattle.reader.specs.Lent.{rows_counted}
use Rattle.reader_exactly.specs.Slicing.{Iff}
use Rattle.why_blame.specs.Numbered.{fact_reason}
use Rattle.why_blame.specs.declared.Fact.{Fact}
use Rattle.why.specs.Why.{text_blame, trim_loose, explained_by, explained}
use Rattle.why.proofs.Trees.{Agree}
use Rattle.why.proofs.Agrees.{text-agrees}
use Rattle.why_says.specs.Says.{FactSays}
use Rattle.why_says.specs.Clear.{Clear, LenientClear, stage_of}
use Rattle.why_says.proofs.Earlier.{earlier-refuted, earlier-refuted-lenient}
use Rattle.why_says.proofs.Exactly.{says-blamed, says-blamed-lenient}
use Rattle.why_says.proofs.Says.{why-says, why-clear, why-clear-lenient}
use Rattle.std.specs.Prelude.{Option, Some, Err}
use Rattle.tables.specs.Refusals.{refusal}
use Rattle.tables.specs.declared.Refusal.{Refusal}
use Rattle.tables.proofs.Refusals.{some-refusal}

module _ (t : List ℕ) where
  module _ (len : Bool) {f : Fact} {p : ℕ} (e : text_blame len t ≡ Some (refusal f p)) where
    blamed-number : (place : ℕ) × (read len t ≡ refused (fact_reason f) place)
    blamed-number = go (read len t) refl (subst (Agree (read len t)) e (text-agrees len t))
      where
        go : (a : Answer) → read len t ≡ a → Agree a (Some (refusal f p)) → (place : ℕ) × (read len t ≡ refused (fact_reason f) place)
        go (refused r o) q h = (o, q ∙ ap (λ (z : Reason). refused z o) (sym h))
        go (accepted ts) q h = absurd h

    blamed-why : explained len t ≡ Err (refusal f p)
    blamed-why =
        ap (λ (a : Answer). explained_by (rows_counted a) (text_blame len t) (trim_loose len t (trimmed t))) blamed-number.1
        ∙ ap (λ (b : Option (Refusal Fact)). explained_by (rows_counted (refused (fact_reason f) blamed-number.0)) b (trim_loose len t (trimmed t))) e

  same-blame : (len : Bool) {f g : Fact} {p q : ℕ} → text_blame len t ≡ Some (refusal f p) → text_blame len t ≡ Some (refusal g q) → (f ≡ g) × (p ≡ q)
  same-blame len {f} {g} {p} {q} a b = some-refusal (sym a ∙ b)

  -- ---- strict

  -- a fact that holds, where nothing earlier applies, entails its number
  pub says-number : (f : Fact) (p : ℕ) → FactSays t f p → Clear t f → (place : ℕ) × (read false t ≡ refused (fact_reason f) place)
  says-number f p x c = blamed-number false (says-blamed t f p x c)

  -- a text is explained by a fact and a place exactly when the fact holds of it there and nothing earlier applies
  pub why-exactly : (f : Fact) (p : ℕ) → Iff (explained false t ≡ Err (refusal f p)) (FactSays t f p × Clear t f)
  why-exactly f p = ((λ e. (why-says t false f p e, why-clear t f p e)), λ h. blamed-why false (says-blamed t f p h.0 h.1))

  -- and no fact that stands earlier in the scope's order holds of it, at any place
  pub clear-not : (f g : Fact) (q : ℕ) → Clear t f → stage_of g < stage_of f → FactSays t g q → ⊥
  clear-not f g q c l x = earlier-refuted t f g q c l x

  -- so there is at most one such fact, and one place
  pub grounds-once : (f g : Fact) (p q : ℕ) → FactSays t f p → Clear t f → FactSays t g q → Clear t g → (f ≡ g) × (p ≡ q)
  grounds-once f g p q x c y d = same-blame false (says-blamed t f p x c) (says-blamed t g q y d)

  -- ---- lenient

  pub says-number-lenient : (f : Fact) (p : ℕ) → FactSays t f p → LenientClear t f → (place : ℕ) × (read true t ≡ refused (fact_reason f) place)
  says-number-lenient f p x c = blamed-number true (says-blamed-lenient t f p x c)

  pub why-exactly-lenient : (f : Fact) (p : ℕ) → Iff (explained true t ≡ Err (refusal f p)) (FactSays t f p × LenientClear t f)
  why-exactly-lenient f p = ((λ e. (why-says t true f p e, why-clear-lenient t f p e)), λ h. blamed-why true (says-blamed-lenient t f p h.0 h.1))

  -- of the facts that a lenient reading has, none that stands earlier holds
  pub clear-not-lenient : (f g : Fact) (q : ℕ) → LenientClear t f → LenientClear t g → stage_of g < stage_of f → FactSays t g q → ⊥
  clear-not-lenient f g q c d l x = earlier-refuted-lenient t f g q c d l x

  pub grounds-once-lenient : (f g : Fact) (p q : ℕ) → FactSays t f p → LenientClear t f → FactSays t g q → LenientClear t g → (f ≡ g) × (p ≡ q)
  grounds-once-lenient f g p q x c y d = same-blame true (says-blamed-lenient t f p x c) (says-blamed-lenient t g q y d)
