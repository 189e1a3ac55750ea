-- The values that are scanned, and their length as they are raw, added up value by value. Assumes nothing.
use Rattle.lists.proofs.Prelude.{ℕ, ◌+◌, ◌-◌, ◌≤◌, ◌≡◌, refl, sym, ap, ◌∙◌, List, [], ◌∷◌, map, arith, length, length-append, slice, length-slice}
use types.Run.{OneOf}
use denote.Enum.Declared.{tag_of}
use Rattle.lexer.specs.Step.{vals_on, vals_by, vals_at}
use Rattle.lexer.proofs.Listed.{vals-more}
use Rattle.lexer_scan.specs.Scan.{value_step_at}
use Rattle.lexer_scan.specs.declared.ValueStep.{ValueStep}
use Rattle.lexer_scan.specs.declared.ValueStep.TheVariants.{Value}
use Rattle.lexer_scan.specs.contracts.ValueStep as value-step
use Rattle.lexer_scan.proofs.Bounds.{value-is}
use Rattle.parser_game.proofs.Variants.{not-value}
use Rattle.fit.specs.Record.{raw_of}
use Rattle.serialize_values.specs.LocalsForm.{raws_text}
use Rattle.salvage_form.specs.Measured.{raws_at}

-- ---- the values that are scanned

pub raws-more : (s : List ℕ) (k a e n : ℕ) {x : ValueStep} → x ≡ value_step_at s k → x ≡ Value a e n → raws_at s k ≡ slice a e s ∷ raws_at s n
raws-more s k a e n ex ev = ap (map raw_of) (vals-more s k a e n (sym ex ∙ ev))

pub raws-shut : (s : List ℕ) (k : ℕ) {x : ValueStep} → x ≡ value_step_at s k → OneOf (1 ∷ 2 ∷ []) (tag_of value-step.the_type x) → raws_at s k ≡ []
unfolding vals_at vals_by
raws-shut s k {x} e z = ap (map raw_of) (ap (vals_on (vals_by (length s) s) s) (sym e) ∙ not-value (vals_by (length s) s) s x z)

pub box-length : (v : List ℕ) (vs : List (List ℕ)) → length (raws_text (v ∷ vs)) ≡ length v + 2 + length (raws_text vs)
unfolding raws_text
box-length v vs = let l = length-append v (0x5d ∷ raws_text vs) in omega arith

pub none-length : length (raws_text []) ≡ 0
unfolding raws_text
none-length = refl

-- n: the length of the values so far, up to the place `at`
pub record Summing (s : List ℕ) (k n at : ℕ) : Type 0 where
  pub sum : n + length (raws_text (raws_at s at)) ≡ length (raws_text (raws_at s k))
  pub low : n ≤ at
  pub fits : n ≤ length s

pub summing-first : (s : List ℕ) (k : ℕ) → Summing s k 0 k
summing-first s k = record { sum = omega arith; low = omega arith; fits = omega arith }

module _ {s : List ℕ} {k n at : ℕ} (y : Summing s k n at) {x : ValueStep} (ex : x ≡ value_step_at s at) where
  pub summing-next : (a e m : ℕ) → x ≡ Value a e m → Summing s k (n + (e - a + 2)) m
  summing-next a e m ev =
      let w = value-is s at a e m (sym ex ∙ ev) in
      let f = w.from in
      let g = w.forward in
      let i = w.inside in
      let o = w.on in
      let t = w.still in
      let lo = y.low in
      let su = y.sum in
      let l : length (slice a e s) ≡ e - a = length-slice a e s (omega arith) in
      let b : length (raws_text (raws_at s at)) ≡ length (slice a e s) + 2 + length (raws_text (raws_at s m)) =
      ap (λ (z : List (List ℕ)). length (raws_text z)) (raws-more s at a e m ex ev) ∙ box-length (slice a e s) (raws_at s m) in
      record { sum = omega arith; low = omega arith; fits = omega arith }

  pub summing-end : OneOf (1 ∷ 2 ∷ []) (tag_of value-step.the_type x) → n ≡ length (raws_text (raws_at s k))
  summing-end z =
      let su = y.sum in
      let b : length (raws_text (raws_at s at)) ≡ 0 = ap (λ (l : List (List ℕ)). length (raws_text l)) (raws-shut s at ex z) ∙ none-length in
      omega arith
