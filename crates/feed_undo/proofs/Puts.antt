-- Tables of as many rows are as long; what stands behind the last value. Assumes nothing.
use Rattle.lists.proofs.Prelude.{ℕ, zero, suc, ◌*◌, ◌≡◌, refl, sym, ap, ◌∙◌, arith, List, [], ◌∷◌, length, drop}
use Rattle.tables.specs.Flat.{flat_props, flat_vals}
use Rattle.tables.specs.Rows.{PropRow, ValRow}
use Rattle.feed_laid.proofs.Lengths.{to_of}
use Rattle.feed_laid.proofs.Texts.{behind}
use Rattle.feed_laws.proofs.Flat.{length-props, length-vals}

pub flat-props-same : (rs ss : List PropRow) → length rs ≡ length ss → length (flat_props rs) ≡ length (flat_props ss)
flat-props-same rs ss e = length-props rs ∙ ap (λ (n : ℕ). n * 4) e ∙ sym (length-props ss)

pub flat-vals-same : (rs ss : List ValRow) → length rs ≡ length ss → length (flat_vals rs) ≡ length (flat_vals ss)
flat-vals-same rs ss e = length-vals rs ∙ ap (λ (n : ℕ). n * 2) e ∙ sym (length-vals ss)

-- what stands behind the last value
pub behind-last : (t : List ℕ) (f : ℕ → List ℕ) (k i : ℕ) (vs : List ValRow) → suc i ≡ length vs → behind t f k i vs ≡ drop (to_of vs i) t
behind-last t f k i [] h = absurd (omega arith)
behind-last t f k zero (v ∷ []) h = refl
behind-last t f k zero (v ∷ u ∷ vs) h = absurd (omega arith)
behind-last t f k (suc i) (v ∷ vs) h = behind-last t f (suc k) i vs (omega arith)
