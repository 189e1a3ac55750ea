-- Corrections over the air, of sgf_correct: "Applying the feed gives the same bytes at every value"; tables that fit stay fitting, and memory that holds a
-- strict reading holds one after it, so that demand 3 covers feeds between edits; a refusal changes nothing. Assumes nothing.
use Rattle.lists.proofs.Prelude.{ℕ, ◌<◌, true, ◌≡◌, refl, sym, ap, ap₂, ◌∙◌, subst⁻¹, arith, List, slice, length}
use Rattle.tables.specs.Columns.{val_from_at, val_to_at}
use Rattle.tables.specs.Memory.{Memory}
use Rattle.tables.specs.Rows.{Tables}
use Rattle.fit.specs.Fit.{Fit}
use Rattle.edit_laws.specs.Fresh.{Fresh}
use Rattle.feed_check.specs.Check.{feed_number}
use Rattle.feed_check.specs.declared.FeedRefusal.{FeedRefusal}
use Rattle.feed_check.specs.declared.FeedRefusal.TheVariants.{NotFitting, Malformed, NoSuchNumber, GameTypeFixed, NotUtf8, NotClosed, TextTooLong, NoRoom}
use Rattle.feed_value.specs.Look.{corrected_value}
use Rattle.feed_laws.specs.Applied.{Applying, refusing, applying, feed_applied, memory_applied}
use Rattle.feed_laws.proofs.Accepted.{used_now, applied-same, applied-fits, applied-fresh}
use Rattle.feed_apply.specs.Lent.{applied_for}
use Rattle.c_answers.specs.declared.SgfEdit.{SgfEdit}
use Rattle.c_feed.specs.Parts.{applied_in_c, CorrectInC}

-- no refusal has the number 0
pub no_zero : {A : Type 0} (f : FeedRefusal) → feed_number f ≡ 0 → A
no_zero NotFitting h = absurd (omega (arith, h))
no_zero Malformed h = absurd (omega (arith, h))
no_zero NoSuchNumber h = absurd (omega (arith, h))
no_zero GameTypeFixed h = absurd (omega (arith, h))
no_zero NotUtf8 h = absurd (omega (arith, h))
no_zero NotClosed h = absurd (omega (arith, h))
no_zero TextTooLong h = absurd (omega (arith, h))
no_zero NoRoom h = absurd (omega (arith, h))

-- number 0: a text and rows were given, and the used length is the text's
pub record Given (m : Memory) (w : List ℕ) (r : SgfEdit) : Type 0 where
  pub text : List ℕ
  pub rows : Tables
  pub is : feed_applied m w ≡ applying text rows
  pub used : r.used ≡ length text
  pub counts : r.counts ≡ m.counts

module _ (m m' : Memory) (w : List ℕ) (r : SgfEdit) (s : CorrectInC m m' w r) where
  given : r.number ≡ 0 → Given m w r
  given z = go (feed_applied m w) refl
    where
      go : (o : Applying) → feed_applied m w ≡ o → Given m w r
      go (refusing f p) e = no_zero f (sym (ap (λ (x : SgfEdit). x.number) (s.is ∙ ap (λ (y : Applying). applied_in_c m.counts (applied_for y)) e)) ∙ z)
      go (applying t T) e =
          let q = s.is ∙ ap (λ (y : Applying). applied_in_c m.counts (applied_for y)) e in
          record { text = t; rows = T; is = e; used = ap (λ (x : SgfEdit). x.used) q; counts = ap (λ (x : SgfEdit). x.counts) q }

  next-is : (g : Given m w r) → used_now m' r.used ≡ used_now (memory_applied (feed_applied m w) m) (length g.text)
  next-is g = ap₂ used_now s.memory g.used

  -- ---- accepted: what the caller goes on with

  module _ (z : r.number ≡ 0) where
    -- every value's bytes are what the lookup handed out before
    pub correct-same : (k : ℕ) → k < m.counts.values → slice (val_from_at m'.values k) (val_to_at m'.values k) m'.text ≡ corrected_value m w k
    correct-same k l =
        let g = given z in
        ap (λ (x : Memory). slice (val_from_at x.values k) (val_to_at x.values k) x.text) s.memory ∙ applied-same m w g.text g.rows g.is k l

    -- the tables fit the new text
    pub correct-fits : Fit (used_now m' r.used) ≡ true
    correct-fits = let g = given z in ap Fit (next-is g) ∙ applied-fits m w g.text g.rows g.is

    -- a strict reading's memory is again what a strict reading of the new text gives
    pub correct-fresh : Fresh m → Fresh (used_now m' r.used)
    correct-fresh f = let g = given z in subst⁻¹ Fresh (next-is g) (applied-fresh m w g.text g.rows g.is f)

    pub correct-counts : r.counts ≡ m.counts
    correct-counts = (given z).counts

  -- refused: nothing changes
  pub correct-refused : (r.number ≡ 0 → ⊥) → m' ≡ m
  correct-refused n = go (feed_applied m w) refl
    where
      go : (o : Applying) → feed_applied m w ≡ o → m' ≡ m
      go (refusing f p) e = s.memory ∙ ap (λ (y : Applying). memory_applied y m) e
      go (applying t T) e = absurd (n (ap (λ (x : SgfEdit). x.number) (s.is ∙ ap (λ (y : Applying). applied_in_c m.counts (applied_for y)) e)))
