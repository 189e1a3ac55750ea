-- What the sweeps know of the buffer: by the values' rows alone; and their steps as the code takes them. Assumes nothing.
use Rattle.lists.proofs.Prelude.{ℕ, suc, ◌+◌, ◌-◌, ◌≤◌, ◌<◌, true, List, [], ◌≡◌, sym, ap, ◌∙◌, arith, length, take, drop}
use Rattle.tables.specs.Columns.{val_from_at}
use Rattle.tables.specs.Flat.{over}
use Rattle.tables.specs.Memory.{Memory, memory}
use Rattle.fit.specs.Fit.{Fit}
use Rattle.fit_spans.proofs.Lists.{part_slice}
use Rattle.edit_splice.specs.Splice.{cleared}
use Rattle.feed.specs.Feed.{listing}
use Rattle.feed.specs.Find.{found_in}
use Rattle.feed_laid.specs.OfMemory.{laid_text, own_bytes}
use Rattle.feed_laws.specs.Corrected.{new_bytes}
use Rattle.feed_laws.specs.LocalsSweep.{until, lesser}
use Rattle.feed_apply.specs.LocalsAlong.{Uncorrected}
use Rattle.feed_apply.specs.LocalsSizes.{old_size, grown_to, shrunk_to}
use Rattle.feed_apply.specs.LocalsText.{shorter_put, longer_put}
use Rattle.feed_apply.proofs.Holding.{Holds, less-skip, new-skip}
use Rattle.feed_apply.proofs.Sweeping.{less-more, new-more}
use Rattle.std.specs.Prelude.{Some}

-- a text with the rows of its values and no others
abbrev pub bare : List ℕ → (used n : ℕ) → List ℕ → Memory
bare t used n vl = memory t used (record { trees = 0; nodes = 0; properties = 0; values = n }) [] [] [] vl

-- the buffer, and how long its text is, with f k for the bytes of each value k
pub record Swept (t : List ℕ) (used n : ℕ) (vl : List ℕ) (f : ℕ → List ℕ) (t' : List ℕ) (used' : ℕ) : Type 0 where
  pub bytes : t' ≡ over (cleared (laid_text (bare t used n vl) f) used) t
  pub long : used' ≡ length (laid_text (bare t used n vl) f)

-- ---- the second sweep: whatever record the first has left, it carries on

module _ (w vl : List ℕ) (n : ℕ) (t₀ : List ℕ) (u₀ : ℕ) where
  abbrev pub Carried : (k : ℕ) → List ℕ → ℕ → Type 0
  Carried k t u =
      (m : Memory) (fit : Fit m ≡ true) → m.values ≡ vl → m.counts.values ≡ n → length (laid_text m (new_bytes m w)) ≤ length m.text
      → Holds m fit w (until 0 (new_bytes m w) (lesser m w)) t₀ u₀ → Holds m fit w (until k (new_bytes m w) (lesser m w)) t u

  pub carried-begin : (k : ℕ) → Uncorrected w 0 k → Carried k t₀ u₀
  carried-begin k u m fit ev en room x = new-skip m fit w 0 k (omega arith) u x

  pub carried-more : {k b z start old k' u u' : ℕ} {t t' : List ℕ} → Carried k t u → k < n → found_in (listing w).entries k ≡ Some (b, z)
      → start ≡ val_from_at vl k + grown_to vl w k - shrunk_to vl w k → old ≡ old_size vl k
      → t' ≡ longer_put t u start old (take (z - b) (drop b w)) → u' ≡ u + (length (take (z - b) (drop b w)) - old)
      → Uncorrected w (k + 1) k' → k < k' → Carried k' t' u'
  carried-more {k} {b} {z} {start} {old} {k'} {u} {u'} {t} {t'} x below found es eo et eu un l m fit ev en room h =
      let s = part_slice b z w in
      let es' : start ≡ val_from_at m.values k + grown_to m.values w k - shrunk_to m.values w k =
      es ∙ ap (λ (v : List ℕ). val_from_at v k + grown_to v w k - shrunk_to v w k) (sym ev) in
      let eo' : old ≡ old_size m.values k = eo ∙ ap (λ (v : List ℕ). old_size v k) (sym ev) in
      let r = new-more m fit w k b z (omega (arith, below, en)) found (x m fit ev en room h) es' eo' room in
      new-skip m fit w (suc k) k' l (λ j p q. un j (omega arith) q)
      (record {
        bytes = et ∙ ap (longer_put t u start old) s ∙ r.bytes;
        long = eu ∙ ap (λ (y : List ℕ). u + (length y - old)) s ∙ r.long;
      })

-- ---- the first

module _ (m : Memory) (fit : Fit m ≡ true) (w : List ℕ) where
  abbrev n : ℕ
  n = m.counts.values

  pub swept-more : {k b z start old k' u u' : ℕ} {t t' : List ℕ} → Holds m fit w (until k (lesser m w) (own_bytes m)) t u → k < n → found_in (listing w).entries k ≡ Some (b, z)
      → start ≡ val_from_at m.values k - shrunk_to m.values w k → old ≡ old_size m.values k
      → t' ≡ shorter_put t u start old (take (z - b) (drop b w)) → u' ≡ u - (old - length (take (z - b) (drop b w)))
      → Uncorrected w (k + 1) k' → k < k' → Holds m fit w (until k' (lesser m w) (own_bytes m)) t' u'
  swept-more {k} {b} {z} {start} {old} {k'} {u} {u'} {t} {t'} x below found es eo et eu un l =
      let s = part_slice b z w in
      let r = less-more m fit w k b z below found x es eo in
      less-skip m fit w (suc k) k' l (λ j p q. un j (omega arith) q)
      (record {
        bytes = et ∙ ap (shorter_put t u start old) s ∙ r.bytes;
        long = eu ∙ ap (λ (y : List ℕ). u - (old - length y)) s ∙ r.long;
      })
