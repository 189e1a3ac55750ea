-- The property that has a value, found from one on that lies before it. Assumes nothing.
use Rattle.lists.proofs.Prelude.{ℕ, zero, suc, ◌+◌, ◌≤◌, ◌<◌, ◌≡◌, refl, sym, ap, ◌∙◌, subst, Bool, ◌&&◌, List, arith, add-one, ltb, lt-ltb, le-ltb, slice}
use Rattle.lists.specs.Same.{same}
use Rattle.lists.proofs.Tests.{same_or}
use Rattle.tables.specs.Columns.{name_from_at, name_to_at, first_val_at, val_count_at}
use Rattle.tables.specs.Each.{tabulate}
use Rattle.tables.proofs.Cases.{below_or}
use Rattle.parser.specs.Game.{GM}
use Rattle.fit.specs.Record.{prop_row}
use Rattle.fit_spans.proofs.Lists.{part_slice}
use Rattle.edit_answer.specs.Edit.{owner_name}
use Rattle.edit_answer.proofs.Tested.{Owner, owner-first, owner-more, owner-is, owner-none}
use Rattle.feed_check.specs.LocalsOwner.{Behind, Holds}

module _ (pr : List ℕ) (n : ℕ) where
  pub behind-first : (k : ℕ) → Behind pr n 0 k
  behind-first k = (omega arith, λ i l. absurd (omega arith))

  pub behind_more : (p k : ℕ) → Behind pr n p k → p < n → first_val_at pr p + val_count_at pr p ≤ k → Behind pr n (p + 1) k
  behind_more p k b l h =
      (omega arith, λ i j. same_or i p (λ e. subst (λ (z : ℕ). first_val_at pr z + val_count_at pr z ≤ k) (sym e) h) (λ e. b.1 i (omega arith)))

  pub behind-later : (p k k' : ℕ) → Behind pr n p k → k ≤ k' → Behind pr n p k'
  behind-later p k k' b h = (b.0, λ i l. omega (arith, b.1 i l, h))

  module _ (t : List ℕ) (k p : ℕ) (b : Behind pr n p k) where
    owner-upto : (q : ℕ) → q ≤ p → Owner t pr n k q
    owner-upto zero h = owner-first t pr n k
    owner-upto (suc q) h =
        subst (Owner t pr n k) (add-one q) (owner-more t pr n k (owner-upto q (omega arith)) (omega (arith, b.0)) (b.1 q (omega arith)))

    -- whether its identifier is `GM`
    pub game-type-is : Holds pr n p k → (ltb p n && same (slice (name_from_at pr p) (name_to_at pr p) t) GM) ≡ same (owner_name t (tabulate (prop_row pr) 0 n) k) GM
    game-type-is h =
        let o = owner-upto p (omega arith) in
        let name = same (slice (name_from_at pr p) (name_to_at pr p) t) GM in
        below_or p n
        (λ l. ap (λ (x : Bool). x && name) (lt-ltb p n l)
        ∙ owner-is t pr n k o l (h l) refl refl (ap (λ (z : List ℕ). same z GM) (sym (part_slice (name_from_at pr p) (name_to_at pr p) t))))
        (λ l. ap (λ (x : Bool). x && name) (le-ltb p n l) ∙ owner-none t pr n k o l)
