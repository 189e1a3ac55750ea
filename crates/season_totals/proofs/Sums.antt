-- Sums column by column, and what a line adds. Assumes nothing.
use Rattle.lists.proofs.Prelude.{ℕ, zero, suc, ◌+◌, ◌-◌, ◌^◌, ◌<◌, ◌≤◌, ◌≡◌, refl, sym, ap, ◌∙◌, Bool, true, false, ◌&&◌, List, [], ◌∷◌, length, get_or, arith, leb, zero-add, le-leb, lt-leb, set_out, length-set, get_or-set_same, get_or-set_other, ext_get_or}
use lib.ListN.{set}
use Rattle.std.proofs.Common.{Some, None}
use Rattle.lists.proofs.Tests.{same_or}
use Rattle.season_totals.specs.declared.Line.{Line}
use Rattle.season_totals.specs.declared.Line.TheVariants.{Refused}
use Rattle.tables.proofs.Tabulate.{tabulate-length, tabulate-at}
use Rattle.season_totals.specs.Totals.{no_sums, line_sums, plus_sums, small_sums, added_to}

pub refused-beyond : (line : Line) (n : ℕ) → line ≡ Refused n → 32 ≤ n → no_sums ≡ line_sums line
refused-beyond line n e h = sym (ap line_sums e ∙ set_out no_sums (6 + n) 1 (omega arith))

pub plus-length : (xs ys : List ℕ) → length (plus_sums xs ys) ≡ 38
unfolding plus_sums
plus-length xs ys = tabulate-length (λ i. get_or xs i 0 + get_or ys i 0) 0 38

pub plus-at : (xs ys : List ℕ) (k : ℕ) → k < 38 → get_or (plus_sums xs ys) k 0 ≡ get_or xs k 0 + get_or ys k 0
unfolding plus_sums
plus-at xs ys k h = tabulate-at (λ i. get_or xs i 0 + get_or ys i 0) 0 38 k 0 h ∙ ap (λ (i : ℕ). get_or xs i 0 + get_or ys i 0) (zero-add k)

pub small-each : (xs : List ℕ) → ((k : ℕ) → k < length xs → get_or xs k 0 ≤ 2 ^ 64 - 1) → small_sums xs ≡ true
small-each [] h = refl
small-each (x ∷ xs) h = rw (le-leb x (2 ^ 64 - 1) (h 0 (omega arith))) (small-each xs (λ k l. h (suc k) (omega arith)))

pub small-not : (xs : List ℕ) (k : ℕ) → k < length xs → 2 ^ 64 - 1 < get_or xs k 0 → small_sums xs ≡ false
small-not [] k l h = absurd (omega arith)
small-not (x ∷ xs) zero l h = rw (lt-leb x (2 ^ 64 - 1) h)
small-not (x ∷ xs) (suc k) l h = go (leb x (2 ^ 64 - 1)) (small-not xs k (omega arith) h)
  where
    go : (t : Bool) → small_sums xs ≡ false → t && small_sums xs ≡ false
    go true e = e
    go false e = refl

-- the loop
module _ (xs ys : List ℕ) where
  -- the first i columns are added, and the others are as they were
  pub record Adding (sums : List ℕ) (i : ℕ) : Type 0 where
    pub len : length sums ≡ 38
    pub done : (k : ℕ) → k < i → get_or sums k 0 ≡ get_or xs k 0 + get_or ys k 0
    pub small : (k : ℕ) → k < i → get_or xs k 0 + get_or ys k 0 ≤ 2 ^ 64 - 1
    pub ahead : (k : ℕ) → i ≤ k → get_or sums k 0 ≡ get_or xs k 0

  pub adding-first : length xs ≡ 38 → Adding xs 0
  adding-first h = record { len = h; done = λ k b. absurd (omega arith); small = λ k b. absurd (omega arith); ahead = λ k b. refl }

  module _ {sums : List ℕ} {i : ℕ} (p : Adding sums i) (h : i < 38) where
    pub adding-next : {n : ℕ} → get_or sums i 0 + get_or ys i 0 < 2 ^ 64 → n ≡ get_or sums i 0 + get_or ys i 0 → Adding (set sums i n) (i + 1)
    adding-next {n} f e =
        let l = p.len in
        let a = p.ahead i (omega arith) in
        record {
          len = length-set sums i n ∙ p.len;
          done = λ k q. same_or i k
              (λ z. ap (λ (j : ℕ). get_or (set sums i n) j 0) (sym z) ∙ get_or-set_same sums i n 0 (omega arith) ∙ e ∙ ap (λ (j : ℕ). j + get_or ys i 0) a
              ∙ ap (λ (j : ℕ). get_or xs j 0 + get_or ys j 0) z)
              (λ z. get_or-set_other sums i k n 0 (λ y. z (sym y)) ∙ p.done k (omega arith));
          small = λ k q. same_or i k (λ z. rw (← z) (omega arith)) (λ z. p.small k (omega arith));
          ahead = λ k q. get_or-set_other sums i k n 0 (omega arith) ∙ p.ahead k (omega arith);
        }

    pub adding-over : 2 ^ 64 ≤ get_or sums i 0 + get_or ys i 0 → None ≡ added_to xs ys
    unfolding added_to
    adding-over o =
        let q = plus-at xs ys i h in
        let n = plus-length xs ys in
        let a = p.ahead i (omega arith) in
        rw (small-not (plus_sums xs ys) i (omega arith) (omega arith))

  pub adding-end : {sums : List ℕ} {i : ℕ} → Adding sums i → 38 ≤ i → Some (record { sums = sums }) ≡ added_to xs ys
  unfolding added_to
  adding-end {sums} {i} p h =
      let l = p.len in
      let n = plus-length xs ys in
      let z : plus_sums xs ys ≡ sums =
      ext_get_or 0 (plus_sums xs ys) sums (omega arith) (λ k q. plus-at xs ys k (omega arith) ∙ sym (p.done k (omega arith))) in
      let s : small_sums (plus_sums xs ys) ≡ true =
      small-each (plus_sums xs ys) (λ k q. let u = p.small k (omega arith) in let v = plus-at xs ys k (omega arith) in omega arith) in
      rw (s, z)
