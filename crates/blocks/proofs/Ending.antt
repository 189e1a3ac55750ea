-- How the tokens end, and what is cleared_rows. Assumes nothing.
use Rattle.lists.proofs.Prelude.{◌≡◌, sym, ap, ◌∙◌, ℕ, ◌+◌, ◌-◌, ◌*◌, ◌/◌, ◌≤◌, ◌<◌, Bool, true, false, List, ◌++◌, append_assoc, length, take, drop, replicate, ltb, pick, arith, paste, take_all, length-replicate, eq-eqb, ne_eqb, lt-ltb, le-ltb}
use Rattle.lists.specs.Put.{put_at, PutWhole}
use Rattle.tables.specs.Numbers.{text_limit}
use Rattle.blocks.specs.declared.BlocksKnown.{BlocksKnown}
use Rattle.blocks.specs.declared.Closing.{Closing}
use Rattle.blocks.specs.declared.Closing.TheVariants.{Refused, Rows, Last}
use Rattle.blocks.specs.declared.BlocksState.{BlocksState}
use Rattle.blocks.specs.declared.Closed.{Closed}
use Rattle.blocks.specs.State.{state_says}
use Rattle.blocks.specs.Room.{token_row}
use Rattle.blocks.specs.Close.{closing, cleared_rows, refused_at, accepted_with, closed_by, cells_by, closed_before, CloseIs}

module _ (k : BlocksKnown) where
  pub ends-long : text_limit < k.total → Refused 1 0 ≡ closing k
  unfolding closing
  ends-long h = rw (lt-ltb text_limit k.total h)

-- zeros from a row on
pub clears : (t : List ℕ) (first n : ℕ) → n ≡ length t / 3 * 3 - first * 3 → first ≤ length t / 3 → paste t (first * 3) (replicate n 0) n ≡ cleared_rows t first
unfolding cleared_rows
clears t first n e h =
    let q : length (replicate {A = ℕ} n 0) ≡ n = length-replicate n 0 in
    let z : length (replicate {A = ℕ} n 0) ≤ n = omega arith in
    let d : first * 3 + n ≡ length t / 3 * 3 = omega arith in
    append_assoc (take (first * 3) t) (take n (replicate n 0)) (drop (first * 3 + n) t)
    ∙ ap (λ (x : List ℕ). take (first * 3) t ++ (x ++ drop (first * 3 + n) t)) (take_all n (replicate n 0) z)
    ∙ ap (λ (x : ℕ). take (first * 3) t ++ (replicate n 0 ++ drop x t)) d
    ∙ ap (λ (x : ℕ). take (first * 3) t ++ (replicate x 0 ++ drop (length t / 3 * 3) t)) e

-- ---- the answers

module _ (s : BlocksState) (t : List ℕ) where
  pub closes-after : (s.closed ≡ 0 → ⊥) → CloseIs s t (closed_before s) t
  closes-after h = record { answer = rw (ne_eqb s.closed 0 h); rows = rw (ne_eqb s.closed 0 h) }

  module _ (h : s.closed ≡ 0) where
    closes_by : (x : Closing) → x ≡ closing (state_says s) → (r : Closed) (t' : List ℕ) → r ≡ closed_by x s (length t / 3) → t' ≡ cells_by x t → CloseIs s t r t'
    closes_by x e r t' a b =
        record {
          answer = rw (eq-eqb s.closed 0 h) (a ∙ ap (λ (z : Closing). closed_by z s (length t / 3)) e);
          rows = rw (eq-eqb s.closed 0 h) (b ∙ ap (λ (z : Closing). cells_by z t) e);
        }

    pub closes-refused : (n p : ℕ) → Refused n p ≡ closing (state_says s) → (r : Closed) (t' : List ℕ) → r ≡ refused_at s n p → t' ≡ cleared_rows t 0 → CloseIs s t r t'
    closes-refused n p e r t' a b = closes_by (Refused n p) e r t' a b

    module _ (n w : ℕ) (q : w ≡ n) (r : Closed) (t' : List ℕ) where
      module _ (e : Rows n ≡ closing (state_says s)) where
        pub closes-short : length t / 3 < w → r ≡ refused_at s 14 0 → t' ≡ cleared_rows t 0 → CloseIs s t r t'
        closes-short l a b =
            let x : ltb (length t / 3) n ≡ true = lt-ltb (length t / 3) n (omega (arith, l, q)) in
            closes_by (Rows n) e r t'
            (a ∙ sym (ap (λ (z : Bool). pick z (refused_at s 14 0) (accepted_with s n)) x))
            (b ∙ sym (ap (λ (z : Bool). pick z (cleared_rows t 0) (cleared_rows t n)) x))

        pub closes-rows : w ≤ length t / 3 → r ≡ accepted_with s w → t' ≡ cleared_rows t w → CloseIs s t r t'
        closes-rows l a b =
            let x : ltb (length t / 3) n ≡ false = le-ltb (length t / 3) n (omega (arith, l, q)) in
            closes_by (Rows n) e r t'
            (a ∙ ap (accepted_with s) q ∙ sym (ap (λ (z : Bool). pick z (refused_at s 14 0) (accepted_with s n)) x))
            (b ∙ ap (cleared_rows t) q ∙ sym (ap (λ (z : Bool). pick z (cleared_rows t 0) (cleared_rows t n)) x))

      module _ (f l : ℕ) (e : Last n f l ≡ closing (state_says s)) where
        abbrev put : List ℕ
        put = put_at t (n * 3) (token_row 4 f l)

        pub closes-full : length t / 3 ≤ w → r ≡ refused_at s 14 0 → t' ≡ cleared_rows t 0 → CloseIs s t r t'
        closes-full y a b =
            let x : ltb (length t / 3) (n + 1) ≡ true = lt-ltb (length t / 3) (n + 1) (omega (arith, y, q)) in
            closes_by (Last n f l) e r t'
            (a ∙ sym (ap (λ (z : Bool). pick z (refused_at s 14 0) (accepted_with s (n + 1))) x))
            (b ∙ sym (ap (λ (z : Bool). pick z (cleared_rows t 0) (cleared_rows put (n + 1))) x))

        pub closes-last : w < length t / 3 → r ≡ accepted_with s (w + 1) → (t1 : List ℕ) → PutWhole t (w * 3) (token_row 4 f l) t1 → t' ≡ cleared_rows t1 (w + 1) → CloseIs s t r t'
        closes-last y a t1 p b =
            let x : ltb (length t / 3) (n + 1) ≡ false = le-ltb (length t / 3) (n + 1) (omega (arith, y, q)) in
            let m : t1 ≡ put = p.is.put (omega (arith, y)) ∙ ap (λ (z : ℕ). put_at t (z * 3) (token_row 4 f l)) q in
            closes_by (Last n f l) e r t'
            (a ∙ ap (λ (z : ℕ). accepted_with s (z + 1)) q ∙ sym (ap (λ (z : Bool). pick z (refused_at s 14 0) (accepted_with s (n + 1))) x))
            (b ∙ ap (λ (z : ℕ). cleared_rows t1 (z + 1)) q ∙ ap (λ (z : List ℕ). cleared_rows z (n + 1)) m ∙ sym (ap (λ (z : Bool). pick z (cleared_rows t 0) (cleared_rows put (n + 1))) x))
