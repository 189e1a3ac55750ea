-- Marks and queue: a place put, and one part of a flood after another. Assumes nothing.
use Rattle.lists.proofs.Prelude.{ℕ, zero, suc, ◌+◌, ◌<◌, ◌≤◌, Bool, true, false, true≢false, false≢true, ◌⊎◌, inl, inr, ⊎_elim, ◌≡◌, refl, sym, ap, ◌∙◌, List, [], ◌∷◌, length, get_or, pick, replicate, set, arith, add-one, not-suc-le-zero, le_of_suc-le-suc, length-set, length-replicate, get_or-set_same, get_or-set_other}
use Rattle.lists.proofs.Tests.{same_or}
use Rattle.board_take.specs.LocalsFlood.{Marked, mark_count, Found, Queued, Went}

counted : (x : Bool) (n : ℕ) → pick x (suc n) n ≡ pick x 1 0 + n
counted true n = omega arith
counted false n = omega arith

pub marked-most : (m : List Bool) → mark_count m ≤ length m
unfolding mark_count
marked-most [] = omega arith
marked-most (true ∷ m) = omega (arith, marked-most m)
marked-most (false ∷ m) = omega (arith, marked-most m)

pub marked-set : (m : List Bool) (p : ℕ) → p < length m → get_or m p false ≡ false → mark_count (set m p true) ≡ suc (mark_count m)
unfolding mark_count
marked-set [] p l e = absurd (not-suc-le-zero l)
marked-set (true ∷ m) zero l e = absurd (true≢false e)
marked-set (false ∷ m) zero l e = refl
marked-set (true ∷ m) (suc p) l e = ap suc (marked-set m p (le_of_suc-le-suc l) e)
marked-set (false ∷ m) (suc p) l e = marked-set m p (le_of_suc-le-suc l) e

pub marked-none : (n : ℕ) → mark_count (replicate n false) ≡ 0
unfolding mark_count
marked-none zero = refl
marked-none (suc n) = marked-none n

unmarked : (n p : ℕ) → get_or (replicate n false) p false ≡ false
unmarked zero p = refl
unmarked (suc n) zero = refl
unmarked (suc n) (suc p) = unmarked n p

-- a marked place is one
pub marked-below : (m : List Bool) (p : ℕ) → Marked m p → p < length m
marked-below [] p e = absurd (false≢true e)
marked-below (x ∷ m) zero e = omega arith
marked-below (x ∷ m) (suc p) e = omega (arith, marked-below m p e)

-- nothing marked, nothing queued
held_start : (m : List Bool) (q : List ℕ) → m ≡ replicate 2704 false → length q ≡ 2704 → Queued m q 0
held_start m q e l =
    record {
      m-long = ap length e ∙ length-replicate 2704 false;
      q-long = l;
      many = ap mark_count e ∙ marked-none 2704;
      listed = λ k h. absurd (not-suc-le-zero h);
      found = λ p x. absurd (true≢false (sym x ∙ (ap (λ (y : List Bool). get_or y p false) e ∙ unmarked 2704 p)));
    }

pub held_new : Queued (replicate 2704 false) (replicate 2704 0) 0
held_new = held_start (replicate 2704 false) (replicate 2704 0) refl (length-replicate {A = ℕ} 2704 0)

module _ (m : List Bool) (q : List ℕ) (n : ℕ) (x : Queued m q n) where
  -- there is room while a place is not marked
  pub held-most : n ≤ 2704
  held-most = omega (arith, marked-most m, x.m-long, x.many)

  pub held-room : (p : ℕ) → p < 2704 → get_or m p false ≡ false → n < 2704
  held-room p l e =
      let k : p < length m = omega (arith, x.m-long) in
      omega (arith, marked-set m p k e, marked-most (set m p true), length-set m p true, x.m-long, x.many)

  pub went-none : (P : ℕ → Type 0) → ((p : ℕ) → P p → Marked m p) → Went P m q n m q n
  went-none P f =
      record { held = x; grows = omega arith; same = λ k l. refl; kept = λ p y. y; new = λ p y. inl y; done = f }

module _ (m : List Bool) (q : List ℕ) (n : ℕ) (x : Queued m q n) (p : ℕ) (l : p < 2704) (e : get_or m p false ≡ false) where
  in-marks : p < length m
  in-marks = omega (arith, l, x.m-long)

  in-queue : n < length q
  in-queue = omega (arith, held-room m q n x p l e, x.q-long)

  still : (r : ℕ) → Marked m r → Marked (set m p true) r
  still r y = same_or r p
      (λ s. ap (λ (z : ℕ). get_or (set m p true) z false) s ∙ get_or-set_same m p true false in-marks)
      (λ s. get_or-set_other m p r true false s ∙ y)

  before : (k : ℕ) → k < n → get_or (set q n p) k 0 ≡ get_or q k 0
  before k h = get_or-set_other q n k p 0 (λ s. absurd (omega arith))

  last : get_or (set q n p) n 0 ≡ p
  last = get_or-set_same q n p 0 in-queue

  here : Marked (set m p true) p
  here = get_or-set_same m p true false in-marks

  put-listed : (k : ℕ) → k < n + 1 → Marked (set m p true) (get_or (set q n p) k 0)
  put-listed k h = same_or k n
      (λ s. ap (λ (z : ℕ). get_or (set m p true) z false) (ap (λ (z : ℕ). get_or (set q n p) z 0) s ∙ last) ∙ here)
      (λ s.
      let i : k < n = omega arith in
      ap (λ (z : ℕ). get_or (set m p true) z false) (before k i) ∙ still (get_or q k 0) (x.listed k i))

  put-new : (r : ℕ) → Marked (set m p true) r → Marked m r ⊎ (r ≡ p)
  put-new r y = same_or r p (λ s. inr s) (λ s. inl (sym (get_or-set_other m p r true false s) ∙ y))

  put-found : (r : ℕ) → Marked (set m p true) r → Found (set q n p) (n + 1) r
  put-found r y = ⊎_elim
      (λ z. let f = x.found r z in let i = f.below in record { place = f.place; below = omega arith; is = before f.place i ∙ f.is })
      (λ z. record { place = n; below = omega arith; is = last ∙ sym z })
      (put-new r y)

  pub went-put : Went (λ r. r ≡ p) m q n (set m p true) (set q n p) (n + 1)
  went-put =
      record {
        held =
            record {
              m-long = length-set m p true ∙ x.m-long;
              q-long = length-set q n p ∙ x.q-long;
              many = marked-set m p in-marks e ∙ (ap suc x.many ∙ sym (add-one n));
              listed = put-listed;
              found = put-found;
            };
        grows = omega arith;
        same = before;
        kept = still;
        new = put-new;
        done = λ r s. ap (λ (z : ℕ). get_or (set m p true) z false) s ∙ here;
      }

-- the same marks under another name
pub went-as : {P Q : ℕ → Type 0} {m : List Bool} {q : List ℕ} {n : ℕ} {m' : List Bool} {q' : List ℕ} {n' : ℕ} → Went P m q n m' q' n'
    → ((p : ℕ) → P p → Q p) → ((p : ℕ) → Q p → P p) → Went Q m q n m' q' n'
went-as x f g =
    record {
      held = x.held;
      grows = x.grows;
      same = x.same;
      kept = x.kept;
      new = λ p y. ⊎_elim (λ z. inl z) (λ z. inr (f p z)) (x.new p y);
      done = λ p y. x.done p (g p y);
    }

-- one after another
pub went_on : {P Q : ℕ → Type 0} {m : List Bool} {q : List ℕ} {n : ℕ} {m' : List Bool} {q' : List ℕ} {n' : ℕ} {m'' : List Bool} {q'' : List ℕ} {n'' : ℕ}
    → Went P m q n m' q' n' → Went Q m' q' n' m'' q'' n'' → Went (λ p. P p ⊎ Q p) m q n m'' q'' n''
went_on x y =
    record {
      held = y.held;
      grows = omega (arith, x.grows, y.grows);
      same = λ k l. y.same k (omega (arith, x.grows)) ∙ x.same k l;
      kept = λ p z. y.kept p (x.kept p z);
      new = λ p z. ⊎_elim (λ u. ⊎_elim (λ v. inl v) (λ v. inr (inl v)) (x.new p u)) (λ u. inr (inr u)) (y.new p z);
      done = λ p z. ⊎_elim (λ u. y.kept p (x.done p u)) (λ u. y.done p u) z;
    }
