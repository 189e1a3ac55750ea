-- The flood: what holds after each turn, and at its end. Assumes nothing.
use Rattle.lists.proofs.Prelude.{ℕ, ◌+◌, ◌<◌, ◌≤◌, Bool, true, ⊎_elim, ◌≡◌, sym, subst, List, get_or, arith}
use Rattle.lists.proofs.Tests.{same_or}
use Rattle.board_groups.specs.Board.{on_board, beside}
use Rattle.board_groups.specs.Groups.{Stone, Joined, self, more}
use Rattle.board_groups.proofs.Others.{joined-last}
use Rattle.board_take.specs.LocalsSides.{Free}
use Rattle.board_take.specs.LocalsFlood.{Marked, Queued, Went, Around, Reached, Grown, Lives}
use Rattle.board_take.proofs.Queue.{held-most}

-- marked places are joined with the ones at the start, and those before i in the queue have all their neighbours marked
pub record Flooding (w h : ℕ) (b : List ℕ) (c : ℕ) (stop : Bool) (m₀ m : List Bool) (q : List ℕ) (n i : ℕ) : Type 0 where
  pub held : Queued m q n
  pub within : i ≤ n
  pub most : n ≤ 2704
  pub kept : (p : ℕ) → Marked m₀ p → Marked m p
  pub sound : (p : ℕ) → Marked m p → Reached w h b c m₀ p
  pub closed : (k : ℕ) → k < i → (r : ℕ) → Around w h b c (get_or q k 0) r → Marked m r
  pub none : stop ≡ true → (k : ℕ) → k < i → Free w h b (get_or q k 0) → ⊥

pub flood-start : (w h : ℕ) (b : List ℕ) (c : ℕ) (stop : Bool) (m : List Bool) (q : List ℕ) (n : ℕ) → Queued m q n
    → ((p : ℕ) → Marked m p → Stone w h b c p) → Flooding w h b c stop m m q n 0
flood-start w h b c stop m q n x s =
    record {
      held = x;
      within = omega arith;
      most = held-most m q n x;
      kept = λ p y. y;
      sound = λ p y. record { seed = p; marked = y; joined = self (s p y) };
      closed = λ k l. absurd (omega arith);
      none = λ e k l. absurd (omega arith);
    }

module _ (w h : ℕ) (b : List ℕ) (c : ℕ) (stop : Bool) (m₀ m : List Bool) (q : List ℕ) (n i : ℕ) (f : Flooding w h b c stop m₀ m q n i) where
  -- the place at hand is a stone of the flood
  pub flood-at : i < n → Reached w h b c m₀ (get_or q i 0)
  flood-at l = f.sound (get_or q i 0) (f.held.listed i l)

  pub flood-on : i < n → on_board w h (get_or q i 0) ≡ true
  flood-on l = (joined-last (flood-at l).joined).on

  module _ {m' : List Bool} {q' : List ℕ} {n' : ℕ} (l : i < n) (dry : stop ≡ true → Free w h b (get_or q i 0) → ⊥)
      (v : Went (Around w h b c (get_or q i 0)) m q n m' q' n') where
    as_before : (k : ℕ) → k < i + 1 → get_or q' k 0 ≡ get_or q k 0
    as_before k s = v.same k (omega arith)

    pub flood-more : Flooding w h b c stop m₀ m' q' n' (i + 1)
    flood-more =
        record {
          held = v.held;
          within = omega (arith, v.grows);
          most = held-most m' q' n' v.held;
          kept = λ p y. v.kept p (f.kept p y);
          sound = λ p y. ⊎_elim
              (λ z. f.sound p z)
              (λ z. let r = flood-at l in record { seed = r.seed; marked = r.marked; joined = more r.joined z.0 z.1 })
              (v.new p y);
          closed = λ k s r a.
              let a' : Around w h b c (get_or q k 0) r = subst (λ (z : ℕ). Around w h b c z r) (as_before k s) a in
              same_or k i
              (λ e. v.done r (subst (λ (z : ℕ). Around w h b c (get_or q z 0) r) e a'))
              (λ e. v.kept r (f.closed k (omega arith) r a'));
          none = λ t k s y.
              let y' : Free w h b (get_or q k 0) = subst (λ (z : ℕ). Free w h b z) (as_before k s) y in
              same_or k i (λ e. dry t (subst (λ (z : ℕ). Free w h b (get_or q z 0)) e y')) (λ e. f.none t k (omega arith) y');
        }

  -- a place that is free ends the search
  pub flood-lives : i < n → Free w h b (get_or q i 0) → Lives w h b c m₀
  flood-lives l y = record { stone = get_or q i 0; reached = flood-at l; free = y }

  module _ (z : n ≤ i) where
    all : {s p : ℕ} → Marked m₀ s → Joined w h b c s p → Marked m p
    all {s} y (self x) = f.kept s y
    all {s} y (more {q = k} {r = r} j e x) =
        let a = f.held.found k (all y j) in
        let o = a.below in
        f.closed a.place (omega arith) r (subst (λ (u : ℕ). beside u r ≡ true) (sym a.is) e, x)

    pub flood-end : Grown w h b c stop m₀ m q n
    flood-end =
        record {
          held = f.held;
          sound = f.sound;
          whole = λ p r. all r.marked r.joined;
          none = λ t p y u.
              let a = f.held.found p y in
              let o = a.below in
              f.none t a.place (omega arith) (subst (λ (k : ℕ). Free w h b k) (sym a.is) u);
        }
