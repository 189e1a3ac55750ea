-- A short search: what is on its queue is joined with the stone that it began at. Assumes nothing.
use Rattle.lists.proofs.Prelude.{ℕ, ◌+◌, ◌<◌, ◌≤◌, Bool, true, false, ◌≡◌, refl, sym, ◌∙◌, subst, List, length, length-set, get_or, set, get_or-set_same, get_or-set_other, ltb, ltb-true, ltb-false, arith}
use Rattle.board_groups.specs.Groups.{Stone, Joined, self, more, Liberty}
use Rattle.board_groups.proofs.Beside.{On, board-on}
use Rattle.board_groups.proofs.Others.{joined-last}
use Rattle.board_take.specs.LocalsSides.{right_of, left_of, down_of, up_of, Free}
use Rattle.board_take.specs.LocalsFlood.{Here, Around}
use Rattle.board_take.specs.LocalsShort.{ShortGrew}
use Rattle.board_take.proofs.Sides.{Side, right_side, left-side, down-side, up-side}
use Rattle.board_take.proofs.Visiting.{side-around}

pub short_none : (P : ℕ → Type 0) (q : List ℕ) (n : ℕ) → length q ≡ 32 → n ≤ 32 → ShortGrew P q n q n
short_none P q n l m = record { long = l; most = m; grows = omega arith; same = λ k s. refl; new = λ k s t. absurd (omega arith) }

pub short-put : (P : ℕ → Type 0) (q : List ℕ) (n p : ℕ) → length q ≡ 32 → n < 32 → P p → ShortGrew P q n (set q n p) (n + 1)
short-put P q n p l m x =
    record {
      long = length-set q n p ∙ l;
      most = omega arith;
      grows = omega arith;
      same = λ k s. get_or-set_other q n k p 0 (λ e. absurd (omega arith));
      new = λ k s t.
          let e : k ≡ n = omega arith in
          let i : n < length q = omega arith in
          subst (λ (z : ℕ). P (get_or (set q n p) z 0)) (sym e) (subst P (sym (get_or-set_same q n p 0 i)) x);
    }

module _ {P : ℕ → Type 0} {q q1 : List ℕ} {n n1 : ℕ} where
  pub short-as : {Q : ℕ → Type 0} → ((p : ℕ) → P p → Q p) → ShortGrew P q n q1 n1 → ShortGrew Q q n q1 n1
  short-as {Q} f x = record { long = x.long; most = x.most; grows = x.grows; same = x.same; new = λ k s t. f (get_or q1 k 0) (x.new k s t) }

  pub short_on : {q2 : List ℕ} {n2 : ℕ} → ShortGrew P q n q1 n1 → ShortGrew P q1 n1 q2 n2 → ShortGrew P q n q2 n2
  short_on {q2} {n2} x y =
      record {
        long = y.long;
        most = y.most;
        grows = omega (arith, x.grows, y.grows);
        same = λ k s. y.same k (omega (arith, x.grows)) ∙ x.same k s;
        new = λ k s t. go k (ltb k n1) refl s t;
      }
    where
      go : (k : ℕ) (v : Bool) → ltb k n1 ≡ v → n ≤ k → k < n2 → P (get_or q2 k 0)
      go k true e s t = let l : k < n1 = ltb-true k n1 e in subst P (sym (y.same k l)) (x.new k s l)
      go k false e s t = y.new k (ltb-false k n1 e) t

module _ (w h : ℕ) (b : List ℕ) (c : ℕ) where
  -- the four sides of p
  pub short-visited : (p qr ql qd qu : ℕ) (o : On w h p) → qr ≡ right_of w p → ql ≡ left_of p → qd ≡ down_of h p → qu ≡ up_of p
      → {q q1 q2 q3 q4 : List ℕ} {n n1 n2 n3 n4 : ℕ} → ShortGrew (Here b c qr) q n q1 n1 → ShortGrew (Here b c ql) q1 n1 q2 n2
      → ShortGrew (Here b c qd) q2 n2 q3 n3 → ShortGrew (Here b c qu) q3 n3 q4 n4 → ShortGrew (Around w h b c p) q n q4 n4
  short-visited p qr ql qd qu o er el ed eu x y z u =
      let side : (s t : ℕ) → s ≡ t → Side w h p t → (r : ℕ) → Here b c s r → Around w h b c p r =
      λ s t e f r. side-around w h b c p s r (subst (λ (k : ℕ). Side w h p k) (sym e) f) in
      short_on
      (short_on
      (short_on (short-as (side qr (right_of w p) er (right_side w h p o)) x) (short-as (side ql (left_of p) el (left-side w h p o)) y))
      (short-as (side qd (down_of h p) ed (down-side w h p o)) z))
      (short-as (side qu (up_of p) eu (up-side w h p o)) u)

  -- the first n numbers of the queue are stones of the group of p
  pub record ShortOf (p : ℕ) (q : List ℕ) (n : ℕ) : Type 0 where
    pub long : length q ≡ 32
    pub most : n ≤ 32
    pub joined : (k : ℕ) → k < n → Joined w h b c p (get_or q k 0)

  module _ (p : ℕ) (s : Stone w h b c p) where
    pub short-start : {q q' : List ℕ} {n : ℕ} → ShortGrew (Here b c p) q 0 q' n → ShortOf p q' n
    short-start x =
        record {
          long = x.long;
          most = x.most;
          joined = λ k l. subst (λ (z : ℕ). Joined w h b c p z) (sym (x.new k (omega arith) l).0) (self s);
        }

  module _ (p : ℕ) {q : List ℕ} {n : ℕ} (x : ShortOf p q n) (i : ℕ) (l : i < n) where
    pub short-stone : Stone w h b c (get_or q i 0)
    short-stone = joined-last (x.joined i l)

    pub short-place : get_or q i 0 < 2704
    short-place = (board-on w h (get_or q i 0) short-stone.on).place

    pub short-lives : Free w h b (get_or q i 0) → Liberty w h b c p
    short-lives f = record { stone = get_or q i 0; point = f.point; joined = x.joined i l; near = f.near; empty = f.empty }

    pub short-more : {q' : List ℕ} {n' : ℕ} → ShortGrew (Around w h b c (get_or q i 0)) q n q' n' → ShortOf p q' n'
    short-more {q'} {n'} y = record { long = y.long; most = y.most; joined = λ k s. go k (ltb k n) refl s }
      where
        go : (k : ℕ) (v : Bool) → ltb k n ≡ v → k < n' → Joined w h b c p (get_or q' k 0)
        go k true e s = let m : k < n = ltb-true k n e in subst (λ (z : ℕ). Joined w h b c p z) (sym (y.same k m)) (x.joined k m)
        go k false e s = let a = y.new k (ltb-false k n e) s in more (x.joined i l) a.0 a.1
