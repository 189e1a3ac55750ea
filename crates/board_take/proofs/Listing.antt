-- A short search that is whole: what it lists is the group of the stone that it began at. Assumes nothing.
use Rattle.lists.proofs.Prelude.{ℕ, ◌+◌, ◌<◌, ◌≤◌, Bool, true, false, inl, inr, ⊎_elim, ◌≡◌, refl, sym, ◌∙◌, subst, List, length, get_or, set, get_or-set_same, ltb, ltb-true, ltb-false, arith}
use Rattle.lists.proofs.Tests.{same_or}
use Rattle.board_groups.specs.Board.{at, beside}
use Rattle.board_groups.specs.Groups.{Stone, Joined, self, more, Liberty, Dead, TakesGroup}
use Rattle.board_groups.proofs.Beside.{On, board-on, beside-step}
use Rattle.board_groups.proofs.Others.{joined-last, joined-sym, liberty-shared}
use Rattle.board_take.specs.LocalsSides.{right_of, left_of, down_of, up_of, Free}
use Rattle.board_take.specs.LocalsFlood.{Found, Here, Around, Coloured, Swept}
use Rattle.board_take.specs.LocalsShort.{ShortGrew, FewGrew, FewIs}
use Rattle.board_take.proofs.Sides.{Side, Four, is_right, is-left, is_down, is_up, four}
use Rattle.board_take.proofs.Short.{short_none, short-put, short-visited, ShortOf, short-start, short-more}

-- what is found stays found while the queue grows
pub found-on : {P : ℕ → Type 0} {q q' : List ℕ} {n n' p : ℕ} → ShortGrew P q n q' n' → Found q n p → Found q' n' p
found-on g f = record { place = f.place; below = omega (arith, f.below, g.grows); is = g.same f.place f.below ∙ f.is }

-- nothing is put on the queue, since there is nothing, or it is there, or there is no room
pub few-none : (P : ℕ → Type 0) (q : List ℕ) (n : ℕ) → length q ≡ 32 → n ≤ 32 → (n < 32 → (p : ℕ) → P p → Found q n p) → FewGrew P q n q n
few-none P q n l m f = record { grew = short_none P q n l m; done = f }

pub few-put : (b : List ℕ) (c : ℕ) (q : List ℕ) (n p : ℕ) → length q ≡ 32 → n < 32 → Here b c p p → FewGrew (Here b c p) q n (set q n p) (n + 1)
few-put b c q n p l m x =
    record {
      grew = short-put (Here b c p) q n p l m x;
      done = λ s r y. record { place = n; below = omega arith; is = get_or-set_same q n p 0 (omega arith) ∙ sym y.0 };
    }

module _ (w h : ℕ) (b : List ℕ) (c : ℕ) where
  -- the four sides of p
  pub few-visited : (p qr ql qd qu : ℕ) (o : On w h p) → qr ≡ right_of w p → ql ≡ left_of p → qd ≡ down_of h p → qu ≡ up_of p
      → {q q1 q2 q3 q4 : List ℕ} {n n1 n2 n3 n4 : ℕ} → FewGrew (Here b c qr) q n q1 n1 → FewGrew (Here b c ql) q1 n1 q2 n2
      → FewGrew (Here b c qd) q2 n2 q3 n3 → FewGrew (Here b c qu) q3 n3 q4 n4 → FewGrew (Around w h b c p) q n q4 n4
  few-visited p qr ql qd qu o er el ed eu {q} {q1} {q2} {q3} {q4} {n} {n1} {n2} {n3} {n4} x y z u =
      record { grew = short-visited w h b c p qr ql qd qu o er el ed eu x.grew y.grew z.grew u.grew; done = all }
    where
      all : n4 < 32 → (r : ℕ) → Around w h b c p r → Found q4 n4 r
      all l r a = go (four w h p r (board-on w h r a.1.on) (beside-step p r a.0))
        where
          here : (s t : ℕ) → s ≡ t → r ≡ t → Here b c s r
          here s t e f =
              let i : r ≡ s = f ∙ sym e in
              (i, subst (λ (k : ℕ). k < 2704) i (board-on w h r a.1.on).place, subst (λ (k : ℕ). at b k ≡ c) i a.1.is)

          go : Four w h p r → Found q4 n4 r
          go (is_right e) = found-on u.grew (found-on z.grew (found-on y.grew (x.done (omega (arith, y.grew.grows, z.grew.grows, u.grew.grows)) r (here qr (right_of w p) er e))))
          go (is-left e) = found-on u.grew (found-on z.grew (y.done (omega (arith, z.grew.grows, u.grew.grows)) r (here ql (left_of p) el e)))
          go (is_down e) = found-on u.grew (z.done (omega (arith, u.grew.grows)) r (here qd (down_of h p) ed e))
          go (is_up e) = u.done l r (here qu (up_of p) eu e)

  -- the queue lists stones of the group of p; those before i have no empty point beside them, and where there was room all their neighbours are listed
  pub record Listing (p : ℕ) (q : List ℕ) (n i : ℕ) : Type 0 where
    pub short : ShortOf w h b c p q n
    pub within : i ≤ n
    pub some : 0 < n
    pub start : Found q n p
    pub closed : n < 32 → (k : ℕ) → k < i → (r : ℕ) → Around w h b c (get_or q k 0) r → Found q n r
    pub none : (k : ℕ) → k < i → Free w h b (get_or q k 0) → ⊥

  pub listing_start : (p : ℕ) → Stone w h b c p → {q q' : List ℕ} {n : ℕ} → FewGrew (Here b c p) q 0 q' n → Listing p q' n 0
  listing_start p s {q} {q'} {n} g =
      record {
        short = short-start w h b c p s g.grew;
        within = omega arith;
        some = lead (ltb 0 n) refl;
        start = first (ltb n 32) refl;
        closed = λ l k m. absurd (omega arith);
        none = λ k m. absurd (omega arith);
      }
    where
      here : Here b c p p
      here = (refl, (board-on w h p s.on).place, s.is)

      lead : (v : Bool) → ltb 0 n ≡ v → 0 < n
      lead true e = ltb-true 0 n e
      lead false e = let l = ltb-false 0 n e in omega (arith, (g.done (omega arith) p here).below)

      first : (v : Bool) → ltb n 32 ≡ v → Found q' n p
      first true e = g.done (ltb-true n 32 e) p here
      first false e = let l = ltb-false n 32 e in record { place = 0; below = omega arith; is = (g.grew.new 0 (omega arith) (omega arith)).0 }

  module _ (p : ℕ) {q : List ℕ} {n i : ℕ} (f : Listing p q n i) where
    module _ {q' : List ℕ} {n' : ℕ} (l : i < n) (dry : Free w h b (get_or q i 0) → ⊥) (g : FewGrew (Around w h b c (get_or q i 0)) q n q' n') where
      as_before : (k : ℕ) → k < i + 1 → get_or q' k 0 ≡ get_or q k 0
      as_before k s = g.grew.same k (omega arith)

      pub listing-more : Listing p q' n' (i + 1)
      listing-more =
          record {
            short = short-more w h b c p f.short i l g.grew;
            within = omega (arith, g.grew.grows);
            some = omega (arith, g.grew.grows);
            start = found-on g.grew f.start;
            closed = λ m k s r a.
                let a' : Around w h b c (get_or q k 0) r = subst (λ (z : ℕ). Around w h b c z r) (as_before k s) a in
                same_or k i
                (λ e. g.done m r (subst (λ (z : ℕ). Around w h b c (get_or q z 0) r) e a'))
                (λ e. found-on g.grew (f.closed (omega (arith, g.grew.grows)) k (omega arith) r a'));
            none = λ k s y.
                let y' : Free w h b (get_or q k 0) = subst (λ (z : ℕ). Free w h b z) (as_before k s) y in
                same_or k i (λ e. dry (subst (λ (z : ℕ). Free w h b (get_or q z 0)) e y')) (λ e. f.none k (omega arith) y');
          }

    -- all neighbours are listed, so the whole group is
    module _ (z : n ≤ i) where
      reach : n < 32 → {r : ℕ} → Joined w h b c p r → Found q n r
      reach l (self x) = f.start
      reach l (more {q = k} {r = r} j e x) =
          let a = reach l j in
          f.closed l a.place (omega (arith, a.below)) r (subst (λ (u : ℕ). beside u r ≡ true) (sym a.is) e, x)

      pub listing-end : FewIs w h b c p q n
      listing-end =
          record {
            long = f.short.long;
            alive = λ e. absurd (omega (arith, f.some));
            sound = λ s l k m. f.short.joined k m;
            whole = λ s l k j. reach l j;
            none = λ s l k m. f.none k (omega arith);
          }

  pub few-unsaid : (p : ℕ) {q : List ℕ} → length q ≡ 32 → FewIs w h b c p q 32
  few-unsaid p l =
      record { long = l; alive = λ e. absurd (omega arith); sound = λ s m. absurd (omega arith); whole = λ s m. absurd (omega arith); none = λ s m. absurd (omega arith) }

  pub few-alive : (p : ℕ) {q : List ℕ} → length q ≡ 32 → Liberty w h b c p → FewIs w h b c p q 0
  few-alive p l y =
      record { long = l; alive = λ e. y; sound = λ s m. absurd (omega arith); whole = λ s m. absurd (omega arith); none = λ s m. absurd (omega arith) }

  -- a stone beside p of its colour has a liberty
  pub via-lives : (p q s : ℕ) → Stone w h b c p → Side w h p s → q ≡ s → Stone w h b c q × Free w h b q → Liberty w h b c p
  via-lives p q s x side e y =
      let l : s < 2704 = subst (λ (z : ℕ). z < 2704) e (board-on w h q y.0.on).place in
      record {
        stone = q;
        point = y.1.point;
        joined = more (self x) (subst (λ (z : ℕ). beside p z ≡ true) (sym e) (side.near l)) y.0;
        near = y.1.near;
        empty = y.1.empty;
      }

  -- a group that is listed whole goes
  module _ (p : ℕ) {q : List ℕ} {r : ℕ} (f : FewIs w h b c p q r) (stone : Stone w h b c p) (s : 0 < r) (l : r < 32) where
    pub few-coloured : Coloured b q r c
    few-coloured = λ k m. let x = joined-last (f.sound s l k m) in ((board-on w h (get_or q k 0) x.on).place, x.is)

    few-dead : Dead w h b c p
    few-dead =
        record {
          stone = stone;
          none = λ y.
              let a = f.whole s l y.stone y.joined in
              f.none s l a.place a.below (subst (λ (k : ℕ). Free w h b k) (sym a.is) (record { point = y.point; near = y.near; empty = y.empty }));
        }

    pub few-takes : {n : ℕ} {b' : List ℕ} → Swept (Found q r) c b b' n → TakesGroup w h c p b b' n
    few-takes t =
        record {
          as_long = t.as_long;
          each = λ k. ⊎_elim
              (λ x.
              let j : Joined w h b c p k = subst (λ (z : ℕ). Joined w h b c p z) x.0.is (f.sound s l x.0.place x.0.below) in
              inl ((record { stone = joined-last j; none = λ y. few-dead.none (liberty-shared (joined-sym j) y) }, j), x.1))
              (λ x. inr ((λ j. absurd (x.0 (f.whole s l k j))), x.1))
              (t.each k);
          many = t.many;
        }
