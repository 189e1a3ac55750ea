-- Next siblings, link by link. Assumes nothing.
use Rattle.lists.proofs.Prelude.{ℕ, ◌/◌, ◌≤◌, ◌<◌, true, false, true≢false, ◌&&◌, ◌≡◌, refl, sym, ◌∙◌, List, length, ltb, leb, lt-ltb, le-ltb, le-leb, lt-leb, ltb-true, leb-true}
use Rattle.lists.proofs.Tests.{and_both}
use Rattle.tables.specs.Columns.{node_stride, child_at, sibling_at}
use Rattle.board_path.specs.LocalsNext.{is_row, follows, Along, NextIs}

module _ (nd : List ℕ) (k c : ℕ) where
  pub follows-back : sibling_at nd c ≤ c → follows nd k c ≡ false
  unfolding follows
  follows-back l = rw (le-ltb c (sibling_at nd c) l)

  pub follows-far : c < sibling_at nd c → k < sibling_at nd c → follows nd k c ≡ false
  unfolding follows
  follows-far l m = rw (lt-ltb c (sibling_at nd c) l, lt-leb (sibling_at nd c) k m)

  pub follows-out : c < sibling_at nd c → sibling_at nd c ≤ k → length nd / node_stride ≤ sibling_at nd c → follows nd k c ≡ false
  unfolding follows
  follows-out l m o = rw (lt-ltb c (sibling_at nd c) l, le-leb (sibling_at nd c) k m, le-ltb (sibling_at nd c) (length nd / node_stride) o)

  pub follows-made : c < sibling_at nd c → sibling_at nd c ≤ k → sibling_at nd c < length nd / node_stride → follows nd k c ≡ true
  unfolding follows
  follows-made l m o = rw (lt-ltb c (sibling_at nd c) l, le-leb (sibling_at nd c) k m, lt-ltb (sibling_at nd c) (length nd / node_stride) o)

  pub follows_is : follows nd k c ≡ true → (c < sibling_at nd c) × (sibling_at nd c ≤ k)
  unfolding follows
  follows_is e =
      let x = and_both (ltb c (sibling_at nd c)) (leb (sibling_at nd c) k && is_row nd (sibling_at nd c)) e in
      let y = and_both (leb (sibling_at nd c) k) (is_row nd (sibling_at nd c)) x.1 in
      (ltb-true c (sibling_at nd c) x.0, leb-true (sibling_at nd c) k y.0)

module _ (nd : List ℕ) (at k : ℕ) where
  pub next-none : length nd / node_stride ≤ at → NextIs nd at k at
  next-none l =
      let e : is_row nd at && is_row nd (child_at nd at) ≡ false = rw (le-ltb at (length nd / node_stride) l) in
      record { childless = λ z. refl; child = λ z. absurd (true≢false (sym z ∙ e)) }

  pub next-leaf : at < length nd / node_stride → length nd / node_stride ≤ child_at nd at → NextIs nd at k at
  next-leaf l m =
      let e : is_row nd at && is_row nd (child_at nd at) ≡ false = rw (lt-ltb at (length nd / node_stride) l, le-ltb (child_at nd at) (length nd / node_stride) m) in
      record { childless = λ z. refl; child = λ z. absurd (true≢false (sym z ∙ e)) }

  pub next-child : {r : ℕ} → at < length nd / node_stride → child_at nd at < length nd / node_stride → Along nd k (child_at nd at) r → NextIs nd at k r
  next-child l m x =
      let e : is_row nd at && is_row nd (child_at nd at) ≡ true = rw (lt-ltb at (length nd / node_stride) l, lt-ltb (child_at nd at) (length nd / node_stride) m) in
      record { childless = λ z. absurd (true≢false (sym e ∙ z)); child = λ z. x }
