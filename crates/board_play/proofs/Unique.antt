-- No second answer: two boards and numbers that meet the contract of a public function are equal. Assumes nothing.
use Rattle.lists.proofs.Prelude.{ℕ, Bool, true, false, ◌≡◌, refl, sym, ◌∙◌, subst, List, set, leb, leb-true, leb-false}
use Rattle.board_groups.specs.Groups.{Takes, TakesOf, Joined, Touches}
use Rattle.board_groups.proofs.Once.{takes-once, taken-once, takes-of-once}
use Rattle.board_play.specs.Play.{SetIs, other_of, playable, Plays, PlaysNear, PlayIs}

pub set-stone-once : (c p : ℕ) (b x y : List ℕ) (m n : ℕ) → SetIs c p b x m → SetIs c p b y n → (x ≡ y) × (m ≡ n)
set-stone-once c p b x y m n f g = go (leb 2704 p) refl
  where
    go : (t : Bool) → leb 2704 p ≡ t → (x ≡ y) × (m ≡ n)
    go true e = let l = leb-true 2704 p e in ((f.beyond l).1 ∙ sym (g.beyond l).1, (f.beyond l).0 ∙ sym (g.beyond l).0)
    go false e = let l = leb-false 2704 p e in ((f.within l).1 ∙ sym (g.within l).1, (f.within l).0 ∙ sym (g.within l).0)

module _ (w h c p : ℕ) (b x y : List ℕ) (m n k l : ℕ) where
  plays-once : Plays w h c p b x m k → Plays w h c p b y n l → (x ≡ y) × (m ≡ n) × (k ≡ l)
  plays-once f g =
      let e : f.between ≡ g.between = takes-once w h (other_of c) (set b p c) f.between g.between m n f.first g.first in
      let s : Takes w h c g.between x k = subst (λ (z : List ℕ). Takes w h c z x k) e f.second in (
        takes-once w h c g.between x y k l s g.second,
        taken-once w h (other_of c) (set b p c) f.between g.between m n f.first g.first,
        taken-once w h c g.between x y k l s g.second,
      )

  pub play-point-once : PlaysNear w h c p b x m k → PlaysNear w h c p b y n l → (x ≡ y) × (m ≡ n) × (k ≡ l)
  play-point-once f g =
      let e = takes-of-once (Touches w h (set b p c) (other_of c) p) w h (other_of c) (set b p c) f.between g.between m n f.first g.first in
      let s : TakesOf (Joined w h g.between c p) w h c g.between x k = subst (λ (z : List ℕ). TakesOf (Joined w h z c p) w h c z x k) e.0 f.second in
      let o = takes-of-once (Joined w h g.between c p) w h c g.between x y k l s g.second in
      (o.0, e.1, o.1)

  play-once : {P Q : Type 0} (s t : ℕ) → (P → Q → (x ≡ y) × (m ≡ n) × (k ≡ l)) → PlayIs P w h c p b x s m k → PlayIs Q w h c p b y t n l
      → (x ≡ y) × (s ≡ t) × (m ≡ n) × (k ≡ l)
  play-once s t both f g = go (playable w h c p) refl
    where
      go : (v : Bool) → playable w h c p ≡ v → (x ≡ y) × (s ≡ t) × (m ≡ n) × (k ≡ l)
      go true e =
          let o = both (f.played e).1 (g.played e).1 in
          (o.0, (f.played e).0 ∙ sym (g.played e).0, o.1, o.2)
      go false e =
          let i = f.not-played e in
          let j = g.not-played e in
          (i.0 ∙ sym j.0, i.1 ∙ sym j.1, i.2 ∙ sym j.2, i.3 ∙ sym j.3)

  pub play-stone-once : (s t : ℕ) → PlayIs (Plays w h c p b x m k) w h c p b x s m k → PlayIs (Plays w h c p b y n l) w h c p b y t n l
      → (x ≡ y) × (s ≡ t) × (m ≡ n) × (k ≡ l)
  play-stone-once s t f g = play-once s t plays-once f g

  pub play-near-once : (s t : ℕ) → PlayIs (PlaysNear w h c p b x m k) w h c p b x s m k → PlayIs (PlaysNear w h c p b y n l) w h c p b y t n l
      → (x ≡ y) × (s ≡ t) × (m ≡ n) × (k ≡ l)
  play-near-once s t f g = play-once s t play-point-once f g
