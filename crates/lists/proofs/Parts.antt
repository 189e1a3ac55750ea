-- The parts of an answer that holds several values. Assumes nothing.
use Rattle.lists.proofs.Prelude.{◌≡◌, ap}
use Rattle.std.specs.Prelude.{Option, Some, Result, Ok}

module _ {A B : Type 0} {a x : A} {b y : B} where
  pub some-two : ◌≡◌ {A = Option (A × B)} (Some (a, b)) (Some (x, y)) → (a ≡ x) × (b ≡ y)
  some-two h = let p : ◌≡◌ {A = A × B} (a, b) (x, y) = cc in (ap (λ z. z.0) p, ap (λ z. z.1) p)

  pub ok-two : {E : Type 0} → ◌≡◌ {A = Result (A × B) E} (Ok (a, b)) (Ok (x, y)) → (a ≡ x) × (b ≡ y)
  ok-two h = let p : ◌≡◌ {A = A × B} (a, b) (x, y) = cc in (ap (λ z. z.0) p, ap (λ z. z.1) p)

module _ {A B C : Type 0} {a x : A} {b y : B} {c w : C} where
  pub some-three : ◌≡◌ {A = Option (A × B × C)} (Some (a, b, c)) (Some (x, y, w)) → (a ≡ x) × (b ≡ y) × (c ≡ w)
  some-three h = let p : ◌≡◌ {A = A × B × C} (a, b, c) (x, y, w) = cc in (ap (λ z. z.0) p, ap (λ z. z.1) p, ap (λ z. z.2) p)

  pub ok-three : {E : Type 0} → ◌≡◌ {A = Result (A × B × C) E} (Ok (a, b, c)) (Ok (x, y, w)) → (a ≡ x) × (b ≡ y) × (c ≡ w)
  ok-three h = let p : ◌≡◌ {A = A × B × C} (a, b, c) (x, y, w) = cc in (ap (λ z. z.0) p, ap (λ z. z.1) p, ap (λ z. z.2) p)

module _ {A B C D : Type 0} {a x : A} {b y : B} {c w : C} {d v : D} where
  pub some-four : ◌≡◌ {A = Option (A × B × C × D)} (Some (a, b, c, d)) (Some (x, y, w, v)) → (a ≡ x) × (b ≡ y) × (c ≡ w) × (d ≡ v)
  some-four h = let p : ◌≡◌ {A = A × B × C × D} (a, b, c, d) (x, y, w, v) = cc in (ap (λ z. z.0) p, ap (λ z. z.1) p, ap (λ z. z.2) p, ap (λ z. z.3) p)

  pub ok-four : {E : Type 0} → ◌≡◌ {A = Result (A × B × C × D) E} (Ok (a, b, c, d)) (Ok (x, y, w, v)) → (a ≡ x) × (b ≡ y) × (c ≡ w) × (d ≡ v)
  ok-four h = let p : ◌≡◌ {A = A × B × C × D} (a, b, c, d) (x, y, w, v) = cc in (ap (λ z. z.0) p, ap (λ z. z.1) p, ap (λ z. z.2) p, ap (λ z. z.3) p)
