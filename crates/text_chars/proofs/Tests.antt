-- What the test of a range says. Assumes nothing.
use Rattle.lists.proofs.Prelude.{◌≡◌, refl, ℕ, ◌≤◌, ◌<◌, Bool, true, false, ◌&&◌, leb, leb-true, le-leb, lt-leb}
use Rattle.lists.proofs.Tests.{and_both}
use Rattle.text_chars.specs.White.{within}

pub within-true : (lo hi b : ℕ) → within lo hi b ≡ true → (lo ≤ b) × (b ≤ hi)
within-true lo hi b h = let p = and_both (leb lo b) (leb b hi) h in (leb-true lo b p.0, leb-true b hi p.1)

pub in_within : (lo hi b : ℕ) → lo ≤ b → b ≤ hi → within lo hi b ≡ true
in_within lo hi b h k = rw (le-leb lo b h, le-leb b hi k)

pub below-within : (lo hi b : ℕ) → b < lo → within lo hi b ≡ false
below-within lo hi b h = rw (lt-leb lo b h)

pub above_within : (lo hi b : ℕ) → hi < b → within lo hi b ≡ false
above_within lo hi b h = go (leb lo b) (leb b hi) (lt-leb b hi h)
  where
    go : (x y : Bool) → y ≡ false → x && y ≡ false
    go true y e = e
    go false y e = refl
