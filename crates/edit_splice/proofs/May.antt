-- Whether a part may be replaced, and what the buffer then is. Assumes nothing.
use Rattle.lists.proofs.Prelude.{ℕ, ◌+◌, ◌-◌, ◌≤◌, ◌<◌, Bool, true, false, ◌&&◌, List, ◌≡◌, refl, sym, arith, leb, length, take, leb-true, leb-false, le-leb, lt-leb}
use Rattle.lists.specs.Put.{put_at}
use Rattle.lists.proofs.Tests.{and_both}
use Rattle.edit_splice.specs.Locals.{Replaceable}
use Rattle.edit_splice.specs.Splice.{pasted, cleared, fits_in, replaced}

-- ---- the tests, one after another

module _ (bytes used a e m : ℕ) where
  pub may-turned : e < a → false ≡ fits_in bytes used a e m
  may-turned h = rw (lt-leb a e h)

  module _ (order : a ≤ e) where
    pub may-beyond : used < e → false ≡ fits_in bytes used a e m
    may-beyond h = rw (le-leb a e order, lt-leb e used h)

    module _ (inside : e ≤ used) where
      pub may-unlent : bytes < used → false ≡ fits_in bytes used a e m
      may-unlent h = rw (le-leb a e order, le-leb e used inside, lt-leb used bytes h)

      -- the room by a difference and by a sum
      room-is : used ≤ bytes → leb m (bytes - (used - (e - a))) ≡ leb (a + m + (used - e)) bytes
      room-is l = go (leb m (bytes - (used - (e - a)))) refl
        where
          go : (x : Bool) → leb m (bytes - (used - (e - a))) ≡ x → x ≡ leb (a + m + (used - e)) bytes
          go true h = sym (le-leb (a + m + (used - e)) bytes (omega (arith, leb-true m (bytes - (used - (e - a))) h)))
          go false h = sym (lt-leb (a + m + (used - e)) bytes (omega (arith, leb-false m (bytes - (used - (e - a))) h)))

      pub may-room : used ≤ bytes → leb m (bytes - (used - (e - a))) ≡ fits_in bytes used a e m
      may-room l = rw (le-leb a e order, le-leb e used inside, le-leb used bytes l) (room-is l)

-- ---- the buffer

pub may-replace : (b : List ℕ) (used a e m : ℕ) → fits_in (length b) used a e m ≡ true → Replaceable b used a e m
may-replace b used a e m h =
    let t1 : Bool = leb a e in
    let t2 : Bool = leb e used in
    let t3 : Bool = leb used (length b) in
    let h3 = and_both (t1 && t2 && t3) (leb (a + m + (used - e)) (length b)) h in
    let h2 = and_both (t1 && t2) t3 h3.0 in
    let h1 = and_both t1 t2 h2.0 in
    record {
      within = record { order = leb-true a e h1.0; inside = leb-true e used h1.1; lent = leb-true used (length b) h2.1 };
      room = leb-true (a + m + (used - e)) (length b) h3.1;
    }

module _ (b : List ℕ) (used a e : ℕ) (new : List ℕ) where
  pub replaced-may : fits_in (length b) used a e (length new) ≡ true → replaced b used a e new ≡ put_at b 0 (cleared (pasted (take used b) a e new) used)
  unfolding replaced
  replaced-may h = rw h

  pub replaced-not : fits_in (length b) used a e (length new) ≡ false → replaced b used a e new ≡ b
  unfolding replaced
  replaced-not h = rw h

  -- what may be replaced is
  pub replaced-is : Replaceable b used a e (length new) → replaced b used a e new ≡ put_at b 0 (cleared (pasted (take used b) a e new) used)
  replaced-is r =
      let w = r.within in
      replaced-may (rw (le-leb a e w.order, le-leb e used w.inside, le-leb used (length b) w.lent, le-leb (a + length new + (used - e)) (length b) r.room))
