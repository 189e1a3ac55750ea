-- What is spelled reads back, whatever follows; and what is read is spelled so: one form for each number. Assumes nothing.
use Rattle.lists.proofs.Prelude.{ℕ, zero, suc, ◌+◌, ◌-◌, ◌*◌, ◌/◌, ◌%◌, ◌≤◌, ◌<◌, ◌≡◌, refl, sym, ap, ap₂, ◌∙◌, Bool, true, false, not, ◌&&◌, List, [], ◌∷◌, ◌++◌, arith, length, drop, ltb, eqb, ltb-true, ltb-false, lt-ltb, le-ltb, ne_eqb, eqb-false, pick, subst, drop-drop}
use Rattle.lists.specs.All.{All}
use Rattle.feed_numerals.specs.Numeral.{grouped, groups_from, numeral_at, groups_of, spelled, numeral_limit}
use Rattle.feed_numerals.proofs.Groups.{power}
use Rattle.std.specs.Prelude.{Option, Some, None}

-- not the only group: then not 0
abbrev Fine : Bool → ℕ → Type 0
Fine true n = Unit {0}
Fine false n = 0 < n

last-fine : (only : Bool) (n : ℕ) → Fine only n → pick {A = Option (ℕ × ℕ)} (not only && eqb n 0) None (Some (n, 1)) ≡ Some (n, 1)
last-fine true n h = refl
last-fine false n h = let e = ne_eqb n 0 (λ z. absurd (omega (arith, z, h))) in rw e

module _ (g : ℕ) (only : Bool) (n : ℕ) (bs : List ℕ) (p : Fine only n) where
  -- by whether one group suffices, and by what the rest gives
  one_more : (c : Bool) → ltb n 0x80 ≡ c
      → (0x80 ≤ n → groups_from g false (groups_of g (n / 0x80) ++ bs) ≡ Some (n / 0x80, length (groups_of g (n / 0x80))))
      → groups_from (suc g) only (pick c (n ∷ []) ((0x80 + n % 0x80) ∷ groups_of g (n / 0x80)) ++ bs)
      ≡ Some (n, length (pick c (n ∷ []) ((0x80 + n % 0x80) ∷ groups_of g (n / 0x80))))
  unfolding groups_from
  one_more true e r = rw e (last-fine only n p)
  one_more false e r =
      let b : ltb (0x80 + n % 0x80) 0x80 ≡ false = le-ltb (0x80 + n % 0x80) 0x80 (omega arith) in
      let v : 0x80 + n % 0x80 - 0x80 + 0x80 * (n / 0x80) ≡ n = omega arith in
      rw b (ap (grouped (0x80 + n % 0x80 - 0x80)) (r (ltb-false n 0x80 e)) ∙ ap (λ (z : ℕ). Some (z, suc (length (groups_of g (n / 0x80))))) v)

-- a number below so many groups, spelled, reads back, whatever follows
groups-read : (g : ℕ) (only : Bool) (n : ℕ) (bs : List ℕ) → n < power (suc g) → Fine only n
    → groups_from (suc g) only (groups_of (suc g) n ++ bs) ≡ Some (n, length (groups_of (suc g) n))
unfolding groups_of
groups-read zero only n bs h p = one_more zero only n bs p (ltb n 0x80) refl (λ l. absurd (omega (arith, h, l)))
groups-read (suc g) only n bs h p =
    one_more (suc g) only n bs p (ltb n 0x80) refl
    (λ l. groups-read g false (n / 0x80) bs (let k : n / 0x80 < power (suc g) = omega (arith, h) in k) (let q : 0 < n / 0x80 = omega (arith, l) in q))

-- what is spelled reads back
pub spelled-read : (s : List ℕ) (at n : ℕ) (bs : List ℕ) → n < numeral_limit → drop at s ≡ spelled n ++ bs → numeral_at s at ≡ Some (n, length (spelled n))
unfolding numeral_at spelled
spelled-read s at n bs h e = ap (groups_from 4 true) e ∙ groups-read 3 true n bs h tt

-- ---- what is read is spelled so

-- v was read in m bytes: it is not 0 but alone, it fits its groups, and its spelling stands in front of what follows
pub record Spells (g : ℕ) (only : Bool) (bs : List ℕ) (v m : ℕ) : Type 0 where
  pub small : v < power g
  pub fine : Fine only v
  pub front : bs ≡ groups_of g v ++ drop m bs
  pub size : length (groups_of g v) ≡ m

abbrev Read : (g : ℕ) → Bool → List ℕ → Option (ℕ × ℕ) → Type 0
Read g only bs (Some (v, m)) = Spells g only bs v m
Read g only bs None = Unit {0}

power-least : (g : ℕ) → 1 ≤ power g
power-least zero = omega arith
power-least (suc g) = omega (arith, power-least g)

read-last : (g : ℕ) (only : Bool) (b : ℕ) (bs : List ℕ) → b < 0x80 → (z : Bool) → eqb b 0 ≡ z → Read (suc g) only (b ∷ bs) (pick (not only && z) None (Some (b, 1)))
unfolding groups_of
read-last g true b bs h z e =
    record { small = omega (arith, power-least g, h); fine = tt; front = rw (lt-ltb b 0x80 h) refl; size = rw (lt-ltb b 0x80 h) refl }
read-last g false b bs h true e = tt
read-last g false b bs h false e =
    record { small = omega (arith, power-least g, h); fine = above; front = rw (lt-ltb b 0x80 h) refl; size = rw (lt-ltb b 0x80 h) refl }
  where
    above : 0 < b
    above = let n = eqb-false b 0 e in omega (arith, n)

fine_more : (only : Bool) (n : ℕ) → 0 < n → Fine only n
fine_more true n h = tt
fine_more false n h = h

read_more : (g : ℕ) (only : Bool) (b : ℕ) (bs : List ℕ) → 0x80 ≤ b → b < 256 → (r : Option (ℕ × ℕ)) → Read g false bs r → Read (suc g) only (b ∷ bs) (grouped (b - 0x80) r)
unfolding groups_of
read_more g only b bs h l None x = tt
read_more g only b bs h l (Some (v, m)) x =
    let n = b - 0x80 + 0x80 * v in
    let p : 0 < v = x.fine in
    let q : 0x80 + n % 0x80 ≡ b = omega arith in
    let d : n / 0x80 ≡ v = omega arith in
    let k : groups_of (suc g) n ≡ b ∷ groups_of g v = rw (le-ltb n 0x80 (omega arith)) (ap₂ (λ (y z : ℕ). y ∷ groups_of g z) q d) in
    record {
      small = omega (arith, x.small);
      fine = fine_more only n (omega arith);
      front = ap (λ (z : List ℕ). b ∷ z) x.front ∙ ap (λ (z : List ℕ). z ++ drop m bs) (sym k);
      size = ap length k ∙ ap suc x.size;
    }

read_all : (g : ℕ) (only : Bool) (bs : List ℕ) → All (λ b. b < 256) bs → Read g only bs (groups_from g only bs)
unfolding groups_from
read_all zero only bs a = tt
read_all (suc g) only [] a = tt
read_all (suc g) only (b ∷ bs) a = go (ltb b 0x80) refl (read_all g false bs a.1)
  where
    go : (c : Bool) → ltb b 0x80 ≡ c → Read g false bs (groups_from g false bs)
        → Read (suc g) only (b ∷ bs) (pick c (pick (not only && eqb b 0) None (Some (b, 1))) (grouped (b - 0x80) (groups_from g false bs)))
    go true e r = read-last g only b bs (ltb-true b 0x80 e) (eqb b 0) refl
    go false e r = read_more g only b bs (ltb-false b 0x80 e) a.0 (groups_from g false bs) r

all_drop : (n : ℕ) (bs : List ℕ) → All (λ b. b < 256) bs → All (λ b. b < 256) (drop n bs)
all_drop zero bs a = a
all_drop (suc n) [] a = tt
all_drop (suc n) (b ∷ bs) a = all_drop n bs a.1

-- what is read is spelled so, and takes so many bytes
pub read-spelled : (s : List ℕ) (at n m : ℕ) → All (λ b. b < 256) s → numeral_at s at ≡ Some (n, m)
    → (n < numeral_limit) × (drop at s ≡ spelled n ++ drop (at + m) s) × (length (spelled n) ≡ m)
unfolding numeral_at spelled
read-spelled s at n m a e =
    let x : Spells 4 true (drop at s) n m = subst (Read 4 true (drop at s)) e (read_all 4 true (drop at s) (all_drop at s a)) in
    (x.small, x.front ∙ ap (λ (z : List ℕ). groups_of 4 n ++ z) (drop-drop m at s), x.size)
