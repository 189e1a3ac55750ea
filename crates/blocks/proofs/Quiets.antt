-- Bytes of a value, one by one and together. Assumes nothing.
use Rattle.lists.proofs.Prelude.{◌≡◌, refl, sym, ap, ap₂, ◌∙◌, subst, ℕ, zero, suc, ◌+◌, ◌-◌, ◌≤◌, ◌<◌, arith, Bool, true, false, List, [], ◌∷◌, ◌++◌, length, take, drop, get_or, add-one, ne_eqb}
use Rattle.lists.proofs.Places.{drop-next}
use Rattle.tables.specs.Numbers.{text_limit}
use Rattle.text_chars.specs.White.{white}
use Rattle.text_chars.proofs.White.{ascii-dark}
use Rattle.blocks_step.specs.declared.Utf8.{Utf8}
use Rattle.blocks_step.specs.declared.Utf8.TheVariants.{Whole}
use Rattle.blocks_step.specs.declared.Char.TheVariants.{Ended}
use Rattle.blocks_step.specs.declared.Phase.{Phase}
use Rattle.blocks_step.specs.declared.Phase.TheVariants.{Value, After}
use Rattle.blocks_step.specs.declared.Moved.{Moved}
use Rattle.blocks_step.specs.Decode.{decodes}
use Rattle.blocks_step.specs.Lean.{moves}
use Rattle.blocks_step.proofs.Decoding.{bytes-ascii}
use Rattle.blocks.specs.declared.BlocksKnown.{BlocksKnown}
use Rattle.blocks.specs.Room.{Room, room, gone, with_tokens, goes, keeps, takes_byte, takes_all}
use Rattle.blocks.specs.LocalsSteady.{PlainByte, PlainRun, quiet_move}
use Rattle.blocks.proofs.Taking.{took-ink, took-white}

pub takes-append : (xs ys : List ℕ) (w : Room) → takes_all w (xs ++ ys) ≡ takes_all (takes_all w xs) ys
takes-append [] ys w = refl
takes-append (b ∷ xs) ys w = takes-append xs ys (takes_byte w b)

-- what is known n bytes on, where the last of them is no white space and the token rules stand so
unfoldable pub quietly : BlocksKnown → ℕ → Phase → BlocksKnown
quietly k n q = record { total = k.total + n; utf8 = Whole; last = k.total + n; now = q; count = k.count; kept = q; held = k.count }

-- what is known behind it
abbrev onward : BlocksKnown → Phase → BlocksKnown
onward k q = record { total = suc k.total; utf8 = Whole; last = k.last; now = q; count = k.count; kept = k.kept; held = k.held }

pub silent-goes : (k : BlocksKnown) (t : List ℕ) (b : ℕ) (q : Phase) → moves k.now k.total b ≡ quiet_move q → goes Whole (room k t) b ≡ room (onward k q) t
unfolding goes
silent-goes k t b q e = ap (λ (m : Moved). gone Whole k m (with_tokens (room k t) m)) e

pub ends-ascii : (k : BlocksKnown) (b : ℕ) → k.utf8 ≡ Whole → b < 128 → (w : Bool) → white b ≡ w → Ended w ≡ decodes k.utf8 k.total b
ends-ascii k b u a w e = bytes-ascii k.total b (omega (arith, a)) (sym e) ∙ ap (λ (z : Utf8). decodes z k.total b) (sym u)

pub quiet-byte : (k : BlocksKnown) (t : List ℕ) (b : ℕ) (q : Phase) → k.utf8 ≡ Whole → k.total < text_limit → b < 128 → 32 < b → moves k.now k.total b ≡ quiet_move q → takes_byte (room k t) b ≡ room (quietly k 1 q) t
unfolding keeps quietly
quiet-byte k t b q u h a d e =
    sym (took-ink k t b h false refl (ends-ascii k b u a false (ascii-dark b d a)))
    ∙ ap keeps (silent-goes k t b q e)
    ∙ ap (λ (n : ℕ). room (record { total = n; utf8 = Whole; last = n; now = q; count = k.count; kept = q; held = k.count }) t) (sym (add-one k.total))

-- ---- a byte of a value

pub value-silent : (s o b : ℕ) → PlainByte b → moves (Value s) o b ≡ quiet_move (Value s)
unfolding moves
value-silent s o b p = rw (ne_eqb b 93 p.closes, ne_eqb b 92 p.escapes)

pub close-silent : (s o : ℕ) → moves (Value s) o 93 ≡ quiet_move (After s)
unfolding moves
close-silent s o = refl

-- what is known behind it, white space or not
record Onward (k : BlocksKnown) (t : List ℕ) (b s : ℕ) : Type 0 where
  k' : BlocksKnown
  is : takes_byte (room k t) b ≡ room k' t
  utf8 : k'.utf8 ≡ Whole
  last : 0 < k'.last
  now : k'.now ≡ Value s
  total : k'.total ≡ k.total + 1
  count : k'.count ≡ k.count

plain-on : (k : BlocksKnown) (t : List ℕ) (b s : ℕ) → k.utf8 ≡ Whole → 0 < k.last → k.now ≡ Value s → k.total < text_limit → PlainByte b → Onward k t b s
unfolding keeps
plain-on k t b s u l n h p = go (white b) refl
  where
    m : moves k.now k.total b ≡ quiet_move (Value s)
    m = ap (λ (z : Phase). moves z k.total b) n ∙ value-silent s k.total b p

    go : (w : Bool) → white b ≡ w → Onward k t b s
    go true e =
        record {
          k' = onward k (Value s);
          is = sym (took-white k t b h true refl (ends-ascii k b u p.ascii true e) (λ z. absurd (omega (arith, z, l)))) ∙ silent-goes k t b (Value s) m;
          utf8 = refl;
          last = l;
          now = refl;
          total = omega arith;
          count = refl;
        }
    go false e =
        record {
          k' = (keeps (room (onward k (Value s)) t)).known;
          is = sym (took-ink k t b h false refl (ends-ascii k b u p.ascii false e)) ∙ ap keeps (silent-goes k t b (Value s) m);
          utf8 = refl;
          last = omega arith;
          now = refl;
          total = omega arith;
          count = refl;
        }

-- ---- bytes of a value

pub take_next : (s : List ℕ) (i n : ℕ) → i < length s → take (suc n) (drop i s) ≡ get_or s i 0 ∷ take n (drop (i + 1) s)
take_next s i n h = ap (take (suc n)) (drop-next s i h)

same-quiet : (k k' : BlocksKnown) (n m : ℕ) (q : Phase) → k'.total + m ≡ k.total + n → k'.count ≡ k.count → quietly k' m q ≡ quietly k n q
unfolding quietly
same-quiet k k' n m q e c = ap₂ (λ (x y : ℕ). record { total = x; utf8 = Whole; last = x; now = q; count = y; kept = q; held = y }) e c

pub values-over : (n : ℕ) (s : List ℕ) (i : ℕ) → PlainRun s i (suc n) → (k : BlocksKnown) (t : List ℕ) (a : ℕ) → k.utf8 ≡ Whole → 0 < k.last → k.now ≡ Value a → k.total + suc n ≤ text_limit
    → takes_all (room k t) (take (suc n) (drop i s)) ≡ room (quietly k (suc n) (Value a)) t
values-over zero s i p k t a u l w h =
    let r = p.room in
    let e : i + 0 ≡ i = omega arith in
    let b = subst (λ (z : ℕ). PlainByte (get_or s z 0)) e (p.plain 0 (omega arith)) in
    let d = subst (λ (z : ℕ). 32 < get_or s z 0) e p.dark in
    ap (takes_all (room k t)) (take_next s i 0 (omega arith))
    ∙ quiet-byte k t (get_or s i 0) (Value a) u (omega arith) b.ascii d (ap (λ (z : Phase). moves z k.total (get_or s i 0)) w ∙ value-silent a k.total (get_or s i 0) b)
values-over (suc n) s i p k t a u l w h =
    let r = p.room in
    let e : i + 0 ≡ i = omega arith in
    let b = subst (λ (z : ℕ). PlainByte (get_or s z 0)) e (p.plain 0 (omega arith)) in
    let o = plain-on k t (get_or s i 0) a u l w (omega arith) b in
    let rest : PlainRun s (i + 1) (suc n) = record {
      room = omega arith;
      some = omega arith;
      plain = λ j g. let x : i + suc j ≡ i + 1 + j = omega arith in subst (λ (z : ℕ). PlainByte (get_or s z 0)) x (p.plain (suc j) (omega arith));
      dark = let x : i + (suc (suc n) - 1) ≡ i + 1 + (suc n - 1) = omega arith in subst (λ (z : ℕ). 32 < get_or s z 0) x p.dark;
    } in
    ap (takes_all (room k t)) (take_next s i (suc n) (omega arith))
    ∙ ap (λ (z : Room). takes_all z (take (suc n) (drop (i + 1) s))) o.is
    ∙ values-over n s (i + 1) rest o.k' t a o.utf8 o.last o.now (omega (arith, o.total))
    ∙ ap (λ (z : BlocksKnown). room z t) (same-quiet k o.k' (suc (suc n)) (suc n) (Value a) (omega (arith, o.total)) o.count)
