-- A row put, tokens put, a byte taken, by the tests of the code. Assumes nothing.
use Rattle.lists.proofs.Prelude.{◌≡◌, refl, sym, ap, ap₂, ◌∙◌, ℕ, suc, ◌+◌, ◌*◌, ◌≤◌, ◌<◌, Bool, true, false, List, length, drop, get_or, leb, pick, add-one, eq-eqb, ne_eqb, leb-true, leb-false, lt-ltb, le-ltb}
use Rattle.lists.proofs.Places.{drop-next}
use Rattle.lists.specs.Put.{put_at, PutWhole}
use Rattle.tables.specs.Numbers.{text_limit}
use Rattle.blocks_step.specs.declared.Utf8.{Utf8}
use Rattle.blocks_step.specs.declared.Utf8.TheVariants.{Whole}
use Rattle.blocks_step.specs.declared.Char.{Char}
use Rattle.blocks_step.specs.declared.Char.TheVariants.{Ended}
use Rattle.blocks_step.specs.declared.Moved.{Moved}
use Rattle.blocks_step.specs.Decode.{decodes}
use Rattle.blocks_step.specs.Lean.{moves}
use Rattle.blocks.specs.declared.BlocksKnown.{BlocksKnown}
use Rattle.blocks.specs.Room.{Filled, filled_with, token_row, rows_at, counted_on, add_row, add_rows, Room, room, goes_back, gone, with_tokens, goes, keeps, settled, past_limit, takes_byte, takes_all}

-- ---- rows

put_is : (t : List ℕ) (at : ℕ) (vs t' : List ℕ) → PutWhole t at vs t' → t' ≡ pick (leb (at + length vs) (length t)) (put_at t at vs) t
put_is t at vs t' p = go (leb (at + length vs) (length t)) refl
  where
    go : (b : Bool) → leb (at + length vs) (length t) ≡ b → t' ≡ pick b (put_at t at vs) t
    go true e = p.is.put (leb-true (at + length vs) (length t) e)
    go false e = p.stays (leb-false (at + length vs) (length t) e)

pub row-added : (t : List ℕ) (n w k a e : ℕ) (t' : List ℕ) (r : ℕ) → w ≡ n → PutWhole t (w * 3) (token_row k a e) t' → r ≡ counted_on n → filled_with r t' ≡ add_row (filled_with n t) (token_row k a e)
unfolding add_row
row-added t n w k a e t' r q p h =
    ap₂ filled_with h (put_is t (w * 3) (token_row k a e) t' p ∙ ap (λ (z : ℕ). pick (leb (z * 3 + 3) (length t)) (put_at t (z * 3) (token_row k a e)) t) q)

-- a row that ends behind the byte at o
pub row-single : (f : Filled) (k o : ℕ) → add_row f (token_row k o (o + 1)) ≡ add_row f (token_row k o (suc o))
row-single f k o = ap (λ (z : ℕ). add_row f (token_row k o z)) (add-one o)

-- ---- a byte

module _ (k : BlocksKnown) (t : List ℕ) (b : ℕ) where
  pub went : (u : Utf8) (m : Moved) (n : ℕ) (t' : List ℕ) → m ≡ moves k.now k.total b → filled_with n t' ≡ add_rows (filled_with k.count t) (rows_at m.tokens k.total)
      → room (record { total = k.total + 1; utf8 = u; last = k.last; now = m.next; count = n; kept = k.kept; held = k.held }) t' ≡ goes u (room k t) b
  unfolding goes
  went u m n t' h q =
      ap (λ (z : ℕ). room (record { total = z; utf8 = u; last = k.last; now = m.next; count = n; kept = k.kept; held = k.held }) t') (add-one k.total)
      ∙ ap (λ (f : Filled). gone u k m f) q
      ∙ ap (λ (z : Moved). gone u k z (with_tokens (room k t) z)) h

  pub took-past : text_limit ≤ k.total → past_limit (room k t) ≡ takes_byte (room k t) b
  unfolding takes_byte
  took-past h = rw (le-ltb k.total text_limit h)

  module _ (h : k.total < text_limit) where
    pub took : (c : Char) → c ≡ decodes k.utf8 k.total b → settled c (room k t) b ≡ takes_byte (room k t) b
    unfolding takes_byte
    took c e = rw (lt-ltb k.total text_limit h) (ap (λ (z : Char). settled z (room k t) b) e)

    pub took-back : (w : Bool) → w ≡ true → Ended w ≡ decodes k.utf8 k.total b → k.last ≡ 0 → goes_back (room k t) ≡ takes_byte (room k t) b
    took-back w q e l =
        sym (ap (λ (z : Bool). pick z (goes_back (room k t)) (goes Whole (room k t) b)) (eq-eqb k.last 0 l))
        ∙ took (Ended true) (ap Ended (sym q) ∙ e)

    pub took-white : (w : Bool) → w ≡ true → Ended w ≡ decodes k.utf8 k.total b → (k.last ≡ 0 → ⊥) → goes Whole (room k t) b ≡ takes_byte (room k t) b
    took-white w q e l =
        sym (ap (λ (z : Bool). pick z (goes_back (room k t)) (goes Whole (room k t) b)) (ne_eqb k.last 0 l))
        ∙ took (Ended true) (ap Ended (sym q) ∙ e)

    pub took-ink : (w : Bool) → w ≡ false → Ended w ≡ decodes k.utf8 k.total b → keeps (goes Whole (room k t) b) ≡ takes_byte (room k t) b
    took-ink w q e = took (Ended false) (ap Ended (sym q) ∙ e)

-- ---- a block

pub block_more : (bs : List ℕ) (i : ℕ) (w v z : Room) → i < length bs → v ≡ takes_byte w (get_or bs i 0) → takes_all w (drop i bs) ≡ z → takes_all v (drop (i + 1) bs) ≡ z
block_more bs i w v z h e q = ap (λ (x : Room). takes_all x (drop (i + 1) bs)) e ∙ sym (ap (takes_all w) (drop-next bs i h)) ∙ q
