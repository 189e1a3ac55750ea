-- A display needs no more bytes than the raw value has. Assumes nothing.
use Rattle.lists.proofs.Prelude.{ℕ, zero, suc, ◌≤◌, ◌≡◌, Bool, true, false, ◌&&◌, List, [], ◌∷◌, le_refl, arith, eqb, length, get_or, length-append, length-map, le-leb}
use Rattle.lists.proofs.Pick.{pick-elim}
use Rattle.values.specs.Read.{read_from, read_value}
use Rattle.value_display.specs.Display.{Item, blank1, blank2, blank3, plain, removed, escaped, item_of, format_from, format_text, pairs_spaced, spaced, one_line, display_text, displayed}
use Rattle.value_display.specs.declared.Kind.{Kind}
use Rattle.value_display.specs.declared.Kind.TheVariants.{Text, SimpleText}
use Rattle.std.specs.Prelude.{Some}

read_length : (escape : Bool) (s : List ℕ) → length (read_from escape s) ≤ length s
unfolding read_from
read_length escape [] = le_refl 0
read_length true (b ∷ bs) = omega (arith, read_length false bs)
read_length false (b ∷ bs) =
    pick-elim (λ (z : List ℕ). length z ≤ suc (length bs)) (eqb b 0x5c) (λ e. omega (arith, read_length true bs)) (λ e. omega (arith, read_length false bs))

-- an item shows one byte at most
abbrev Small : Item → Type 0
Small i = length i.shows ≤ 1

plain-small : (a b c : ℕ) → Small (plain a b c)
unfolding plain
plain-small a b c =
    pick-elim Small (blank1 a) (λ e. le_refl 1) (λ e. pick-elim Small (blank2 a b) (λ f. le_refl 1) (λ f. pick-elim Small (blank3 a b c) (λ g. le_refl 1) (λ g. le_refl 1)))

removed-small : (other : ℕ) (bs : List ℕ) → Small (removed other bs)
unfolding removed
removed-small other bs = pick-elim Small (eqb (get_or bs 0 0) other) (λ e. omega arith) (λ e. omega arith)

escaped-small : (bs : List ℕ) → Small (escaped bs)
unfolding escaped
escaped-small [] = le_refl 1
escaped-small (b ∷ bs) = pick-elim Small (eqb b 0xa) (λ e. removed-small 0xd bs) (λ e. pick-elim Small (eqb b 0xd) (λ f. removed-small 0xa bs) (λ f. le_refl 1))

item-small : (b : ℕ) (bs : List ℕ) → Small (item_of b bs)
unfolding item_of
item-small b bs = pick-elim Small (eqb b 0x5c) (λ e. escaped-small bs) (λ e. plain-small b (get_or bs 0 0) (get_or bs 1 0))

format-length : (n : ℕ) (bs : List ℕ) → length (format_from n bs) ≤ length bs
unfolding format_from
format-length n [] = le_refl 0
format-length (suc n) (b ∷ bs) = omega (arith, format-length n bs)
format-length zero (b ∷ bs) =
    omega (arith, item-small b bs, format-length (item_of b bs).more bs, length-append (item_of b bs).shows (format_from (item_of b bs).more bs))

replaced-length : (a b : ℕ) (bs : List ℕ) → length (pairs_spaced a b bs) ≤ length bs
unfolding pairs_spaced
replaced-length a b [] = le_refl 0
replaced-length a b (x ∷ []) = le_refl 1
replaced-length a b (x ∷ y ∷ zs) =
    pick-elim (λ (z : List ℕ). length z ≤ suc (suc (length zs))) (eqb x a && eqb y b) (λ e. omega (arith, replaced-length a b zs)) (λ e. omega (arith, replaced-length a b (y ∷ zs)))

line-length : (bs : List ℕ) → length (one_line bs) ≤ length bs
unfolding one_line
line-length bs =
    omega (arith, length-map (pairs_spaced 0xa 0xd (pairs_spaced 0xd 0xa bs)) spaced, replaced-length 0xa 0xd (pairs_spaced 0xd 0xa bs), replaced-length 0xd 0xa bs)

pub shown-length : (kind : Kind) (raw : List ℕ) → length (display_text kind (read_value raw)) ≤ length raw
unfolding display_text
shown-length Text raw = omega (arith, format-length 0 (read_value raw), read_length false raw)
shown-length SimpleText raw = omega (arith, line-length (format_text (read_value raw)), format-length 0 (read_value raw), read_length false raw)

-- so a display with that many bytes lent is never refused
pub display-fits : (kind : Kind) (raw out : List ℕ) → length raw ≤ length out → displayed (display_text kind (read_value raw)) out ≡ Some (length (display_text kind (read_value raw)))
unfolding displayed
display-fits kind raw out h = rw (le-leb (length (display_text kind (read_value raw))) (length out) (omega (arith, shown-length kind raw)))
