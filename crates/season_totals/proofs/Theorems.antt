-- Totals are the sums of the lines, column by column, for any lines; of parts of a season they add up. Assumes nothing.
use Rattle.lists.proofs.Prelude.{ℕ, zero, suc, ◌+◌, ◌*◌, ◌^◌, ◌<◌, ◌≤◌, ◌≡◌, refl, sym, ap, ◌∙◌, true, List, [], ◌∷◌, ◌++◌, length, get_or, arith, ext_get_or, length-set, get_or-set_same, get_or-set_other, replicate}
use Rattle.lists.specs.All.{All}
use Rattle.season_totals.specs.declared.Line.{Line}
use Rattle.season_totals.specs.declared.Line.TheVariants.{Unread, Refused, Counted}
use Rattle.season_totals.specs.Totals.{no_sums, line_sums, plus_sums, totals_of, small_sums}
use Rattle.season_totals.specs.Columns.{sum_over, small_line}
use Rattle.season_totals.proofs.Sums.{plus-length, plus-at, small-each}

zeros-at : (n k : ℕ) → ◌≡◌ {A = ℕ} (get_or (replicate n 0) k 0) 0
zeros-at zero k = refl
zeros-at (suc n) zero = refl
zeros-at (suc n) (suc k) = zeros-at n k

none-at : (k : ℕ) → get_or no_sums k 0 ≡ 0
none-at k = zeros-at 38 k

line-length : (l : Line) → length (line_sums l) ≡ 38
line-length Unread = refl
line-length (Refused n) = length-set no_sums (6 + n) 1
line-length (Counted t tag) = refl

pub totals-length : (ls : List Line) → length (totals_of ls) ≡ 38
totals-length [] = refl
totals-length (l ∷ ls) = plus-length (line_sums l) (totals_of ls)

-- each total is the sum of that column over the lines
pub totals-are-sums : (ls : List Line) (k : ℕ) → k < 38 → get_or (totals_of ls) k 0 ≡ sum_over k ls
totals-are-sums [] k h = none-at k
totals-are-sums (l ∷ ls) k h = plus-at (line_sums l) (totals_of ls) k h ∙ ap (λ (z : ℕ). get_or (line_sums l) k 0 + z) (totals-are-sums ls k h)

-- lists of 38 columns are equal by their columns
same-sums : (xs ys : List ℕ) → length xs ≡ 38 → length ys ≡ 38 → ((k : ℕ) → k < 38 → get_or xs k 0 ≡ get_or ys k 0) → xs ≡ ys
same-sums xs ys p q h = ext_get_or 0 xs ys (p ∙ sym q) (λ k l. h k (omega arith))

sum-append : (k : ℕ) (ls ms : List Line) → sum_over k (ls ++ ms) ≡ sum_over k ls + sum_over k ms
sum-append k [] ms = omega arith
sum-append k (l ∷ ls) ms = let r = sum-append k ls ms in omega arith

-- a season counted in parts: the totals of both, added
pub totals-append : (ls ms : List Line) → totals_of (ls ++ ms) ≡ plus_sums (totals_of ls) (totals_of ms)
totals-append ls ms = same-sums (totals_of (ls ++ ms)) (plus_sums (totals_of ls) (totals_of ms)) (totals-length (ls ++ ms)) (plus-length (totals_of ls) (totals_of ms))
    (λ k h.
    let a = totals-are-sums (ls ++ ms) k h in
    let b = totals-are-sums ls k h in
    let c = totals-are-sums ms k h in
    let d = plus-at (totals_of ls) (totals_of ms) k h in
    let e = sum-append k ls ms in
    omega arith)

plus_none : (xs : List ℕ) → length xs ≡ 38 → plus_sums xs no_sums ≡ xs
plus_none xs e = same-sums (plus_sums xs no_sums) xs (plus-length xs no_sums) e (λ k h. let a = plus-at xs no_sums k h in let b = none-at k in omega arith)

-- as the lines come: one more is added to the totals
pub totals-more : (ls : List Line) (l : Line) → totals_of (ls ++ (l ∷ [])) ≡ plus_sums (totals_of ls) (line_sums l)
totals-more ls l = totals-append ls (l ∷ []) ∙ ap (plus_sums (totals_of ls)) (plus_none (line_sums l) (line-length l))

-- a file that was not read counts nowhere
pub unread-adds-none : (ls : List Line) → totals_of (ls ++ (Unread ∷ [])) ≡ totals_of ls
unread-adds-none ls = totals-more ls Unread ∙ plus_none (totals_of ls) (totals-length ls)

-- a refused record adds one to its number's count
pub refused-adds-one : (ls : List Line) (n : ℕ) → n < 32 → get_or (totals_of (ls ++ (Refused n ∷ []))) (6 + n) 0 ≡ get_or (totals_of ls) (6 + n) 0 + 1
refused-adds-one ls n h =
    ap (λ (z : List ℕ). get_or z (6 + n) 0) (totals-more ls (Refused n)) ∙ plus-at (totals_of ls) (line_sums (Refused n)) (6 + n) (omega arith)
    ∙ ap (λ (z : ℕ). get_or (totals_of ls) (6 + n) 0 + z) (get_or-set_same no_sums (6 + n) 1 0 (omega arith))

-- and to nothing else
pub refused-adds-only : (ls : List Line) (n k : ℕ) → k < 38 → (k ≡ 6 + n → ⊥) → get_or (totals_of (ls ++ (Refused n ∷ []))) k 0 ≡ get_or (totals_of ls) k 0
refused-adds-only ls n k h d =
    let z : get_or (line_sums (Refused n)) k 0 ≡ 0 = get_or-set_other no_sums (6 + n) k 1 0 d ∙ none-at k in
    let e = plus-at (totals_of ls) (line_sums (Refused n)) k h in
    ap (λ (y : List ℕ). get_or y k 0) (totals-more ls (Refused n)) ∙ omega arith

sum-small : (k : ℕ) (ls : List Line) → k < 38 → All small_line ls → sum_over k ls ≤ length ls * 2 ^ 17
sum-small k [] b h = omega arith
sum-small k (l ∷ ls) b h = let r = sum-small k ls b h.1 in let s = h.0 k b in omega arith

-- lines of files within the limit: no sum of fewer than 2 ^ 47 reaches 2 ^ 64
pub totals-fit : (ls : List Line) → All small_line ls → length ls < 2 ^ 47 → small_sums (totals_of ls) ≡ true
totals-fit ls h n =
    small-each (totals_of ls)
    (λ k q.
    let w = totals-length ls in
    let s = totals-are-sums ls k (omega arith) in
    let b = sum-small k ls (omega arith) h in
    omega arith)
