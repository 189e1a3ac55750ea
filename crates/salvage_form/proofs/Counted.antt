-- Digits, letters and marks, counted. Assumes nothing.
use Rattle.lists.proofs.Prelude.{ℕ, zero, suc, ◌+◌, ◌*◌, ◌/◌, ◌%◌, ◌≤◌, ◌<◌, ◌≡◌, refl, sym, ap, ◌∙◌, Bool, true, false, ◌&&◌, List, [], ◌∷◌, arith, length, get_or, add-one, drop, drop-cons, drop_of_length-le, leb, ltb, pick}
use Rattle.std.specs.Prelude.{cond, count_by}
use Rattle.std.specs.Char.{is_ascii_uppercase}
use Rattle.std.proofs.lemmas.List.Recursion.{is_count_by}
use Rattle.std.proofs.lemmas.List.Sums.{sum_by-cons}
use Rattle.values.specs.Read.{read_identifier}
use Rattle.values.specs.Decimal.{spell, decimal}
use Rattle.go.specs.Normal.{point_text, points_from}
use Rattle.serialize_values.specs.LocalsForm.{raws_text}

-- ---- a number

spell-length : (k n : ℕ) (l : List ℕ) → length (spell k n l) ≤ k + length l
unfolding spell
spell-length zero n l = omega arith
spell-length (suc k) n l = go (ltb n 10) (spell-length k (n / 10) ((0x30 + n % 10) ∷ l))
  where
    go : (t : Bool) → length (spell k (n / 10) ((0x30 + n % 10) ∷ l)) ≤ k + suc (length l)
        → length (pick t ((0x30 + n % 10) ∷ l) (spell k (n / 10) ((0x30 + n % 10) ∷ l))) ≤ suc k + length l
    go true h = omega arith
    go false h = omega arith

pub digits-few : (n : ℕ) → length (decimal n) ≤ 20
unfolding decimal
digits-few n = let h = spell-length 20 n [] in omega arith

-- ---- letters

letter-step : (t : Bool) (b : ℕ) (l : List ℕ) → length (pick t (b ∷ l) l) ≡ cond t (1 + length l) (length l)
letter-step true b l = omega arith
letter-step false b l = refl

pub letters-counted : (s : List ℕ) → length (read_identifier s) ≡ count_by is_ascii_uppercase s
unfolding read_identifier
letters-counted s =
    is_count_by (λ (l : List ℕ). length (read_identifier l)) is_ascii_uppercase refl (λ b l. letter-step (leb 0x41 b && leb b 0x5a) b (read_identifier l)) s

-- ---- marks

mark-step : (t : Bool) (i : ℕ) (r : List (List ℕ)) (n : ℕ) → length (raws_text r) ≡ n * 4 → length (raws_text (pick t (point_text i ∷ r) r)) ≡ (cond t 1 0 + n) * 4
unfolding raws_text
mark-step true i r n e = omega arith
mark-step false i r n e = omega arith

pub marks-counted : (i : ℕ) (marks : List Bool) → length (raws_text (points_from i marks)) ≡ count_by (λ m. m) marks * 4
unfolding points_from raws_text
marks-counted i [] = refl
marks-counted i (m ∷ ms) =
    mark-step m i (points_from (suc i) ms) (count_by (λ b. b) ms) (marks-counted (suc i) ms)
    ∙ ap (λ (n : ℕ). n * 4) (sym (sum_by-cons (λ (b : Bool). cond b 1 0) m ms))

-- one place more, marked or not
pub marks-turn : (marks : List Bool) (i n x : ℕ) (b : Bool) → i < length marks → get_or marks i false ≡ b → n + count_by (λ m. m) (drop i marks) ≡ x
    → n + cond b 1 0 + count_by (λ m. m) (drop (i + 1) marks) ≡ x
marks-turn marks i n x b h e p =
    let rest : List Bool = drop (suc i) marks in
    let d : count_by (λ (m : Bool). m) (drop i marks) ≡ cond (get_or marks i false) 1 0 + count_by (λ (m : Bool). m) rest =
    ap (count_by (λ (m : Bool). m)) (drop-cons marks i false h) ∙ sum_by-cons (λ (m : Bool). cond m 1 0) (get_or marks i false) rest in
    turn n x (count_by (λ (m : Bool). m) (drop i marks)) (cond (get_or marks i false) 1 0) (cond b 1 0) (count_by (λ (m : Bool). m) rest)
    (count_by (λ (m : Bool). m) (drop (i + 1) marks)) d (ap (λ (m : Bool). cond m 1 0) e) (ap (λ (k : ℕ). count_by (λ (m : Bool). m) (drop k marks)) (add-one i)) p
  where
    turn : (n x all one new rest next : ℕ) → all ≡ one + rest → one ≡ new → next ≡ rest → n + all ≡ x → n + new + next ≡ x
    turn n x all one new rest next d c a p = omega (arith, d, c, a, p)

pub marks-end : (marks : List Bool) (i n x : ℕ) → length marks ≤ i → n + count_by (λ m. m) (drop i marks) ≡ x → n ≡ x
marks-end marks i n x h p = let d : count_by (λ (m : Bool). m) (drop i marks) ≡ 0 = ap (count_by (λ (m : Bool). m)) (drop_of_length-le marks h) in omega arith
