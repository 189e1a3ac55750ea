-- Where a value closes lies in the text. Assumes nothing.
use Rattle.lists.proofs.Prelude.{ℕ, ◌+◌, ◌≤◌, ◌<◌, ◌≡◌, Bool, true, false, List, [], ◌∷◌, arith, length, drop, length-drop, eqb, pick}
use Rattle.lists.proofs.Tests.{never}
use Rattle.lexer_close.specs.Close.{close_from, close_at}
use Rattle.std.specs.Prelude.{Option, Some}

close-within : (e : Bool) (i : ℕ) (l : List ℕ) (j : ℕ) → close_from e i l ≡ Some j → (i ≤ j) × (j < i + length l)
unfolding close_from
close-within e i [] j q = never (cc)
close-within true i (b ∷ l) j q = let r = close-within false (i + 1) l j q in omega arith
close-within false i (b ∷ l) j q = go (eqb b 0x5d) (close-within (eqb b 0x5c) (i + 1) l j) q
  where
    Rest : Option ℕ
    Rest = close_from (eqb b 0x5c) (i + 1) l

    go : (t : Bool) → (Rest ≡ Some j → (i + 1 ≤ j) × (j < i + 1 + length l)) → pick t (Some i) Rest ≡ Some j → (i ≤ j) × (j < i + length (b ∷ l))
    go true r q = let z : i ≡ j = cc in omega arith
    go false r q = let h = r q in omega arith

-- a value closes in the text
pub close-bounds : (s : List ℕ) (i j : ℕ) → close_at s i ≡ Some j → (i ≤ j) × (j < length s)
close-bounds s i j q = let r = close-within false i (drop i s) j q in omega (arith, length-drop i s)
