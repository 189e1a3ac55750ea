-- The letters of a read identifier, from a place on. Assumes nothing.
use Rattle.lists.proofs.Prelude.{ℕ, ◌+◌, ◌≤◌, ◌<◌, ◌≡◌, ap, ◌∙◌, true, false, ◌&&◌, List, [], ◌∷◌, leb, length, get_or, drop, drop_of_length-le}
use Rattle.lists.proofs.Places.{drop-next}
use Rattle.values.specs.Read.{read_identifier}

module _ (s : List ℕ) (at : ℕ) where
  pub letter-past : length s ≤ at → read_identifier (drop at s) ≡ []
  unfolding read_identifier
  letter-past h = rw (drop_of_length-le s h)

  module _ (h : at < length s) where
    pub letter-here : (leb 0x41 (get_or s at 0) && leb (get_or s at 0) 0x5a) ≡ true → read_identifier (drop at s) ≡ get_or s at 0 ∷ read_identifier (drop (at + 1) s)
    unfolding read_identifier
    letter-here e = rw (drop-next s at h, e)

    pub letter-on : (leb 0x41 (get_or s at 0) && leb (get_or s at 0) 0x5a) ≡ false → read_identifier (drop at s) ≡ read_identifier (drop (at + 1) s)
    unfolding read_identifier
    letter-on e = rw (drop-next s at h, e)

-- a letter, and what is read behind it
pub letter-cons : (s : List ℕ) (at : ℕ) {b : ℕ} (n : ℕ) {bs : List ℕ} → read_identifier (drop at s) ≡ b ∷ read_identifier (drop n s) → read_identifier (drop n s) ≡ bs
    → read_identifier (drop at s) ≡ b ∷ bs
letter-cons s at {b} n e f = e ∙ ap (λ (z : List ℕ). b ∷ z) f
