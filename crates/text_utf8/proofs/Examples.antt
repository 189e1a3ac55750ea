-- Texts and what trimming keeps of them, by computation. Assumes nothing.
use Rattle.lists.proofs.Prelude.{◌≡◌, refl, ℕ, List, [], ◌∷◌, map}
use Rattle.text_utf8.specs.declared.Trimmed.{Trimmed}
use Rattle.text_utf8.specs.declared.Trimmed.TheVariants.{NotUtf8, Blank, Kept}
use Rattle.text_chars.specs.White.{white}
use Rattle.text_utf8.specs.Trim.{trimmed}

-- a text and its answer
pub record Row : Type 0 where
  pub text : List ℕ
  pub answer : Trimmed

abbrev pub row : Trimmed → List ℕ → Row
row a t = record { text = t; answer = a }

-- nothing; a line feed and U+2028; ` (;)` and a tab; `(` between U+3000 and U+00A0; U+FEFF, which is no white space;
-- then a surrogate; an overlong form; a character beyond U+10FFFF; a byte that continues none; a character that the end cuts off
abbrev pub rows : List Row
rows =
    row Blank [] ∷
    row Blank (0x0a ∷ 0xe2 ∷ 0x80 ∷ 0xa8 ∷ []) ∷
    row (Kept 1 4) (0x20 ∷ 0x28 ∷ 0x3b ∷ 0x29 ∷ 0x09 ∷ []) ∷
    row (Kept 3 4) (0xe3 ∷ 0x80 ∷ 0x80 ∷ 0x28 ∷ 0xc2 ∷ 0xa0 ∷ []) ∷
    row (Kept 0 4) (0xef ∷ 0xbb ∷ 0xbf ∷ 0x28 ∷ 0x20 ∷ []) ∷
    row (NotUtf8 0) (0xed ∷ 0xa0 ∷ 0x80 ∷ []) ∷
    row (NotUtf8 1) (0x28 ∷ 0xc0 ∷ 0x80 ∷ []) ∷
    row (NotUtf8 1) (0x28 ∷ 0xf4 ∷ 0x90 ∷ 0x80 ∷ 0x80 ∷ []) ∷
    row (NotUtf8 2) (0xc3 ∷ 0xa9 ∷ 0x80 ∷ 0x28 ∷ []) ∷
    row (NotUtf8 1) (0x28 ∷ 0xe2 ∷ 0x80 ∷ []) ∷ []

pub examples : map (λ (r : Row). trimmed r.text) rows ≡ map (λ (r : Row). r.answer) rows
unfolding trimmed white
examples = refl
