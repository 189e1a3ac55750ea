-- Answers about tokens shown as numbers, as the C header says them.
use Rattle.std.specs.Prelude.{◌+◌, ◌≡◌}
use Rattle.lists.specs.Prelude.{ℕ}
use Rattle.text_utf8.specs.declared.Trimmed.{Trimmed}
use Rattle.text_utf8.specs.declared.Trimmed.TheVariants.{NotUtf8, Blank, Kept}
use Rattle.lexer.specs.Token.{fault_number}
use Rattle.lexer.specs.declared.Step.{Step}
use Rattle.lexer.specs.declared.Step.TheVariants.{Start, End, Node, Property, Refused, Done}
use Rattle.lexer_scan.specs.declared.ValueStep.{ValueStep}
use Rattle.lexer_scan.specs.declared.ValueStep.TheVariants.{Value, NoMore, Unclosed}

-- four numbers at once
abbrev Four : (a b c d n p f l : ℕ) → Type 0
Four a b c d n p f l = (n ≡ a) × (p ≡ b) × (f ≡ c) × (l ≡ d)

-- number, place, first and last place of what is kept
abbrev pub TrimIs : Trimmed → (n p f l : ℕ) → Type 0
TrimIs (NotUtf8 q) n p f l = Four 2 q 0 0 n p f l
TrimIs Blank n p f l = Four 0 0 0 0 n p f l
TrimIs (Kept a e) n p f l = Four 0 0 a e n p f l

-- kind, number, start, first `[` (else the start), next place
abbrev pub TokenIs : (at : ℕ) → Step → (k n f o t : ℕ) → Type 0
TokenIs at (Start i) k n f o t = (k ≡ 1) × (n ≡ 0) × (f ≡ i) × (o ≡ i) × (t ≡ i + 1)
TokenIs at (End i) k n f o t = (k ≡ 2) × (n ≡ 0) × (f ≡ i) × (o ≡ i) × (t ≡ i + 1)
TokenIs at (Node i) k n f o t = (k ≡ 3) × (n ≡ 0) × (f ≡ i) × (o ≡ i) × (t ≡ i + 1)
TokenIs at (Property i j e) k n f o t = (k ≡ 4) × (n ≡ 0) × (f ≡ i) × (o ≡ j) × (t ≡ e)
TokenIs at (Refused x i) k n f o t = (k ≡ 5) × (n ≡ fault_number x) × (f ≡ i) × (o ≡ i) × (t ≡ i)
TokenIs at Done k n f o t = (k ≡ 0) × (n ≡ 0) × (f ≡ at) × (o ≡ at) × (t ≡ at)

-- kind, start, end, next place
abbrev pub ValueIs : (at : ℕ) → ValueStep → (k f t n : ℕ) → Type 0
ValueIs at (Value a e x) k f t n = Four 1 a e x k f t n
ValueIs at NoMore k f t n = Four 0 at at at k f t n
ValueIs at Unclosed k f t n = Four 2 at at at k f t n
