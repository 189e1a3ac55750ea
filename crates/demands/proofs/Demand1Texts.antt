-- Demand 1 of the exported functions that are lent a text or a value alone: sgf_trim, sgf_token, sgf_display_value, sgf_escape; passed on by Demand1. Assumes nothing.
use Rattle.lists.proofs.Prelude.{ℕ, ◌≤◌, ◌<◌, List, ◌⊎◌, ◌≡◌, length}
use Rattle.text_utf8.specs.Trim.{trimmed}
use Rattle.values.specs.Read.{read_value}
use Rattle.value_display.specs.Display.{display_text}
use Rattle.value_display.specs.declared.Kind.{Kind}
use Rattle.lexer.specs.Step.{next_at}
use Rattle.lexer.specs.declared.Fault.{Fault}
use Rattle.lexer.specs.declared.Step.TheVariants.{Refused}
use Rattle.c_tokens.specs.Tokens.{TrimIs, TokenIs}
use Rattle.tables.specs.Numbers.{reason_of}
use Rattle.tables.specs.declared.Reason.TheVariants.{NoRoom}
use Rattle.c_answers.specs.declared.SgfDisplay.{SgfDisplay}
use Rattle.sgf.specs.AskInC.{RawInC}
use Rattle.sgf.specs.EscapeInC.{EscapeInC}
use Rattle.value_escape.specs.Escape.{escaped_text}
use Rattle.reader_exactly.specs.Kept.{Blanks, Keeps}
use Rattle.demands.specs.Lists.{OneOf, trim_numbers, raw_numbers}
use Rattle.demands.specs.When.{Exactly}
use Rattle.demands.proofs.Texts as texts
-- what sgf_escape gives reads as the text, is closed, and is UTF-8 where the text is: the edit refuses it for neither 2 nor 18
pub use Rattle.value_escape.proofs.Escaped.{escape-read, escape-closed, escape-length}
pub use Rattle.value_escape.proofs.Valid.{escape-valid}

module _ (t : List ℕ) (n p f l : ℕ) (s : TrimIs (trimmed t) n p f l) where
  -- sgf_trim, number 0: all is white space and both places are 0; or between them stands what has white space before and behind it, and none first and last
  pub trim-kept : n ≡ 0 → (Blanks t × (f ≡ 0) × (l ≡ 0)) ⊎ Keeps t f l
  trim-kept = texts.trim-kept t n p f l s

  -- and no other places do so
  pub trim-keeps : (a b : ℕ) → Keeps t a b → (f ≡ a) × (l ≡ b)
  trim-keeps = texts.trim-keeps t n p f l s

  -- 0, 2
  pub trim-numbers : OneOf trim_numbers n
  trim-numbers = texts.trim-listed t n p f l s

-- sgf_token: 0 exactly where the next token is not refused; 3, 4, 5 exactly where it is refused so, from the place given back
pub token-exactly : (t : List ℕ) (at k n f o to : ℕ) → TokenIs at (next_at t at) k n f o to
    → Exactly n ((y : Fault) (i : ℕ) → next_at t at ≡ Refused y i → ⊥) (λ x. (y : Fault) × (next_at t at ≡ Refused y f) × (x ≡ reason_of y))
token-exactly = texts.token-exactly

module _ (kind : Kind) (raw out out' : List ℕ) (r : SgfDisplay) (s : RawInC kind raw out out' r) where
  -- sgf_display_value: 0 exactly where the output has room for what the value shows, else 14
  pub raw-exactly : Exactly r.number (length (display_text kind (read_value raw)) ≤ length out) (λ x. (x ≡ NoRoom) × (length out < length (display_text kind (read_value raw))))
  raw-exactly = texts.placed-exactly (display_text kind (read_value raw)) out out' r s.is s.bytes

  -- any other number than 0 leaves every byte of the output
  pub raw-stays : 0 < r.number → out' ≡ out
  raw-stays = texts.placed-stays (display_text kind (read_value raw)) out out' r s.is s.bytes

  pub raw-numbers : OneOf raw_numbers r.number
  raw-numbers = texts.placed-listed (display_text kind (read_value raw)) out out' r s.is s.bytes

module _ (text out out' : List ℕ) (r : SgfDisplay) (s : EscapeInC text out out' r) where
  -- sgf_escape: 0 exactly where the output has room for the raw value, else 14
  pub escape-exactly : Exactly r.number (length (escaped_text text) ≤ length out) (λ x. (x ≡ NoRoom) × (length out < length (escaped_text text)))
  escape-exactly = texts.placed-exactly (escaped_text text) out out' r s.is s.bytes

  -- any other number than 0 leaves every byte of the output
  pub escape-stays : 0 < r.number → out' ≡ out
  escape-stays = texts.placed-stays (escaped_text text) out out' r s.is s.bytes

  pub escape-numbers : OneOf raw_numbers r.number
  escape-numbers = texts.placed-listed (escaped_text text) out out' r s.is s.bytes
