-- No second answer: of each public function, two answers that meet its contract are equal. Assumes nothing.
use Rattle.lists.proofs.Prelude.{ℕ, ◌≡◌, sym, ◌∙◌, List, Bool, drop, take, replicate, ap}
use Rattle.lists.specs.Once.{Once}
use Rattle.lists.proofs.Once.{once_is}
use Rattle.store_bytes.specs.LocalsWrote.{Wrote}
use Rattle.text_chars.specs.White.{white}
use Rattle.text_chars.specs.LocalsDecode.{decoded}
use Rattle.text_utf8.specs.declared.Trimmed.{Trimmed}
use Rattle.text_utf8.specs.Trim.{trimmed}
use Rattle.lexer_close.specs.Close.{close_at}
use Rattle.lexer_scan.specs.Scan.{space, skip_at, ident_at, value_step_at, values_end_at}
use Rattle.lexer_scan.specs.declared.Ident.{Ident}
use Rattle.lexer_scan.specs.declared.ValueStep.{ValueStep}
use Rattle.lexer.specs.Token.{fault_number}
use Rattle.lexer.specs.Step.{head_at, next_at, SteppedIs}
use Rattle.lexer.specs.declared.Fault.{Fault}
use Rattle.lexer.specs.declared.Head.{Head}
use Rattle.lexer.specs.declared.Step.{Step}
use denote.Ref.{Bor}
use Rattle.lexer.specs.declared.Stepped.{Stepped}
use Rattle.lexer_walker.specs.declared.Walker.{Walker}
use Rattle.std.specs.Prelude.{Option}

-- lists

pub wide-once : (cell : ℕ) → Once (λ (r : ℕ). r ≡ cell)
wide-once cell = once_is cell

-- store_bytes

-- of put_byte, put_bytes and values::spell::put_decimal, whatever is put: the place after it, and all of the memory
pub put-once : (w out : List ℕ) (at : ℕ) (x y : List ℕ) (n m : ℕ) → Wrote w out at x n → Wrote w out at y m → (x ≡ y) × (n ≡ m)
put-once w out at x y n m p q = (p.bytes ∙ sym q.bytes, p.place ∙ sym q.place)

-- tool

-- of a room of n zeros
pub room-once : (n : ℕ) → Once (λ (r : List ℕ). r ≡ replicate n 0)
room-once n = once_is (replicate n 0)

pub first-once : (bytes : List ℕ) (n : ℕ) → Once (λ (r : List ℕ). r ≡ take n bytes)
first-once bytes n = once_is (take n bytes)

-- text_chars

pub is-white-once : (c : ℕ) → Once (λ (r : Bool). r ≡ white c)
is-white-once c = once_is (white c)

pub char-at-once : (s : List ℕ) (i : ℕ) → Once (λ (r : Option (ℕ × Bool)). r ≡ decoded (drop i s))
char-at-once s i = once_is (decoded (drop i s))

-- text_utf8

pub trim-once : (text : List ℕ) → Once (λ (r : Trimmed). r ≡ trimmed text)
trim-once text = once_is (trimmed text)

-- lexer_close

pub value-end-once : (s : List ℕ) (i : ℕ) → Once (λ (r : Option ℕ). r ≡ close_at s i)
value-end-once s i = once_is (close_at s i)

-- lexer_scan

pub is-space-once : (b : ℕ) → Once (λ (r : Bool). r ≡ space b)
is-space-once b = once_is (space b)

module _ (s : List ℕ) (i : ℕ) where
  pub skip-space-once : Once (λ (r : ℕ). r ≡ skip_at s i)
  skip-space-once = once_is (skip_at s i)

  pub ident-end-once : Once (λ (r : Ident). r ≡ ident_at s i)
  ident-end-once = once_is (ident_at s i)

  pub next-value-once : Once (λ (r : ValueStep). r ≡ value_step_at s i)
  next-value-once = once_is (value_step_at s i)

  pub values-end-once : Once (λ (r : Option ℕ). r ≡ values_end_at s i)
  values-end-once = once_is (values_end_at s i)

-- lexer

pub number-once : (f : Fault) → Once (λ (r : ℕ). r ≡ fault_number f)
number-once f = once_is (fault_number f)

module _ (s : List ℕ) (i : ℕ) where
  pub next-head-once : Once (λ (r : Head). r ≡ head_at s i)
  next-head-once = once_is (head_at s i)

  pub next-token-once : Once (λ (r : Step). r ≡ next_at s i)
  next-token-once = once_is (next_at s i)

  -- the token, and the place of the next cursor
  pub cursor-next-once : (t u : Step) (n m : ℕ) → SteppedIs s i t n → SteppedIs s i u m → (t ≡ u) × (n ≡ m)
  cursor-next-once t u n m p q = (p.token-is ∙ sym q.token-is, p.next-is ∙ sym q.next-is)

-- lexer_walker

-- of `new` and of `moved`: the text and the place are given
pub walker-once : (text : Bor (List ℕ)) (at : ℕ) → Once (λ (w : Walker). (w.text ≡ text) × (w.at ≡ at))
walker-once text at x y p q =
    ap (λ (t : Bor (List ℕ)). the-walker t x.at) (p.0 ∙ sym q.0) ∙ ap (the-walker y.text) (p.1 ∙ sym q.1)
  where
    the-walker : Bor (List ℕ) → ℕ → Walker
    the-walker t n = record { text = t; at = n }

-- of `next` and of `token_at`
pub stepped-once : (s : List ℕ) (at : ℕ) → Once (λ (r : Stepped). SteppedIs s at r.token r.next.at)
stepped-once s at x y p q =
    let e = cursor-next-once s at x.token y.token x.next.at y.next.at p q in
    ap (λ (t : Step). the_step t x.next.at) e.0 ∙ ap (the_step y.token) e.1
  where
    the_step : Step → ℕ → Stepped
    the_step t n = record { token = t; next = record { at = n } }
