-- The numbers of a block and of a close, each exactly where it is due. Assumes nothing.
use Rattle.lists.proofs.Prelude.{◌≡◌, refl, sym, ap, ◌∙◌, ℕ, ◌/◌, ◌≤◌, ◌<◌, arith, Bool, true, false, inl, inr, List, length, take, drop, eqb, ltb, ltb-true, ltb-false, pick, eq-eqb, ne_eqb}
use Rattle.lists.proofs.Tests.{never, same_or}
use Rattle.tables.specs.Numbers.{text_limit}
use Rattle.text_utf8.specs.Text.{Utf, whole, blank, inked, part, bad, utfs}
use Rattle.text_utf8.specs.Trim.{trim_of, trimmed}
use Rattle.lexer.specs.declared.Fault.{Fault}
use Rattle.lexer.specs.declared.Fault.TheVariants.{MissingPropertyIdentifier, UnexpectedEndOfPropertyIdentifier, UnexpectedEndOfPropertyValue}
use Rattle.lexer.specs.Token.{End, done, broken, lex_from, fault_number}
use Rattle.blocks.specs.declared.BlocksState.{BlocksState}
use Rattle.blocks.specs.declared.Blocked.{Blocked}
use Rattle.blocks.specs.declared.Closed.{Closed}
use Rattle.blocks.specs.State.{state_of}
use Rattle.blocks.specs.Block.{after_block, BlockIs}
use Rattle.blocks.specs.Close.{CloseIs}
use Rattle.blocks_laws.specs.Reading.{TokenReading, tokens_read, not_read, read_end, read_trimmed, read_tokens, token_rows}
use Rattle.blocks_laws.specs.Calls.{at_start, BlockCalls, joined_text, number_read, place_read}
use Rattle.blocks_laws.specs.Numbered.{BlockNumbered, CloseNumbered}
use Rattle.blocks_laws.proofs.Joined.{blocks-joined}

-- ---- a block

-- number 0, and the state then
abbrev taken : BlocksState → (bs t : List ℕ) → Blocked
taken s bs t = record { number = 0; state = state_of (after_block s bs t).known }

-- number 20, and the state as it was
abbrev after : BlocksState → Blocked
after s = record { number = 20; state = s }

pub block-exactly : (s : BlocksState) (bs t : List ℕ) (r : Blocked) (t' : List ℕ) → BlockIs s bs t r t' → BlockNumbered s.closed r.number
block-exactly s bs t r t' b =
    let by : (d : Bool) → eqb s.closed 0 ≡ d → r ≡ pick d (taken s bs t) (after s) = λ d e. b.answer ∙ ap (λ (y : Bool). pick y (taken s bs t) (after s)) e in
    same_or s.closed 0
    (λ e.
    let n : r.number ≡ 0 = ap (λ (x : Blocked). x.number) (by true (eq-eqb s.closed 0 e)) in
    record { zero = ((λ _. e), (λ _. n)); late = ((λ z. absurd (omega (arith, n, z))), (λ h. absurd (h e))); no_other = inl n })
    (λ h.
    let n : r.number ≡ 20 = ap (λ (x : Blocked). x.number) (by false (ne_eqb s.closed 0 h)) in
    record { zero = ((λ z. absurd (omega (arith, n, z))), (λ e. absurd (h e))); late = ((λ _. h), (λ _. n)); no_other = inr n })

-- ---- a close

-- a refusal of the tokens has a number from 1 to 5
abbrev Ranged : TokenReading → Type 0
Ranged (tokens_read rs) = Unit {0}
Ranged (not_read n p) = (0 < n) × (n ≤ 5)

fault-ranged : (f : Fault) → (0 < fault_number f) × (fault_number f ≤ 5)
fault-ranged MissingPropertyIdentifier = (omega arith, omega arith)
fault-ranged UnexpectedEndOfPropertyIdentifier = (omega arith, omega arith)
fault-ranged UnexpectedEndOfPropertyValue = (omega arith, omega arith)

end-ranged : (e : End) (rs : List (List ℕ)) → Ranged (read_end e rs)
end-ranged done rs = tt
end-ranged (broken f s) rs = fault-ranged f

utf-ranged : (t : List ℕ) (u : Utf) → Ranged (read_trimmed (trim_of u) t)
utf-ranged t (whole blank) = tt
utf-ranged t (whole (inked f l)) = end-ranged (lex_from f l (drop f (take l t))).end (token_rows (lex_from f l (drop f (take l t))).toks)
utf-ranged t (part k s n r c) = (omega arith, omega arith)
utf-ranged t (bad p) = (omega arith, omega arith)

read-ranged : (t : List ℕ) → Ranged (read_tokens t)
unfolding read_tokens trimmed
read-ranged t = go (ltb text_limit (length t))
  where
    go : (b : Bool) → Ranged (pick b (not_read 1 0) (read_trimmed (trim_of (utfs (whole blank) 0 t)) t))
    go true = (omega arith, omega arith)
    go false = utf-ranged t (utfs (whole blank) 0 t)

same_rows : (rs ys : List (List ℕ)) → tokens_read rs ≡ tokens_read ys → length ys ≡ length rs
same_rows rs ys e = let z : ys ≡ rs = cc in ap length z

numbered : (x : TokenReading) (m n p : ℕ) → Ranged x → n ≡ number_read x m → p ≡ place_read x → CloseNumbered x m n p
numbered (tokens_read rs) m n p g h q = go (ltb m (length rs)) refl
  where
    go : (b : Bool) → ltb m (length rs) ≡ b → CloseNumbered (tokens_read rs) m n p
    go true e =
        let l = ltb-true m (length rs) e in
        let k : n ≡ 14 = h ∙ ap (λ (z : Bool). pick z 14 0) e in
        record {
          zero = ((λ z. absurd (omega (arith, k, z))), (λ y. absurd (omega (arith, l, y.2, same_rows rs y.0 y.1))));
          short = ((λ _. (rs, refl, l)), (λ _. k));
          each = λ j a c. ((λ z. absurd (omega (arith, k, z, c))), (λ y. never (let w = y.1 in cc)));
          no_other = inr (inl k);
        }
    go false e =
        let l = ltb-false m (length rs) e in
        let k : n ≡ 0 = h ∙ ap (λ (z : Bool). pick z 14 0) e in
        record {
          zero = ((λ _. (rs, refl, l)), (λ _. k));
          short = ((λ z. absurd (omega (arith, k, z))), (λ y. absurd (omega (arith, l, y.2, same_rows rs y.0 y.1))));
          each = λ j a c. ((λ z. absurd (omega (arith, k, z, a))), (λ y. never (let w = y.1 in cc)));
          no_other = inl k;
        }
numbered (not_read i o) m n p g h q =
    record {
      zero = ((λ z. absurd (omega (arith, h, z, g.0))), (λ y. never (let w = y.1 in cc)));
      short = ((λ z. absurd (omega (arith, h, z, g.1))), (λ y. never (let w = y.1 in cc)));
      each = λ j a c. ((λ z. (o, ap (λ (v : ℕ). not_read v o) (sym h ∙ z), q)), (λ y. h ∙ same_number i o j y.0 y.1));
      no_other = inr (inr (omega (arith, h, g.0), omega (arith, h, g.1)));
    }
  where
    same_number : (i o j u : ℕ) → not_read i o ≡ not_read j u → i ≡ j
    same_number i o j u e = cc

-- after blocks from the start on
pub close-exactly : (t : List ℕ) (bs : List (List ℕ)) (s : BlocksState) (t' : List ℕ) (r : Closed) (t'' : List ℕ) → BlockCalls at_start t bs s t' → CloseIs s t' r t''
    → CloseNumbered (read_tokens (joined_text bs)) (length t / 3) r.number r.place
close-exactly t bs s t' r t'' b c =
    let x = blocks-joined t bs s t' r t'' b c in
    numbered (read_tokens (joined_text bs)) (length t / 3) r.number r.place (read-ranged (joined_text bs)) x.number x.place
