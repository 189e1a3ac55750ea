-- What a user of blocks is promised, over the contracts of `block` and `close`. Assumes nothing.
use Rattle.lists.proofs.Prelude.{◌≡◌, sym, ap, ◌∙◌, subst, ℕ, List, ne_eqb, length-take-le, take, drop}
use Rattle.text_utf8.specs.declared.Trimmed.TheVariants.{Kept}
use Rattle.text_utf8.specs.Trim.{trimmed}
use Rattle.text_utf8.proofs.Extent.{trim-bounds}
use Rattle.lexer.specs.Token.{lex_from, lex_at}
use Rattle.blocks.specs.declared.BlocksState.{BlocksState}
use Rattle.blocks.specs.declared.Blocked.{Blocked}
use Rattle.blocks.specs.declared.Closed.{Closed}
use Rattle.blocks.specs.Block.{BlockIs}
use Rattle.blocks.specs.Close.{closed_before, CloseIs}
use Rattle.blocks_laws.specs.Reading.{read_tokens}
use Rattle.blocks_laws.specs.Calls.{at_start, BlockCalls, joined_text, ReadAs}
use Rattle.blocks_laws.proofs.Joined as joined
use Rattle.blocks_laws.proofs.Shuts.{close-shuts}
-- a text has no more tokens than bytes
pub use Rattle.blocks_laws.proofs.Enough.{enough-rows}

-- ---- one reading, however the text was cut

-- the answer and the rows after the close are those of one reading of the joined text
pub blocks-joined : (t : List ℕ) (bs : List (List ℕ)) (s : BlocksState) (t' : List ℕ) (r : Closed) (t'' : List ℕ) → BlockCalls at_start t bs s t' → CloseIs s t' r t'' → ReadAs (read_tokens (joined_text bs)) t r t''
blocks-joined = joined.blocks-joined

-- the same text cut in two ways: the same answer, the same rows
pub record Same (r q : Closed) (t u : List ℕ) : Type 0 where
  pub number : r.number ≡ q.number
  pub place : r.place ≡ q.place
  pub tokens : r.tokens ≡ q.tokens
  pub rows : t ≡ u

pub cuts-agree : (t : List ℕ) (bs cs : List (List ℕ)) → joined_text bs ≡ joined_text cs
    → (s : BlocksState) (t1 : List ℕ) (r : Closed) (t2 : List ℕ) → BlockCalls at_start t bs s t1 → CloseIs s t1 r t2
    → (x : BlocksState) (u1 : List ℕ) (q : Closed) (u2 : List ℕ) → BlockCalls at_start t cs x u1 → CloseIs x u1 q u2 → Same r q t2 u2
cuts-agree t bs cs e s t1 r t2 b c x u1 q u2 d f =
    let g = blocks-joined t bs s t1 r t2 b c in
    let h = subst (λ (z : List ℕ). ReadAs (read_tokens z) t q u2) (sym e) (blocks-joined t cs x u1 q u2 d f) in
    record {
      number = g.number ∙ sym h.number;
      place = g.place ∙ sym h.place;
      tokens = g.tokens ∙ sym h.tokens;
      rows = g.rows ∙ sym h.rows;
    }

-- the tokens of what trimming keeps are those that the cursor gives one by one (lexer_laws/proofs/Laws: tokens-step)
pub tokens-of-cursor : (t : List ℕ) (f l : ℕ) → trimmed t ≡ Kept f l → lex_from f l (drop f (take l t)) ≡ lex_at (take l t) f
unfolding lex_at
tokens-of-cursor t f l e =
    let w = trim-bounds t f l e in
    ap (λ (n : ℕ). lex_from f n (drop f (take l t))) (sym (length-take-le l t w.1))

-- ---- after the close

pub block-after-close : (s : BlocksState) (bs t : List ℕ) (r : Blocked) (t' : List ℕ) → (s.closed ≡ 0 → ⊥) → BlockIs s bs t r t' → (r ≡ record { number = 20; state = s }) × (t' ≡ t)
block-after-close s bs t r t' h b =
    (b.answer ∙ rw (ne_eqb s.closed 0 h), b.rows ∙ rw (ne_eqb s.closed 0 h))

pub close-after-close : (s : BlocksState) (t : List ℕ) (r : Closed) (t' : List ℕ) → (s.closed ≡ 0 → ⊥) → CloseIs s t r t' → (r ≡ closed_before s) × (t' ≡ t)
close-after-close s t r t' h b = (b.answer ∙ rw (ne_eqb s.closed 0 h), b.rows ∙ rw (ne_eqb s.closed 0 h))

-- after any close, accepted or refused, a block is 20 and changes nothing
pub block-after-any : (s : BlocksState) (t : List ℕ) (r : Closed) (t' : List ℕ) → CloseIs s t r t' → (bs u : List ℕ) (q : Blocked) (u' : List ℕ) → BlockIs r.state bs u q u'
    → (q ≡ record { number = 20; state = r.state }) × (u' ≡ u)
block-after-any s t r t' c bs u q u' b = block-after-close r.state bs u q u' (close-shuts s t r t' c) b

-- and so is a close
pub close-after-any : (s : BlocksState) (t : List ℕ) (r : Closed) (t' : List ℕ) → CloseIs s t r t' → (u : List ℕ) (q : Closed) (u' : List ℕ) → CloseIs r.state u q u' → (q ≡ closed_before r.state) × (u' ≡ u)
close-after-any s t r t' c u q u' b = close-after-close r.state u q u' (close-shuts s t r t' c) b

-- ---- no second answer

pub block-once : (s : BlocksState) (bs t : List ℕ) (r q : Blocked) (t' u' : List ℕ) → BlockIs s bs t r t' → BlockIs s bs t q u' → (r ≡ q) × (t' ≡ u')
block-once s bs t r q t' u' b c = (b.answer ∙ sym c.answer, b.rows ∙ sym c.rows)

pub close-once : (s : BlocksState) (t : List ℕ) (r q : Closed) (t' u' : List ℕ) → CloseIs s t r t' → CloseIs s t q u' → (r ≡ q) × (t' ≡ u')
close-once s t r q t' u' b c = (b.answer ∙ sym c.answer, b.rows ∙ sym c.rows)
