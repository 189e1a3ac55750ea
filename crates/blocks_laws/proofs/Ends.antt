-- Close after bytes that were followed answers as the state with its rows as lists ends. Assumes nothing.
use Rattle.lists.proofs.Prelude.{◌≡◌, subst, subst⁻¹, ℕ, ◌/◌, ◌≤◌, arith, Bool, false, List, [], ◌++◌, append-nil, length, eqb, eq-eqb, ne_eqb, le-ltb, pick}
use Rattle.tables.specs.Numbers.{text_limit}
use Rattle.text_utf8.specs.Text.{blank, inked, Utf, whole, part, bad}
use Rattle.lexer.specs.Token.{finish}
use Rattle.blocks_step.specs.declared.Utf8.{Utf8}
use Rattle.blocks_step.specs.declared.Utf8.TheVariants.{Whole}
use Rattle.blocks_step.specs.declared.Phase.{Phase}
use Rattle.blocks_step.specs.declared.Phase.TheVariants.{Between, Ident, Value, Escaped, After, Foreign}
use Rattle.blocks_step.specs.Lean.{machine_of}
use Rattle.blocks.specs.declared.BlocksState.{BlocksState}
use Rattle.blocks.specs.declared.BlocksKnown.{BlocksKnown}
use Rattle.blocks.specs.declared.Closed.{Closed}
use Rattle.blocks.specs.declared.Closing.{Closing}
use Rattle.blocks.specs.declared.Closing.TheVariants.{Refused, Rows, Last}
use Rattle.blocks.specs.Room.{room}
use Rattle.blocks.specs.Close.{closing_by, closing_at, closing, closed_by, cells_by}
use Rattle.blocks_laws.specs.Reading.{tokens_read, read_end, token_rows}
use Rattle.blocks_laws.specs.Calls.{ReadAs}
use Rattle.blocks_laws.specs.LocalsListed.{listed_end}
use Rattle.blocks_laws.proofs.Stored.{Stored, stored-none, stored-less}
use Rattle.blocks_laws.proofs.Closes.{refused_as, rows_as, last_as}
use Rattle.blocks_laws.proofs.Follows.{listed_of, Sim}

module _ (t t' : List ℕ) (k : BlocksKnown) (s : BlocksState) (r : Closed) (t'' : List ℕ) where
  -- the answer and the rows are these
  abbrev Answers : Closing → Type 0
  Answers c = (r ≡ closed_by c s (length t' / 3)) × (t'' ≡ cells_by c t')

  module _ (v : Utf) (rs hs : List (List ℕ)) (x : Sim t (room k t') v rs hs) where
    kept-stored : Stored hs t'
    kept-stored = stored-less hs x.tail t' (subst (λ (z : List (List ℕ)). Stored z t') x.more x.stored)

    kept-rows : (n : ℕ) → length hs ≡ n → Answers (Rows n) → ReadAs (tokens_read (hs ++ [])) t r t''
    kept-rows n e a =
        let b = subst⁻¹ (λ (z : ℕ). Answers (Rows z)) e a in
        subst⁻¹ (λ (z : List (List ℕ)). ReadAs (tokens_read z) t r t'') (append-nil hs) (rows_as t t' x.lent s r t'' hs kept-stored b.0 b.1)

    ended-phase : (p : Phase) (l : ℕ) → Answers (closing_by (finish (machine_of p) l).end (finish (machine_of p) l).toks k.held l)
        → ReadAs (read_end (finish (machine_of p) l).end (hs ++ token_rows (finish (machine_of p) l).toks)) t r t''
    ended-phase Between l a = kept-rows k.held x.held a
    ended-phase (Ident f) l a = refused_as t t' x.lent s r t'' 3 f a.0 a.1
    ended-phase (Value f) l a = refused_as t t' x.lent s r t'' 5 f a.0 a.1
    ended-phase (Escaped f) l a = refused_as t t' x.lent s r t'' 5 f a.0 a.1
    ended-phase (After f) l a =
        let b = subst⁻¹ (λ (z : ℕ). Answers (Last z f l)) x.held a in
        last_as t t' x.lent s r t'' hs f l kept-stored b.0 b.1
    ended-phase (Foreign f) l a = refused_as t t' x.lent s r t'' 4 f a.0 a.1

  -- by where UTF-8 ends
  ended-utf : (v : Utf) (rs hs : List (List ℕ)) → Sim t (room k t') v rs hs → Answers (closing_at k.utf8 k.kept k.held k.last) → ReadAs (listed_end v (listed_of k v rs hs)) t r t''
  ended-utf (whole blank) rs hs x a =
      let b : Answers (closing_at Whole k.kept k.held k.last) = subst (λ (u : Utf8). Answers (closing_at u k.kept k.held k.last)) x.utf8.0 a in
      let c : Answers (Rows 0) = subst (λ (z : Bool). Answers (pick z (Rows 0) (closing_by (finish (machine_of k.kept) k.last).end (finish (machine_of k.kept) k.last).toks k.held k.last))) (eq-eqb k.last 0 x.utf8.1) b in
      rows_as t t' x.lent s r t'' [] (stored-none t') c.0 c.1
  ended-utf (whole (inked f l)) rs hs x a =
      let b : Answers (closing_at Whole k.kept k.held k.last) = subst (λ (u : Utf8). Answers (closing_at u k.kept k.held k.last)) x.utf8.0 a in
      let n : eqb k.last 0 ≡ false = ne_eqb k.last 0 (λ z. absurd (omega (arith, z, x.utf8.1.0, x.utf8.1.1))) in
      let c : Answers (closing_by (finish (machine_of k.kept) k.last).end (finish (machine_of k.kept) k.last).toks k.held k.last) =
      subst (λ (z : Bool). Answers (pick z (Rows 0) (closing_by (finish (machine_of k.kept) k.last).end (finish (machine_of k.kept) k.last).toks k.held k.last))) n b in
      ended-phase (whole (inked f l)) rs hs x k.kept l
      (subst (λ (z : ℕ). Answers (closing_by (finish (machine_of k.kept) z).end (finish (machine_of k.kept) z).toks k.held z)) x.utf8.1.0 c)
  ended-utf (part j p n q c) rs hs x a =
      let b = subst (λ (u : Utf8). Answers (closing_at u k.kept k.held k.last)) x.utf8.0 a in
      refused_as t t' x.lent s r t'' 2 p b.0 b.1
  ended-utf (bad p) rs hs x a =
      let b = subst (λ (u : Utf8). Answers (closing_at u k.kept k.held k.last)) x.utf8 a in
      refused_as t t' x.lent s r t'' 2 p b.0 b.1

  pub ended-as : (v : Utf) (rs hs : List (List ℕ)) → Sim t (room k t') v rs hs → k.total ≤ text_limit → Answers (closing k) → ReadAs (listed_end v (listed_of k v rs hs)) t r t''
  unfolding closing
  ended-as v rs hs x h a =
      ended-utf v rs hs x
      (subst (λ (z : Bool). Answers (pick z (Refused 1 0) (closing_at k.utf8 k.kept k.held k.last))) (le-ltb text_limit k.total h) a)
