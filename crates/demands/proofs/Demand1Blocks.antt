-- Demand 1 for sgf_block and sgf_close, its listed exception: lent rows are working room until the close. Number 20 changes nothing; after a close that is accepted the rows past the count are 0,
-- after one that is refused all rows are; a rest that is no row stays. Any state, also one that no call gave, has an answer: the contracts have no premise. Assumes nothing.
use Rattle.lists.proofs.Prelude.{◌≡◌, ℕ, List}
use Rattle.blocks.specs.declared.BlocksState.{BlocksState}
use Rattle.blocks.specs.declared.Blocked.{Blocked}
use Rattle.blocks.specs.declared.Closed.{Closed}
use Rattle.blocks.specs.Block.{BlockIs}
use Rattle.blocks.specs.Close.{closed_before, CloseIs}
use Rattle.blocks_laws.specs.Reading.{NoRows, ZerosBehind}
use Rattle.blocks_laws.proofs.Theorems as blocks
use Rattle.blocks_laws.proofs.Leaves as leaves
-- one reading of the joined text, for every list of blocks; two cuts of one text agree; as many rows as bytes never give 14; no second answer
pub use Rattle.blocks_laws.proofs.Theorems.{blocks-joined, cuts-agree, enough-rows, tokens-of-cursor, block-once, close-once}
-- after any close, accepted or refused and from any state, a block and a close are 20 and change nothing
pub use Rattle.blocks_laws.proofs.Theorems.{block-after-any, close-after-any}
-- the numbers of a block and of a close after blocks from the start on: each exactly where it is due, and no other
pub use Rattle.blocks_laws.proofs.Exact.{block-exactly, close-exactly}
-- for every text: where the reading of tokens refuses, so does the strict reading, with the same number and place; else that is what splitting makes of these tokens
pub use Rattle.blocks_laws.proofs.Strict.{strict-begins}

-- a block after the close is 20 and changes nothing
pub block_refused : (s : BlocksState) (bs t : List ℕ) (r : Blocked) (t' : List ℕ) → (s.closed ≡ 0 → ⊥) → BlockIs s bs t r t' → (r ≡ record { number = 20; state = s }) × (t' ≡ t)
block_refused = blocks.block-after-close

-- a close after the close is 20 and changes nothing
pub close-refused-20 : (s : BlocksState) (t : List ℕ) (r : Closed) (t' : List ℕ) → (s.closed ≡ 0 → ⊥) → CloseIs s t r t' → (r ≡ closed_before s) × (t' ≡ t)
close-refused-20 = blocks.close-after-close

-- a first close that is refused leaves no row
pub close-refused : (s : BlocksState) (t : List ℕ) (r : Closed) (t' : List ℕ) → s.closed ≡ 0 → CloseIs s t r t' → (r.number ≡ 0 → ⊥) → NoRows t t'
close-refused = leaves.close-refused

-- a close that is accepted leaves zeros behind its rows
pub close-accepted : (s : BlocksState) (t : List ℕ) (r : Closed) (t' : List ℕ) → s.closed ≡ 0 → CloseIs s t r t' → r.number ≡ 0 → ZerosBehind r.tokens t t'
close-accepted = leaves.close-accepted
