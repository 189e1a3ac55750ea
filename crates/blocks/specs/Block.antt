-- A block: the answer, and the lent rows after it.
use Rattle.std.specs.Prelude.{◌≡◌}
use Rattle.lists.specs.Prelude.{ℕ, List, eqb, pick}
use Rattle.blocks.specs.declared.BlocksState.{BlocksState}
use Rattle.blocks.specs.declared.Blocked.{Blocked}
use Rattle.blocks.specs.State.{state_says, state_of}
use Rattle.blocks.specs.Room.{Room, room, takes_all}

-- after the bytes of a block
abbrev pub after_block : BlocksState → (bytes rows : List ℕ) → Room
after_block s bs t = takes_all (room (state_says s) t) bs

-- a block is taken; after close it is refused and nothing changes (SCOPE 184)
pub record BlockIs (s : BlocksState) (bs t : List ℕ) (r : Blocked) (t' : List ℕ) : Type 0 where
  pub answer : r ≡ pick (eqb s.closed 0) (record { number = 0; state = state_of (after_block s bs t).known }) (record { number = 20; state = s })
  pub rows : t' ≡ pick (eqb s.closed 0) (after_block s bs t).cells t
