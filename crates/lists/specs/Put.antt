-- Numbers put into a lent list where there is room.
use Rattle.std.specs.Prelude.{◌++◌, ◌≡◌, ◌+◌, ◌≤◌, ◌<◌}
use Rattle.lists.specs.Prelude.{List, ℕ, length, take, drop}

-- the list with `vs` at the place `at`
abbrev pub put_at : List ℕ → ℕ → List ℕ → List ℕ
put_at t at vs = take at t ++ (vs ++ drop (at + length vs) t)

-- `vs` is at `at` where there is room for it
pub record PutIs (t : List ℕ) (at : ℕ) (vs t' : List ℕ) : Type 0 where
  pub len : length t' ≡ length t
  pub put : at + length vs ≤ length t → t' ≡ put_at t at vs

-- the same, and where there is no room nothing changes
pub record PutWhole (t : List ℕ) (at : ℕ) (vs t' : List ℕ) : Type 0 where
  pub is : PutIs t at vs t'
  pub stays : length t < at + length vs → t' ≡ t
