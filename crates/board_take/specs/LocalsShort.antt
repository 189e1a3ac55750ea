-- A short search for a liberty, which may end before it finds one, for the contracts of private functions.
use Rattle.std.specs.Prelude.{◌<◌, ◌≤◌, ◌≡◌}
use Rattle.lists.specs.Prelude.{ℕ, List, length, get_or}
use Rattle.board_groups.specs.Groups.{Stone, Joined, Liberty}
use Rattle.board_take.specs.LocalsSides.{Free}
use Rattle.board_take.specs.LocalsFlood.{Found}

-- the queue has grown from n to n' numbers: of the new ones P holds, the others are as they were
pub record ShortGrew (P : ℕ → Type 0) (q : List ℕ) (n : ℕ) (q' : List ℕ) (n' : ℕ) : Type 0 where
  pub long : length q' ≡ 32
  pub most : n' ≤ 32
  pub grows : n ≤ n'
  pub same : (k : ℕ) → k < n → get_or q' k 0 ≡ get_or q k 0
  pub new : (k : ℕ) → n ≤ k → k < n' → P (get_or q' k 0)

-- every stone at a place below n has a liberty
abbrev pub SettledTo : (w h : ℕ) (b : List ℕ) (n : ℕ) → Type 0
SettledTo w h b n = (p : ℕ) → p < n → (c : ℕ) → (c ≡ 0 → ⊥) → Stone w h b c p → Liberty w h b c p

-- the same, and where there was room all of which P holds are on the queue
pub record FewGrew (P : ℕ → Type 0) (q : List ℕ) (n : ℕ) (q' : List ℕ) (n' : ℕ) : Type 0 where
  pub grew : ShortGrew P q n q' n'
  pub done : n' < 32 → (p : ℕ) → P p → Found q' n' p

-- r numbers of the queue are the group of p, which has no liberty; r is 0 where it has one, and from 32 on nothing is said
pub record FewIs (w h : ℕ) (b : List ℕ) (c p : ℕ) (q : List ℕ) (r : ℕ) : Type 0 where
  pub long : length q ≡ 32
  pub alive : r ≡ 0 → Liberty w h b c p
  pub sound : 0 < r → r < 32 → (k : ℕ) → k < r → Joined w h b c p (get_or q k 0)
  pub whole : 0 < r → r < 32 → (k : ℕ) → Joined w h b c p k → Found q r k
  pub none : 0 < r → r < 32 → (k : ℕ) → k < r → Free w h b (get_or q k 0) → ⊥
