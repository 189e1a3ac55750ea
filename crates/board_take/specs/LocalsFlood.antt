-- Marks and a queue of marked places, for the contracts of private functions; no public contract names them.
use Rattle.std.specs.Prelude.{◌⊎◌, ◌+◌, ◌<◌, ◌≤◌, ◌≡◌, ◌∷◌}
use Rattle.lists.specs.Prelude.{ℕ, suc, Bool, true, false, List, [], length, get_or, pick}
use Rattle.board_groups.specs.Board.{at, beside, standing}
use Rattle.board_groups.specs.Groups.{Stone, Joined}
use Rattle.board_take.specs.LocalsSides.{Free}

-- the place is marked
abbrev pub Marked : List Bool → ℕ → Type 0
Marked m p = get_or m p false ≡ true

-- how many places are marked
unfoldable pub mark_count : List Bool → ℕ
mark_count [] = 0
mark_count (x ∷ m) = pick x (suc (mark_count m)) (mark_count m)

-- p is one of the first n numbers of the queue
pub record Found (q : List ℕ) (n p : ℕ) : Type 0 where
  pub place : ℕ
  pub below : place < n
  pub is : get_or q place 0 ≡ p

-- the first n numbers of the queue are the marked places, each once
pub record Queued (m : List Bool) (q : List ℕ) (n : ℕ) : Type 0 where
  pub m-long : length m ≡ 2704
  pub q-long : length q ≡ 2704
  pub many : mark_count m ≡ n
  pub listed : (k : ℕ) → k < n → Marked m (get_or q k 0)
  pub found : (p : ℕ) → Marked m p → Found q n p

-- exactly the places of which P holds were marked besides, and stand behind the others in the queue
pub record Went (P : ℕ → Type 0) (m : List Bool) (q : List ℕ) (n : ℕ) (m' : List Bool) (q' : List ℕ) (n' : ℕ) : Type 0 where
  pub held : Queued m' q' n'
  pub grows : n ≤ n'
  pub same : (k : ℕ) → k < n → get_or q' k 0 ≡ get_or q k 0
  pub kept : (p : ℕ) → Marked m p → Marked m' p
  pub new : (p : ℕ) → Marked m' p → Marked m p ⊎ P p
  pub done : (p : ℕ) → P p → Marked m' p

-- p is the place q, and c stands there
abbrev pub Here : (b : List ℕ) (c q p : ℕ) → Type 0
Here b c q p = (p ≡ q) × (q < 2704) × (at b q ≡ c)

-- p is a stone of colour c beside q
abbrev pub Around : (w h : ℕ) (b : List ℕ) (c q p : ℕ) → Type 0
Around w h b c q p = (beside q p ≡ true) × Stone w h b c p

-- p is the place q, a stone of colour c with an empty point beside it
abbrev pub SeedAt : (w h : ℕ) (b : List ℕ) (c q p : ℕ) → Type 0
SeedAt w h b c q p = (p ≡ q) × Stone w h b c p × Free w h b p

-- p is a stone of colour c below the place n, with an empty point beside it
abbrev pub Seed : (w h : ℕ) (b : List ℕ) (c n p : ℕ) → Type 0
Seed w h b c n p = (p < n) × Stone w h b c p × Free w h b p

-- p is joined with a marked place
pub record Reached (w h : ℕ) (b : List ℕ) (c : ℕ) (m : List Bool) (p : ℕ) : Type 0 where
  pub seed : ℕ
  pub marked : Marked m seed
  pub joined : Joined w h b c seed p

-- exactly the places joined with a marked one are marked; where the flood looks for liberties, none of them has an empty point beside it
pub record Grown (w h : ℕ) (b : List ℕ) (c : ℕ) (stop : Bool) (m m' : List Bool) (q' : List ℕ) (n' : ℕ) : Type 0 where
  pub held : Queued m' q' n'
  pub sound : (p : ℕ) → Marked m' p → Reached w h b c m p
  pub whole : (p : ℕ) → Reached w h b c m p → Marked m' p
  pub none : stop ≡ true → (p : ℕ) → Marked m' p → Free w h b p → ⊥

-- a place that is joined with a marked one and has an empty point beside it
pub record Lives (w h : ℕ) (b : List ℕ) (c : ℕ) (m : List Bool) : Type 0 where
  pub stone : ℕ
  pub reached : Reached w h b c m stone
  pub free : Free w h b stone

-- the flood's answer: how many are marked; above 2704 where it stopped at a liberty
pub record GrowIs (w h : ℕ) (b : List ℕ) (c : ℕ) (stop : Bool) (m m' : List Bool) (q' : List ℕ) (r : ℕ) : Type 0 where
  pub ended : r ≤ 2704 → Grown w h b c stop m m' q' r
  pub stopped : 2704 < r → (stop ≡ true) × Lives w h b c m

-- p is a stone of colour c that is not marked
abbrev pub Unmarked : (w h : ℕ) (b : List ℕ) (c : ℕ) (m : List Bool) (p : ℕ) → Type 0
Unmarked w h b c m p = Stone w h b c p × (Marked m p → ⊥)

-- c stands at the first n places of the queue
abbrev pub Coloured : (b q : List ℕ) (n c : ℕ) → Type 0
Coloured b q n c = (k : ℕ) → k < n → (get_or q k 0 < 2704) × (at b (get_or q k 0) ≡ c)

-- the n places that hold c and of which P holds are empty now, all others are as they were
pub record Swept (P : ℕ → Type 0) (c : ℕ) (b b' : List ℕ) (n : ℕ) : Type 0 where
  pub as_long : length b' ≡ length b
  pub each : (p : ℕ) → (P p × (at b' p ≡ 0)) ⊎ ((P p → ⊥) × (at b' p ≡ at b p))
  pub many : standing c b ≡ n + standing c b'
