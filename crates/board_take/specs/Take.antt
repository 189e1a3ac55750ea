-- What taking off says of a board: nothing for colour 0, else the relations of `board_groups`.
use Rattle.std.specs.Prelude.{◌≡◌}
use Rattle.lists.specs.Prelude.{ℕ, Bool, true, List}
use Rattle.board_groups.specs.Groups.{Settled, Takes, TakesGroup, TakesBeside}

-- colour 0 takes nothing; any other colour takes as P says
pub record Taken (c : ℕ) (b b' : List ℕ) (n : ℕ) (P : Type 0) : Type 0 where
  pub none : c ≡ 0 → (b' ≡ b) × (n ≡ 0)
  pub some : (c ≡ 0 → ⊥) → P

-- all stones of colour c whose groups have no liberty go
abbrev pub TakesAll : (w h c : ℕ) (b b' : List ℕ) (n : ℕ) → Type 0
TakesAll w h c b b' n = Taken c b b' n (Takes w h c b b' n)

-- the group of p goes, where p is a stone of colour c whose group has no liberty
abbrev pub TakesOne : (w h c p : ℕ) (b b' : List ℕ) (n : ℕ) → Type 0
TakesOne w h c p b b' n = Taken c b b' n (TakesGroup w h c p b b' n)

-- the groups beside p go that are of colour c and have no liberty
abbrev pub TakesNear : (w h c p : ℕ) (b b' : List ℕ) (n : ℕ) → Type 0
TakesNear w h c p b b' n = Taken c b b' n (TakesBeside w h c p b b' n)

-- where r is true, every stone has a liberty; where it is false, that is not said
abbrev pub SettledSeen : (w h : ℕ) (b : List ℕ) (r : Bool) → Type 0
SettledSeen w h b r = r ≡ true → (c : ℕ) → (c ≡ 0 → ⊥) → Settled w h b c
