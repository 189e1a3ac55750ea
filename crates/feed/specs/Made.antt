-- A feed made: its count and its corrections, spelled.
use Rattle.std.specs.Prelude.{◌<◌, ◌≤◌, ◌≡◌, ◌∷◌, ◌++◌, Result, Ok, Err}
use Rattle.lists.specs.Prelude.{ℕ, suc, Bool, List, [], length, drop, leb, pick}
use Rattle.feed_numerals.specs.Numeral.{spelled, numeral_limit}
use Rattle.feed.specs.Feed.{Correction}
use Rattle.feed.specs.declared.make.MakeFault.TheVariants.{TooLarge, NoRoom}
use Rattle.feed.specs.declared.make.MakeFault.{MakeFault}

-- a value number, a length, that many bytes
abbrev pub correction_bytes : ℕ → List ℕ → List ℕ
correction_bytes value bytes = spelled value ++ (spelled (length bytes) ++ bytes)

-- corrections one behind the other
abbrev pub corrections_bytes : List Correction → List ℕ
corrections_bytes [] = []
corrections_bytes (c ∷ cs) = correction_bytes c.value c.bytes ++ corrections_bytes cs

-- the count, then the corrections
abbrev pub feed_bytes : List Correction → List ℕ
feed_bytes cs = spelled (length cs) ++ corrections_bytes cs

-- numbers strictly rise, from `low` on, and four groups hold them and the lengths
abbrev pub Sendable : (low : ℕ) → List Correction → Type 0
Sendable low [] = Unit {0}
Sendable low (c ∷ cs) = (low ≤ c.value) × (c.value < numeral_limit) × (length c.bytes < numeral_limit) × Sendable (suc c.value) cs

-- what is answered where bytes are to be put: whether four groups hold their numbers, then whether there is room
abbrev pub made_for : Bool → (bytes out : List ℕ) → Result ℕ MakeFault
made_for held bytes out = pick held (pick (leb (length bytes) (length out)) (Ok (length bytes)) (Err NoRoom)) (Err TooLarge)

-- lent bytes after it: the new ones in front; a refusal leaves every byte
abbrev pub out_after : Result ℕ MakeFault → (bytes out : List ℕ) → List ℕ
out_after (Ok n) bytes out = bytes ++ drop (length bytes) out
out_after (Err TooLarge) bytes out = out
out_after (Err NoRoom) bytes out = out

-- the answer, and all of the lent bytes
pub record MadeIs (held : Bool) (bytes out out' : List ℕ) (r : Result ℕ MakeFault) : Type 0 where
  pub answer : r ≡ made_for held bytes out
  pub memory : out' ≡ out_after r bytes out
