-- A feed: a count, then for each correction a value number, a length and that many bytes. Value numbers strictly rise, and nothing stands behind the end.
use Rattle.std.specs.Prelude.{◌+◌, ◌∷◌, Option, Some, None}
use Rattle.lists.specs.Prelude.{ℕ, zero, suc, Bool, false, List, [], map, length, slice, leb, ltb, eqb, pick}
use Rattle.feed_numerals.specs.Numeral.{numeral_at}

-- a correction: the number of a value, and its new bytes
pub record Correction : Type 0 where
  pub value : ℕ
  pub bytes : List ℕ

-- where a correction stands in a feed: the number of its value, and the span of its bytes
pub record Entry : Type 0 where
  pub value : ℕ
  pub from : ℕ
  pub to : ℕ

-- the corrections before the first fault, and whether there is none
pub record Listing : Type 0 where
  pub entries : List Entry
  pub whole : Bool

-- of value v: a length, read at q, and so many bytes behind it in the feed
abbrev pub sized : List ℕ → (v q : ℕ) → Option (ℕ × ℕ) → Option (ℕ × ℕ × ℕ)
sized w v q None = None
sized w v q (Some (l, m)) = pick (leb (q + m + l) (length w)) (Some (v, q + m, q + m + l)) None

-- a value number, read at p and not below `low`; then the length
abbrev pub with_number : List ℕ → (low p : ℕ) → Option (ℕ × ℕ) → Option (ℕ × ℕ × ℕ)
with_number w low p None = None
with_number w low p (Some (v, n)) = pick (ltb v low) None (sized w v (p + n) (numeral_at w (p + n)))

-- the correction at place p of a feed, of a value whose number is not below `low`
unfoldable pub entry_at : List ℕ → (low p : ℕ) → Option (ℕ × ℕ × ℕ)
entry_at w low p = with_number w low p (numeral_at w p)

-- a fault; or a correction and what follows it
abbrev pub followed : Option (ℕ × ℕ × ℕ) → (ℕ → ℕ → Listing) → Listing
followed None rest = record { entries = []; whole = false }
followed (Some (v, a, e)) rest = record { entries = record { value = v; from = a; to = e } ∷ (rest (suc v) e).entries; whole = (rest (suc v) e).whole }

-- `count` corrections from place p on, of values whose numbers are not below `low`
unfoldable pub entries_from : List ℕ → (count low p : ℕ) → Listing
entries_from w zero low p = record { entries = []; whole = eqb p (length w) }
entries_from w (suc c) low p = followed (entry_at w low p) (λ l q. entries_from w c l q)

-- by the count
abbrev pub entries_by : List ℕ → Option (ℕ × ℕ) → Listing
entries_by w None = record { entries = []; whole = false }
entries_by w (Some (c, n)) = entries_from w c 0 n

-- all corrections of a feed
unfoldable pub listing : List ℕ → Listing
listing w = entries_by w (numeral_at w 0)

-- a correction by where it stands
abbrev pub correction_at : List ℕ → Entry → Correction
correction_at w x = record { value = x.value; bytes = slice x.from x.to w }

-- the corrections that a feed decodes to
abbrev pub corrections : List ℕ → List Correction
corrections w = map (correction_at w) (listing w).entries
