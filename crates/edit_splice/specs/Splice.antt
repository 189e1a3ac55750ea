-- A part of a text replaced, in a buffer whose first bytes are the text.
use Rattle.std.specs.Prelude.{◌+◌, ◌-◌, ◌&&◌, ◌++◌}
use Rattle.lists.specs.Prelude.{ℕ, Bool, List, leb, length, take, drop, replicate, pick}
use Rattle.lists.specs.Put.{put_at}

-- the new bytes replace those from `start` to `end` (SCOPE 126)
abbrev pub pasted : List ℕ → (start end : ℕ) → (new : List ℕ) → List ℕ
pasted t start end new = take start t ++ (new ++ drop end t)

-- the new used text, and zeros up to the old used length (SCOPE 127)
abbrev pub cleared : List ℕ → ℕ → List ℕ
cleared t used = t ++ replicate (used - length t) 0

-- the part lies in the used bytes and these in those lent, which have room for the text once m bytes stand for the part
abbrev pub fits_in : (bytes used start end m : ℕ) → Bool
fits_in bytes used start end m = leb start end && leb end used && leb used bytes && leb (start + m + (used - end)) bytes

-- the buffer once the new bytes stand for the part; as it was where they may not
unfoldable pub replaced : (buffer : List ℕ) → (used start end : ℕ) → (new : List ℕ) → List ℕ
replaced b used start end new = pick (fits_in (length b) used start end (length new)) (put_at b 0 (cleared (pasted (take used b) start end new) used)) b
