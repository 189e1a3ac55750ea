-- What trimming keeps of a text, or where the text is not UTF-8.
use Rattle.lists.specs.Prelude.{ℕ, List}
use Rattle.text_utf8.specs.declared.Trimmed.{Trimmed}
use Rattle.text_utf8.specs.declared.Trimmed.TheVariants.{NotUtf8, Blank, Kept}
use Rattle.text_utf8.specs.Text.{blank, inked, Utf, whole, part, bad, utfs}

-- the answer at the end of the text: a character that is cut off there is bad from its start on
abbrev pub trim_of : Utf → Trimmed
trim_of (whole blank) = Blank
trim_of (whole (inked f l)) = Kept f l
trim_of (part k s n r code) = NotUtf8 s
trim_of (bad p) = NotUtf8 p

-- the text from its first character that is no white space to the end of the last one; or the start of its first bad sequence (SCOPE 5, 68)
unfoldable pub trimmed : List ℕ → Trimmed
trimmed t = trim_of (utfs (whole blank) 0 t)
