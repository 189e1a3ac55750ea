-- UTF-8 one byte a call: the machine of `text_utf8`, without what it keeps of the text so far.
use Rattle.std.specs.Prelude.{◌%◌}
use Rattle.lists.specs.Prelude.{ℕ, zero, suc, true, false}
use Rattle.text_utf8.specs.Text.{Ink, blank, inked, Range, any, from-a0, to-9f, from-90, to-8f, Utf, whole, part, bad, utf}
use Rattle.blocks_step.specs.declared.Left.{Left}
use Rattle.blocks_step.specs.declared.Left.TheVariants.{One, TwoFromA0, TwoTo9f, Two, ThreeFrom90, Three, ThreeTo8f}
use Rattle.blocks_step.specs.declared.Utf8.{Utf8}
use Rattle.blocks_step.specs.declared.Utf8.TheVariants.{Whole, Within, Bad}
use Rattle.blocks_step.specs.declared.Char.{Char}
use Rattle.blocks_step.specs.declared.Char.TheVariants.{Ended, Goes}

-- how many bytes are to come after the next one
abbrev pub more_of : Left → ℕ
more_of One = 0
more_of TwoFromA0 = 1
more_of TwoTo9f = 1
more_of Two = 1
more_of ThreeFrom90 = 2
more_of Three = 2
more_of ThreeTo8f = 2

-- what the next one may be
abbrev pub range_of : Left → Range
range_of One = any
range_of TwoFromA0 = from-a0
range_of TwoTo9f = to-9f
range_of Two = any
range_of ThreeFrom90 = from-90
range_of Three = any
range_of ThreeTo8f = to-8f

-- the same two, as one
abbrev pub left_by : ℕ → Range → Left
left_by zero r = One
left_by (suc zero) any = Two
left_by (suc zero) from-a0 = TwoFromA0
left_by (suc zero) to-9f = TwoTo9f
left_by (suc zero) from-90 = Two
left_by (suc zero) to-8f = Two
left_by (suc (suc n)) any = Three
left_by (suc (suc n)) from-a0 = Three
left_by (suc (suc n)) to-9f = Three
left_by (suc (suc n)) from-90 = ThreeFrom90
left_by (suc (suc n)) to-8f = ThreeTo8f

-- the machine where UTF-8 stands so and this is kept of the text; no character that is not whole has 15 bits
abbrev pub utf_of : Utf8 → Ink → Utf
utf_of Whole k = whole k
utf_of (Within left s code) k = part k s (more_of left) (range_of left) (code % 32768)
utf_of (Bad p) k = bad p

-- what the machine has done, where nothing was kept before
abbrev pub char_of : Utf → Char
char_of (whole blank) = Ended true
char_of (whole (inked f l)) = Ended false
char_of (part k s n r code) = Goes (Within (left_by n r) s code)
char_of (bad p) = Goes (Bad p)

-- the byte b at the place o
unfoldable pub decodes : Utf8 → ℕ → ℕ → Char
decodes u o b = char_of (utf (utf_of u blank) o b)
