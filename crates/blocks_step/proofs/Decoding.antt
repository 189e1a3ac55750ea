-- What one byte does to UTF-8. Assumes nothing.
use Rattle.lists.proofs.Prelude.{◌≡◌, refl, ℕ, suc, ◌≤◌, Bool, true, false, le-leb}
use Rattle.text_chars.specs.White.{white}
use Rattle.text_utf8.specs.Text.{blank, mark, whole}
use Rattle.blocks_step.specs.declared.Utf8.TheVariants.{Whole}
use Rattle.blocks_step.specs.declared.Char.TheVariants.{Ended}
use Rattle.blocks_step.specs.Decode.{char_of, decodes}

ended-mark : (w : Bool) (s e : ℕ) → Ended w ≡ char_of (whole (mark w blank s e))
ended-mark true s e = refl
ended-mark false s e = refl

pub bytes-ascii : (o b : ℕ) → b ≤ 0x7f → {w : Bool} → w ≡ white b → Ended w ≡ decodes Whole o b
unfolding decodes
bytes-ascii o b h e = rw (le-leb b 0x7f h, e) (ended-mark (white b) o (suc o))
