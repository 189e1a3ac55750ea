-- Plain text escaped for an edit, as the C header says it.
use Rattle.std.specs.Prelude.{◌≡◌}
use Rattle.lists.specs.Prelude.{List, ℕ}
use Rattle.value_display.specs.Display.{displayed, displayed_in}
use Rattle.value_escape.specs.Escape.{escaped_text}
use Rattle.ask.specs.Ask.{display_for}
use Rattle.c_answers.specs.Structs.{display_in_c}
use Rattle.c_answers.specs.declared.SgfDisplay.{SgfDisplay}

-- the raw value in the bytes lent, and these bytes then
pub record EscapeInC (text out out' : List ℕ) (r : SgfDisplay) : Type 0 where
  pub is : r ≡ display_in_c (display_for (displayed (escaped_text text) out))
  pub bytes : out' ≡ displayed_in (escaped_text text) out
