-- What the numbers of a state say, any numbers, and the numbers of what is known.
use Rattle.lists.specs.Prelude.{ℕ, eqb, pick}
use Rattle.blocks_step.specs.declared.Left.{Left}
use Rattle.blocks_step.specs.declared.Left.TheVariants.{One, TwoFromA0, TwoTo9f, Two, ThreeFrom90, Three, ThreeTo8f}
use Rattle.blocks_step.specs.declared.Utf8.{Utf8}
use Rattle.blocks_step.specs.declared.Utf8.TheVariants.{Whole, Within, Bad}
use Rattle.blocks_step.specs.declared.Phase.{Phase}
use Rattle.blocks_step.specs.declared.Phase.TheVariants.{Between, Ident, Value, Escaped, After, Foreign}
use Rattle.blocks.specs.declared.BlocksState.{BlocksState}
use Rattle.blocks.specs.declared.BlocksKnown.{BlocksKnown}

-- what is to come of a character
abbrev pub left_number : Left → ℕ
left_number One = 1
left_number TwoFromA0 = 2
left_number TwoTo9f = 3
left_number Two = 4
left_number ThreeFrom90 = 5
left_number Three = 6
left_number ThreeTo8f = 7

-- where UTF-8 stands
abbrev pub utf8_number : Utf8 → ℕ
utf8_number Whole = 0
utf8_number (Within left s code) = left_number left
utf8_number (Bad p) = 8

-- the start of the character, or of what is bad
abbrev pub utf8_from : Utf8 → ℕ
utf8_from Whole = 0
utf8_from (Within left s code) = s
utf8_from (Bad p) = p

-- the bits so far of the character
abbrev pub utf8_code : Utf8 → ℕ
utf8_code Whole = 0
utf8_code (Within left s code) = code
utf8_code (Bad p) = 0

-- where the token rules stand
abbrev pub phase_number : Phase → ℕ
phase_number Between = 0
phase_number (Ident s) = 1
phase_number (Value s) = 2
phase_number (Escaped s) = 3
phase_number (After s) = 4
phase_number (Foreign s) = 5

-- the start of the property
abbrev pub phase_from : Phase → ℕ
phase_from Between = 0
phase_from (Ident s) = s
phase_from (Value s) = s
phase_from (Escaped s) = s
phase_from (After s) = s
phase_from (Foreign s) = s

-- what a number says of UTF-8; any above 7: bad
unfoldable pub utf8_by : (n from code : ℕ) → Utf8
utf8_by n s code =
    pick (eqb n 0) Whole
    (pick (eqb n 1) (Within One s code)
    (pick (eqb n 2) (Within TwoFromA0 s code)
    (pick (eqb n 3) (Within TwoTo9f s code)
    (pick (eqb n 4) (Within Two s code)
    (pick (eqb n 5) (Within ThreeFrom90 s code)
    (pick (eqb n 6) (Within Three s code)
    (pick (eqb n 7) (Within ThreeTo8f s code) (Bad s))))))))

-- what a number says of the token rules; any above 4: a byte that is not ASCII in an identifier
unfoldable pub phase_by : (n from : ℕ) → Phase
phase_by n s =
    pick (eqb n 0) Between
    (pick (eqb n 1) (Ident s) (pick (eqb n 2) (Value s) (pick (eqb n 3) (Escaped s) (pick (eqb n 4) (After s) (Foreign s)))))

-- what a state says
abbrev pub state_says : BlocksState → BlocksKnown
state_says s =
    record {
      total = s.total;
      utf8 = utf8_by s.utf s.utf_from s.code;
      last = s.last;
      now = phase_by s.now s.now_from;
      count = s.count;
      kept = phase_by s.kept s.kept_from;
      held = s.held;
    }

-- the state of what is known, not closed
abbrev pub state_of : BlocksKnown → BlocksState
state_of k =
    record {
      total = k.total;
      utf = utf8_number k.utf8;
      utf_from = utf8_from k.utf8;
      code = utf8_code k.utf8;
      last = k.last;
      now = phase_number k.now;
      now_from = phase_from k.now;
      count = k.count;
      kept = phase_number k.kept;
      kept_from = phase_from k.kept;
      held = k.held;
      closed = 0;
    }
