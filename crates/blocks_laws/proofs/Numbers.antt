-- A state says what its numbers were made of. Assumes nothing.
use Rattle.lists.proofs.Prelude.{◌≡◌, refl}
use Rattle.blocks_step.specs.declared.Left.TheVariants.{One, TwoFromA0, TwoTo9f, Two, ThreeFrom90, Three, ThreeTo8f}
use Rattle.blocks_step.specs.declared.Utf8.{Utf8}
use Rattle.blocks_step.specs.declared.Utf8.TheVariants.{Whole, Within, Bad}
use Rattle.blocks.specs.declared.BlocksKnown.{BlocksKnown}
use Rattle.blocks.specs.State.{utf8_number, utf8_from, utf8_code, utf8_by, state_says, state_of}
use Rattle.blocks.proofs.Inks.{phase-back}

utf8-back : (u : Utf8) → utf8_by (utf8_number u) (utf8_from u) (utf8_code u) ≡ u
unfolding utf8_by
utf8-back Whole = refl
utf8-back (Within One s c) = refl
utf8-back (Within TwoFromA0 s c) = refl
utf8-back (Within TwoTo9f s c) = refl
utf8-back (Within Two s c) = refl
utf8-back (Within ThreeFrom90 s c) = refl
utf8-back (Within Three s c) = refl
utf8-back (Within ThreeTo8f s c) = refl
utf8-back (Bad p) = refl

pub says-state : (k : BlocksKnown) → state_says (state_of k) ≡ k
says-state k = rw (utf8-back k.utf8, phase-back k.now, phase-back k.kept)
