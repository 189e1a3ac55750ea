use Rattle.text_chars.proofs.White.{far-dark}
use Rattle.text_chars.specs.White.{white}
use Rattle.lists.proofs.Prelude.{refl, sym}
use Rattle.text_chars.proofs.is_white.Goals as goal

pub returns-then-c-gt12288 : goal.returns-then-c-gt12288
returns-then-c-gt12288 c = sym (far-dark c.args.c c.if-c-gt12288.true)

pub returns : goal.returns
unfolding white
returns c = refl
