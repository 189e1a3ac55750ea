-- A part of a feed that is made, and a feed applied, as they are shown. Assumes nothing.
use Rattle.lists.proofs.Prelude.{Bool, List, ℕ, ◌≡◌, ap, ◌∙◌}
use Rattle.feed.specs.Made.{MadeIs, out_after}
use Rattle.tables.specs.Memory.{Memory}
use Rattle.feed_apply.specs.Lent.{ApplyIs}
use Rattle.c_answers.specs.declared.SgfEdit.{SgfEdit}
use Rattle.c_answers.specs.declared.SgfWriting.{SgfWriting}
use Rattle.c_feed.specs.Parts.{made_in_c, PutInC, applied_in_c, CorrectInC}
use Rattle.std.specs.Prelude.{Result}
use Rattle.feed_check.specs.declared.FeedRefusal.{FeedRefusal}
use Rattle.feed.specs.declared.make.MakeFault.{MakeFault}
use Rattle.tables.specs.declared.Refusal.{Refusal}

pub put-shown : {held : Bool} {bytes out out' : List ℕ} {r : Result ℕ MakeFault} {w : SgfWriting} → MadeIs held bytes out out' r → w ≡ made_in_c r
    → PutInC held bytes out out' w
put-shown {held} {bytes} {out} x e = record { is = e ∙ ap made_in_c x.answer; memory = x.memory ∙ ap (λ (z : Result ℕ MakeFault). out_after z bytes out) x.answer }

pub correct-shown : {m m' : Memory} {feed : List ℕ} {r : Result ℕ (Refusal FeedRefusal)} {s : SgfEdit} → ApplyIs m m' feed r → s ≡ applied_in_c m.counts r
    → CorrectInC m m' feed s
correct-shown {m} x e = record { is = e ∙ ap (applied_in_c m.counts) x.answer; memory = x.memory }
