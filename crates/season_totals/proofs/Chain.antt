-- Bytes written one after another, the next where the last ended. Assumes nothing.
use Rattle.lists.proofs.Prelude.{ℕ, ◌^◌, ◌<◌, List, ◌++◌, length, arith}
use Rattle.store_bytes.specs.LocalsWrote.{Wrote}
use Rattle.store_bytes.proofs.Written.{wrote-more, wrote-length}

pub wrote_then : {w u out out1 out2 : List ℕ} {at r s : ℕ} → length out < 2 ^ 64 → Wrote w out at out1 r → (length out1 < 2 ^ 64 → Wrote u out1 r out2 s)
    → Wrote (w ++ u) out at out2 s
wrote_then h x f = let l = wrote-length x in wrote-more h x (f (omega arith))
