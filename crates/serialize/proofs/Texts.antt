-- Texts written one after another. Assumes nothing.
use Rattle.lists.proofs.Prelude.{ℕ, ◌+◌, ◌^◌, ◌≤◌, ◌<◌, ◌≡◌, subst, List, ◌++◌, add-one, arith, length}
use Rattle.store_bytes.specs.LocalsWrote.{Wrote}
use Rattle.store_bytes.proofs.Written.{wrote_none, wrote-more, wrote-is}
use Rattle.serialize.specs.LocalsWalk.{texts}

pub texts-none : (f : ℕ → List ℕ) (out : List ℕ) (at : ℕ) → at < 2 ^ 64 → Wrote (texts f 0) out at out at
unfolding texts
texts-none f out at h = wrote_none out at h

texts-next : (f : ℕ → List ℕ) (i : ℕ) → texts f i ++ f i ≡ texts f (i + 1)
unfolding texts
texts-next f i = rw add-one

pub texts-more : (f : ℕ → List ℕ) (i : ℕ) {out : List ℕ} {at : ℕ} {out1 : List ℕ} {r : ℕ} {out2 : List ℕ} {s : ℕ} → length out < 2 ^ 64
    → Wrote (texts f i) out at out1 r → Wrote (f i) out1 r out2 s → Wrote (texts f (i + 1)) out at out2 s
texts-more f i h x y = wrote-is (texts-next f i) (wrote-more h x y)

pub texts-end : (f : ℕ → List ℕ) (i n : ℕ) → i ≤ n → n ≤ i → {out : List ℕ} {at : ℕ} {out1 : List ℕ} {r : ℕ} → Wrote (texts f i) out at out1 r → Wrote (texts f n) out at out1 r
texts-end f i n a b {out} {at} {out1} {r} x = let e : i ≡ n = omega arith in subst (λ (z : ℕ). Wrote (texts f z) out at out1 r) e x
