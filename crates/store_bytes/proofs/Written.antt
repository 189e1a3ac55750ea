-- Bytes written one after another. Assumes nothing.
use Rattle.lists.proofs.Prelude.{ℕ, ◌+◌, ◌-◌, ◌^◌, ◌≤◌, ◌<◌, min, ◌≡◌, refl, sym, ap, ◌∙◌, subst, Bool, true, false, List, [], ◌++◌, arith, leb, length, drop, length-append, sets, sets-eq, length-sets, leb-true, leb-false}
use Rattle.store_bytes.specs.LocalsWrote.{Wrote}
use Rattle.store_bytes.proofs.Lists.{sets-append, sets-out}

pub wrote_none : (out : List ℕ) (at : ℕ) → at < 2 ^ 64 → Wrote [] out at out at
wrote_none out at h = record { place = omega arith; bytes = refl }

-- a place that was counted only so far is beyond the end
sets-beyond : (out w : List ℕ) (n r : ℕ) → length out < 2 ^ 64 → r ≡ min n (2 ^ 64 - 1) → sets out r w ≡ sets out n w
sets-beyond out w n r h e = go (leb n (2 ^ 64 - 1)) refl
  where
    go : (t : Bool) → leb n (2 ^ 64 - 1) ≡ t → sets out r w ≡ sets out n w
    go true p = let q = leb-true n (2 ^ 64 - 1) p in let s : r ≡ n = omega arith in ap (λ (k : ℕ). sets out k w) s
    go false p = let q = leb-false n (2 ^ 64 - 1) p in sets-out out r w (omega arith) ∙ sym (sets-out out n w (omega arith))

pub wrote-more : {w u out out1 out2 : List ℕ} {at r s : ℕ} → length out < 2 ^ 64 → Wrote w out at out1 r → Wrote u out1 r out2 s → Wrote (w ++ u) out at out2 s
wrote-more {w} {u} {out} {out1} {out2} {at} {r} {s} h x y =
    let l = length-append w u in
    let m : length (sets out at w) ≡ length out = length-sets out at w in
    let p = x.place in
    let q = y.place in
    record {
      place = omega arith;
      bytes =
          y.bytes
          ∙ ap (λ (z : List ℕ). sets z r u) x.bytes
          ∙ sets-beyond (sets out at w) u (at + length w) r (omega arith) p
          ∙ sym (sets-append out at w u);
    }

pub wrote-is : {w u out out1 : List ℕ} {at r : ℕ} → w ≡ u → Wrote w out at out1 r → Wrote u out at out1 r
wrote-is {out = out} {out1} {at} {r} e x = subst (λ (z : List ℕ). Wrote z out at out1 r) e x

pub wrote-length : {w out out1 : List ℕ} {at r : ℕ} → Wrote w out at out1 r → length out1 ≡ length out
wrote-length {w} {out} {out1} {at} x = ap length x.bytes ∙ length-sets out at w

-- all of it, from the first place on
pub wrote-all : {w out out1 : List ℕ} {r : ℕ} → Wrote w out 0 out1 r → length w ≤ length out → out1 ≡ w ++ drop (length w) out
wrote-all {w} {out} x h = let e : 0 + length w ≡ length w = omega arith in x.bytes ∙ sets-eq w out 0 (omega arith) ∙ ap (λ (n : ℕ). w ++ drop n out) e
