-- A text written piece by piece. Assumes nothing.
use Rattle.lists.proofs.Prelude.{ℕ, ◌^◌, ◌<◌, ◌≡◌, refl, sym, ◌∙◌, subst, List, [], ◌++◌, append_assoc, append-nil, length}
use Rattle.store_bytes.specs.LocalsWrote.{Wrote}
use Rattle.store_bytes.proofs.Written.{wrote_none, wrote-more, wrote-is}

-- `rest` of the whole is left to write
pub record Writing (whole rest out₀ : List ℕ) (at : ℕ) (out : List ℕ) (to : ℕ) : Type 0 where
  pub short : length out₀ < 2 ^ 64
  pub done : List ℕ
  pub is : whole ≡ done ++ rest
  pub wrote : Wrote done out₀ at out to

pub writing-first : (whole out : List ℕ) (at : ℕ) → length out < 2 ^ 64 → at < 2 ^ 64 → Writing whole whole out at out at
writing-first whole out at s b = record { short = s; done = []; is = refl; wrote = wrote_none out at b }

module _ {whole out₀ : List ℕ} {at : ℕ} {out : List ℕ} {to : ℕ} where
  pub writing-is : {rest rest' : List ℕ} → rest ≡ rest' → Writing whole rest out₀ at out to → Writing whole rest' out₀ at out to
  writing-is e x = subst (λ (r : List ℕ). Writing whole r out₀ at out to) e x

  pub writing-end : Writing whole [] out₀ at out to → Wrote whole out₀ at out to
  writing-end x = wrote-is (sym (x.is ∙ append-nil x.done)) x.wrote

  module _ {w out' : List ℕ} {to' : ℕ} (y : Wrote w out to out' to') where
    pub writing-next : {rest : List ℕ} → Writing whole (w ++ rest) out₀ at out to → Writing whole rest out₀ at out' to'
    writing-next {rest} x =
        record { short = x.short; done = x.done ++ w; is = x.is ∙ sym (append_assoc x.done w rest); wrote = wrote-more x.short x.wrote y }

pub writing-last : {w whole out₀ : List ℕ} {at : ℕ} {out : List ℕ} {to : ℕ} {out' : List ℕ} {to' : ℕ} → Wrote w out to out' to' → Writing whole w out₀ at out to → Wrote whole out₀ at out' to'
writing-last {w} y x = writing-end (writing-next y (writing-is (sym (append-nil w)) x))
