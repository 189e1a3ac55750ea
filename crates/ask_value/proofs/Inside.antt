-- A value that is accessed lies in the text. Assumes nothing.
use Rattle.lists.proofs.Prelude.{ℕ, ◌-◌, ◌≤◌, Bool, true, false, List, ◌≡◌, refl, sym, ap, ◌∙◌, arith, ltb, length, take, drop, ltb-true, pick}
use Rattle.lists.proofs.Tests.{never}
use Rattle.tables.specs.declared.Reason.TheVariants.{NoSuchNumber, NotFitting}
use Rattle.ask_value.specs.Access.{accessed, handed}
use Rattle.tables.specs.Columns.{val_from_at, val_to_at}
use Rattle.tables.specs.Memory.{Memory}
use Rattle.fit.specs.Fit.{Fit}
use Rattle.fit_spans.proofs.Lists.{part_slice}
use Rattle.fit.proofs.Clauses.{fit-vals}
use Rattle.fit.proofs.Whole.{fit-lent}
use Rattle.std.specs.Prelude.{Result, Ok, Err}
use Rattle.tables.specs.declared.Reason.{Reason}
use Rattle.lists.proofs.Parts.{ok-two}

module _ (m : Memory) where
  pub access-inside : (k a e : ℕ) → accessed m k ≡ Ok (a, e) → (a ≤ e) × (e ≤ length m.text)
  unfolding accessed
  access-inside k a e h = go (Fit m) (ltb k m.counts.values) refl refl h
    where
      go : (f l : Bool) → Fit m ≡ f → ltb k m.counts.values ≡ l
          → pick {A = Result (ℕ × ℕ) Reason} f (pick l (Ok (val_from_at m.values k, val_to_at m.values k)) (Err NoSuchNumber)) (Err NotFitting) ≡ Ok (a, e) → (a ≤ e) × (e ≤ length m.text)
      go true true ef el q =
          let w = ok-two q in
          let x : val_from_at m.values k ≡ a = w.0 in
          let y : val_to_at m.values k ≡ e = w.1 in
          let b = fit-vals m ef k (ltb-true k m.counts.values el) in
          (omega (arith, b.0), omega (arith, b.1, (fit-lent m ef).0))
      go true false ef el q = never cc
      go false l ef el q = never cc

-- the part that is lent is the part that is handed out
pub part-handed : (t : List ℕ) {a e : ℕ} {x : Result (ℕ × ℕ) Reason} → x ≡ Ok (a, e) → take (e - a) (drop a t) ≡ handed t x
part-handed t {a} {e} h = part_slice a e t ∙ ap (handed t) (sym h)
