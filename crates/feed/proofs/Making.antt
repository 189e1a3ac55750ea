-- Bytes put in front of lent ones, or why not. Assumes nothing.
use Rattle.lists.proofs.Prelude.{ℕ, ◌+◌, ◌^◌, ◌≤◌, ◌<◌, ◌≡◌, refl, sym, ap, ap₂, ◌∙◌, Bool, true, false, List, ◌++◌, arith, ◌&&◌, length, length-append, ltb, le-leb, lt-leb, lt-ltb, pick}
use Rattle.feed_numerals.specs.Numeral.{spelled, numeral_limit}
use Rattle.store_bytes.specs.LocalsWrote.{Wrote}
use Rattle.store_bytes.proofs.Written.{wrote-all}
use Rattle.feed.specs.Made.{MadeIs, made_for, correction_bytes}
use Rattle.feed.specs.declared.make.MakeFault.TheVariants.{TooLarge, NoRoom}
use Rattle.std.specs.Prelude.{Ok, Err}

module _ {held : Bool} {bytes out : List ℕ} where
  pub made-large : held ≡ false → MadeIs held bytes out out (Err TooLarge)
  made-large h = record { answer = sym (ap (λ (b : Bool). made_for b bytes out) h); memory = refl }

  pub made-full : held ≡ true → length out < length bytes → MadeIs held bytes out out (Err NoRoom)
  made-full h l =
      record {
        answer = sym (ap₂ (λ (b d : Bool). pick b (pick d (Ok (length bytes)) (Err NoRoom)) (Err TooLarge)) h (lt-leb (length bytes) (length out) l));
        memory = refl;
      }

  pub made-put : {out' : List ℕ} {r : ℕ} → held ≡ true → length out < 2 ^ 64 → length bytes ≤ length out → Wrote bytes out 0 out' r → MadeIs held bytes out out' (Ok r)
  made-put {out'} {r} h s l x =
      let e : r ≡ length bytes = omega (arith, x.place) in
      record {
        answer = ap Ok e ∙ sym (ap₂ (λ (b d : Bool). pick b (pick d (Ok (length bytes)) (Err NoRoom)) (Err TooLarge)) h (le-leb (length bytes) (length out) l));
        memory = wrote-all x l;
      }

pub both-held : (v l : ℕ) → v < numeral_limit → l < numeral_limit → ltb v numeral_limit && ltb l numeral_limit ≡ true
both-held v l h k = rw (lt-ltb v numeral_limit h, lt-ltb l numeral_limit k)

pub correction-length : (v : ℕ) (bytes : List ℕ) → length (correction_bytes v bytes) ≡ length (spelled v) + length (spelled (length bytes)) + length bytes
correction-length v bytes = omega (arith, length-append (spelled v) (spelled (length bytes) ++ bytes), length-append (spelled (length bytes)) bytes)
