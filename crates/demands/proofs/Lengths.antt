-- The exported length of a writing: when each number is given, and what it says about sgf_write. Assumes nothing.
use Rattle.lists.proofs.Prelude.{ℕ, ◌^◌, ◌≤◌, ◌<◌, List, ⊎_elim, ◌≡◌, ap, ◌∙◌, arith, length}
use Rattle.tables.specs.Memory.{Memory}
use Rattle.tables.specs.Numbers.{number_of}
use Rattle.tables.specs.declared.Reason.{Reason}
use Rattle.fit.specs.Record.{record_in}
use Rattle.serialize.specs.Form.{writing, amplest, written_length}
use Rattle.c_answers.specs.Structs.{writing_in_c}
use Rattle.c_answers.specs.declared.SgfWriting.{SgfWriting}
use Rattle.sgf.specs.ChangeInC.{WriteInC}
use Rattle.demands.specs.When.{Exactly, Writes, Unwritten, unfit, unnamed, narrow}
use Rattle.demands.proofs.Numbers.{exactly}
use Rattle.demands.proofs.Written.{written-decided, writes-answer, unwritten-answer}

module _ (m : Memory) (r : SgfWriting) (s : r ≡ writing_in_c (written_length m)) where
  length-is : Writes m amplest → (r.number ≡ 0) × (r.length ≡ length (writing (record_in m)))
  length-is x =
      let e = s ∙ ap writing_in_c (writes-answer m amplest x) in
      (ap (λ (z : SgfWriting). z.number) e, ap (λ (z : SgfWriting). z.length) e)

  length-not : (x : Reason) → Unwritten m amplest x → r.number ≡ number_of x
  length-not x u = ap (λ (z : SgfWriting). z.number) (s ∙ ap writing_in_c (unwritten-answer m amplest u))

  pub length-exactly : Exactly r.number (Writes m amplest) (Unwritten m amplest)
  length-exactly = exactly r.number (Writes m amplest) (Unwritten m amplest) (written-decided m amplest) (λ x. (length-is x).0) length-not

  module _ (out out' : List ℕ) (q : SgfWriting) (w : WriteInC m out out' q) where
    wrote-is : Writes m (length out) → (q.number ≡ 0) × (q.length ≡ length (writing (record_in m)))
    wrote-is x =
        let e = w.is ∙ ap writing_in_c (writes-answer m (length out) x) in
        (ap (λ (z : SgfWriting). z.number) e, ap (λ (z : SgfWriting). z.length) e)

    wrote-not : {x : Reason} → Unwritten m (length out) x → q.number ≡ number_of x
    wrote-not u = ap (λ (z : SgfWriting). z.number) (w.is ∙ ap writing_in_c (unwritten-answer m (length out) u))

    pub length-suffices : r.number ≡ 0 → r.length ≤ length out → (q.number ≡ 0) × (q.length ≡ r.length)
    length-suffices z l =
        let x = length-exactly.zero.0 z in
        let n = (length-is x).1 in
        let y = wrote-is (record { fits = x.fits; named = x.named; long = omega (arith, n, l) }) in
        (y.0, omega (arith, n, y.1))

    pub length-needed : r.number ≡ 0 → length out < r.length → q.number ≡ 14
    length-needed z l =
        let x = length-exactly.zero.0 z in
        wrote-not (narrow x.fits x.named (omega (arith, (length-is x).1, l)))

    pub length-refused : length out < 2 ^ 63 → 0 < r.number → q.number ≡ r.number
    length-refused short z =
        ⊎_elim (λ x. absurd (omega (arith, (length-is x).0, z))) (λ u. refused u.0 u.1) (written-decided m amplest)
      where
        refused : (x : Reason) → Unwritten m amplest x → q.number ≡ r.number
        refused x (unfit f) = omega (arith, wrote-not (unfit f), length-not x (unfit f))
        refused x (unnamed f n) = omega (arith, wrote-not (unnamed f n), length-not x (unnamed f n))
        refused x (narrow f n l) = omega (arith, wrote-not (narrow f n (omega (arith, l, short))), length-not x (narrow f n l))
