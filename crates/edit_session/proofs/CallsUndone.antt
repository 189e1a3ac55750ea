-- A session in lent memory: calls that put back what was kept are all answered as changed, and leave the record in memory as it was; what they would keep is the
-- session. Of each call only the contract is known. Assumes nothing.
use Rattle.lists.proofs.Prelude.{ℕ, true, ◌≡◌, refl, sym, ap, ap₂, ◌∙◌, subst, subst⁻¹, List, [], ◌∷◌, ◌++◌, append_assoc, append-nil, length}
use Rattle.tables.specs.Memory.{Memory}
use Rattle.fit.specs.Fit.{Fit}
use Rattle.fit.specs.Record.{text_in}
use Rattle.edit.specs.Lent.{EditIs}
use Rattle.edit_laws.specs.Calls.{text_rows, memory_next, Calls, none, call}
use Rattle.edit_laws.specs.Run.{TextRows, Order, after}
use Rattle.edit_laws.proofs.CallsRun.{call_kept, call-edits, calls-fit}
use Rattle.feed_laid.specs.OfMemory.{own_bytes}
use Rattle.edit_session.specs.InMemory.{SaysChanged, AllChanged, kept_of, kept_in, SameRecord}
use Rattle.edit_session.specs.Session.{Granted, asked, AllGranted, undoing}
use Rattle.edit_session.proofs.CallBack.{same_self, kept, kept-is, accepted, call-again, call-gone, call_same}
use Rattle.std.specs.Prelude.{Result, Ok, Err}
use Rattle.tables.specs.declared.Reason.{Reason}
use Rattle.tables.specs.declared.Refusal.{Refusal}

-- ---- a session by itself

-- calls one after another, each answered as changed; and what was kept before each of them, the last one first
pub data Session : Memory → (edits kept : List Order) → Memory → Type 0 where
  empty : {m : Memory} → Session m [] [] m
  edit : {m m'' : Memory} {x : Order} {xs ys : List Order} (n : ℕ) (l : Memory)
      → EditIs m l x.value x.bytes (Ok n) → Session (memory_next l (Ok n)) xs ys m'' → Session m (x ∷ xs) (ys ++ (kept_of m x ∷ [])) m''

-- calls that are all answered as changed are one
pub session-of : {m m' : Memory} {xs : List Order} (c : Calls m xs m') → AllChanged c → Session m xs (kept_in c) m'
session-of none a = empty
session-of (call (Ok n) l e k) a = edit n l e (session-of k a.1)
session-of (call (Err x) l e k) a = absurd a.0

says : (r : Result ℕ (Refusal Reason)) (n : ℕ) → r ≡ Ok n → SaysChanged r
says r n e = subst⁻¹ SaysChanged e tt

-- and all calls of its edits are it: the contract has one answer
pub session-once : {m m' m'' : Memory} {xs ys : List Order} → Session m xs ys m' → (c : Calls m xs m'') → AllChanged c × (kept_in c ≡ ys)
session-once empty none = (tt, refl)
session-once (edit {m = m} {m'' = m'} {x = x} {xs = xs} {ys = ys} n l e k) (call r l' e' k') =
    let a : r ≡ Ok n = e'.answer ∙ sym e.answer in
    let b : memory_next l (Ok n) ≡ memory_next l' r = ap₂ (λ (q : Memory) (z : Result ℕ (Refusal Reason)). memory_next q z) (e.memory ∙ sym e'.memory) (sym a) in
    let h = session-once (subst (λ (z : Memory). Session z xs ys m') b k) k' in
    ((says r n a, h.0), ap (λ (z : List Order). z ++ (kept_of m x ∷ [])) h.1)

-- ---- calls one behind the other

calls-split : (ys : List Order) {zs : List Order} {m m'' : Memory} → Calls m (ys ++ zs) m'' → (m' : Memory) × Calls m ys m' × Calls m' zs m''
calls-split [] {m = m} k = (m, none, k)
calls-split (y ∷ ys) (call r l e k) = let z = calls-split ys k in (z.0, call r l e z.1, z.2)

session-append : {m m' m'' : Memory} {xs ys xs' ys' : List Order} → Session m xs ys m' → Session m' xs' ys' m'' → Session m (xs ++ xs') (ys' ++ ys) m''
session-append {m'' = m''} {xs' = xs'} {ys' = ys'} (empty {m = m}) b = subst⁻¹ (λ (z : List Order). Session m xs' z m'') (append-nil ys') b
session-append {m'' = m''} {xs' = xs'} {ys' = ys'} (edit {m = m} {x = x} {xs = xs} {ys = ys} n l e k) b =
    subst (λ (z : List Order). Session m (x ∷ xs ++ xs') z m'') (append_assoc ys' ys (kept_of m x ∷ [])) (edit n l e (session-append k b))

-- one call that puts back
put_back : (m : Memory) (fit : Fit m ≡ true) (x : Order) (n : ℕ) (l : Memory) (h : EditIs m l x.value x.bytes (Ok n)) (m₂ : Memory) (s : SameRecord (memory_next l (Ok n)) m₂)
    {m'' : Memory} → Calls m₂ (kept_of m x ∷ []) m'' → Session m₂ (kept_of m x ∷ []) (x ∷ []) m'' × SameRecord m m''
put_back m fit x n l h m₂ s (call r l₂ e none) =
    let k = call-gone m fit x n l h m₂ s r l₂ e in (
      subst (λ (z : Order). Session m₂ (kept_of m x ∷ []) (z ∷ []) (memory_next l₂ r)) (call-again m fit x n l h m₂ s)
          (subst⁻¹ (λ (q : Result ℕ (Refusal Reason)). Session m₂ (kept_of m x ∷ []) (kept_of m₂ (kept_of m x) ∷ []) (memory_next l₂ q)) k
          (edit (length (text_in m)) l₂ (subst (EditIs m₂ l₂ x.value (own_bytes m x.value)) k e) empty)),
      call_same m fit x n l h m₂ s r l₂ e,
    )

-- what was kept, put back
pub session-undone : {m m' m'' : Memory} {xs ys : List Order} → Fit m ≡ true → Session m xs ys m' → Calls m' ys m'' → Session m' ys xs m'' × SameRecord m m''
session-undone fit (empty {m = m}) none = (empty, same_self m)
session-undone {m'' = m''} fit (edit {m = m} {x = x} {ys = ys} n l h k) c =
    let z = calls-split ys c in
    let f = (call_kept m x fit (Ok n) l h).0 in
    let r = session-undone f k z.1 in
    let p = put_back m fit x n l h z.0 r.1 z.2 in
    (session-append r.0 p.0, p.1)

-- calls c, each answered as changed; then calls d that put back what was kept before each of them, the last one first: each is answered as changed, what would be
-- kept before them is the session, and the record is as at first, in the same memory
pub calls-undone : {m m' m'' : Memory} {xs : List Order} → Fit m ≡ true → (c : Calls m xs m') → AllChanged c → (d : Calls m' (kept_in c) m'')
    → AllChanged d × (kept_in d ≡ xs) × SameRecord m m''
calls-undone fit c a d =
    let r = session-undone fit (session-of c a) d in
    let o = session-once r.0 d in
    (o.0, o.1, r.1)

-- and the session done again by calls e: each is answered as changed, what would be kept is what was kept at first, and the record is as it was at the session's end
pub calls-redone : {m m' m'' m''' : Memory} {xs : List Order} → Fit m ≡ true → (c : Calls m xs m') → AllChanged c → Calls m' (kept_in c) m'' → (e : Calls m'' xs m''')
    → AllChanged e × (kept_in e ≡ kept_in c) × SameRecord m' m'''
calls-redone {m = m} {m' = m'} {xs = xs} fit c a d e =
    let r = session-undone fit (session-of c a) d in
    let s = session-undone (calls-fit m m' xs fit c) r.0 e in
    let o = session-once s.0 e in
    (o.0, o.1, s.1)

-- a session in memory is one of the definition, with the same bytes kept
pub session-granted : {m m' : Memory} {xs ys : List Order} → Fit m ≡ true → Session m xs ys m'
    → AllGranted (length m.text) (text_rows m) xs × (undoing (length m.text) (text_rows m) xs ≡ ys)
session-granted fit empty = (tt, refl)
session-granted fit (edit {m = m} {x = x} {xs = xs} {ys = ys} n l e k) =
    let a = accepted m fit x n l e in
    let f = kept m fit x n l e in
    let w : after (text_rows m) (asked (length m.text) (text_rows m) x) ≡ text_rows (memory_next l (Ok n)) = sym (call-edits m x fit (Ok n) l e) in
    let r = session-granted f.0 k in
    let g = ap₂ (λ (i : ℕ) (z : TextRows). AllGranted i z xs) f.1 (sym w) in
    let u = ap₂ (λ (i : ℕ) (z : TextRows). undoing i z xs) (sym f.1) w in (
      (subst⁻¹ Granted a tt, subst (λ (z : Type 0). z) g r.0),
      ap₂ (λ (zs : List Order) (z : Order). zs ++ (z ∷ [])) (u ∙ r.1) (kept-is m fit x n l e),
    )
