-- Where identifiers and values end: each answer is given exactly when the scope says. Assumes nothing.
use Rattle.lists.proofs.Prelude.{ℕ, suc, ◌+◌, ◌≤◌, ◌<◌, ◌≡◌, refl, sym, ap, ◌∙◌, subst, Bool, true, false, not, ◌&&◌, false≢true, List, [], ◌∷◌, ◌++◌, append-nil, head-eq_of_cons-eq, tail-eq_of_cons-eq, arith, length, eqb, leb, eqb-true, eqb-false, ne_eqb, leb-true, leb-false, le-leb, lt-leb, pick}
use Rattle.lists.specs.All.{All}
use Rattle.lexer_scan.specs.Scan.{ident_from}
use Rattle.lexer_close.specs.Close.{close_from}
use Rattle.lexer.specs.Closed.{closed_from}
use Rattle.lists.proofs.Tests.{never}
use Rattle.lexer_scan.specs.declared.Ident.{Ident}
use Rattle.lexer_scan.specs.declared.Ident.TheVariants.{Opens, Missing, Foreign}
use Rattle.std.specs.Prelude.{Option, Some, None}

-- ---- an identifier

-- a byte that an identifier crosses
abbrev pub Plain : ℕ → Type 0
Plain b = (b < 128) × (b ≡ 0x5b → ⊥)

-- what each answer says of the bytes from place i on
abbrev pub IdentIs : ℕ → List ℕ → Ident → Type 0
IdentIs i bs (Opens k) = (pre post : List ℕ) × (bs ≡ pre ++ (0x5b ∷ post)) × All Plain pre × (k ≡ i + length pre)
IdentIs i bs Missing = All Plain bs
IdentIs i bs Foreign = (pre : List ℕ) × (b : ℕ) × (post : List ℕ) × (bs ≡ pre ++ (b ∷ post)) × All Plain pre × (128 ≤ b)

ident-cons : (i b : ℕ) (bs : List ℕ) → Plain b → (x : Ident) → IdentIs (i + 1) bs x → IdentIs i (b ∷ bs) x
ident-cons i b bs p (Opens k) h = (b ∷ h.0, h.1, ap (λ (z : List ℕ). b ∷ z) h.2, (p, h.3), omega (arith, h.4))
ident-cons i b bs p Missing h = (p, h)
ident-cons i b bs p Foreign h = (b ∷ h.0, h.1, h.2, ap (λ (z : List ℕ). b ∷ z) h.3, (p, h.4), h.5)

-- the answer holds of the bytes
pub ident-is : (i : ℕ) (bs : List ℕ) → IdentIs i bs (ident_from i bs)
unfolding ident_from
ident-is i [] = tt
ident-is i (b ∷ bs) = go (eqb b 0x5b) refl (leb 0x80 b) refl (ident-is (i + 1) bs)
  where
    go : (c : Bool) → eqb b 0x5b ≡ c → (d : Bool) → leb 0x80 b ≡ d → IdentIs (i + 1) bs (ident_from (i + 1) bs) → IdentIs i (b ∷ bs) (pick c (Opens i) (pick d Foreign (ident_from (i + 1) bs)))
    go true e d f h = ([], bs, ap (λ (z : ℕ). z ∷ bs) (eqb-true b 0x5b e), tt, omega arith)
    go false e true f h = ([], b, bs, refl, tt, leb-true 0x80 b f)
    go false e false f h = ident-cons i b bs (leb-false 0x80 b f, eqb-false b 0x5b e) (ident_from (i + 1) bs) h

ident-over : (i : ℕ) (pre bs : List ℕ) → All Plain pre → ident_from i (pre ++ bs) ≡ ident_from (i + length pre) bs
unfolding ident_from
ident-over i [] bs p = let e : i ≡ i + 0 = omega arith in ap (λ (z : ℕ). ident_from z bs) e
ident-over i (b ∷ pre) bs p =
    let e : i + 1 + length pre ≡ i + suc (length pre) = omega arith in
    rw (ne_eqb b 0x5b p.0.1, lt-leb 0x80 b p.0.0) (ident-over (i + 1) pre bs p.1 ∙ ap (λ (z : ℕ). ident_from z bs) e)

-- and whichever answer holds of the bytes is given
pub ident-exactly : (i : ℕ) (bs : List ℕ) (x : Ident) → IdentIs i bs x → ident_from i bs ≡ x
unfolding ident_from
ident-exactly i bs (Opens k) h = ap (ident_from i) h.2 ∙ ident-over i h.0 (0x5b ∷ h.1) h.3 ∙ ap Opens (sym h.4)
ident-exactly i bs Missing h = ap (ident_from i) (sym (append-nil bs)) ∙ ident-over i bs [] h
ident-exactly i bs Foreign h =
    ap (ident_from i) h.3 ∙ ident-over i h.0 (h.1 ∷ h.2) h.4
    ∙ rw (ne_eqb h.1 0x5b (λ e. omega (arith, h.5)), le-leb 0x80 h.1 h.5)

-- ---- a value

-- what each answer says of the bytes from place i on, with an escape pending or not
abbrev pub CloseIs : Bool → ℕ → List ℕ → Option ℕ → Type 0
CloseIs e i bs (Some j) = (body post : List ℕ) × (bs ≡ body ++ (0x5d ∷ post)) × (closed_from e body ≡ true) × (j ≡ i + length body)
CloseIs e i bs None = (body post : List ℕ) → bs ≡ body ++ (0x5d ∷ post) → closed_from e body ≡ true → ⊥

-- a byte more in front, which turns the flag e into e'
module _ (e e' : Bool) (i b : ℕ) (bs : List ℕ) (open-end : b ≡ 0x5d → closed_from e [] ≡ true → ⊥)
    (front : (body : List ℕ) → closed_from e' body ≡ true → closed_from e (b ∷ body) ≡ true) (back : (body : List ℕ) → closed_from e (b ∷ body) ≡ true → closed_from e' body ≡ true) where
  still_open : CloseIs e' (i + 1) bs None → CloseIs e i (b ∷ bs) None
  still_open h [] post q c = open-end (head-eq_of_cons-eq q) c
  still_open h (x ∷ body) post q c =
      h body post (tail-eq_of_cons-eq q) (back body (subst (λ (z : ℕ). closed_from e (z ∷ body) ≡ true) (sym (head-eq_of_cons-eq q)) c))

  close-cons : (x : Option ℕ) → CloseIs e' (i + 1) bs x → CloseIs e i (b ∷ bs) x
  close-cons (Some j) h = (b ∷ h.0, h.1, ap (λ (z : List ℕ). b ∷ z) h.2, front h.0 h.3, omega (arith, h.4))
  close-cons None h = still_open h

no-close : (e : Bool) (i : ℕ) → CloseIs e i [] None
no-close e i [] post q c = let z : ◌≡◌ {A = ℕ} 0 1 = omega (arith, ap length q) in never z
no-close e i (x ∷ body) post q c = let z : ◌≡◌ {A = ℕ} 0 1 = omega (arith, ap length q) in never z

-- the answer holds of the bytes
pub close-is : (e : Bool) (i : ℕ) (bs : List ℕ) → CloseIs e i bs (close_from e i bs)
unfolding close_from
close-is e i [] = no-close e i
close-is true i (b ∷ bs) = close-cons true false i b bs (λ _ c. false≢true c) (λ body c. c) (λ body c. c) (close_from false (i + 1) bs) (close-is false (i + 1) bs)
close-is false i (b ∷ bs) = go (eqb b 0x5d) refl (close-is (eqb b 0x5c) (i + 1) bs)
  where
    go : (c : Bool) → eqb b 0x5d ≡ c → CloseIs (eqb b 0x5c) (i + 1) bs (close_from (eqb b 0x5c) (i + 1) bs) → CloseIs false i (b ∷ bs) (pick c (Some i) (close_from (eqb b 0x5c) (i + 1) bs))
    go true q h = ([], bs, ap (λ (z : ℕ). z ∷ bs) (eqb-true b 0x5d q), refl, omega arith)
    go false q h =
        close-cons false (eqb b 0x5c) i b bs (λ x _. eqb-false b 0x5d q x) (λ body c. rw q c) (λ body c. rw q at c) (close_from (eqb b 0x5c) (i + 1) bs) h

close-over : (e : Bool) (i : ℕ) (body post : List ℕ) → closed_from e body ≡ true → close_from e i (body ++ (0x5d ∷ post)) ≡ Some (i + length body)
unfolding close_from
close-over true i [] post c = absurd (false≢true c)
close-over false i [] post c = let z : i ≡ i + 0 = omega arith in ap Some z
close-over true i (b ∷ body) post c = let z : i + 1 + length body ≡ i + suc (length body) = omega arith in close-over false (i + 1) body post c ∙ ap Some z
close-over false i (b ∷ body) post c = go (eqb b 0x5d) c (close-over (eqb b 0x5c) (i + 1) body post)
  where
    go : (t : Bool) → (not t && closed_from (eqb b 0x5c) body) ≡ true → (closed_from (eqb b 0x5c) body ≡ true → close_from (eqb b 0x5c) (i + 1) (body ++ (0x5d ∷ post)) ≡ Some (i + 1 + length body))
        → pick t (Some i) (close_from (eqb b 0x5c) (i + 1) (body ++ (0x5d ∷ post))) ≡ Some (i + suc (length body))
    go true q ih = absurd (false≢true q)
    go false q ih = let z : i + 1 + length body ≡ i + suc (length body) = omega arith in ih q ∙ ap Some z

-- and whichever answer holds of the bytes is given
pub close-exactly : (e : Bool) (i : ℕ) (bs : List ℕ) (x : Option ℕ) → CloseIs e i bs x → close_from e i bs ≡ x
close-exactly e i bs (Some j) h = ap (close_from e i) h.2 ∙ close-over e i h.0 h.1 h.3 ∙ ap Some (sym h.4)
close-exactly e i bs None h = go (close_from e i bs) (close-is e i bs)
  where
    go : (x : Option ℕ) → CloseIs e i bs x → x ≡ None
    go (Some j) k = absurd (h k.0 k.1 k.2 k.3)
    go None k = refl
