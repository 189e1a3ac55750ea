-- How many nodes stand in brackets, parent by parent. Assumes nothing.
use Rattle.lists.proofs.Prelude.{◌≡◌, refl, sym, ap, ap₂, ◌∙◌, ℕ, zero, suc, ◌+◌, ◌≤◌, arith, Bool, true, false, List, [], ◌∷◌, ◌++◌, reverse, reverse-cons, leb, le-leb, eqb, eqb-true, eqb-false, eq-eqb, length, pick}
use Rattle.serialize.specs.LocalsWrite.{times, bracketed}
use Rattle.salvage_shape.specs.LocalsShape.{raised, brackets_in, brackets_of}
use Rattle.salvage_shape.specs.LocalsChain.{brackets_more}

-- ---- order does not count

times-append : (x : ℕ) (ps qs : List ℕ) → times x (ps ++ qs) ≡ times x ps + times x qs
times-append x [] qs = omega arith
times-append x (p ∷ ps) qs = go (eqb p x) (times-append x ps qs)
  where
    go : (b : Bool) → times x (ps ++ qs) ≡ times x ps + times x qs → pick b (suc (times x (ps ++ qs))) (times x (ps ++ qs)) ≡ pick b (suc (times x ps)) (times x ps) + times x qs
    go true e = omega arith
    go false e = e

pub times-reverse : (x : ℕ) (ps : List ℕ) → times x (reverse ps) ≡ times x ps
times-reverse x [] = refl
times-reverse x (p ∷ ps) = ap (times x) (reverse-cons p ps) ∙ times-append x (reverse ps) (p ∷ []) ∙ go (eqb p x) (times-reverse x ps)
  where
    go : (b : Bool) → times x (reverse ps) ≡ times x ps → times x (reverse ps) + pick b 1 0 ≡ pick b (suc (times x ps)) (times x ps)
    go true e = omega arith
    go false e = omega arith

raised-one : (b : Bool) (a c n : ℕ) → n ≡ a + c → raised b n ≡ raised b a + c
raised-one true a c n e = omega arith
raised-one false a c n e = e

in-append : (ps qs rs : List ℕ) → brackets_in ps (qs ++ rs) ≡ brackets_in ps qs + brackets_in ps rs
in-append ps [] rs = omega arith
in-append ps (q ∷ qs) rs = raised-one (bracketed ps q) (brackets_in ps qs) (brackets_in ps rs) (brackets_in ps (qs ++ rs)) (in-append ps qs rs)

raised-last : (b : Bool) (n m : ℕ) → n ≡ m → n + raised b 0 ≡ raised b m
raised-last true n m e = omega arith
raised-last false n m e = omega arith

in-reverse : (ps qs : List ℕ) → brackets_in ps (reverse qs) ≡ brackets_in ps qs
in-reverse ps [] = refl
in-reverse ps (q ∷ qs) =
    ap (brackets_in ps) (reverse-cons q qs) ∙ in-append ps (reverse qs) (q ∷ []) ∙ raised-last (bracketed ps q) (brackets_in ps (reverse qs)) (brackets_in ps qs) (in-reverse ps qs)

in-same : (ps rs qs : List ℕ) → ((x : ℕ) → times x ps ≡ times x rs) → brackets_in ps qs ≡ brackets_in rs qs
in-same ps rs [] h = refl
in-same ps rs (q ∷ qs) h = ap₂ raised (ap (leb 2) (h q)) (in-same ps rs qs h)

pub brackets-reverse : (ps : List ℕ) → brackets_of (reverse ps) ≡ brackets_of ps
brackets-reverse ps = in-same (reverse ps) ps (reverse ps) (λ x. times-reverse x ps) ∙ in-reverse ps ps

-- ---- one more

-- by how many more of n nodes stand in brackets, where their parent has t children and gets one more
abbrev gains : (t n : ℕ) → ℕ
gains zero n = 0
gains (suc zero) n = n
gains (suc (suc k)) n = 0

raised-gains : (t m n l : ℕ) → m ≡ n + gains t l → raised (leb 2 (suc t)) m ≡ raised (leb 2 t) n + gains t (suc l)
raised-gains zero m n l e = omega arith
raised-gains (suc zero) m n l e = omega arith
raised-gains (suc (suc k)) m n l e = rw (le-leb 2 (suc (suc (suc k))) (omega arith), le-leb 2 (suc (suc k)) (omega arith)) (omega arith)

in-more : (q : ℕ) (ds xs : List ℕ) → brackets_in (q ∷ ds) xs ≡ brackets_in ds xs + gains (times q ds) (times q xs)
in-more q ds [] = none (times q ds)
  where
    none : (t : ℕ) → 0 ≡ 0 + gains t 0
    none zero = omega arith
    none (suc zero) = omega arith
    none (suc (suc k)) = omega arith
in-more q ds (x ∷ xs) = go (eqb q x) refl (eqb x q) refl (in-more q ds xs)
  where
    go : (b : Bool) → eqb q x ≡ b → (d : Bool) → eqb x q ≡ d → brackets_in (q ∷ ds) xs ≡ brackets_in ds xs + gains (times q ds) (times q xs)
        → raised (leb 2 (pick b (suc (times x ds)) (times x ds))) (brackets_in (q ∷ ds) xs) ≡ raised (leb 2 (times x ds)) (brackets_in ds xs) + gains (times q ds) (pick d (suc (times q xs)) (times q xs))
    go true e true f h =
        let w : q ≡ x = eqb-true q x e in
        ap (λ (z : ℕ). raised (leb 2 (suc (times z ds))) (brackets_in (q ∷ ds) xs)) (sym w)
        ∙ raised-gains (times q ds) (brackets_in (q ∷ ds) xs) (brackets_in ds xs) (times q xs) h
        ∙ ap (λ (z : ℕ). raised (leb 2 (times z ds)) (brackets_in ds xs) + gains (times q ds) (suc (times q xs))) w
    go true e false f h = absurd (eqb-false x q f (sym (eqb-true q x e)))
    go false e true f h = absurd (eqb-false q x e (sym (eqb-true x q f)))
    go false e false f h = raised-one (leb 2 (times x ds)) (brackets_in ds xs) (gains (times q ds) (times q xs)) (brackets_in (q ∷ ds) xs) h

pub brackets-more : (q : ℕ) (ds : List ℕ) → brackets_of (q ∷ ds) ≡ brackets_of ds + brackets_more (times q ds)
brackets-more q ds = rw (eq-eqb q q refl) (go (times q ds) refl (in-more q ds ds))
  where
    go : (t : ℕ) → times q ds ≡ t → brackets_in (q ∷ ds) ds ≡ brackets_in ds ds + gains (times q ds) (times q ds)
        → raised (leb 2 (suc (times q ds))) (brackets_in (q ∷ ds) ds) ≡ brackets_in ds ds + brackets_more (times q ds)
    go zero e h = rw e (omega (arith, h ∙ ap (λ (z : ℕ). brackets_in ds ds + gains z z) e))
    go (suc zero) e h = rw e (omega (arith, h ∙ ap (λ (z : ℕ). brackets_in ds ds + gains z z) e))
    go (suc (suc k)) e h = rw (e, le-leb 2 (suc (suc (suc k))) (omega arith)) (omega (arith, h ∙ ap (λ (z : ℕ). brackets_in ds ds + gains z z) e))

-- ---- at most all

raised-few : (b : Bool) (m n : ℕ) → m ≤ n → raised b m ≤ suc n
raised-few true m n l = omega arith
raised-few false m n l = omega arith

in-few : (ps qs : List ℕ) → brackets_in ps qs ≤ length qs
in-few ps [] = omega arith
in-few ps (q ∷ qs) = raised-few (bracketed ps q) (brackets_in ps qs) (length qs) (in-few ps qs)

pub brackets-few : (ps : List ℕ) → brackets_of ps ≤ length ps
brackets-few ps = in-few ps ps
