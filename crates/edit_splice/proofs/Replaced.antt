-- A part of a buffer replaced by copies within it: the tail moved, freed bytes cleared, the new bytes put in. Assumes nothing.
use Rattle.lists.proofs.Prelude.{◌≡◌, sym, ap, ap₂, ◌∙◌, List, ◌++◌, append_assoc, ℕ, ◌+◌, ◌-◌, ◌≤◌, ◌<◌, arith, length, take, drop, replicate, take-append-drop, length-append, length-drop, length-replicate, paste, length_paste_head, length-take-le, drop-drop, take_all, take-length, take-take}
use Rattle.lists.proofs.Paste.{paste-block}
use Rattle.lists.proofs.Places.{drop-take}
use Rattle.lists.specs.Put.{put_at}
use Rattle.edit_splice.specs.Locals.{Within}
use Rattle.edit_splice.specs.Splice.{pasted, cleared}

-- the new bytes go in last
last-put : (b new s r : List ℕ) (a : ℕ) → a + length new ≤ length b → paste (take (a + length new) b ++ s ++ r) a new (length new) ≡ take a b ++ (new ++ (s ++ r))
last-put b new s r a h =
    let ta : take a (take (a + length new) b) ≡ take a b = take-take a (a + length new) b (omega arith) in
    let cut : take (a + length new) b ≡ take a b ++ drop a (take (a + length new) b) =
    sym (take-append-drop a (take (a + length new) b)) ∙ ap (λ (l : List ℕ). l ++ drop a (take (a + length new) b)) ta in
    let lt : length (take (a + length new) b) ≡ a + length new = length-take-le (a + length new) b h in
    let all : take (a + length new) b ++ s ++ r ≡ take a b ++ (drop a (take (a + length new) b) ++ (s ++ r)) =
    append_assoc (take (a + length new) b) s r
    ∙ ap (λ (l : List ℕ). l ++ (s ++ r)) cut
    ∙ append_assoc (take a b) (drop a (take (a + length new) b)) (s ++ r) in
    ap (λ (l : List ℕ). paste l a new (length new)) all
    ∙ paste-block (take a b) (drop a (take (a + length new) b)) (s ++ r) new a (length new) (length-take-le a b (omega arith)) (simp (length-drop, length-take-le) (omega arith))
    ∙ ap (λ (l : List ℕ). take a b ++ (l ++ (s ++ r))) (take-length new)

module _ (b new : List ℕ) (used a e : ℕ) (fits : Within b used a e) where
  abbrev Tail : List ℕ
  Tail = take (used - e) (drop e b)

  abbrev Used : ℕ
  Used = a + length new + (used - e)

  abbrev Freed : ℕ
  Freed = used - (a + length new + (used - e))

  text-is : pasted (take used b) a e new ≡ take a b ++ (new ++ Tail)
  text-is =
      let o = fits.order in
      let i = fits.inside in
      let u = fits.lent in
      let n : used ≡ e + (used - e) = omega arith in
      ap₂ (λ (x y : List ℕ). x ++ (new ++ y)) (take-take a used b (omega arith)) (ap (λ (m : ℕ). drop e (take m b)) n ∙ drop-take e (used - e) b (omega arith))

  pub length-pasted : length (pasted (take used b) a e new) ≡ Used
  length-pasted =
      let o = fits.order in
      let i = fits.inside in
      let u = fits.lent in
      ap length text-is
      ∙ length-append (take a b) (new ++ Tail)
      ∙ ap₂ (λ (x y : ℕ). x + y) (length-take-le a b (omega arith)) (length-append new Tail ∙ ap (λ (x : ℕ). length new + x) (length-take-le (used - e) (drop e b) (simp length-drop (omega arith))))
      ∙ omega arith

  -- what is before the part, the new bytes, what is after it, zeros for what is freed, and what is beyond
  abbrev Whole : List ℕ
  Whole = take a b ++ (new ++ (Tail ++ (replicate Freed 0 ++ drop (Used + Freed) b)))

  whole_is : Whole ≡ put_at b 0 (cleared (pasted (take used b) a e new) used)
  whole_is =
      let t : List ℕ = take a b ++ (new ++ Tail) in
      let z : List ℕ = replicate Freed 0 in
      let r : List ℕ = drop (Used + Freed) b in
      let p : List ℕ = pasted (take used b) a e new in
      let lf : used - length p ≡ Freed = ap (λ (m : ℕ). used - m) length-pasted in
      let c : cleared p used ≡ t ++ z = ap₂ (λ (x : List ℕ) (m : ℕ). x ++ replicate m 0) text-is lf in
      let zero-add : 0 + length (cleared p used) ≡ length (cleared p used) = omega arith in
      let lc : length (cleared p used) ≡ Used + Freed = length-append p (replicate (used - length p) 0) ∙ ap₂ (λ (x y : ℕ). x + y) length-pasted (length-replicate (used - length p) 0 ∙ lf) in
      sym (
      ap₂ (λ (x : List ℕ) (m : ℕ). x ++ drop m b) c (zero-add ∙ lc)
      ∙ append_assoc t z r
      ∙ append_assoc (take a b) (new ++ Tail) (z ++ r)
      ∙ ap (λ (x : List ℕ). take a b ++ x) (append_assoc new Tail (z ++ r))
      )

  pub replaced-left : (b1 b2 b3 : List ℕ) → a + length new ≤ e → b1 ≡ paste b (a + length new) (drop e b) (used - e)
      → b2 ≡ paste b1 Used (replicate Freed 0) Freed → b3 ≡ paste b2 a new (length new)
      → b3 ≡ put_at b 0 (cleared (pasted (take used b) a e new) used)
  replaced-left b1 b2 b3 h e1 e2 e3 =
      let o = fits.order in
      let i = fits.inside in
      let u = fits.lent in
      let lh : length (take (a + length new) b ++ Tail) ≡ Used = length_paste_head b (a + length new) (drop e b) (used - e) (omega arith) (simp length-drop (omega arith)) in
      let lq : length (take Freed (drop Used b)) ≡ Freed = length-take-le Freed (drop Used b) (simp length-drop (omega arith)) in
      let c1 : b1 ≡ take (a + length new) b ++ Tail ++ (take Freed (drop Used b) ++ drop Freed (drop Used b)) =
      e1 ∙ ap (λ (l : List ℕ). take (a + length new) b ++ Tail ++ l) (sym (take-append-drop Freed (drop Used b))) in
      let c2 : b2 ≡ take (a + length new) b ++ Tail ++ (replicate Freed 0 ++ drop (Used + Freed) b) =
      e2
      ∙ ap (λ (l : List ℕ). paste l Used (replicate Freed 0) Freed) c1
      ∙ paste-block (take (a + length new) b ++ Tail) (take Freed (drop Used b)) (drop Freed (drop Used b)) (replicate Freed 0) Used Freed lh lq
      ∙ rw (drop-drop, take_all {A = ℕ} Freed (replicate Freed 0) (simp length-replicate (omega arith))) in
      e3
      ∙ ap (λ (l : List ℕ). paste l a new (length new)) c2
      ∙ last-put b new Tail (replicate Freed 0 ++ drop (Used + Freed) b) a (omega arith)
      ∙ whole_is

  pub replaced-right : (b1 b3 : List ℕ) → Used ≤ length b → e < a + length new → b1 ≡ paste b (a + length new) (drop e b) (used - e) → b3 ≡ paste b1 a new (length new)
      → b3 ≡ put_at b 0 (cleared (pasted (take used b) a e new) used)
  replaced-right b1 b3 r h e1 e3 =
      let i = fits.inside in
      let z : Freed ≡ 0 = omega arith in
      let w : Used + 0 ≡ Used = omega arith in
      e3
      ∙ ap (λ (l : List ℕ). paste l a new (length new)) e1
      ∙ last-put b new Tail (drop Used b) a (omega arith)
      ∙ sym (ap (λ (m : ℕ). take a b ++ (new ++ (Tail ++ (replicate m 0 ++ drop (Used + m) b)))) z ∙ ap (λ (m : ℕ). take a b ++ (new ++ (Tail ++ drop m b))) w)
      ∙ whole_is
