-- UTF-8 and trimming after an edit: another well-formed text in the place of one that stands between `[` and `]`. Assumes nothing.
use Rattle.lists.proofs.Prelude.{◌≡◌, refl, ap, ◌∙◌, ℕ, suc, ◌+◌, ◌≤◌, arith, List, ◌∷◌, ◌++◌, length}
use Rattle.text_chars.specs.White.{white}
use Rattle.text_utf8.specs.Text.{Ink, blank, inked, Utf, whole, utf, utfs}
use Rattle.text_utf8.proofs.Steps.{place, place_is, utfs-append}
use Rattle.text_utf8.proofs.Like.{like-utf, like-utfs, like-ink, like-whole}
use Rattle.text_utf8.proofs.Moved.{move_utf, move-utfs}
use Rattle.text_utf8.proofs.Bounds.{Bnd, bnd-utf, bnd-utfs}
use Rattle.text_utf8.proofs.Solid.{ink-at, solid-open, solid-close, close-ink}
use Rattle.lexer.specs.Move.{ends_at}
use Rattle.lexer_laws.proofs.Replace.{ends-high}

-- after the `]`
record Tail (a q n e : ℕ) (post : List ℕ) (k : Ink) : Type 0 where
  l : ℕ
  ink : k ≡ inked a l
  from : suc e ≤ l
  to : l ≤ suc e + length post
  again : utfs (whole (inked a (suc (q + n)))) (suc (q + n)) post ≡ whole (inked a (ends_at q e n l))

tail-move : (a q n e : ℕ) (post : List ℕ) (l : ℕ) → utfs (whole (inked a (suc e))) (suc e) post ≡ whole (inked a l)
    → utfs (whole (inked a (suc (q + n)))) (suc (q + n)) post ≡ whole (inked a (ends_at q e n l))
tail-move a q n e post l h =
    let step : (j : ℕ) → suc e ≤ j → ends_at q e n (suc j) ≡ suc (ends_at q e n j) =
    (λ j c. omega (arith, ends-high q e n j (omega arith), ends-high q e n (suc j) (omega arith))) in
    let z : ends_at q e n (suc e) ≡ suc (q + n) = omega (arith, ends-high q e n (suc e) (omega arith)) in
    let m = move-utfs (ends_at q e n) (whole (inked a (suc e))) (suc e) post step tt in
    (rw z at m) ∙ ap (move_utf (ends_at q e n)) h

tail-bound : (a e : ℕ) (post : List ℕ) (l : ℕ) → a ≤ suc e → utfs (whole (inked a (suc e))) (suc e) post ≡ whole (inked a l) → (suc e ≤ l) × (l ≤ suc e + length post)
tail-bound a e post l c h =
    let b : Bnd (suc e) (place (suc e) post) (whole (inked a l)) = rw h at (bnd-utfs (suc e) (whole (inked a (suc e))) (suc e) post (c, omega arith, omega arith)) in
    (b.1, omega (arith, b.2, place_is (suc e) post))

tail : (a q n e : ℕ) (post : List ℕ) (k : Ink) → a ≤ suc e → utfs (whole (inked a (suc e))) (suc e) post ≡ whole k → Tail a q n e post k
tail a q n e post k c h = go (like-ink a k k (rw h at (like-utfs a (whole (inked a (suc e))) (whole (inked a (suc e))) (suc e) (suc e) post refl)))
  where
    go : (l : ℕ) × (k ≡ inked a l) → Tail a q n e post k
    go x =
        let h' : utfs (whole (inked a (suc e))) (suc e) post ≡ whole (inked a x.0) = h ∙ ap whole x.1 in
        let b = tail-bound a e post x.0 c h' in
        record { l = x.0; ink = x.1; from = b.0; to = b.1; again = tail-move a q n e post x.0 h' }

-- after the `[`
same-ink : (a a' q e : ℕ) (body : List ℕ) → utf (utfs (whole (inked a q)) q body) e 0x5d ≡ whole (inked a' (suc e)) → a' ≡ a
same-ink a a' q e body h =
    rw h at (like-utf a (utfs (whole (inked a q)) q body) (utfs (whole (inked a q)) q body) e e 0x5d
    (like-utfs a (whole (inked a q)) (whole (inked a q)) q q body refl))

new-ink : (a q : ℕ) (new post : List ℕ) (kn : Ink) → utfs (whole blank) 0 new ≡ whole kn
    → utfs (whole (inked a q)) q (new ++ (0x5d ∷ post)) ≡ utfs (whole (inked a (suc (q + length new)))) (suc (q + length new)) post
unfolding white
new-ink a q new post kn h =
    let w = like-whole a kn (utfs (whole (inked a q)) q new) (rw h at (like-utfs a (whole blank) (whole (inked a q)) 0 q new refl)) in
    rw (utfs-append, w.1, place_is q new, close-ink a w.0 (q + length new))

middle : (a q : ℕ) (body new post : List ℕ) (k kn : Ink) → a ≤ q → utfs (whole (inked a q)) q (body ++ (0x5d ∷ post)) ≡ whole k
    → utfs (whole blank) 0 new ≡ whole kn → Tail a q (length new) (q + length body) post k
middle a q body new post k kn c h hn =
    go (ink-at (utf (utfs (whole (inked a q)) q body) (q + length body) 0x5d) (q + length body) post k (solid-close (utfs (whole (inked a q)) q body) (q + length body)) h2)
  where
    h2 : utfs (utf (utfs (whole (inked a q)) q body) (q + length body) 0x5d) (suc (q + length body)) post ≡ whole k
    h2 = rw (utfs-append, place_is q body) at h

    go : (a' : ℕ) × (utf (utfs (whole (inked a q)) q body) (q + length body) 0x5d ≡ whole (inked a' (suc (q + length body))))
        → Tail a q (length new) (q + length body) post k
    go x =
        tail a q (length new) (q + length body) post k (omega arith)
        (rw (x.1, same-ink a x.0 q (q + length body) body x.1) at h2)

-- the text, with the ink of the old text and of the new one
pub record Kept (p body new post : List ℕ) (k : Ink) : Type 0 where
  pub a : ℕ
  pub l : ℕ
  pub ink : k ≡ inked a l
  pub begins : a ≤ suc (length p)
  pub from : suc (suc (length p) + length body) ≤ l
  pub to : l ≤ suc (suc (length p) + length body) + length post
  pub again : utfs (whole blank) 0 (p ++ (0x5b ∷ (new ++ (0x5d ∷ post))))
      ≡ whole (inked a (ends_at (suc (length p)) (suc (length p) + length body) (length new) l))

-- the new text is well formed, and its ink ends where the old one ended, moved
pub kept : (p body new post : List ℕ) (k kn : Ink) → utfs (whole blank) 0 (p ++ (0x5b ∷ (body ++ (0x5d ∷ post)))) ≡ whole k
    → utfs (whole blank) 0 new ≡ whole kn → Kept p body new post k
kept p body new post k kn hk hn =
    go (ink-at (utf (utfs (whole blank) 0 p) (length p) 0x5b) (length p) (body ++ (0x5d ∷ post)) k (solid-open (utfs (whole blank) 0 p) (length p)) h1)
  where
    at_p : place 0 p ≡ length p
    at_p = omega (arith, place_is 0 p)

    h1 : utfs (utf (utfs (whole blank) 0 p) (length p) 0x5b) (suc (length p)) (body ++ (0x5d ∷ post)) ≡ whole k
    h1 = rw (utfs-append, at_p) at hk

    bound : (a : ℕ) → utf (utfs (whole blank) 0 p) (length p) 0x5b ≡ whole (inked a (suc (length p))) → a ≤ suc (length p)
    bound a e =
        let b : Bnd 0 (suc (length p)) (whole (inked a (suc (length p)))) =
        rw e at (bnd-utf 0 (utfs (whole blank) 0 p) (length p) 0x5b (rw at_p at (bnd-utfs 0 (whole blank) 0 p (omega arith)))) in
        b.0

    build : (a : ℕ) → utf (utfs (whole blank) 0 p) (length p) 0x5b ≡ whole (inked a (suc (length p)))
        → Tail a (suc (length p)) (length new) (suc (length p) + length body) post k → Kept p body new post k
    build a e t =
        record {
          a = a;
          l = t.l;
          ink = t.ink;
          begins = bound a e;
          from = t.from;
          to = t.to;
          again = utfs-append (whole blank) 0 p (0x5b ∷ (new ++ (0x5d ∷ post)))
              ∙ ap (λ (o : ℕ). utfs (utfs (whole blank) 0 p) o (0x5b ∷ (new ++ (0x5d ∷ post)))) at_p
              ∙ ap (λ (u : Utf). utfs u (suc (length p)) (new ++ (0x5d ∷ post))) e
              ∙ new-ink a (suc (length p)) new post kn hn
              ∙ t.again;
        }

    go : (a : ℕ) × (utf (utfs (whole blank) 0 p) (length p) 0x5b ≡ whole (inked a (suc (length p)))) → Kept p body new post k
    go x = build x.0 x.1 (middle x.0 (suc (length p)) body new post k kn (bound x.0 x.1) (rw x.1 at h1) hn)
