-- The state after all bytes of a text ends as one reading of it. Assumes nothing.
use Rattle.lists.proofs.Prelude.{◌≡◌, refl, sym, ap, ap₂, ◌∙◌, subst⁻¹, ℕ, suc, arith, Bool, true, false, List, [], ◌∷◌, ◌++◌, append_assoc, eqb, pick, length, take, drop, length-append, take_at, drop_at}
use Rattle.text_utf8.specs.Text.{blank, inked, Utf, whole, part, bad, utf, utfs}
use Rattle.text_utf8.specs.Trim.{trim_of, trimmed}
use Rattle.text_utf8.proofs.Steps.{place, place_is, utfs-append}
use Rattle.lexer.specs.Token.{Tok, End, emits, state_after, lex_from}
use Rattle.lexer.specs.Token as machine
use Rattle.blocks_step.specs.declared.Phase.{Phase}
use Rattle.blocks_step.specs.declared.Moved.{Moved}
use Rattle.blocks_step.specs.Lean.{machine_of, moves}
use Rattle.blocks_laws.specs.Reading.{read_end, read_trimmed, token_rows}
use Rattle.blocks_laws.specs.LocalsListed.{Listed, begun, settles, lists, listed_end}
use Rattle.blocks_laws.proofs.Leans.{after-mild, finish-lean, rows_append}
use Rattle.blocks_laws.proofs.Tracks.{at_none, Run, Tracks, byte-tracks}

-- what the state knows of the bytes so far
pub record Tracked (xs : List ℕ) (s : Listed) : Type 0 where
  pub total : s.total ≡ length xs
  pub utf8 : s.utf8 ≡ utfs (whole blank) 0 xs
  pub tracks : Tracks xs s.utf8 s

-- ---- a byte

pick_total : (c : Bool) (x y : Listed) (n : ℕ) → x.total ≡ n → y.total ≡ n → (pick c x y).total ≡ n
pick_total true x y n h k = h
pick_total false x y n h k = k

pick-utf : (c : Bool) (x y : Listed) (u : Utf) → x.utf8 ≡ u → y.utf8 ≡ u → (pick c x y).utf8 ≡ u
pick-utf true x y u h k = h
pick-utf false x y u h k = k

settles-total : (u : Utf) (s : Listed) (m : Moved) → (settles u s m).total ≡ suc s.total
settles-total (whole blank) s m = refl
settles-total (whole (inked f l)) s m = pick_total (eqb l (suc s.total)) _ _ _ refl refl
settles-total (part k p n r c) s m = refl
settles-total (bad p) s m = refl

settles-utf : (u : Utf) (s : Listed) (m : Moved) → (settles u s m).utf8 ≡ u
settles-utf (whole blank) s m = refl
settles-utf (whole (inked f l)) s m = pick-utf (eqb l (suc s.total)) _ _ _ refl refl
settles-utf (part k p n r c) s m = refl
settles-utf (bad p) s m = refl

pub tracked-more : (xs : List ℕ) (s : Listed) (b : ℕ) → Tracked xs s → Tracked (xs ++ (b ∷ [])) (lists s b)
tracked-more xs s b h =
    let m = moves s.now s.total b in
    let v = utf s.utf8 s.total b in
    let pl : place 0 xs ≡ s.total = omega (arith, place_is 0 xs, h.total) in
    record {
      total = settles-total v s m ∙ omega (arith, h.total, length-append xs (b ∷ []));
      utf8 = settles-utf v s m ∙ ap₂ (λ (u : Utf) (n : ℕ). utf u n b) h.utf8 (sym pl) ∙ sym (utfs-append (whole blank) 0 xs (b ∷ []));
      tracks = subst⁻¹ (λ (u : Utf). Tracks (xs ++ (b ∷ [])) u (settles v s m)) (settles-utf v s m) (byte-tracks xs s b h.total s.utf8 h.tracks);
    }

pub tracked-none : Tracked [] begun
tracked-none = record { total = refl; utf8 = refl; tracks = record { now = at_none 0; kept = at_none 0 } }

-- ---- the end

kept-part : (t : List ℕ) (f l : ℕ) (s : Listed) (h : Run t f l s) → drop f (take l t) ≡ h.mid
kept-part t f l s h =
    let a : take l t ≡ h.pre ++ h.mid = ap (take l) (h.is ∙ sym (append_assoc h.pre h.mid h.tail))
    ∙ take_at (h.pre ++ h.mid) h.tail l (omega (arith, length-append h.pre h.mid, h.from, h.to)) in
    ap (drop f) a ∙ drop_at h.pre h.mid f h.from

run-read : (t : List ℕ) (f l : ℕ) (s : Listed) → Run t f l s
    → listed_end (whole (inked f l)) s ≡ read_end (lex_from f l (drop f (take l t))).end (token_rows (lex_from f l (drop f (take l t))).toks)
run-read t f l s h =
    let d = kept-part t f l s h in
    let st = state_after machine.between f h.mid in
    let F = finish-lean st l (after-mild machine.between f h.mid tt) in
    let e : (machine.finish (machine_of s.kept) l).end ≡ (lex_from f l h.mid).end = ap (λ (p : Phase). (machine.finish (machine_of p) l).end) h.kept.phase ∙ sym F.1 in
    let r : s.held ++ token_rows (machine.finish (machine_of s.kept) l).toks ≡ token_rows (lex_from f l h.mid).toks =
    ap₂ (λ (x : List (List ℕ)) (p : Phase). x ++ token_rows (machine.finish (machine_of p) l).toks) h.kept.rows h.kept.phase
    ∙ ap (λ (x : List (List ℕ)). token_rows (emits machine.between f h.mid) ++ x) (sym F.0)
    ∙ sym (rows_append (emits machine.between f h.mid) (machine.finish st l).toks) in
    ap₂ read_end e r ∙ ap (λ (z : List ℕ). read_end (lex_from f l z).end (token_rows (lex_from f l z).toks)) (sym d)

ends_read : (t : List ℕ) (s : Listed) (u : Utf) → Tracks t u s → listed_end u s ≡ read_trimmed (trim_of u) t
ends_read t s (whole blank) h = refl
ends_read t s (whole (inked f l)) h = run-read t f l s h
ends_read t s (part k p n r c) h = refl
ends_read t s (bad p) h = refl

pub tracked-read : (t : List ℕ) (s : Listed) → Tracked t s → listed_end s.utf8 s ≡ read_trimmed (trimmed t) t
unfolding trimmed
tracked-read t s h = ends_read t s s.utf8 h.tracks ∙ ap (λ (u : Utf). read_trimmed (trim_of u) t) h.utf8
