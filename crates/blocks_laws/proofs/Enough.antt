-- A text has no more tokens than bytes, so that as many rows never give 14. Assumes nothing.
use Rattle.lists.proofs.Prelude.{◌≡◌, refl, ap, ◌∙◌, ℕ, ◌≤◌, arith, Bool, true, false, List, [], ◌++◌, length, length-append, ltb, ltb-false, pick}
use Rattle.lists.proofs.Tests.{never}
use Rattle.tables.specs.Numbers.{text_limit}
use Rattle.text_utf8.specs.Text.{Utf, whole, blank, inked, part, bad}
use Rattle.text_utf8.specs.Trim.{trimmed}
use Rattle.lexer.specs.Token.{End, done, broken, finish}
use Rattle.blocks_step.specs.Lean.{machine_of}
use Rattle.blocks.specs.State.{state_says}
use Rattle.blocks.specs.Room.{Room, room, takes_all}
use Rattle.blocks_laws.specs.Reading.{tokens_read, not_read, read_end, read_trimmed, read_tokens, token_rows}
use Rattle.blocks_laws.specs.Calls.{at_start}
use Rattle.blocks_laws.specs.LocalsListed.{listed_end}
use Rattle.blocks_laws.proofs.Owed.{finish-owed}
use Rattle.blocks_laws.proofs.Tracked.{tracked-read}
use Rattle.blocks_laws.proofs.Follows.{listed_of, Sim}
use Rattle.blocks_laws.proofs.Joined.{follows-none, follows-all}

same-tokens : (xs ys : List (List ℕ)) → tokens_read xs ≡ tokens_read ys → length ys ≡ length xs
same-tokens xs ys e = let z : ys ≡ xs = cc in ap length z

ended-rows : (e : End) (xs ys : List (List ℕ)) → read_end e xs ≡ tokens_read ys → length ys ≡ length xs
ended-rows done xs ys h = same-tokens xs ys h
ended-rows (broken f s) xs ys h = never (cc)

listed-short : (t : List ℕ) (w : Room) (v : Utf) (rs hs ys : List (List ℕ)) → Sim t w v rs hs → listed_end v (listed_of w.known v rs hs) ≡ tokens_read ys → length ys ≤ w.known.total
listed-short t w (whole blank) rs hs ys x e = omega (arith, same-tokens [] ys e)
listed-short t w (whole (inked f l)) rs hs ys x e =
    let n = ended-rows (finish (machine_of w.known.kept) l).end (hs ++ token_rows (finish (machine_of w.known.kept) l).toks) ys e in
    omega (arith, n, length-append hs (token_rows (finish (machine_of w.known.kept) l).toks), finish-owed w.known.kept l, x.keeps-owes)
listed-short t w (part k p n r c) rs hs ys x e = never (cc)
listed-short t w (bad p) rs hs ys x e = never (cc)

pub enough-rows : (t : List ℕ) (ys : List (List ℕ)) → read_tokens t ≡ tokens_read ys → length ys ≤ length t
unfolding read_tokens
enough-rows t ys = go (ltb text_limit (length t)) refl
  where
    go : (b : Bool) → ltb text_limit (length t) ≡ b → pick b (not_read 1 0) (read_trimmed (trimmed t) t) ≡ tokens_read ys → length ys ≤ length t
    go true e h = never (cc)
    go false e h =
        let i = (follows-all [] [] (room (state_says at_start) []) t (follows-none [])).within (ltb-false text_limit (length t) e) in
        let w = takes_all (room (state_says at_start) []) t in
        let l = listed-short [] w i.v i.rs i.hs ys i.sim (tracked-read t (listed_of w.known i.v i.rs i.hs) i.tracked ∙ h) in
        omega (arith, l, i.tracked.total)
