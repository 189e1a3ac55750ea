-- Blocks of a text, however it was cut, are one reading of the joined text. Assumes nothing.
use Rattle.lists.proofs.Prelude.{◌≡◌, refl, sym, ap, ap₂, ◌∙◌, subst, subst⁻¹, ℕ, ◌+◌, ◌≤◌, ◌<◌, arith, Bool, true, false, List, [], ◌∷◌, ◌++◌, append_assoc, append-nil, length, length-append, eqb, eq-eqb, leb, leb-true, leb-false, le-ltb, ltb, ltb-true, ltb-false, pick, ◌/◌}
use Rattle.lists.proofs.Tests.{same_or}
use Rattle.tables.specs.Numbers.{text_limit}
use Rattle.text_utf8.specs.Text.{Utf, whole, blank}
use Rattle.text_utf8.specs.Trim.{trimmed}
use Rattle.blocks.specs.declared.BlocksState.{BlocksState}
use Rattle.blocks.specs.declared.Blocked.{Blocked}
use Rattle.blocks.specs.declared.Closed.{Closed}
use Rattle.blocks.specs.declared.Closing.{Closing}
use Rattle.blocks.specs.declared.Closing.TheVariants.{Refused}
use Rattle.blocks.specs.State.{utf8_by, phase_by, state_says, state_of}
use Rattle.blocks.specs.Room.{Room, room, past_limit, takes_byte, takes_all}
use Rattle.blocks.specs.Block.{after_block, BlockIs}
use Rattle.blocks.specs.Close.{closing, closed_by, cells_by, closed_before, CloseIs}
use Rattle.blocks.proofs.Ending.{ends-long}
use Rattle.blocks_laws.specs.Reading.{TokenReading, not_read, read_trimmed, read_tokens}
use Rattle.blocks_laws.specs.Calls.{at_start, BlockCalls, no_more, one_more, joined_text, ReadAs}
use Rattle.blocks_laws.specs.LocalsListed.{Listed}
use Rattle.blocks_laws.proofs.Numbers.{says-state}
use Rattle.blocks_laws.proofs.Stored.{Lent, lent_same, stored-none}
use Rattle.blocks_laws.proofs.Closes.{refused_as}
use Rattle.blocks_laws.proofs.Ends.{ended-as}
use Rattle.blocks_laws.proofs.Tracked.{Tracked, tracked-none, tracked-more, tracked-read}
use Rattle.blocks_laws.proofs.Follows.{listed_of, Sim, next-takes}

-- the bytes so far, as lists
pub record Within (t xs : List ℕ) (w : Room) : Type 0 where
  pub v : Utf
  pub rs : List (List ℕ)
  pub hs : List (List ℕ)
  pub sim : Sim t w v rs hs
  pub tracked : Tracked xs (listed_of w.known v rs hs)

-- what is known after the bytes xs, with t lent for rows
pub record Follows (t xs : List ℕ) (w : Room) : Type 0 where
  pub lent : Lent t w.cells
  pub within : length xs ≤ text_limit → Within t xs w
  pub beyond : text_limit < length xs → w.known.total ≡ 1048577

pub follows-none : (t : List ℕ) → Follows t [] (room (state_says at_start) t)
unfolding utf8_by phase_by
follows-none t =
    record {
      lent = lent_same t;
      within = λ h. record {
        v = whole blank;
        rs = [];
        hs = [];
        sim = record {
          utf8 = (refl, refl);
          low = omega arith;
          count = refl;
          held = refl;
          tail = [];
          more = refl;
          owes = omega arith;
          keeps-owes = omega arith;
          stored = stored-none t;
          lent = lent_same t;
        };
        tracked = tracked-none;
      };
      beyond = λ h. absurd (omega (arith, h));
    }

-- ---- a byte

module _ (t xs : List ℕ) (w : Room) (b : ℕ) (f : Follows t xs w) where
  abbrev more : List ℕ
  more = xs ++ (b ∷ [])

  longer : length more ≡ length xs + 1
  longer = length-append xs (b ∷ [])

  past_is : text_limit ≤ w.known.total → takes_byte w b ≡ past_limit w
  unfolding takes_byte
  past_is h = rw (le-ltb w.known.total text_limit h)

  follows-past : text_limit ≤ length xs → text_limit ≤ w.known.total → Follows t more (takes_byte w b)
  unfolding past_limit
  follows-past l h =
      record {
        lent = subst⁻¹ (λ (z : Room). Lent t z.cells) (past_is h) f.lent;
        within = λ g. absurd (omega (arith, g, l, longer));
        beyond = λ g. ap (λ (z : Room). z.known.total) (past_is h);
      }

  follows_on : length xs < text_limit → Follows t more (takes_byte w b)
  follows_on l =
      let i = f.within (omega (arith, l)) in
      let n = next-takes t w i.v i.rs i.hs i.sim b (omega (arith, l, i.tracked.total)) in
      record {
        lent = n.sim.lent;
        within = λ g. record {
          v = n.v;
          rs = n.rs;
          hs = n.hs;
          sim = n.sim;
          tracked = subst (λ (z : Listed). Tracked more z) n.is (tracked-more xs (listed_of w.known i.v i.rs i.hs) b i.tracked);
        };
        beyond = λ g. absurd (omega (arith, g, l, longer));
      }

  pub follows-more : Follows t more (takes_byte w b)
  follows-more = go (leb text_limit (length xs)) refl
    where
      go : (c : Bool) → leb text_limit (length xs) ≡ c → Follows t more (takes_byte w b)
      go true e =
          let l = leb-true text_limit (length xs) e in
          same_or (length xs) text_limit
          (λ q. follows-past l (omega (arith, q, (f.within (omega (arith, q))).tracked.total)))
          (λ q. follows-past l (omega (arith, f.beyond (omega (arith, q, l)))))
      go false e = follows_on (leb-false text_limit (length xs) e)

pub follows-all : (t xs : List ℕ) (w : Room) (bs : List ℕ) → Follows t xs w → Follows t (xs ++ bs) (takes_all w bs)
follows-all t xs w [] f = subst⁻¹ (λ (z : List ℕ). Follows t z w) (append-nil xs) f
follows-all t xs w (b ∷ bs) f =
    subst (λ (z : List ℕ). Follows t z (takes_all (takes_byte w b) bs)) (append_assoc xs (b ∷ []) bs) (follows-all t (xs ++ (b ∷ [])) (takes_byte w b) bs (follows-more t xs w b f))

-- ---- calls

-- open, and what is known
pub record Open (t xs : List ℕ) (s : BlocksState) (t' : List ℕ) : Type 0 where
  pub closed : s.closed ≡ 0
  pub follows : Follows t xs (room (state_says s) t')

block-open : (t xs : List ℕ) (s : BlocksState) (t' bs : List ℕ) (r : Blocked) (t'' : List ℕ) → Open t xs s t' → BlockIs s bs t' r t'' → Open t (xs ++ bs) r.state t''
block-open t xs s t' bs r t'' o h =
    let c = eq-eqb s.closed 0 o.closed in
    let e : r.state ≡ state_of (after_block s bs t').known =
    ap (λ (z : Blocked). z.state) h.answer
    ∙ ap (λ (z : Bool). (pick {A = Blocked} z (record { number = 0; state = state_of (after_block s bs t').known }) (record { number = 20; state = s })).state) c in
    let q : t'' ≡ (after_block s bs t').cells = h.rows ∙ ap (λ (z : Bool). pick z (after_block s bs t').cells t') c in
    let k : state_says r.state ≡ (after_block s bs t').known = ap state_says e ∙ says-state (after_block s bs t').known in
    record {
      closed = ap (λ (z : BlocksState). z.closed) e;
      follows = subst⁻¹ (λ (z : Room). Follows t (xs ++ bs) z) (ap₂ room k q) (follows-all t xs (room (state_says s) t') bs o.follows);
    }

calls-open : (t xs : List ℕ) {s s' : BlocksState} {t1 t2 : List ℕ} {bs : List (List ℕ)} → BlockCalls s t1 bs s' t2 → Open t xs s t1 → Open t (xs ++ joined_text bs) s' t2
calls-open t xs {s} {s'} {t1} {t2} no_more o = subst⁻¹ (λ (z : List ℕ). Open t z s t1) (append-nil xs) o
calls-open t xs {s} {s'} {t1} {t2} (one_more {x = x} {t1 = t3} {r = r} {xs = bs} h rest) o =
    subst (λ (z : List ℕ). Open t z s' t2) (append_assoc xs x (joined_text bs)) (calls-open t (xs ++ x) rest (block-open t xs s t1 x r t3 o h))

-- ---- close

open-read : (t xs : List ℕ) (s : BlocksState) (t' : List ℕ) (r : Closed) (t'' : List ℕ) → Open t xs s t' → CloseIs s t' r t'' → ReadAs (read_tokens xs) t r t''
unfolding read_tokens
open-read t xs s t' r t'' o h = go (ltb text_limit (length xs)) refl
  where
    c : eqb s.closed 0 ≡ true
    c = eq-eqb s.closed 0 o.closed

    a : r ≡ closed_by (closing (state_says s)) s (length t' / 3)
    a = h.answer ∙ ap (λ (z : Bool). pick z (closed_by (closing (state_says s)) s (length t' / 3)) (closed_before s)) c

    b : t'' ≡ cells_by (closing (state_says s)) t'
    b = h.rows ∙ ap (λ (z : Bool). pick z (cells_by (closing (state_says s)) t') t') c

    go : (d : Bool) → ltb text_limit (length xs) ≡ d → ReadAs (pick d (not_read 1 0) (read_trimmed (trimmed xs) xs)) t r t''
    go true e =
        let g = o.follows.beyond (ltb-true text_limit (length xs) e) in
        let q : closing (state_says s) ≡ Refused 1 0 = sym (ends-long (state_says s) (omega (arith, g))) in
        refused_as t t' o.follows.lent s r t'' 1 0 (a ∙ ap (λ (z : Closing). closed_by z s (length t' / 3)) q) (b ∙ ap (λ (z : Closing). cells_by z t') q)
    go false e =
        let l = ltb-false text_limit (length xs) e in
        let i = o.follows.within l in
        subst (λ (z : TokenReading). ReadAs z t r t'') (tracked-read xs (listed_of (state_says s) i.v i.rs i.hs) i.tracked)
        (ended-as t t' (state_says s) s r t'' i.v i.rs i.hs i.sim (omega (arith, l, i.tracked.total)) (a, b))

-- blocks of any length, however the text was cut
pub blocks-joined : (t : List ℕ) (bs : List (List ℕ)) (s : BlocksState) (t' : List ℕ) (r : Closed) (t'' : List ℕ) → BlockCalls at_start t bs s t' → CloseIs s t' r t'' → ReadAs (read_tokens (joined_text bs)) t r t''
blocks-joined t bs s t' r t'' c h = open-read t (joined_text bs) s t' r t'' (calls-open t [] c (record { closed = refl; follows = follows-none t })) h
