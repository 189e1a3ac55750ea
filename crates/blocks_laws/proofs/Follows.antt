-- What is known, and the rows in lent memory, follow the state with its rows as lists, byte by byte. Assumes nothing.
use Rattle.lists.proofs.Prelude.{◌≡◌, refl, sym, ap, ◌∙◌, subst, subst⁻¹, ℕ, suc, ◌+◌, ◌≤◌, ◌<◌, arith, List, [], ◌++◌, append_assoc, append-nil, length, length-append, eq-eqb, ne_eqb, lt-ltb}
use Rattle.tables.specs.Numbers.{text_limit}
use Rattle.text_utf8.specs.Text.{Ink, blank, inked, Utf, whole, part, bad}
use Rattle.blocks_step.specs.declared.Utf8.{Utf8}
use Rattle.blocks_step.specs.declared.Utf8.TheVariants.{Whole, Within, Bad}
use Rattle.blocks_step.specs.declared.Char.{Char}
use Rattle.blocks_step.specs.declared.Moved.{Moved}
use Rattle.blocks_step.specs.Decode.{left_by, decodes}
use Rattle.blocks_step.specs.Lean.{moves}
use Rattle.blocks.specs.declared.BlocksKnown.{BlocksKnown}
use Rattle.blocks.specs.Room.{filled_with, rows_at, add_rows, Room, goes_back, goes, keeps, settled, takes_byte}
use Rattle.blocks_laws.specs.LocalsListed.{Listed, settles, lists}
use Rattle.blocks_laws.proofs.Owed.{owed, moves-owed, rows-threes}
use Rattle.blocks_laws.proofs.Stored.{Stored, Lent, lent_both, stored-less, Added, added}
use Rattle.blocks_laws.proofs.Utf8.{Begun, Steps, space, ink, partly, broken, whole-steps, part-steps}

-- the same with its rows as lists
abbrev pub listed_of : BlocksKnown → Utf → (rs hs : List (List ℕ)) → Listed
listed_of k v rs hs = record { total = k.total; utf8 = v; now = k.now; rows = rs; kept = k.kept; held = hs }

-- the end of the last character that is no white space
abbrev pub InkIs : Ink → ℕ → Type 0
InkIs blank l = l ≡ 0
InkIs (inked f e) l = (l ≡ e) × (0 < e)

-- the machine, and UTF-8 alone
abbrev pub UtfIs : Utf → Utf8 → ℕ → Type 0
UtfIs (whole k) u l = (u ≡ Whole) × InkIs k l
UtfIs (part k s n r c) u l = (u ≡ Within (left_by n r) s c) × Begun n r c × InkIs k l
UtfIs (bad p) u l = u ≡ Bad p

-- what is known, in memory that was lent as t, is this list of rows, of which those are kept
pub record Sim (t : List ℕ) (w : Room) (v : Utf) (rs hs : List (List ℕ)) : Type 0 where
  pub utf8 : UtfIs v w.known.utf8 w.known.last
  pub low : w.known.last ≤ w.known.total
  pub count : length rs ≡ w.known.count
  pub held : length hs ≡ w.known.held
  pub tail : List (List ℕ)
  pub more : rs ≡ hs ++ tail
  pub owes : length rs + owed w.known.now ≤ w.known.total
  pub keeps-owes : length hs + owed w.known.kept ≤ w.known.total
  pub stored : Stored rs w.cells
  pub lent : Lent t w.cells

-- one byte more, in memory and as lists
pub record Next (t : List ℕ) (w : Room) (s : Listed) : Type 0 where
  pub v : Utf
  pub rs : List (List ℕ)
  pub hs : List (List ℕ)
  pub sim : Sim t w v rs hs
  pub is : s ≡ listed_of w.known v rs hs

module _ (t : List ℕ) (w : Room) (v : Utf) (rs hs : List (List ℕ)) (x : Sim t w v rs hs) (b : ℕ) (small : w.known.total < text_limit) where
  abbrev m : Moved
  m = moves w.known.now w.known.total b

  abbrev news : List (List ℕ)
  news = rows_at m.tokens w.known.total

  abbrev s : Listed
  s = listed_of w.known v rs hs

  rows-added : Added rs news (filled_with w.known.count w.cells) (add_rows (filled_with w.known.count w.cells) news)
  rows-added =
      added news rs (filled_with w.known.count w.cells) (rows-threes m.tokens w.known.total) x.count
      (omega (arith, moves-owed w.known.now w.known.total b, x.owes, x.count, small)) x.stored

  sim-goes : (u : Utf8) (v' : Utf) → UtfIs v' u w.known.last → Sim t (goes u w b) v' (rs ++ news) hs
  unfolding goes
  sim-goes u v' h =
      let a = rows-added in
      let n : length (rs ++ news) ≡ length rs + length news = length-append rs news in
      record {
        utf8 = h;
        low = omega (arith, x.low);
        count = n ∙ omega (arith, a.count, x.count);
        held = x.held;
        tail = x.tail ++ news;
        more = ap (λ (z : List (List ℕ)). z ++ news) x.more ∙ append_assoc hs x.tail news;
        owes = omega (arith, n, moves-owed w.known.now w.known.total b, x.owes);
        keeps-owes = omega (arith, x.keeps-owes);
        stored = a.stored;
        lent = lent_both t w.cells (add_rows (filled_with w.known.count w.cells) news).cells x.lent a.lent;
      }

  next-goes : (u : Utf8) (v' : Utf) → UtfIs v' u w.known.last → (s' : Listed) → s' ≡ listed_of (goes u w b).known v' (rs ++ news) hs → Next t (goes u w b) s'
  next-goes u v' h s' e = record { v = v'; rs = rs ++ news; hs = hs; sim = sim-goes u v' h; is = e }

  next-keeps : (f : ℕ) → Next t (keeps (goes Whole w b)) (settles (whole (inked f (suc w.known.total))) s m)
  unfolding keeps goes
  next-keeps f =
      let a = rows-added in
      let n : length (rs ++ news) ≡ length rs + length news = length-append rs news in
      let c : length (rs ++ news) ≡ (add_rows (filled_with w.known.count w.cells) news).count = n ∙ omega (arith, a.count, x.count) in
      let o : length (rs ++ news) + owed m.next ≤ suc w.known.total = omega (arith, n, moves-owed w.known.now w.known.total b, x.owes) in
      record {
        v = whole (inked f (suc w.known.total));
        rs = rs ++ news;
        hs = rs ++ news;
        sim = record {
          utf8 = (refl, (refl, omega arith));
          low = omega arith;
          count = c;
          held = c;
          tail = [];
          more = sym (append-nil (rs ++ news));
          owes = o;
          keeps-owes = o;
          stored = a.stored;
          lent = lent_both t w.cells (add_rows (filled_with w.known.count w.cells) news).cells x.lent a.lent;
        };
        is = rw (eq-eqb (suc w.known.total) (suc w.known.total) refl);
      }

  next-back : w.known.last ≡ 0 → Next t (goes_back w) (settles (whole blank) s m)
  unfolding goes_back
  next-back e =
      record {
        v = whole blank;
        rs = hs;
        hs = hs;
        sim = record {
          utf8 = (refl, e);
          low = omega (arith, e);
          count = x.held;
          held = x.held;
          tail = [];
          more = sym (append-nil hs);
          owes = omega (arith, x.keeps-owes);
          keeps-owes = omega (arith, x.keeps-owes);
          stored = stored-less hs x.tail w.cells (subst (λ (z : List (List ℕ)). Stored z w.cells) x.more x.stored);
          lent = x.lent;
        };
        is = refl;
      }

  next-by : (k : Ink) → InkIs k w.known.last → (v' : Utf) (c : Char) → Steps k w.known.total v' c → Next t (settled c w b) (settles v' s m)
  unfolding goes
  next-by blank h _ _ space = rw (eq-eqb w.known.last 0 h) (next-back h)
  next-by (inked f e) h _ _ space =
      rw (ne_eqb w.known.last 0 (λ z. absurd (omega (arith, z, h.0, h.1))), ne_eqb e (suc w.known.total) (λ z. absurd (omega (arith, z, h.0, x.low))))
      (next-goes Whole (whole (inked f e)) (refl, h) _ refl)
  next-by k h _ _ (ink f) = next-keeps f
  next-by k h _ _ (partly p n r c g) = next-goes (Within (left_by n r) p c) (part k p n r c) (refl, g, h) _ refl
  next-by k h _ _ (broken p) = next-goes (Bad p) (bad p) refl _ refl

  next-bad : (p : ℕ) → Next t (settled (decodes (Bad p) w.known.total b) w b) (settles (bad p) s m)
  unfolding decodes goes
  next-bad p = next-goes (Bad p) (bad p) refl _ refl

-- by where UTF-8 stands
next-char : (t : List ℕ) (w : Room) (v : Utf) (rs hs : List (List ℕ)) → Sim t w v rs hs → (b : ℕ) → w.known.total < text_limit
    → Next t (settled (decodes w.known.utf8 w.known.total b) w b) (lists (listed_of w.known v rs hs) b)
next-char t w (whole k) rs hs x b small =
    subst⁻¹ (λ (u : Utf8). Next t (settled (decodes u w.known.total b) w b) (lists (listed_of w.known (whole k) rs hs) b)) x.utf8.0
    (next-by t w (whole k) rs hs x b small k x.utf8.1 _ _ (whole-steps k w.known.total b))
next-char t w (part k s n r c) rs hs x b small =
    subst⁻¹ (λ (u : Utf8). Next t (settled (decodes u w.known.total b) w b) (lists (listed_of w.known (part k s n r c) rs hs) b)) x.utf8.0
    (next-by t w (part k s n r c) rs hs x b small k x.utf8.2 _ _ (part-steps k s n r c w.known.total b x.utf8.1))
next-char t w (bad p) rs hs x b small =
    subst⁻¹ (λ (u : Utf8). Next t (settled (decodes u w.known.total b) w b) (lists (listed_of w.known (bad p) rs hs) b)) x.utf8
    (next-bad t w (bad p) rs hs x b small p)

-- one byte
pub next-takes : (t : List ℕ) (w : Room) (v : Utf) (rs hs : List (List ℕ)) → Sim t w v rs hs → (b : ℕ) → w.known.total < text_limit → Next t (takes_byte w b) (lists (listed_of w.known v rs hs) b)
unfolding takes_byte
next-takes t w v rs hs x b small = rw (lt-ltb w.known.total text_limit small) (next-char t w v rs hs x b small)
