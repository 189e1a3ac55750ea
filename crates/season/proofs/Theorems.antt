-- The tag of a counted line is that of the bytes that the writer gives; a line of a text of at most 65,536 bytes is small. Assumes nothing.
use Rattle.lists.proofs.Prelude.{ℕ, zero, suc, ◌+◌, ◌^◌, ◌<◌, ◌≤◌, Bool, true, false, List, [], ◌∷◌, ◌≡◌, refl, sym, ap, ◌∙◌, subst, inl, inr, arith, length, take, get_or, replicate, set, get_or-set_same, get_or-set_other, pick}
use Rattle.lists.specs.All.{All}
use Rattle.lists.proofs.Tests.{never, same_or}
use Rattle.tables.specs.Each.{sum}
use Rattle.tables.specs.Record.{Tree, all_nodes, all_props}
use Rattle.tables.specs.Rows.{tables, parents}
use Rattle.tables.specs.Memory.{Memory}
use Rattle.tables.proofs.Lengths.{prop-rows-length, node-rows-length}
use Rattle.fit.specs.Record.{record_in}
use Rattle.parser.specs.Read.{Answer, refused, accepted, read_strict}
use Rattle.reader.specs.Lent.{Lent, roomy}
use Rattle.reader.proofs.Rooms.{tree-count}
use Rattle.reader_laws.proofs.Enough.{strict-enough}
use Rattle.serialize.specs.Form.{writing, written, WriteIs}
use Rattle.season_tag.specs.Tag.{tag_of}
use Rattle.season_tally.specs.Tally.{tally_of, counts_as, is_black, is_white, is_passed}
use Rattle.season_tally.proofs.Writes.{wrote-first}
use Rattle.season_tally.specs.declared.Played.{Played}
use Rattle.season_tally.specs.declared.Played.TheVariants.{Black, White, Passed, Nothing}
use Rattle.season_totals.specs.Totals.{no_sums, totals_of, small_sums}
use Rattle.season_totals.specs.Columns.{small_line}
use Rattle.season_totals.specs.declared.Line.{Line}
use Rattle.season_totals.specs.declared.Line.TheVariants.{Unread, Refused, Counted}
use Rattle.season_totals.specs.declared.Tally.{Tally}
use Rattle.season_totals.proofs.Theorems.{totals-fit}
use Rattle.season.specs.Season.{written_with, line_by, line_of, RecordLineIs, SeasonLine}
use Rattle.std.specs.Prelude.{Result, Ok, Err}
use Rattle.tables.specs.declared.Reason.{Reason}

by-counted : (w : Result ℕ Reason) (ts : List Tree) (c : Tally) (g : ℕ) → Counted c g ≡ line_by w ts → (c ≡ tally_of ts) × (g ≡ tag_of (writing ts))
by-counted (Ok n) ts c g e = (cc, cc)
by-counted (Err r) ts c g e = never cc

-- what a counted line says of a text: it was read as a record, and these are the record's tally and the tag of its writing
pub line-counts : (a : Answer) (before : Lent) (room : ℕ) (c : Tally) (g : ℕ) → Counted c g ≡ line_of a before room
    → (ts : List Tree) × (a ≡ accepted ts) × (c ≡ tally_of ts) × (g ≡ tag_of (writing ts))
unfolding line_of
line-counts (refused r p) before room c g e = never cc
line-counts (accepted ts) before room c g e = go (roomy (tables ts) before) e
  where
    go : (f : Bool) → Counted c g ≡ pick f (line_by (written_with ts room) ts) (Refused 14) → (us : List Tree) × (accepted ts ≡ accepted us) × (c ≡ tally_of us) × (g ≡ tag_of (writing us))
    go true h = let x = by-counted (written_with ts room) ts c g h in (ts, refl, x.0, x.1)
    go false h = never cc

-- the tag of a counted record is that of the bytes which the writer gives for the same record, in any room
pub line-tag : (m : Memory) (out out' : List ℕ) (c : Tally) (g : ℕ) → RecordLineIs m out out' (Counted c g)
    → (lent bytes : List ℕ) (n : ℕ) → WriteIs m lent bytes (Ok n) → g ≡ tag_of (take n bytes)
line-tag m out out' c g x lent bytes n w =
    (by-counted (written m (length out)) (record_in m) c g x.line).1 ∙ ap tag_of (sym (wrote-first m lent bytes w refl))

-- ---- a line is small

sum_ones : (f : ℕ → ℕ) (n : ℕ) → ((p : ℕ) → f p ≤ 1) → sum f n ≤ n
unfolding sum
sum_ones f zero h = omega arith
sum_ones f (suc n) h = let r = sum_ones f n h in let s = h n in omega arith

black-one : (w : Played) → is_black w ≤ 1
black-one Black = omega arith
black-one White = omega arith
black-one Passed = omega arith
black-one Nothing = omega arith

white-one : (w : Played) → is_white w ≤ 1
white-one Black = omega arith
white-one White = omega arith
white-one Passed = omega arith
white-one Nothing = omega arith

passed-one : (w : Played) → is_passed w ≤ 1
passed-one Black = omega arith
passed-one White = omega arith
passed-one Passed = omega arith
passed-one Nothing = omega arith

zeros-small : (n k : ℕ) → get_or (replicate n 0) k 0 ≤ 2 ^ 17
zeros-small zero k = omega arith
zeros-small (suc n) zero = omega arith
zeros-small (suc n) (suc k) = zeros-small n k

-- no column of a tally is above n
pub record TallyBelow (t : Tally) (n : ℕ) : Type 0 where
  pub trees : t.trees ≤ n
  pub nodes : t.nodes ≤ n
  pub black : t.black ≤ n
  pub white : t.white ≤ n
  pub passes : t.passes ≤ n

-- of a text that is read, the length of the text
pub tally-below : (t : List ℕ) (ts : List Tree) → read_strict t ≡ accepted ts → TallyBelow (tally_of ts) (length t)
unfolding tally_of
tally-below t ts h =
    let s = strict-enough false t ts h refl in
    let a : length (tables ts).trees ≡ length ts = tree-count ts in
    let b : length (tables ts).nodes ≡ length (all_nodes ts) = node-rows-length (parents (all_nodes ts)) 0 0 (all_nodes ts) in
    let d : length (tables ts).props ≡ length (all_props (all_nodes ts)) = prop-rows-length 0 (all_props (all_nodes ts)) in
    let n : ℕ = length (all_props (all_nodes ts)) in
    let e = sum_ones (λ p. is_black (counts_as ts p)) (length (all_props (all_nodes ts))) (λ p. black-one (counts_as ts p)) in
    let f = sum_ones (λ p. is_white (counts_as ts p)) (length (all_props (all_nodes ts))) (λ p. white-one (counts_as ts p)) in
    let g = sum_ones (λ p. is_passed (counts_as ts p)) (length (all_props (all_nodes ts))) (λ p. passed-one (counts_as ts p)) in
    record {
      trees = omega (arith, s.0, a);
      nodes = omega (arith, s.1, b);
      black = omega (arith, s.2, d, e);
      white = omega (arith, s.2, d, f);
      passes = omega (arith, s.2, d, g);
    }

refused-small : (n : ℕ) → small_line (Refused n)
refused-small n k h =
    same_or (6 + n) k
    (λ z. subst (λ (j : ℕ). get_or (set no_sums (6 + n) 1) j 0 ≤ 2 ^ 17) z (let e = get_or-set_same no_sums (6 + n) 1 0 (omega arith) in omega arith))
    (λ z. let e = get_or-set_other no_sums (6 + n) k 1 0 (λ y. z (sym y)) in let f = zeros-small 38 k in omega arith)

counted-small : (c : Tally) (g n : ℕ) → TallyBelow c n → n ≤ 65536 → small_line (Counted c g)
counted-small c g n b l zero h = omega arith
counted-small c g n b l (suc zero) h = let x = b.trees in omega arith
counted-small c g n b l (suc (suc zero)) h = let x = b.nodes in omega arith
counted-small c g n b l (suc (suc (suc zero))) h = let x = b.black in omega arith
counted-small c g n b l (suc (suc (suc (suc zero)))) h = let x = b.white in omega arith
counted-small c g n b l (suc (suc (suc (suc (suc zero))))) h = let x = b.passes in omega arith
counted-small c g n b l (suc (suc (suc (suc (suc (suc k)))))) h = zeros-small 32 k

-- no column of a line of a text of at most 65,536 bytes is above 2 ^ 17
pub line_small : (t : List ℕ) (before : Lent) (room : ℕ) → length t ≤ 65536 → small_line (line_of (read_strict t) before room)
line_small t before room l = go (line_of (read_strict t) before room) refl
  where
    go : (r : Line) → r ≡ line_of (read_strict t) before room → small_line r
    go Unread e = λ k h. zeros-small 38 k
    go (Refused n) e = refused-small n
    go (Counted c g) e =
        let x = line-counts (read_strict t) before room c g e in
        counted-small c g (length t) (subst (λ (z : Tally). TallyBelow z (length t)) (sym x.2) (tally-below t x.0 x.1)) l

pub season-small : (l : Line) → SeasonLine l → small_line l
season-small l (inl e) = subst small_line (sym e) (λ k h. zeros-small 38 k)
season-small l (inr (inl (n, e))) = subst small_line (sym e) (refused-small n)
season-small l (inr (inr (t, before, room, h, e))) = subst small_line (sym e) (line_small t before room h)

all_small : (ls : List Line) → All SeasonLine ls → All small_line ls
all_small [] h = tt
all_small (l ∷ ls) h = (season-small l h.0, all_small ls h.1)

-- no sum of a season of fewer than 2 ^ 47 files reaches 2 ^ 64
pub season-fits : (ls : List Line) → All SeasonLine ls → length ls < 2 ^ 47 → small_sums (totals_of ls) ≡ true
season-fits ls h n = totals-fit ls (all_small ls h) n
