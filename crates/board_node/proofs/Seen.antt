-- A move that is seen at once is all that its node does. Assumes nothing.
use Rattle.lists.proofs.Prelude.{ℕ, suc, ◌+◌, ◌*◌, ◌-◌, ◌/◌, ◌<◌, ◌≤◌, Bool, true, false, ◌&&◌, ◌||◌, ◌≡◌, refl, sym, ap, ap₂, ◌∙◌, subst, List, [], ◌∷◌, ◌++◌, length, get_or, pick, leb, leb-true, le-leb, eqb, eqb-true, eq-eqb, ne_eqb, lt-ltb, arith}
use Rattle.lists.proofs.Tests.{and_both, same_or}
use Rattle.lists.specs.Same.{same}
use Rattle.tables.proofs.Cases.{either-bool}
use Rattle.tables.specs.Columns.{property_stride, name_from_at, name_to_at, first_val_at, val_count_at}
use Rattle.tables.specs.Each.{tabulate}
use Rattle.values.specs.Read.{read_from, read_value, read_identifier}
use Rattle.parts.specs.Rows.{cut, value_at, values_at}
use Rattle.parts_props.specs.Props.{Property, rows_from, identifier_at, property_at, properties_at}
use Rattle.go_points.specs.Area.{letter_of, move_to, move_of}
use Rattle.go_points.specs.declared.Value.TheVariants.{Move}
use Rattle.go_shape.specs.declared.Shape.TheVariants.{OneMove}
use Rattle.go.specs.Value.{move_under, value_by}
use Rattle.go.proofs.Choosing.{by_move}
use Rattle.board_groups.specs.Board.{on_board}
use Rattle.board_groups.proofs.Beside.{on-board}
use Rattle.board_play.specs.Play.{playable}
use Rattle.board_play.specs.Steps.{Act, plays}
use Rattle.board_node.specs.Node.{setup_colour, move_colour, tt_pass, acts_of}
use Rattle.board_node.specs.Seen.{MoveSeenIs}
use Rattle.board_node.specs.LocalsSeen.{Idle, PointSeen, ValueSeen, RowSeen}
use Rattle.board_node.specs.declared.MoveSeen.{MoveSeen}
use Rattle.board_node.proofs.Idle.{idle-rows}
use Rattle.board_node.proofs.Moves.{one-letter, move-plays, moves-by, setups-none, move-player}
use Rattle.board_node.proofs.Names.{two-cut, name-one}

-- whose move a letter names
pub letter-none : (b : ℕ) → eqb b 0x42 ≡ false → eqb b 0x57 ≡ false → 0 ≡ move_colour (read_identifier (b ∷ []))
unfolding move_colour read_identifier
letter-none b h k = go (leb 0x41 b && leb b 0x5a)
  where
    go : (t : Bool) → 0 ≡ move_colour (pick t (b ∷ []) [])
    go true = rw (h, k)
    go false = refl

pub letter-black : (b : ℕ) → b ≡ 0x42 → 1 ≡ move_colour (read_identifier (b ∷ []))
unfolding move_colour read_identifier
letter-black b e = rw e

pub letter-white : (b : ℕ) → b ≡ 0x57 → 2 ≡ move_colour (read_identifier (b ∷ []))
unfolding move_colour read_identifier
letter-white b e = rw e

-- B and W set nothing
mover-sets : (id : List ℕ) → 1 ≤ move_colour id → 2 < setup_colour id
unfolding move_colour setup_colour
mover-sets id l = go (same id (0x42 ∷ [])) (same id (0x57 ∷ [])) refl refl l
  where
    go : (s t : Bool) → same id (0x42 ∷ []) ≡ s → same id (0x57 ∷ []) ≡ t → 1 ≤ pick s 1 (pick t 2 0) → 2 < setup_colour id
    go true t e f k = let n : id ≡ 0x42 ∷ [] = one-letter id 0x42 e in rw n (omega arith)
    go false true e f k = let n : id ≡ 0x57 ∷ [] = one-letter id 0x57 f in rw n (omega arith)
    go false false e f k = absurd (omega arith)

-- two letters read as themselves
not-escape : (a : ℕ) → letter_of a < 52 → eqb a 0x5c ≡ false
unfolding letter_of
not-escape a l = same_or a 0x5c (λ e. let f : letter_of a ≡ 52 = ap letter_of e in absurd (omega arith)) (λ n. ne_eqb a 0x5c n)

two-letters : (v : List ℕ) → length v ≡ 2 → letter_of (get_or v 0 0) < 52 → letter_of (get_or v 1 0) < 52
    → move_of (read_value v) ≡ Move (letter_of (get_or v 0 0)) (letter_of (get_or v 1 0))
unfolding read_from move_of move_to
two-letters [] e l m = absurd (omega (arith, e))
two-letters (a ∷ []) e l m = absurd (omega (arith, e))
two-letters (a ∷ b ∷ []) e l m = rw (not-escape a l, not-escape b m, le-leb (letter_of a) 51 (omega arith), le-leb (letter_of b) 51 (omega arith))
two-letters (a ∷ b ∷ d ∷ s) e l m = absurd (omega (arith, e))

-- a point of the board is no pass
no-pass : (w h x y : ℕ) → x < w → tt_pass w h x y ≡ false
no-pass w h x y l = either-bool (tt_pass w h x y)
    (λ e.
    let a = and_both (leb w 19 && leb h 19) (eqb x 19 && eqb y 19) e in
    let b = leb-true w 19 (and_both (leb w 19) (leb h 19) a.0).0 in
    let c = eqb-true x 19 (and_both (eqb x 19) (eqb y 19) a.1).0 in
    absurd (omega arith))
    (λ e. e)

player-true : (c : ℕ) → 1 ≤ c → c < 3 → (eqb c 1 || eqb c 2) ≡ true
player-true c l m = same_or c 1 (λ e. rw (eq-eqb c 1 e)) (λ n. let e : c ≡ 2 = omega (arith, n) in rw e)

point-can : (w h c x y : ℕ) → 1 ≤ c → c < 3 → x < 52 → x < w → y < 52 → y < h → playable w h c (52 * x + y) ≡ true
unfolding playable
point-can w h c x y l m xa xw ya yh =
    let o : on_board w h (52 * x + y) ≡ true = on-board w h (52 * x + y) (record { column = omega arith; row = omega arith; place = omega arith }) in
    rw (player-true c l m, o)

-- small letters
lower : (a : ℕ) → 0x61 ≤ a → a ≤ 0x7a → letter_of a ≡ a - 0x61
unfolding letter_of
lower a l m = rw (le-leb 0x61 a l, le-leb a 0x7a m)

pub point-seen : (w h c a b : ℕ) → 0x61 ≤ a → a ≤ 0x7a → 0x61 ≤ b → b ≤ 0x7a → a - 0x61 < w → b - 0x61 < h → {r : MoveSeen} → r.colour ≡ c
    → r.place ≡ 52 * (a - 0x61) + (b - 0x61) → PointSeen w h c (letter_of a) (letter_of b) r
point-seen w h c a b la ma lb mb x y e f =
    let i = lower a la ma in
    let j = lower b lb mb in
    record {
      whose = λ n. e;
      where_to = λ n. f ∙ ap₂ (λ (s t : ℕ). 52 * s + t) (sym i) (sym j);
      column = λ n. (omega arith, omega arith);
      row = λ n. (omega arith, omega arith);
    }

-- whose move a property named by one letter is
pub mover-seen : (text pr : List ℕ) (p : ℕ) {at end : ℕ} → at ≡ name_from_at pr p → end ≡ name_to_at pr p → end - at ≡ 1 → at < length text → p < length pr / property_stride
    → {c : ℕ} → c ≡ move_colour (read_identifier (get_or text at 0 ∷ [])) → c ≡ move_colour (read_identifier (identifier_at text pr p))
mover-seen text pr p d e one h l g = g ∙ ap (λ (z : List ℕ). move_colour (read_identifier z)) (name-one text pr p d e one h l)

-- the move of a value of two bytes
pub value-seen : (w h c : ℕ) (text vl : List ℕ) (v : ℕ) {at end : ℕ} → at ≡ get_or vl (v * 2) 0 → end ≡ get_or vl (v * 2 + 1) 0 → end - at ≡ 2 → end ≤ length text
    → v < length vl / 2 → {r : MoveSeen} → PointSeen w h c (letter_of (get_or text at 0)) (letter_of (get_or text (at + 1) 0)) r → ValueSeen w h c (value_at text vl v) r
unfolding value_at
value-seen w h c text vl v {at} {end} d e two m l {r} x =
    let i : cut text (get_or vl (v * 2) 0) (get_or vl (v * 2 + 1) 0) ≡ get_or text at 0 ∷ get_or text (at + 1) 0 ∷ [] = ap₂ (cut text) (sym d) (sym e) ∙ two-cut text at end two m in
    let k : get_or text at 0 ∷ get_or text (at + 1) 0 ∷ [] ≡ value_at text vl v = rw (lt-ltb v (length vl / 2) l) (sym i) in
    subst (λ (z : List ℕ). ValueSeen w h c z r) k (record { two = λ n. refl; point = x })

pub point-unseen : (w h c x y : ℕ) {r : MoveSeen} → r.colour ≡ 0 → PointSeen w h c x y r
point-unseen w h c x y e = record { whose = λ n. absurd (n e); where_to = λ n. absurd (n e); column = λ n. absurd (n e); row = λ n. absurd (n e) }

pub value-unseen : (w h c : ℕ) (v : List ℕ) {r : MoveSeen} → r.colour ≡ 0 → ValueSeen w h c v r
value-unseen w h c v e = record { two = λ n. absurd (n e); point = point-unseen w h c (letter_of (get_or v 0 0)) (letter_of (get_or v 1 0)) e }

module _ (w h : ℕ) (text pr vl : List ℕ) (p : ℕ) {c : ℕ} (some : 1 ≤ c) (name-is : c ≡ move_colour (property_at text pr vl p).name) {start many : ℕ} (s : start ≡ first_val_at pr p)
    (m : many ≡ val_count_at pr p) (m1 : many ≡ 1) {r : MoveSeen} (q : ValueSeen w h c (value_at text vl start) r) where
  abbrev row : Property
  row = property_at text pr vl p

  abbrev v : List ℕ
  v = value_at text vl start

  abbrev x : ℕ
  x = letter_of (get_or v 0 0)

  abbrev y : ℕ
  y = letter_of (get_or v 1 0)

  move-is : length v ≡ 2 → x < 52 → y < 52 → Move x y ≡ move_under 2 (move_of (read_value v))
  unfolding move_under
  move-is two a b = sym (ap (move_under 2) (two-letters v two a b))

  value-is : length v ≡ 2 → x < 52 → y < 52 → Move x y ≡ (value_by 2 OneMove row.raws).value
  value-is two a b =
      let k : start + 0 ≡ start = omega arith in
      by_move 2 text vl start many m1 (ap (value_at text vl) (sym k)) refl (move-is two a b) ∙ ap₂ (λ (j k : ℕ). (value_by 2 OneMove (values_at text vl j k)).value) s m

  pub row_seen : RowSeen w h row r
  row_seen =
      let z = q.point in
      record {
        sets-none = λ n. setups-none w h row (mover-sets row.name (omega (arith, name-is)));
        moves = λ n.
            sym (moves-by w h row name-is some (value-is (q.two n) (z.column n).0 (z.row n).0))
            ∙ (sym (move-plays w h c x y (no-pass w h x y (z.column n).1))
            ∙ ap₂ (λ (j k : ℕ). plays j k ∷ []) (sym (z.whose n)) (sym (z.where_to n)));
        can = λ n.
            ap₂ (playable w h) (z.whose n) (z.where_to n)
            ∙ point-can w h c x y some (move-player row.name name-is some).most (z.column n).0 (z.column n).1 (z.row n).0 (z.row n).1;
      }

-- no move is seen
pub row-unseen : (w h : ℕ) (p : Property) {r : MoveSeen} → r.colour ≡ 0 → RowSeen w h p r
row-unseen w h p e = record { sets-none = λ n. absurd (n e); moves = λ n. absurd (n e); can = λ n. absurd (n e) }

pub node-unseen : (w h : ℕ) (ps : List Property) {r : MoveSeen} → r.colour ≡ 0 → MoveSeenIs w h ps r
node-unseen w h ps e = record { acts = λ n. absurd (n e); can = λ n. absurd (n e) }

-- a move, and rows behind it that do nothing
pub node_seen : (w h : ℕ) (text pr vl : List ℕ) (first count : ℕ) {r : MoveSeen} → 0 < count → first + count ≤ length pr / property_stride
    → ((p : ℕ) → first + 1 ≤ p → p < first + count → Idle (read_identifier (identifier_at text pr p))) → RowSeen w h (property_at text pr vl first) r
    → MoveSeenIs w h (properties_at text pr vl first count) r
unfolding properties_at tabulate
node_seen w h text pr vl first count {r} s l idle x =
    let k : rows_from pr first count ≡ suc (count - 1) = omega arith in
    let y = idle-rows w h (property_at text pr vl) (count - 1) (suc first) (λ p i j. idle p (omega arith) (omega arith)) in
    record {
      acts = λ n.
          ap (λ (j : ℕ). acts_of w h (tabulate (property_at text pr vl) first j)) k
          ∙ ap₂ (λ (a b : List Act). a ++ b) (ap₂ (λ (a b : List Act). a ++ b) (sym (x.sets-none n)) y.0)
          (ap₂ (λ (a b : List Act). a ++ b) (x.moves n) y.1);
      can = x.can;
    }
