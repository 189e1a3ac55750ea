-- How many stones acts put on, how many acts a property has, how many spans a text has room for. Assumes nothing.
use Rattle.lists.proofs.Prelude.{ℕ, zero, suc, ◌+◌, ◌*◌, ◌≤◌, Bool, true, false, ◌&&◌, ◌≡◌, List, [], ◌∷◌, length, length-append, length-replicate, get_or, leb, ltb, eqb, pick, arith, leb-true}
use Rattle.lists.proofs.Pick.{pick-elim}
use Rattle.lists.proofs.Tests.{and_both}
use Rattle.fit_spans.specs.Spans.{Span, prop_spans, spans, ascending}
use Rattle.go_points.specs.declared.Value.{Value}
use Rattle.go_points.specs.declared.Value.TheVariants.{Other, Invalid, Pass, Move, Handicap, Points}
use Rattle.go_shape.specs.Shape.{shape_of}
use Rattle.go_shape.specs.declared.Shape.{Shape}
use Rattle.go_shape.specs.declared.Shape.TheVariants.{OneMove, OneNumber, ManyPoints, Unread}
use Rattle.go.specs.Marks.{in_some, all_good}
use Rattle.go.specs.Value.{is_go, areas_of, points_of, value_by, go_value}
use Rattle.go.specs.declared.value.GoValue.{GoValue}
use Rattle.go.proofs.Marked.{marks-all}
use Rattle.parts_props.specs.Props.{Property}
use Rattle.board_play.specs.Steps.{Sum, Pos, Act, sets, sum_put, set-step, play-step, Steps, done, next}
use Rattle.board_node.specs.Node.{setup_colour, move_colour, sets_from, tt_pass, move_acts, setups_of, moves_of, all_setups, all_moves, acts_of}

one-most : (t u : Bool) → pick {A = ℕ} t 0 (pick u 1 0) ≤ 1
one-most true u = omega arith
one-most false true = omega arith
one-most false false = omega arith

put-most : (x c stood : ℕ) (s : Sum) → (sum_put x c stood s).on ≤ s.on + 1
put-most x c stood s = omega (arith, one-most (eqb stood c) (eqb c x))

-- an act puts at most one stone on
module _ (w h : ℕ) where
  pub steps-most : {s s' : Pos} {acts : List Act} → Steps w h s acts s' → (s'.black.on ≤ s.black.on + length acts) × (s'.white.on ≤ s.white.on + length acts)
  steps-most done = (omega arith, omega arith)
  steps-most (next {s = s} (set-step {c = c} {p = p} on) xs) =
      let r = steps-most xs in
      let a = put-most 1 c (get_or s.stones p 0) s.black in
      let b = put-most 2 c (get_or s.stones p 0) s.white in
      let i = r.0 in
      let j = r.1 in
      (omega arith, omega arith)
  steps-most (next {s = s} (play-step {c = c} {p = p} on t u) xs) =
      let r = steps-most xs in
      let a = put-most 1 c (get_or s.stones p 0) s.black in
      let b = put-most 2 c (get_or s.stones p 0) s.white in
      let i = r.0 in
      let j = r.1 in
      (omega arith, omega arith)

sets-few : (c i : ℕ) (ms : List Bool) → length (sets_from c i ms) ≤ length ms
unfolding sets_from
sets-few c i [] = omega arith
sets-few c i (m ∷ ms) = go m (sets-few c (suc i) ms)
  where
    go : (t : Bool) → length (sets_from c (suc i) ms) ≤ length ms → length (pick t (sets c i ∷ sets_from c (suc i) ms) (sets_from c (suc i) ms)) ≤ suc (length ms)
    go true l = omega arith
    go false l = omega arith

by-marks : (rule : ℕ) (s : Shape) (vs : List (List ℕ)) → length (value_by rule s vs).marks ≡ 2704
unfolding value_by points_of
by-marks rule OneMove vs = length-replicate {A = Bool} 2704 false
by-marks rule OneNumber vs = length-replicate {A = Bool} 2704 false
by-marks rule ManyPoints vs =
    pick-elim (λ (g : GoValue). length g.marks ≡ 2704) (all_good (areas_of vs)) (λ e. marks-all (in_some (areas_of vs))) (λ e. length-replicate {A = Bool} 2704 false)
by-marks rule Unread vs = length-replicate {A = Bool} 2704 false

go-marks : (rule : ℕ) (id : List ℕ) (vs : List (List ℕ)) → length (go_value rule id vs).marks ≡ 2704
unfolding go_value
go-marks rule id vs =
    pick-elim (λ (g : GoValue). length g.marks ≡ 2704) (is_go rule) (λ e. by-marks rule (shape_of id) vs) (λ e. length-replicate {A = Bool} 2704 false)

setups-few : (p : Property) → length (setups_of p) ≤ 2704
unfolding setups_of
setups-few p =
    pick-elim (λ (z : List Act). length z ≤ 2704) (ltb (setup_colour p.name) 3)
    (λ e. omega (arith, sets-few (setup_colour p.name) 0 (go_value 0 p.name p.raws).marks, go-marks 0 p.name p.raws)) (λ e. omega arith)

move-few : (w h c : ℕ) (v : Value) → length (move_acts w h c v) ≤ 1
unfolding move_acts
move-few w h c Other = omega arith
move-few w h c Invalid = omega arith
move-few w h c Pass = omega arith
move-few w h c (Move x y) = pick-elim (λ (z : List Act). length z ≤ 1) (tt_pass w h x y) (λ e. omega arith) (λ e. omega arith)
move-few w h c (Handicap n) = omega arith
move-few w h c Points = omega arith

moves-few : (w h : ℕ) (p : Property) → length (moves_of w h p) ≤ 1
unfolding moves_of
moves-few w h p =
    pick-elim (λ (z : List Act). length z ≤ 1) (ltb 0 (move_colour p.name))
    (λ e. move-few w h (move_colour p.name) (go_value 2 p.name p.raws).value) (λ e. omega arith)

all-setups-few : (ps : List Property) → length (all_setups ps) ≤ length ps * 2704
all-setups-few [] = omega arith
all-setups-few (p ∷ ps) = omega (arith, length-append (setups_of p) (all_setups ps), setups-few p, all-setups-few ps)

all-moves-few : (w h : ℕ) (ps : List Property) → length (all_moves w h ps) ≤ length ps
all-moves-few w h [] = omega arith
all-moves-few w h (p ∷ ps) = omega (arith, length-append (moves_of w h p) (all_moves w h ps), moves-few w h p, all-moves-few w h ps)

pub acts-few : (w h : ℕ) (ps : List Property) → length (acts_of w h ps) ≤ length ps * 2705
acts-few w h ps = omega (arith, length-append (all_setups ps) (all_moves w h ps), all-setups-few ps, all-moves-few w h ps)

-- each span takes a byte
pub ascending-few : (used o : ℕ) (ss : List Span) → ascending used o ss ≡ true → o ≤ suc used → o + length ss ≤ suc used
unfolding ascending
ascending-few used o [] e l = omega arith
ascending-few used o (s ∷ ss) e l =
    let a = and_both (leb o s.from) (leb s.from s.to && (leb s.to used && ascending used (suc s.to) ss)) e in
    let b = and_both (leb s.from s.to) (leb s.to used && ascending used (suc s.to) ss) a.1 in
    let c = and_both (leb s.to used) (ascending used (suc s.to) ss) b.1 in
    let x = leb-true o s.from a.0 in
    let y = leb-true s.from s.to b.0 in
    let z = leb-true s.to used c.0 in
    omega (arith, ascending-few used (suc s.to) ss c.1 (omega arith))

pub spans-many : (pr vl : List ℕ) (p m : ℕ) → m ≤ length (spans pr vl p m)
unfolding spans
spans-many pr vl p zero = omega arith
spans-many pr vl p (suc m) = omega (arith, length-append (prop_spans pr vl p) (spans pr vl (suc p) m), spans-many pr vl (suc p) m)
