-- No second answer: of each public function, two answers that meet its contract are equal. Assumes nothing.
use Rattle.lists.proofs.Prelude.{List, ℕ, ◌≡◌, refl, sym, ◌∙◌, ◌+◌, ◌*◌, ◌/◌, ◌%◌, ◌<◌, Bool, true, false, arith, div-add-mod', mod-lt, leb, ltb, eqb, length, get_or, ext_get_or, leb-true, leb-false, ltb-true, ltb-false, eqb-true, eqb-false, ◌-◌, ◌^◌}
use Rattle.lists.specs.Once.{Once}
use Rattle.lists.specs.Put.{PutWhole}
use Rattle.lists.proofs.Put.{put-whole-once}
use Rattle.lists.proofs.Once.{once_is}
use Rattle.lexer.specs.declared.Fault.{Fault}
use Rattle.tables.specs.LocalsDepths.{NoDepth, LevelledTo, LevelsIs}
use Rattle.tables.specs.LocalsLinks.{NoLink, LinkedFrom, HasRows, LinksIs}
use Rattle.tables.specs.Numbers.{none, number_of, reason_of}
use Rattle.tables.specs.declared.Reason.{Reason}
use Rattle.tables.specs.Columns.{node_stride}
use Rattle.parts.specs.Rows.{value_at, values_at}
use Rattle.values.specs.Decimal.{decimal_of}
use Rattle.values.specs.Read.{read_value, next_read, read_identifier}
use Rattle.values.specs.declared.decimal.Number.{Number}
use Rattle.value_display.specs.Display.{displayed, displayed_in}
use Rattle.go_points.specs.Area.{letter_of, move_of, area_of}
use Rattle.go_points.specs.Handicap.{handicap_of}
use Rattle.go_points.specs.declared.Area.{Area}
use Rattle.go_points.specs.declared.Value.{Value}
use Rattle.go_shape.specs.Shape.{shape_of}
use Rattle.go_shape.specs.declared.Shape.{Shape}
use Rattle.go.specs.Value.{points_of, value_by, go_value}
use Rattle.go.specs.declared.value.GoValue.{GoValue}
use Rattle.std.specs.Prelude.{Option}

-- store_numbers

-- of put1, put2, put4 and put6, whatever is put
pub put-once : (t : List ℕ) (at : ℕ) (vs : List ℕ) → Once (PutWhole t at vs)
put-once t at vs x y p q = put-whole-once x y p q

-- tables

pub number-once : (r : Reason) → Once (λ (n : ℕ). n ≡ number_of r)
number-once r = once_is (number_of r)

pub fault-reason-once : (f : Fault) → Once (λ (r : Reason). r ≡ reason_of f)
fault-reason-once f = once_is (reason_of f)

-- the links: a cell is one of a link, or it stays
module _ (n : ℕ) (t x y : List ℕ) (p : LinkedFrom n t x 0) (q : LinkedFrom n t y 0) where
  stays_same : (i : ℕ) → NoLink n i → get_or x i 0 ≡ get_or y i 0
  stays_same i h = p.kept i h ∙ sym (q.kept i h)

  cell_same : (i r c : ℕ) → i ≡ r * node_stride + c → c < node_stride → (a : Bool) → ltb r n ≡ a → (b : Bool) → eqb c 1 ≡ b → (d : Bool) → eqb c 2 ≡ d → get_or x i 0 ≡ get_or y i 0
  cell_same i r c e l false ha b hb d hd = stays_same i (λ s m. let g = ltb-false r n ha in ((λ z. omega arith), (λ z. omega arith)))
  cell_same i r c e l true ha true hb d hd =
      let g = ltb-true r n ha in
      let o = eqb-true c 1 hb in
      let w : i ≡ r * node_stride + 1 = omega arith in
      rw w (p.first r g ∙ sym (q.first r g))
  cell_same i r c e l true ha false hb true hd =
      let g = ltb-true r n ha in
      let o = eqb-true c 2 hd in
      let w : i ≡ r * node_stride + 2 = omega arith in
      rw w (p.next r (omega arith) g ∙ sym (q.next r (omega arith) g))
  cell_same i r c e l true ha false hb false hd =
      let u : c ≡ 1 → ⊥ = eqb-false c 1 hb in
      let v : c ≡ 2 → ⊥ = eqb-false c 2 hd in
      stays_same i (λ s m. ((λ z. u (omega arith)), (λ z. v (omega arith))))

  linked-once : x ≡ y
  linked-once =
      ext_get_or 0 x y (p.len ∙ sym q.len)
      (λ i _. cell_same i (i / node_stride) (i % node_stride) (sym (div-add-mod' i node_stride)) (mod-lt i (omega arith)) (ltb (i / node_stride) n) refl (eqb (i % node_stride) 1) refl (eqb (i % node_stride) 2) refl)

-- there are so many rows or not
rows-or : {X : Type 0} (n : ℕ) (t : List ℕ) → (HasRows n t → X) → ((HasRows n t → ⊥) → X) → X
rows-or {X} n t f g = go (leb n (length t / node_stride)) refl (leb n none) refl
  where
    go : (a : Bool) → leb n (length t / node_stride) ≡ a → (b : Bool) → leb n none ≡ b → X
    go true ha true hb = f (leb-true n (length t / node_stride) ha, leb-true n none hb)
    go false ha b hb = g (λ z. omega (arith, z.0, leb-false n (length t / node_stride) ha))
    go true ha false hb = g (λ z. omega (arith, z.1, leb-false n none hb))

pub link-nodes-once : (n : ℕ) (t : List ℕ) → Once (LinksIs n t)
link-nodes-once n t x y p q = rows-or n t (λ h. linked-once n t x y (p.made h) (q.made h)) (λ h. p.left h ∙ sym (q.left h))

-- the depths: a cell is a depth, or it stays
module _ (n : ℕ) (t x y : List ℕ) (p : LevelledTo n t x n) (q : LevelledTo n t y n) where
  kept_same : (i : ℕ) → NoDepth n i → get_or x i 0 ≡ get_or y i 0
  kept_same i h = p.kept i h ∙ sym (q.kept i h)

  level-same : (i r c : ℕ) → i ≡ r * node_stride + c → c < node_stride → (a : Bool) → ltb r n ≡ a → (b : Bool) → eqb c 5 ≡ b → get_or x i 0 ≡ get_or y i 0
  level-same i r c e l false ha b hb = kept_same i (λ s m z. let g = ltb-false r n ha in omega arith)
  level-same i r c e l true ha true hb =
      let g = ltb-true r n ha in
      let o = eqb-true c 5 hb in
      let w : i ≡ r * node_stride + 5 = omega arith in
      rw w (p.level r g ∙ sym (q.level r g))
  level-same i r c e l true ha false hb = let u : c ≡ 5 → ⊥ = eqb-false c 5 hb in kept_same i (λ s m z. u (omega arith))

  levelled-once : x ≡ y
  levelled-once =
      ext_get_or 0 x y (p.len ∙ sym q.len)
      (λ i _. level-same i (i / node_stride) (i % node_stride) (sym (div-add-mod' i node_stride)) (mod-lt i (omega arith)) (ltb (i / node_stride) n) refl (eqb (i % node_stride) 5) refl)

pub level-nodes-once : (n : ℕ) (t : List ℕ) → Once (LevelsIs n t)
level-nodes-once n t x y p q = rows-or n t (λ h. levelled-once n t x y (p.made h) (q.made h)) (λ h. p.left h ∙ sym (q.left h))

-- parts

module _ (text vals : List ℕ) (first n : ℕ) where
  pub value-at-once : Once (λ (r : List ℕ). r ≡ value_at text vals (first + n))
  value-at-once = once_is (value_at text vals (first + n))

-- values

pub next-read-once : (s : List ℕ) (at : ℕ) → Once (λ (r : Option (ℕ × ℕ)). r ≡ next_read s at)
next-read-once s at = once_is (next_read s at)

-- of decimal_within, read_i64 and read_i32, whatever the bound
pub decimal-once : (most : ℕ) (s : List ℕ) → Once (λ (r : Number). r ≡ decimal_of most (read_value s))
decimal-once most s = once_is (decimal_of most (read_value s))

-- value_display

-- the answer, and all of the memory
pub display-once : (text out : List ℕ) (r s : Option ℕ) (x y : List ℕ) → (r ≡ displayed text out) × (x ≡ displayed_in text out)
    → (s ≡ displayed text out) × (y ≡ displayed_in text out) → (r ≡ s) × (x ≡ y)
display-once text out r s x y p q = (p.0 ∙ sym q.0, p.1 ∙ sym q.1)

-- go_points

pub letter-of-once : (b : ℕ) → Once (λ (r : ℕ). r ≡ letter_of b)
letter-of-once b = once_is (letter_of b)

module _ (s : List ℕ) where
  pub read-move-once : Once (λ (r : Value). r ≡ move_of (read_value s))
  read-move-once = once_is (move_of (read_value s))

  pub read-area-once : Once (λ (r : Area). r ≡ area_of (read_value s))
  read-area-once = once_is (area_of (read_value s))

  pub read-handicap-once : Once (λ (r : Value). r ≡ handicap_of (decimal_of (2 ^ 63 - 1) (read_value s)))
  read-handicap-once = once_is (handicap_of (decimal_of (2 ^ 63 - 1) (read_value s)))

-- go_shape

module _ (s : List ℕ) where
  pub shape-of-once : Once (λ (r : Shape). r ≡ shape_of (read_identifier s))
  shape-of-once = once_is (shape_of (read_identifier s))

-- go

module _ (text vals : List ℕ) (first n : ℕ) where
  pub read-points-once : Once (λ (r : GoValue). r ≡ points_of (values_at text vals first n))
  read-points-once = once_is (points_of (values_at text vals first n))

  pub value-by-once : (rule : ℕ) (shape : Shape) → Once (λ (r : Value). r ≡ (value_by rule shape (values_at text vals first n)).value)
  value-by-once rule shape = once_is (value_by rule shape (values_at text vals first n)).value

  pub go-value-once : (rule : ℕ) (identifier : List ℕ) → Once (λ (r : GoValue). r ≡ go_value rule (read_identifier identifier) (values_at text vals first n))
  go-value-once rule identifier = once_is (go_value rule (read_identifier identifier) (values_at text vals first n))
