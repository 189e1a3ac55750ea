-- The cells of the table, the one test over them, and what it says of each place. Assumes nothing.
use Rattle.lists.proofs.Prelude.{ℕ, ◌<◌, ◌≡◌, refl, sym, Bool, true, false, ◌&&◌, not, List, [], ◌∷◌, eqb, ltb, get_or, eqb-true, T}
use Rattle.lists.proofs.Tests.{and_both}
use Rattle.ff4_index.specs.declared.Entry.{Entry}
use Rattle.ff4_index.specs.Listed.{entry_of, is_listed}
use Rattle.ff4_index.specs.Places.{letters_at}
use Rattle.ff4_index.specs.Locals.{cell_entry}
use Rattle.ff4_index.proofs.Table.{at}

-- the table, 26 places a line
unfoldable pub cells : List ℕ
cells =
    0 ∷ 296 ∷ 775 ∷ 0 ∷ 0 ∷ 0 ∷ 0 ∷ 0 ∷ 0 ∷ 0 ∷ 0 ∷ 0 ∷ 0 ∷ 774 ∷ 0 ∷ 0 ∷ 0 ∷ 0 ∷ 0 ∷ 0 ∷ 0 ∷ 771 ∷ 296 ∷ 0 ∷ 0 ∷ 0 ∷
    0 ∷ 585 ∷ 0 ∷ 0 ∷ 586 ∷ 0 ∷ 0 ∷ 0 ∷ 0 ∷ 0 ∷ 0 ∷ 0 ∷ 0 ∷ 1926 ∷ 0 ∷ 1646 ∷ 0 ∷ 1292 ∷ 0 ∷ 0 ∷ 0 ∷ 0 ∷ 585 ∷ 0 ∷ 0 ∷ 0 ∷
    0 ∷ 0 ∷ 0 ∷ 0 ∷ 0 ∷ 0 ∷ 0 ∷ 0 ∷ 0 ∷ 0 ∷ 0 ∷ 2083 ∷ 1060 ∷ 0 ∷ 0 ∷ 0 ∷ 0 ∷ 1926 ∷ 0 ∷ 1926 ∷ 0 ∷ 0 ∷ 0 ∷ 0 ∷ 0 ∷ 0 ∷
    1638 ∷ 0 ∷ 0 ∷ 0 ∷ 0 ∷ 0 ∷ 0 ∷ 0 ∷ 0 ∷ 0 ∷ 0 ∷ 0 ∷ 0 ∷ 0 ∷ 0 ∷ 1926 ∷ 0 ∷ 1290 ∷ 0 ∷ 0 ∷ 0 ∷ 0 ∷ 0 ∷ 0 ∷ 0 ∷ 0 ∷
    0 ∷ 0 ∷ 0 ∷ 1451 ∷ 0 ∷ 0 ∷ 0 ∷ 0 ∷ 0 ∷ 0 ∷ 0 ∷ 0 ∷ 772 ∷ 0 ∷ 1057 ∷ 0 ∷ 0 ∷ 0 ∷ 0 ∷ 1926 ∷ 0 ∷ 0 ∷ 0 ∷ 0 ∷ 0 ∷ 0 ∷
    0 ∷ 0 ∷ 0 ∷ 0 ∷ 0 ∷ 0 ∷ 0 ∷ 0 ∷ 0 ∷ 0 ∷ 0 ∷ 0 ∷ 0 ∷ 0 ∷ 0 ∷ 0 ∷ 0 ∷ 0 ∷ 0 ∷ 0 ∷ 0 ∷ 1926 ∷ 0 ∷ 0 ∷ 0 ∷ 0 ∷
    0 ∷ 0 ∷ 0 ∷ 0 ∷ 0 ∷ 1634 ∷ 2320 ∷ 0 ∷ 0 ∷ 0 ∷ 0 ∷ 0 ∷ 0 ∷ 0 ∷ 0 ∷ 0 ∷ 0 ∷ 0 ∷ 0 ∷ 0 ∷ 0 ∷ 0 ∷ 0 ∷ 0 ∷ 0 ∷ 0 ∷
    0 ∷ 772 ∷ 1927 ∷ 0 ∷ 0 ∷ 0 ∷ 0 ∷ 0 ∷ 0 ∷ 0 ∷ 0 ∷ 0 ∷ 1634 ∷ 1926 ∷ 0 ∷ 0 ∷ 0 ∷ 0 ∷ 0 ∷ 0 ∷ 0 ∷ 0 ∷ 772 ∷ 0 ∷ 0 ∷ 0 ∷
    2690 ∷ 0 ∷ 0 ∷ 0 ∷ 0 ∷ 0 ∷ 0 ∷ 0 ∷ 0 ∷ 0 ∷ 0 ∷ 0 ∷ 0 ∷ 0 ∷ 772 ∷ 0 ∷ 0 ∷ 0 ∷ 0 ∷ 0 ∷ 0 ∷ 0 ∷ 0 ∷ 0 ∷ 0 ∷ 0 ∷
    0 ∷ 0 ∷ 0 ∷ 0 ∷ 0 ∷ 0 ∷ 0 ∷ 0 ∷ 0 ∷ 0 ∷ 0 ∷ 0 ∷ 0 ∷ 0 ∷ 0 ∷ 0 ∷ 0 ∷ 0 ∷ 0 ∷ 1057 ∷ 0 ∷ 0 ∷ 0 ∷ 0 ∷ 0 ∷ 0 ∷
    0 ∷ 0 ∷ 0 ∷ 0 ∷ 0 ∷ 0 ∷ 0 ∷ 0 ∷ 0 ∷ 0 ∷ 0 ∷ 0 ∷ 0 ∷ 0 ∷ 0 ∷ 0 ∷ 0 ∷ 0 ∷ 0 ∷ 0 ∷ 0 ∷ 0 ∷ 0 ∷ 0 ∷ 0 ∷ 0 ∷
    0 ∷ 0 ∷ 0 ∷ 0 ∷ 0 ∷ 0 ∷ 0 ∷ 0 ∷ 0 ∷ 0 ∷ 0 ∷ 0 ∷ 2691 ∷ 0 ∷ 289 ∷ 0 ∷ 0 ∷ 0 ∷ 0 ∷ 0 ∷ 0 ∷ 0 ∷ 0 ∷ 0 ∷ 0 ∷ 0 ∷
    0 ∷ 1293 ∷ 0 ∷ 0 ∷ 0 ∷ 0 ∷ 0 ∷ 0 ∷ 0 ∷ 0 ∷ 0 ∷ 0 ∷ 0 ∷ 1292 ∷ 0 ∷ 0 ∷ 0 ∷ 0 ∷ 0 ∷ 0 ∷ 0 ∷ 0 ∷ 0 ∷ 0 ∷ 0 ∷ 0 ∷
    1290 ∷ 0 ∷ 0 ∷ 0 ∷ 0 ∷ 0 ∷ 0 ∷ 0 ∷ 0 ∷ 0 ∷ 0 ∷ 0 ∷ 0 ∷ 290 ∷ 0 ∷ 0 ∷ 0 ∷ 0 ∷ 0 ∷ 0 ∷ 0 ∷ 0 ∷ 0 ∷ 0 ∷ 0 ∷ 0 ∷
    0 ∷ 0 ∷ 0 ∷ 0 ∷ 0 ∷ 0 ∷ 0 ∷ 0 ∷ 0 ∷ 0 ∷ 0 ∷ 0 ∷ 0 ∷ 0 ∷ 0 ∷ 0 ∷ 0 ∷ 0 ∷ 0 ∷ 0 ∷ 0 ∷ 0 ∷ 0 ∷ 0 ∷ 0 ∷ 0 ∷
    0 ∷ 2082 ∷ 0 ∷ 0 ∷ 0 ∷ 0 ∷ 0 ∷ 0 ∷ 0 ∷ 0 ∷ 0 ∷ 0 ∷ 0 ∷ 1927 ∷ 0 ∷ 0 ∷ 0 ∷ 0 ∷ 0 ∷ 1926 ∷ 0 ∷ 0 ∷ 2082 ∷ 0 ∷ 0 ∷ 0 ∷
    0 ∷ 1926 ∷ 1926 ∷ 0 ∷ 0 ∷ 0 ∷ 0 ∷ 0 ∷ 0 ∷ 0 ∷ 0 ∷ 581 ∷ 2466 ∷ 0 ∷ 0 ∷ 0 ∷ 0 ∷ 0 ∷ 0 ∷ 0 ∷ 0 ∷ 0 ∷ 1926 ∷ 0 ∷ 0 ∷ 0 ∷
    0 ∷ 0 ∷ 0 ∷ 0 ∷ 0 ∷ 0 ∷ 0 ∷ 0 ∷ 0 ∷ 0 ∷ 0 ∷ 0 ∷ 0 ∷ 0 ∷ 0 ∷ 0 ∷ 0 ∷ 0 ∷ 0 ∷ 0 ∷ 0 ∷ 0 ∷ 0 ∷ 0 ∷ 0 ∷ 0 ∷
    0 ∷ 0 ∷ 0 ∷ 0 ∷ 1926 ∷ 0 ∷ 0 ∷ 0 ∷ 0 ∷ 0 ∷ 0 ∷ 0 ∷ 0 ∷ 0 ∷ 1926 ∷ 0 ∷ 0 ∷ 0 ∷ 0 ∷ 0 ∷ 1926 ∷ 0 ∷ 0 ∷ 0 ∷ 0 ∷ 0 ∷
    0 ∷ 0 ∷ 0 ∷ 0 ∷ 0 ∷ 0 ∷ 0 ∷ 0 ∷ 0 ∷ 0 ∷ 0 ∷ 1290 ∷ 0 ∷ 0 ∷ 1926 ∷ 0 ∷ 1290 ∷ 0 ∷ 0 ∷ 1634 ∷ 0 ∷ 0 ∷ 0 ∷ 0 ∷ 0 ∷ 1647 ∷
    0 ∷ 2571 ∷ 0 ∷ 0 ∷ 1060 ∷ 0 ∷ 0 ∷ 0 ∷ 0 ∷ 0 ∷ 0 ∷ 0 ∷ 1923 ∷ 0 ∷ 0 ∷ 0 ∷ 0 ∷ 1290 ∷ 0 ∷ 0 ∷ 0 ∷ 0 ∷ 2571 ∷ 0 ∷ 0 ∷ 0 ∷
    0 ∷ 0 ∷ 772 ∷ 0 ∷ 0 ∷ 0 ∷ 0 ∷ 0 ∷ 0 ∷ 0 ∷ 0 ∷ 0 ∷ 0 ∷ 0 ∷ 0 ∷ 0 ∷ 0 ∷ 0 ∷ 1926 ∷ 0 ∷ 0 ∷ 0 ∷ 0 ∷ 0 ∷ 0 ∷ 0 ∷
    0 ∷ 0 ∷ 0 ∷ 0 ∷ 0 ∷ 0 ∷ 0 ∷ 0 ∷ 0 ∷ 0 ∷ 0 ∷ 0 ∷ 0 ∷ 0 ∷ 0 ∷ 0 ∷ 0 ∷ 0 ∷ 0 ∷ 0 ∷ 0 ∷ 0 ∷ 2475 ∷ 0 ∷ 0 ∷ 0 ∷
    0 ∷ 0 ∷ 0 ∷ 0 ∷ 0 ∷ 0 ∷ 0 ∷ 0 ∷ 0 ∷ 0 ∷ 0 ∷ 2083 ∷ 0 ∷ 0 ∷ 0 ∷ 0 ∷ 0 ∷ 1926 ∷ 0 ∷ 1926 ∷ 0 ∷ 0 ∷ 0 ∷ 0 ∷ 0 ∷ 0 ∷
    0 ∷ 0 ∷ 0 ∷ 0 ∷ 0 ∷ 0 ∷ 0 ∷ 0 ∷ 0 ∷ 0 ∷ 0 ∷ 0 ∷ 0 ∷ 0 ∷ 0 ∷ 0 ∷ 0 ∷ 0 ∷ 0 ∷ 0 ∷ 0 ∷ 0 ∷ 0 ∷ 0 ∷ 0 ∷ 0 ∷
    0 ∷ 0 ∷ 0 ∷ 0 ∷ 0 ∷ 0 ∷ 0 ∷ 0 ∷ 0 ∷ 0 ∷ 0 ∷ 0 ∷ 0 ∷ 0 ∷ 0 ∷ 0 ∷ 0 ∷ 0 ∷ 0 ∷ 0 ∷ 0 ∷ 0 ∷ 0 ∷ 0 ∷ 0 ∷ 0 ∷
    0 ∷ 0 ∷ 0 ∷ 0 ∷ 0 ∷ 0 ∷ 0 ∷ 0 ∷ 0 ∷ 0 ∷ 0 ∷ 0 ∷ 0 ∷ 0 ∷ 0 ∷ 0 ∷ 0 ∷ 0 ∷ 0 ∷ 0 ∷ 0 ∷ 0 ∷ 0 ∷ 0 ∷ 0 ∷ 0 ∷
    []

-- the same three numbers
abbrev same_entry : Entry → Entry → Bool
same_entry a b = eqb a.kind b.kind && (eqb a.property_type b.property_type && eqb a.section b.section)

abbrev same_test : Bool → Bool → Bool
same_test true b = b
same_test false b = not b

-- the test: a cell has what the list has of its identifier, and is filled where the list has it
right : ℕ → ℕ → Bool
right i x = same_entry (cell_entry x) (entry_of (letters_at i)) && same_test (ltb 0 x) (is_listed (letters_at i))

is_true : (b : Bool) → T b → b ≡ true
is_true true t = refl
is_true false t = absurd t

same-entry : (a b : Entry) → same_entry a b ≡ true → a ≡ b
same-entry a b h =
    let u = and_both (eqb a.kind b.kind) (eqb a.property_type b.property_type && eqb a.section b.section) h in
    let v = and_both (eqb a.property_type b.property_type) (eqb a.section b.section) u.1 in
    let k = eqb-true a.kind b.kind u.0 in
    let t = eqb-true a.property_type b.property_type v.0 in
    let s = eqb-true a.section b.section v.1 in
    entry-of k t s
  where
    entry-of : {k t s k' t' s' : ℕ} → k ≡ k' → t ≡ t' → s ≡ s'
        → ◌≡◌ {A = Entry} (record { kind = k; property_type = t; section = s }) (record { kind = k'; property_type = t'; section = s' })
    entry-of e f g = rw (e, f, g)

same_test_lem : (a b : Bool) → same_test a b ≡ true → a ≡ b
same_test_lem true true h = refl
same_test_lem false false h = refl
same_test_lem true false h = sym h
same_test_lem false true h = h

-- at each place: computed once over the table
passes : (i : ℕ) → i < 702 → right i (get_or cells i 0) ≡ true
unfolding cells right entry_of is_listed
passes i h = is_true (right i (get_or cells i 0)) (at right cells tt i h)

-- a cell decodes to what FF[4] lists of the identifier of its place
pub entries : (i : ℕ) → i < 702 → cell_entry (get_or cells i 0) ≡ entry_of (letters_at i)
unfolding right
entries i h = same-entry (cell_entry (get_or cells i 0)) (entry_of (letters_at i)) (and_both (same_entry (cell_entry (get_or cells i 0)) (entry_of (letters_at i))) (same_test (ltb 0 (get_or cells i 0)) (is_listed (letters_at i))) (passes i h)).0

-- a cell is filled exactly where FF[4] lists that identifier
pub filled : (i : ℕ) → i < 702 → ltb 0 (get_or cells i 0) ≡ is_listed (letters_at i)
unfolding right
filled i h = same_test_lem (ltb 0 (get_or cells i 0)) (is_listed (letters_at i)) (and_both (same_entry (cell_entry (get_or cells i 0)) (entry_of (letters_at i))) (same_test (ltb 0 (get_or cells i 0)) (is_listed (letters_at i))) (passes i h)).1
