-- Salvage of a text: what is measured decides all but the room of the tables. Assumes nothing.
use Rattle.lists.proofs.Prelude.{ℕ, ◌/◌, ◌≤◌, ◌<◌, Bool, true, false, ◌&&◌, List, [], ◌≡◌, refl, sym, ap, ◌∙◌, arith, length, leb, ltb, pick, lt-ltb, le-ltb, lt-leb}
use Rattle.tables.specs.Numbers.{text_limit, depth_limit}
use Rattle.tables.specs.Record.{Tree}
use Rattle.tables.specs.Rows.{tables, counts_of}
use Rattle.tables.specs.declared.Reason.{Reason}
use Rattle.tables.specs.declared.Reason.TheVariants.{TextTooLong, TooDeep, NoRoom}
use Rattle.parser.specs.Read.{Answer, refused, accepted, read_lenient}
use Rattle.reader.specs.Lent.{Lent, roomy}
use Rattle.serialize.specs.Form.{writing}
use Rattle.serialize_laws.specs.Depth.{depth_of}
use Rattle.salvage_list.specs.ListRows.{text_changes}
use Rattle.salvage_mend.specs.Mend.{mended}
use Rattle.salvage_laws.specs.Result.{salvage_of}
use Rattle.salvage_measure.specs.Measure.{text_measure}
use Rattle.salvage_measure.specs.declared.Measured.{Measured}
use Rattle.salvage.specs.Salvage.{room_for_all, salvage_gives, salvage_at, SalvageIs}
use Rattle.salvage.proofs.Refusals.{refused-silent}
use Rattle.std.specs.Prelude.{Result, Ok, Err}
use Rattle.tables.specs.Refusals.{refusal}
use Rattle.tables.specs.declared.Counts.{Counts}
use Rattle.tables.specs.declared.Refusal.{Refusal}

none_after : (a : Bool) → a && false ≡ false
none_after true = refl
none_after false = refl

-- what is measured and counted allows the result, but for the rows of the tables
pub record Planned (t list out : List ℕ) (k : ℕ) : Type 0 where
  pub short : length (salvage_of (read_lenient t)) ≤ text_limit
  pub shallow : depth_of (salvage_of (read_lenient t)) ≤ depth_limit
  pub count : k ≡ length (text_changes t)
  pub rows : k ≤ length list / 3
  pub room : length (salvage_of (read_lenient t)) ≤ length out

module _ (t : List ℕ) (before : Lent) (list out : List ℕ) where
  abbrev pub gives : Answer → Result (Counts × ℕ × ℕ) (Refusal Reason)
  gives a = salvage_gives a (text_changes t) before (length list) (length out)

  -- ---- the answer by its three tests: too long, too deep, room enough

  module _ (ts : List Tree) where
    abbrev w : List ℕ
    w = writing (mended ts)

    abbrev by : (l d f : Bool) → Result (Counts × ℕ × ℕ) (Refusal Reason)
    by l d f = pick l (Err (refusal TextTooLong 0)) (pick d (Err (refusal TooDeep 0)) (pick f (Ok (counts_of (tables ts), length w, length (text_changes t))) (Err (refusal NoRoom 0))))

    abbrev enough : Bool
    enough = room_for_all (tables ts) before w (text_changes t) (length list) (length out)

    pub gives-by : {l d f : Bool} → ltb text_limit (length w) ≡ l → ltb depth_limit (depth_of w) ≡ d → enough ≡ f → gives (accepted ts) ≡ by l d f
    unfolding salvage_gives
    gives-by {l} {d} {f} a b c =
        ap (λ (z : Bool). by z (ltb depth_limit (depth_of w)) enough) a ∙ ap (λ (z : Bool). by l z enough) b ∙ ap (λ (z : Bool). by l d z) c

    pub room_by : {r c b : Bool} → roomy (tables ts) before ≡ r → leb (length (text_changes t)) (length list / 3) ≡ c → leb (length w) (length out) ≡ b → enough ≡ r && (c && b)
    room_by {r} {c} {b} p q s =
        ap (λ (z : Bool). z && (leb (length (text_changes t)) (length list / 3) && leb (length w) (length out))) p
        ∙ ap (λ (z : Bool). r && (z && leb (length w) (length out))) q
        ∙ ap (λ (z : Bool). r && (c && z)) s

  -- ---- decided before anything is read into the tables

  module _ {x : Measured} (e : x ≡ text_measure t) where
    long-is : x.bytes ≡ length (salvage_of (read_lenient t))
    long-is = ap (λ (z : Measured). z.bytes) e

    deep_is : x.depth ≡ depth_of (salvage_of (read_lenient t))
    deep_is = ap (λ (z : Measured). z.depth) e

    -- a refusal leaves all
    left : {r : Reason} {p : ℕ} → Err (refusal r p) ≡ salvage_at t before list out → SalvageIs t before before list list out out (Err (refusal r p))
    left h = record { answer = h; tables = refl; changes = refl; bytes = refl }

    pub salvage-long : text_limit < x.bytes → SalvageIs t before before list list out out (Err (refusal TextTooLong 0))
    unfolding salvage_gives
    salvage-long h = left (go (read_lenient t) (let l = long-is in omega (arith, h, l)))
      where
        go : (a : Answer) → text_limit < length (salvage_of a) → Err (refusal TextTooLong 0) ≡ gives a
        go (refused r p) l = absurd (omega (arith, l))
        go (accepted ts) l = sym (gives-by ts (lt-ltb text_limit (length (writing (mended ts))) l) refl refl)

    module _ (sh : x.bytes ≤ text_limit) where
      pub salvage-deep : depth_limit < x.depth → SalvageIs t before before list list out out (Err (refusal TooDeep 0))
      unfolding salvage_gives
      salvage-deep h = left (go (read_lenient t) (let l = long-is in omega (arith, sh, l)) (let l = deep_is in omega (arith, h, l)))
        where
          go : (a : Answer) → length (salvage_of a) ≤ text_limit → depth_limit < depth_of (salvage_of a) → Err (refusal TooDeep 0) ≡ gives a
          go (refused r p) s l = let z : depth_of [] ≡ 0 = refl in absurd (omega (arith, l, z))
          go (accepted ts) s l = sym (gives-by ts (le-ltb text_limit (length (writing (mended ts))) s) (lt-ltb depth_limit (depth_of (writing (mended ts))) l) refl)

      module _ (dp : x.depth ≤ depth_limit) {k : ℕ} (ck : k ≡ length (text_changes t)) where
        -- of a refused text nothing is written, so there is room
        no_room : ((r : Reason) (p : ℕ) → read_lenient t ≡ refused r p → ⊥)
            → ((ts : List Tree) → read_lenient t ≡ accepted ts → enough ts ≡ false) → SalvageIs t before before list list out out (Err (refusal NoRoom 0))
        no_room f g = left (go (read_lenient t) refl (let l = long-is in omega (arith, sh, l)) (let l = deep_is in omega (arith, dp, l)))
          where
            go : (a : Answer) → read_lenient t ≡ a → length (salvage_of a) ≤ text_limit → depth_of (salvage_of a) ≤ depth_limit → Err (refusal NoRoom 0) ≡ gives a
            go (refused r p) q s l = absurd (f r p q)
            go (accepted ts) q s l = sym (gives-by ts (le-ltb text_limit (length (writing (mended ts))) s) (le-ltb depth_limit (depth_of (writing (mended ts))) l) (g ts q))

        pub salvage-unlisted : length list / 3 < k → SalvageIs t before before list list out out (Err (refusal NoRoom 0))
        salvage-unlisted h =
            no_room (λ r p q. let z : length (text_changes t) ≡ 0 = ap length (refused-silent t r p q) in omega (arith, h, ck, z))
            (λ ts q. room_by ts refl (lt-leb (length (text_changes t)) (length list / 3) (omega (arith, h, ck))) refl ∙ none_after (roomy (tables ts) before))

        module _ (rs : k ≤ length list / 3) where
          pub salvage-unwritten : length out < x.bytes → SalvageIs t before before list list out out (Err (refusal NoRoom 0))
          salvage-unwritten h =
              let l = long-is in
              no_room (λ r p q. let z : length (salvage_of (read_lenient t)) ≡ 0 = ap (λ (a : Answer). length (salvage_of a)) q in omega (arith, h, l, z))
              (λ ts q. let z : length (salvage_of (read_lenient t)) ≡ length (writing (mended ts)) = ap (λ (a : Answer). length (salvage_of a)) q in
              room_by ts refl refl (lt-leb (length (writing (mended ts))) (length out) (omega (arith, h, l, z)))
              ∙ ap (λ (b : Bool). roomy (tables ts) before && b) (none_after (leb (length (text_changes t)) (length list / 3)))
              ∙ none_after (roomy (tables ts) before))

          pub planned : x.bytes ≤ length out → Planned t list out k
          planned h =
              let l = long-is in
              let d = deep_is in
              record { short = omega (arith, sh, l); shallow = omega (arith, dp, d); count = ck; rows = rs; room = omega (arith, h, l) }
