-- A salvaged text is strictly accepted, is the mended record's, and is listed whole; the numbers. Assumes nothing.
use Rattle.lists.proofs.Prelude.{ℕ, ◌≤◌, Bool, true, false, List, [], ◌≡◌, refl, ap, ap₂, ◌∙◌, ◌⊎◌, inl, inr, length, take, drop, take_at, ltb, pick, ltb-false, le-ltb}
use Rattle.lists.proofs.Pick.{pick-elim}
use Rattle.lists.proofs.Tests.{never}
use Rattle.tables.specs.Numbers.{number_of, text_limit, depth_limit}
use Rattle.tables.specs.Record.{Tree}
use Rattle.tables.specs.Rows.{tables, counts_of}
use Rattle.tables.specs.Flat.{over}
use Rattle.tables.specs.declared.Counts.{Counts}
use Rattle.tables.specs.declared.Reason.{Reason}
use Rattle.tables.specs.declared.Reason.TheVariants.{TextTooLong, TooDeep, NoRoom}
use Rattle.parser.specs.Read.{Answer, refused, accepted, read_lenient}
use Rattle.reader.specs.Lent.{Lent}
use Rattle.reader.proofs.Reasons.{refused-with}
use Rattle.reader_laws.proofs.Accepted.{reading-is}
use Rattle.serialize.specs.Form.{writing}
use Rattle.serialize_laws.specs.Depth.{depth_of}
use Rattle.salvage_mend.specs.Changes.{Change, changed}
use Rattle.salvage_mend.specs.Mend.{mended}
use Rattle.salvage_list.specs.Listed.{changes_of}
use Rattle.salvage_list.specs.ListRows.{text_changes}
use Rattle.salvage_laws.specs.Result.{salvage_of}
use Rattle.salvage_laws.proofs.Says.{changes-say}
use Rattle.salvage_laws.proofs.Theorem.{mended-reads}
use Rattle.salvage.specs.Salvage.{room_for_all, result_answer, salvage_gives, salvage_at, SalvageIs}
use Rattle.salvage.specs.Worth.{Worth, salvage_number}
use Rattle.std.specs.Prelude.{Result, Ok, Err}
use Rattle.tables.specs.Refusals.{refusal}
use Rattle.tables.specs.declared.Refusal.{Refusal}
use Rattle.lists.proofs.Parts.{ok-three}

-- the list of a text that is leniently read
pub changes-are : (t : List ℕ) (ts : List Tree) → read_lenient t ≡ accepted ts → text_changes t ≡ changes_of t
changes-are t ts h =
    ap (λ (b : Bool). pick b [] (changes_of t)) (le-ltb text_limit (length t) (reading-is true t ts h).short)

-- ---- what an answer of 0 says

pub record IsDone (w : List ℕ) (cs : List Change) (c : Counts) (n k : ℕ) (ts : List Tree) : Type 0 where
  pub counts : c ≡ counts_of (tables ts)
  pub long : n ≡ length w
  pub count : k ≡ length cs
  pub short : length w ≤ text_limit
  pub shallow : depth_of w ≤ depth_limit

result-done : (w : List ℕ) (cs : List Change) (ts : List Tree) (enough : Bool) (c : Counts) (n k : ℕ)
    → Ok (c, n, k) ≡ result_answer (counts_of (tables ts)) w cs enough → IsDone w cs c n k ts
result-done w cs ts enough c n k e = go (ltb text_limit (length w)) refl (ltb depth_limit (depth_of w)) refl enough e
  where
    go : (l : Bool) → ltb text_limit (length w) ≡ l → (d : Bool) → ltb depth_limit (depth_of w) ≡ d → (s : Bool)
        → ◌≡◌ {A = Result (Counts × ℕ × ℕ) (Refusal Reason)} (Ok (c, n, k)) (pick l (Err (refusal TextTooLong 0)) (pick d (Err (refusal TooDeep 0)) (pick s (Ok (counts_of (tables ts), length w, length cs)) (Err (refusal NoRoom 0))))) → IsDone w cs c n k ts
    go true p d q s h = never cc
    go false p true q s h = never cc
    go false p false q false h = never cc
    go false p false q true h = let z = ok-three h in record { counts = z.0; long = z.1; count = z.2; short = ltb-false text_limit (length w) p; shallow = ltb-false depth_limit (depth_of w) q }

module _ (t : List ℕ) (before : Lent) (rows room : ℕ) (c : Counts) (n k : ℕ) where
  pub done-read : Ok (c, n, k) ≡ salvage_gives (read_lenient t) (text_changes t) before rows room
      → (ts : List Tree) × (read_lenient t ≡ accepted ts) × IsDone (writing (mended ts)) (text_changes t) c n k ts
  unfolding salvage_gives
  done-read e = go (read_lenient t) refl e
    where
      go : (a : Answer) → read_lenient t ≡ a → Ok (c, n, k) ≡ salvage_gives a (text_changes t) before rows room
          → (ts : List Tree) × (read_lenient t ≡ accepted ts) × IsDone (writing (mended ts)) (text_changes t) c n k ts
      go (refused r p) q h = never cc
      go (accepted ts) q h =
          (ts, q, result-done (writing (mended ts)) (text_changes t) ts (room_for_all (tables ts) before (writing (mended ts)) (text_changes t) rows room) c n k h)

module _ {t : List ℕ} {before after : Lent} {list list' out out' : List ℕ} {c : Counts} {n k : ℕ} (x : SalvageIs t before after list list' out out' (Ok (c, n, k))) where
  pub first-bytes : (ts : List Tree) → read_lenient t ≡ accepted ts → n ≡ length (writing (mended ts)) → take n out' ≡ writing (mended ts)
  first-bytes ts h l =
      ap₂ (λ (a : ℕ) (z : List ℕ). take a z) l (x.bytes ∙ ap (λ (a : Answer). over (salvage_of a) out) h)
      ∙ take_at (writing (mended ts)) (drop (length (writing (mended ts))) out) (length (writing (mended ts))) refl

  -- where salvage answers 0, strict reading accepts the output: it is the mended record's writing, and the list says all that was changed
  pub salvage-accepted : Worth t c (take n out') k
  salvage-accepted = go (done-read t before (length list) (length out) c n k x.answer)
    where
      go : (ts : List Tree) × (read_lenient t ≡ accepted ts) × IsDone (writing (mended ts)) (text_changes t) c n k ts → Worth t c (take n out') k
      go (ts, h, d) =
          record {
            trees = ts;
            reads = h;
            counts = d.counts;
            bytes = first-bytes ts h d.long;
            back = mended-reads t ts h d.short d.shallow;
            count = d.count;
            says = ap (λ (cs : List Change). changed cs ts) (changes-are t ts h) ∙ changes-say t ts h;
          }

-- ---- numbers

-- 0, 1, 2, 9 and 14
abbrev pub FewNumbers : ℕ → Type 0
FewNumbers n = (n ≡ 0) ⊎ ((n ≡ 1) ⊎ ((n ≡ 2) ⊎ ((n ≡ 9) ⊎ (n ≡ 14))))

pub salvage-numbers : (t : List ℕ) (before : Lent) (list out : List ℕ) → FewNumbers (salvage_number (salvage_at t before list out))
unfolding salvage_gives
salvage-numbers t before list out = go (read_lenient t) refl
  where
    few : Result (Counts × ℕ × ℕ) (Refusal Reason) → Type 0
    few a = FewNumbers (salvage_number a)

    go : (a : Answer) → read_lenient t ≡ a → FewNumbers (salvage_number (salvage_gives a (text_changes t) before (length list) (length out)))
    go (refused r p) e =
        refused-with true (λ (y : Reason) (q : ℕ). FewNumbers (number_of y)) (inr (inl refl)) (λ q. inr (inr (inl refl))) (inr (inr (inr (inl refl)))) (λ z. never cc) t e
    go (accepted ts) e =
        let w = writing (mended ts) in
        pick-elim few (ltb text_limit (length w)) (λ _. inr (inl refl))
        (λ _. pick-elim few (ltb depth_limit (depth_of w)) (λ _. inr (inr (inr (inl refl))))
        (λ _. pick-elim few (room_for_all (tables ts) before w (text_changes t) (length list) (length out)) (λ _. inl refl) (λ _. inr (inr (inr (inr refl))))))
