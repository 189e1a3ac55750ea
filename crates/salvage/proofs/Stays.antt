-- A text that is leniently read with nothing to mend and nothing to list, and is its own writing, is answered with itself. Assumes nothing.
use Rattle.lists.proofs.Prelude.{ℕ, ◌/◌, ◌≤◌, Bool, true, false, ◌&&◌, List, [], ◌≡◌, refl, ap, ap₂, ◌∙◌, arith, length, take, drop, take_at, leb, ltb, pick, le-ltb, le-leb}
use Rattle.tables.specs.Numbers.{text_limit, depth_limit}
use Rattle.tables.specs.Record.{Tree}
use Rattle.tables.specs.Rows.{tables, counts_of}
use Rattle.tables.specs.Flat.{over}
use Rattle.tables.specs.declared.Reason.TheVariants.{TextTooLong, TooDeep, NoRoom}
use Rattle.parser.specs.Read.{Answer, accepted, read_lenient}
use Rattle.reader.specs.Lent.{Lent, roomy}
use Rattle.reader_laws.proofs.Accepted.{reading-is}
use Rattle.serialize.specs.Form.{writing}
use Rattle.serialize_laws.specs.Depth.{depth_of}
use Rattle.salvage_mend.specs.Changes.{Change}
use Rattle.salvage_mend.specs.Mend.{mended}
use Rattle.salvage_list.specs.ListRows.{text_changes}
use Rattle.salvage_laws.specs.Result.{salvage_of}
use Rattle.salvage.specs.Salvage.{room_for_all, result_answer, salvage_gives, salvage_at, list_left, bytes_left, SalvageIs}
use Rattle.std.specs.Prelude.{Result, Ok, Err}
use Rattle.tables.specs.Refusals.{refusal}
use Rattle.tables.specs.declared.Counts.{Counts}
use Rattle.tables.specs.declared.Reason.{Reason}
use Rattle.tables.specs.declared.Refusal.{Refusal}

module _ (w : List ℕ) (ts : List Tree) (reads : read_lenient w ≡ accepted ts) (stays : mended ts ≡ ts) (own : writing ts ≡ w) (none : text_changes w ≡ []) (deep : depth_of w ≤ depth_limit) where
  same_text : writing (mended ts) ≡ w
  same_text = ap writing stays ∙ own

  module _ (before : Lent) (list out : List ℕ) (room : roomy (tables ts) before ≡ true) (enough : length w ≤ length out) where
    abbrev by : (l d r k n : Bool) → Result (Counts × ℕ × ℕ) (Refusal Reason)
    by l d r k n = pick l (Err (refusal TextTooLong 0)) (pick d (Err (refusal TooDeep 0)) (pick (r && (k && n)) (Ok (counts_of (tables ts), length w, 0)) (Err (refusal NoRoom 0))))

    result-is : by (ltb text_limit (length w)) (ltb depth_limit (depth_of w)) (roomy (tables ts) before) (leb 0 (length list / 3)) (leb (length w) (length out)) ≡ Ok (counts_of (tables ts), length w, 0)
    result-is =
        ap (λ (z : Bool). by z (ltb depth_limit (depth_of w)) (roomy (tables ts) before) (leb 0 (length list / 3)) (leb (length w) (length out))) (le-ltb text_limit (length w) (reading-is true w ts reads).short)
        ∙ ap (λ (z : Bool). by false z (roomy (tables ts) before) (leb 0 (length list / 3)) (leb (length w) (length out))) (le-ltb depth_limit (depth_of w) deep)
        ∙ ap (λ (z : Bool). by false false z (leb 0 (length list / 3)) (leb (length w) (length out))) room
        ∙ ap (λ (z : Bool). by false false true z (leb (length w) (length out))) (le-leb 0 (length list / 3) (omega arith))
        ∙ ap (λ (z : Bool). by false false true true z) (le-leb (length w) (length out) enough)

    answer-is : salvage_at w before list out ≡ Ok (counts_of (tables ts), length w, 0)
    unfolding salvage_gives
    answer-is =
        ap₂ (λ (a : Answer) (cs : List Change). salvage_gives a cs before (length list) (length out)) reads none
        ∙ ap (λ (z : List ℕ). result_answer (counts_of (tables ts)) z [] (room_for_all (tables ts) before z [] (length list) (length out))) same_text
        ∙ result-is

    -- the answer 0 with the length of the text and no change; the list stays, and the output begins with the text
    pub text-stays : {after : Lent} {list' out' : List ℕ} {r : Result (Counts × ℕ × ℕ) (Refusal Reason)} → SalvageIs w before after list list' out out' r
        → (r ≡ Ok (counts_of (tables ts), length w, 0)) × (list' ≡ list) × (take (length w) out' ≡ w)
    text-stays x =
        let e = x.answer ∙ answer-is in
        let l = x.changes ∙ ap₂ (λ (a : Result (Counts × ℕ × ℕ) (Refusal Reason)) (cs : List Change). list_left a cs list) e none in
        let b = x.bytes ∙ ap₂ (λ (a : Result (Counts × ℕ × ℕ) (Refusal Reason)) (z : Answer). bytes_left a (salvage_of z) out) e reads ∙ ap (λ (z : List ℕ). over z out) same_text in
        (e, l, ap (take (length w)) b ∙ take_at w (drop (length w) out) (length w) refl)
