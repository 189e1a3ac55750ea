-- The exported lookup over a feed, and the feed made: when each number is given, and what a refusal leaves. Assumes nothing.
use Rattle.lists.proofs.Prelude.{ℕ, zero, suc, ◌<◌, Bool, List, ◌≡◌, refl, sym, ap, ◌∙◌, arith, length, ltb, pick, lt-ltb, le-ltb, le-leb, lt-leb, subst}
use Rattle.tables.specs.Columns.{val_from_at, val_to_at}
use Rattle.tables.specs.Memory.{Memory}
use Rattle.tables.proofs.Cases.{either-bool, below_or}
use Rattle.feed.specs.Feed.{listing}
use Rattle.feed.specs.Find.{found_in}
use Rattle.feed.specs.Made.{made_for, out_after}
use Rattle.feed.specs.declared.make.MakeFault.TheVariants.{TooLarge, NoRoom as NoBytes}
use Rattle.feed_check.specs.Check.{feed_checked}
use Rattle.feed_check.specs.declared.FeedRefusal.TheVariants.{NoSuchNumber}
use Rattle.feed_value.specs.Look.{source_of, unless_refused, looked_up}
use Rattle.feed_value.specs.declared.Looked.{Looked}
use Rattle.feed_value.specs.declared.Looked.TheVariants.{Record, Feed, Refused as NotLooked}
use Rattle.c_answers.specs.declared.SgfWriting.{SgfWriting}
use Rattle.c_feed.specs.Parts.{part_in_c, check_in_c, made_in_c, PutInC}
use Rattle.c_feed.specs.declared.SgfPart.{SgfPart}
use Rattle.demands.specs.Requests.{Only, OnlyAt, FeedBecause, LookBecause, PutBecause}
use Rattle.demands.specs.Requests as when
use Rattle.demands.proofs.Fed.{only_at, Says, says-passed, feed-says, feed-decided}
use Rattle.std.specs.Prelude.{Option, Some, None, Result, Ok, Err, ⊤}
use Rattle.feed_check.specs.declared.FeedRefusal.{FeedRefusal}
use Rattle.feed.specs.declared.make.MakeFault.{MakeFault}
use Rattle.tables.specs.declared.Refusal.{Refusal}

module _ (m : Memory) (w : List ℕ) where
  pub feed-passed : FeedBecause m w 0 0 → feed_checked m w ≡ Ok tt
  feed-passed b = says-passed (feed_checked m w) (feed-says m w b)

  -- a reason of the feed: 0 at 0, or above 0
  pub feed-or : {X : Type 0} → (FeedBecause m w 0 0 → X) → ((n p : ℕ) → 0 < n → FeedBecause m w n p → X) → X
  feed-or {X} pass refuse = go (feed-decided m w).0 (feed-decided m w).1 (feed-decided m w).2
    where
      go : (n p : ℕ) → FeedBecause m w n p → X
      go zero p b =
          let h = feed-says m w b in
          let e : p ≡ 0 = sym h.1 ∙ ap (λ (c : Result ⊤ (Refusal FeedRefusal)). (check_in_c c).place) (says-passed (feed_checked m w) h) in
          pass (subst (FeedBecause m w 0) e b)
      go (suc n) p b = refuse (suc n) p (omega arith) b

  -- ---- sgf_corrected

  module _ (k : ℕ) (r : SgfPart) (s : r ≡ part_in_c (looked_up m w k)) where
    abbrev rest : Looked
    rest = pick (ltb k m.counts.values) (source_of (found_in (listing w).entries k) (val_from_at m.values k) (val_to_at m.values k)) (NotLooked NoSuchNumber 0)

    looked : r ≡ part_in_c (unless_refused (feed_checked m w) rest)
    unfolding looked_up
    looked = s

    abbrev LooksAs : SgfPart → (number place : ℕ) → Type 0
    LooksAs x n p = (x.number ≡ n) × (x.place ≡ p)

    shows-as : {x : SgfPart} {n p : ℕ} → r ≡ x → LooksAs x n p → LooksAs r n p
    shows-as e h = (ap (λ (z : SgfPart). z.number) e ∙ h.0, ap (λ (z : SgfPart). z.place) e ∙ h.1)

    refused-looks : (c : Result ⊤ (Refusal FeedRefusal)) {n p : ℕ} → 0 < n → Says c n p → LooksAs (part_in_c (unless_refused c rest)) n p
    refused-looks (Ok tt) l h = absurd (omega (arith, l, h.0))
    refused-looks (Err e) l h = h

    found-looks : (x : Option (ℕ × ℕ)) (a e : ℕ) → LooksAs (part_in_c (source_of x a e)) 0 0
    found-looks (Some (p, q)) a e = (refl, refl)
    found-looks None a e = (refl, refl)

    looks : (n p : ℕ) → LookBecause m w k n p → LooksAs r n p
    looks n p (when.refused l b) = shows-as looked (refused-looks (feed_checked m w) l (feed-says m w b))
    looks n p (when.beyond b l) =
        shows-as {x = part_in_c (NotLooked NoSuchNumber 0)} (looked ∙ ap (λ (c : Result ⊤ (Refusal FeedRefusal)). part_in_c (unless_refused c rest)) (feed-passed b) ∙ rw (le-ltb k m.counts.values l)) (refl, refl)
    looks n p (when.found b l) =
        shows-as {x = part_in_c (source_of (found_in (listing w).entries k) (val_from_at m.values k) (val_to_at m.values k))}
        (looked ∙ ap (λ (c : Result ⊤ (Refusal FeedRefusal)). part_in_c (unless_refused c rest)) (feed-passed b) ∙ rw (lt-ltb k m.counts.values l))
        (found-looks (found_in (listing w).entries k) (val_from_at m.values k) (val_to_at m.values k))

    pub look-only : OnlyAt (LookBecause m w k) r.number r.place
    look-only =
        only_at (LookBecause m w k) r.number r.place
        (feed-or (λ b. below_or k m.counts.values (λ l. (0, 0, when.found b l)) (λ l. (16, 0, when.beyond b l))) (λ n p l b. (n, p, when.refused l b))) looks

    pub look-zeros : 0 < r.number → (r.source ≡ 0) × (r.from ≡ 0) × (r.to ≡ 0)
    look-zeros l = go (looked_up m w k) s
      where
        go : (x : Looked) → r ≡ part_in_c x → (r.source ≡ 0) × (r.from ≡ 0) × (r.to ≡ 0)
        go (Record a e) h = absurd (omega (arith, l, ap (λ (z : SgfPart). z.number) h))
        go (Feed a e) h = absurd (omega (arith, l, ap (λ (z : SgfPart). z.number) h))
        go (NotLooked f p) h = (ap (λ (z : SgfPart). z.source) h, ap (λ (z : SgfPart). z.from) h, ap (λ (z : SgfPart). z.to) h)

-- ---- sgf_feed_begin, sgf_feed_add

module _ (held : Bool) (bytes out out' : List ℕ) (r : SgfWriting) (s : PutInC held bytes out out' r) where
  made : (n : ℕ) → PutBecause held bytes out n → (x : Result ℕ MakeFault) × (made_for held bytes out ≡ x) × ((made_in_c x).number ≡ n)
  made n (when.large h) = (Err TooLarge, rw h, refl)
  made n (when.full h l) = (Err NoBytes, rw (h, lt-leb (length bytes) (length out) l), refl)
  made n (when.put h l) = (Ok (length bytes), rw (h, le-leb (length bytes) (length out) l), refl)

  put-number : (n : ℕ) → PutBecause held bytes out n → r.number ≡ n
  put-number n b = let x = made n b in ap (λ (z : SgfWriting). z.number) (s.is ∙ ap made_in_c x.1) ∙ x.2

  put_some : (n : ℕ) × PutBecause held bytes out n
  put_some =
      either-bool held (λ h. below_or (length out) (length bytes) (λ l. (14, when.full h l)) (λ l. (0, when.put h l))) (λ h. (24, when.large h))

  pub put_only : Only (PutBecause held bytes out) r.number
  put_only = record { only = subst (PutBecause held bytes out) (sym (put-number put_some.0 put_some.1)) put_some.1; always = put-number }

  pub put-stays : 0 < r.number → out' ≡ out
  put-stays l = go (made_for held bytes out) s.is s.memory
    where
      go : (x : Result ℕ MakeFault) → r ≡ made_in_c x → out' ≡ out_after x bytes out → out' ≡ out
      go (Ok n) e h = absurd (omega (arith, l, ap (λ (z : SgfWriting). z.number) e))
      go (Err TooLarge) e h = h
      go (Err NoBytes) e h = h

  pub put-zeros : 0 < r.number → r.length ≡ 0
  put-zeros l = go (made_for held bytes out) s.is
    where
      go : (x : Result ℕ MakeFault) → r ≡ made_in_c x → r.length ≡ 0
      go (Ok n) e = absurd (omega (arith, l, ap (λ (z : SgfWriting). z.number) e))
      go (Err TooLarge) e = ap (λ (z : SgfWriting). z.length) e
      go (Err NoBytes) e = ap (λ (z : SgfWriting). z.length) e
