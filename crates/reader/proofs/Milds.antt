-- The case of a lenient reading, by the reason that the code finds. Assumes nothing.
use types.Run.{OneOf, miss}
use denote.Enum.Declared.{tag_of}
use Rattle.lists.proofs.Prelude.{ℕ, ◌≡◌, ap, ◌∙◌, subst, List, [], ◌∷◌, sym}
use Rattle.lists.proofs.Tests.{never}
use Rattle.tables.specs.contracts.Reason as reason-type
use Rattle.tables.specs.Lenient.{as_reading}
use Rattle.tables.specs.declared.LenientRefusal.TheVariants.{TextTooLong, NotUtf8, TooDeep, NoRoom}
use Rattle.tables.specs.declared.Reason.{Reason}
use Rattle.tables.specs.declared.Reason.TheVariants as reason
use Rattle.reader.specs.LocalsMild.{Mild}
use Rattle.std.specs.Prelude.{Result, Ok, Err}
use Rattle.tables.specs.Refusals.{refusal}
use Rattle.tables.specs.declared.Counts.{Counts}
use Rattle.tables.specs.declared.LenientRefusal.{LenientRefusal}
use Rattle.tables.specs.declared.Refusal.{Refusal}
use Rattle.tables.proofs.Refusals.{err-refusal}

module _ {x : Result Counts (Refusal Reason)} (m : Mild x) {r : Reason} {p : ℕ} (q : x ≡ Err (refusal r p)) where
  pub mild-long : r ≡ reason.TextTooLong → as_reading (Err TextTooLong) ≡ x
  mild-long z = go m.0 m.1 (m.1 ∙ q ∙ ap (λ (y : Reason). Err (refusal y p)) z)
    where
      go : (l : Result Counts LenientRefusal) → as_reading l ≡ x → as_reading l ≡ Err (refusal reason.TextTooLong p) → as_reading (Err TextTooLong) ≡ x
      go (Ok c) e h = never cc
      go (Err TextTooLong) e h = e
      go (Err (NotUtf8 o)) e h = let w : reason.NotUtf8 ≡ reason.TextTooLong = (err-refusal h).0 in never cc
      go (Err TooDeep) e h = let w : reason.TooDeep ≡ reason.TextTooLong = (err-refusal h).0 in never cc
      go (Err NoRoom) e h = let w : reason.NoRoom ≡ reason.TextTooLong = (err-refusal h).0 in never cc

  pub mild-deep : r ≡ reason.TooDeep → as_reading (Err TooDeep) ≡ x
  mild-deep z = go m.0 m.1 (m.1 ∙ q ∙ ap (λ (y : Reason). Err (refusal y p)) z)
    where
      go : (l : Result Counts LenientRefusal) → as_reading l ≡ x → as_reading l ≡ Err (refusal reason.TooDeep p) → as_reading (Err TooDeep) ≡ x
      go (Ok c) e h = never cc
      go (Err TextTooLong) e h = let w : reason.TextTooLong ≡ reason.TooDeep = (err-refusal h).0 in never cc
      go (Err (NotUtf8 o)) e h = let w : reason.NotUtf8 ≡ reason.TooDeep = (err-refusal h).0 in never cc
      go (Err TooDeep) e h = e
      go (Err NoRoom) e h = let w : reason.NoRoom ≡ reason.TooDeep = (err-refusal h).0 in never cc

  -- the tags of all reasons but these three
  abbrev others : List ℕ
  others = 2 ∷ 3 ∷ 4 ∷ 5 ∷ 6 ∷ 7 ∷ 9 ∷ 10 ∷ 11 ∷ 12 ∷ 13 ∷ 14 ∷ 15 ∷ 16 ∷ 17 ∷ []

  pub mild-room : OneOf others (tag_of reason-type.the_type r) → as_reading (Err NoRoom) ≡ x
  mild-room t = go m.0 m.1 (m.1 ∙ q)
    where
      tagged : {y : Reason} → r ≡ y → OneOf others (tag_of reason-type.the_type y)
      tagged e = subst (λ (z : Reason). OneOf others (tag_of reason-type.the_type z)) e t

      go : (l : Result Counts LenientRefusal) → as_reading l ≡ x → as_reading l ≡ Err (refusal r p) → as_reading (Err NoRoom) ≡ x
      go (Ok c) e h = never cc
      go (Err TextTooLong) e h = let w = sym (err-refusal h).0 in absurd (miss others 0 tt (tagged w))
      go (Err (NotUtf8 o)) e h = let w = sym (err-refusal h).0 in absurd (miss others 1 tt (tagged w))
      go (Err TooDeep) e h = let w = sym (err-refusal h).0 in absurd (miss others 8 tt (tagged w))
      go (Err NoRoom) e h = e
