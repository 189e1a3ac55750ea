-- Demand 1 of sgf_size and of sgf_write_length: when each number is given. Passed on by Demand1.
use Rattle.lists.proofs.Prelude.{ℕ, Bool, ◌≡◌, ap, ◌∙◌, ltb, lt-ltb, le-ltb, get_or, pick}
use Rattle.tables.specs.Memory.{Memory}
use Rattle.tables.specs.Numbers.{number_of}
use Rattle.tables.specs.Record.{Tree}
use Rattle.tables.specs.declared.Reason.{Reason}
use Rattle.tables.specs.declared.Reason.TheVariants.{NoSuchNumber, NotFitting}
use Rattle.fit.specs.Record.{record_in}
use Rattle.go_size.specs.declared.RootSize.{RootSize}
use Rattle.go_size.specs.declared.RootSize.TheVariants.{Absent, Sized, Wrong}
use Rattle.fit_rule.specs.Rule.{size_of_tree, rule_of}
use Rattle.c_size.specs.SizeInC.{size_in_c, no_size_in_c, no_tree, tree_size_in_c}
use Rattle.c_size.specs.declared.SgfSize.{SgfSize}
use Rattle.demands.specs.When.{Exactly, Answered, Unanswered, misfit, beyond}
use Rattle.demands.specs.Lists.{OneOf, access_numbers}
use Rattle.demands.proofs.Asked.{asked-exactly, asked-listed}
pub use Rattle.demands.proofs.Lengths.{length-exactly, length-suffices, length-needed, length-refused}

module _ (m : Memory) (r : ℕ) where
  abbrev tree : Tree
  tree = get_or (record_in m) r no_tree

  abbrev shown : SgfSize
  shown = size_in_c (size_of_tree tree) (rule_of tree)

  size-asked : Answered m m.counts.trees r → tree_size_in_c m r ≡ shown
  unfolding tree_size_in_c
  size-asked a =
      ap (λ (b : Bool). pick b (pick (ltb r m.counts.trees) shown (no_size_in_c (number_of NoSuchNumber))) (no_size_in_c (number_of NotFitting))) a.fits
      ∙ ap (λ (b : Bool). pick b shown (no_size_in_c (number_of NoSuchNumber))) (lt-ltb r m.counts.trees a.below)

  size-unasked : {x : Reason} → Unanswered m m.counts.trees r x → tree_size_in_c m r ≡ no_size_in_c (number_of x)
  unfolding tree_size_in_c
  size-unasked (misfit f) = ap (λ (b : Bool). pick b (pick (ltb r m.counts.trees) shown (no_size_in_c (number_of NoSuchNumber))) (no_size_in_c (number_of NotFitting))) f
  size-unasked (beyond f l) =
      ap (λ (b : Bool). pick b (pick (ltb r m.counts.trees) shown (no_size_in_c (number_of NoSuchNumber))) (no_size_in_c (number_of NotFitting))) f
      ∙ ap (λ (b : Bool). pick b shown (no_size_in_c (number_of NoSuchNumber))) (le-ltb r m.counts.trees l)

  shown-number : (s : RootSize) (k : ℕ) → (size_in_c s k).number ≡ 0
  shown-number Absent k = cc
  shown-number (Sized x y) k = cc
  shown-number Wrong k = cc

  module _ (a : SgfSize) (s : a ≡ tree_size_in_c m r) where
    size-zero : Answered m m.counts.trees r → a.number ≡ 0
    size-zero x = ap (λ (z : SgfSize). z.number) (s ∙ size-asked x) ∙ shown-number (size_of_tree tree) (rule_of tree)

    size-each : (x : Reason) → Unanswered m m.counts.trees r x → a.number ≡ number_of x
    size-each x u = ap (λ (z : SgfSize). z.number) (s ∙ size-unasked u)

    -- sgf_size: 19, 16
    pub size-exactly : Exactly a.number (Answered m m.counts.trees r) (Unanswered m m.counts.trees r)
    size-exactly = asked-exactly m m.counts.trees r a.number size-zero size-each

    pub size-numbers : OneOf access_numbers a.number
    size-numbers = asked-listed m m.counts.trees r a.number size-zero size-each

    -- where it is 0, all of the answer is the size and the rule of that tree of the record
    pub size-given : a.number ≡ 0 → a ≡ size_in_c (size_of_tree (get_or (record_in m) r no_tree)) (rule_of (get_or (record_in m) r no_tree))
    size-given z = s ∙ size-asked (size-exactly.zero.0 z)
