-- No second answer of a public function of `fit_rule` and `c_size`. Assumes nothing.
use Rattle.lists.proofs.Prelude.{ℕ, ◌≡◌, List}
use Rattle.lists.specs.Once.{Once}
use Rattle.lists.proofs.Once.{once_is}
use Rattle.tables.specs.Columns.{game_at}
use Rattle.tables.specs.Memory.{Memory}
use Rattle.go_size.specs.declared.RootSize.{RootSize}
use Rattle.fit_rule.specs.Rule.{rule_by, size_at, rule_at}
use Rattle.c_size.specs.SizeInC.{size_in_c, tree_size_in_c}
use Rattle.c_size.specs.declared.SgfSize.{SgfSize}

pub rule-of-once : (game : ℕ) (size : RootSize) → Once (λ (r : ℕ). r ≡ rule_by game size)
rule-of-once game size = once_is (rule_by game size)

pub game-at-once : (tr : List ℕ) (r : ℕ) → Once (λ (g : ℕ). g ≡ game_at tr r)
game-at-once tr r = once_is (game_at tr r)

module _ (text tr nd pr vl : List ℕ) (r : ℕ) where
  pub size-at-once : Once (λ (s : RootSize). s ≡ size_at text tr nd pr vl r)
  size-at-once = once_is (size_at text tr nd pr vl r)

  pub rule-at-once : Once (λ (k : ℕ). k ≡ rule_at text tr nd pr vl r)
  rule-at-once = once_is (rule_at text tr nd pr vl r)

  -- sgf_tree_size
  pub size-by-rows-once : Once (λ (s : SgfSize). s ≡ size_in_c (size_at text tr nd pr vl r) (rule_at text tr nd pr vl r))
  size-by-rows-once = once_is (size_in_c (size_at text tr nd pr vl r) (rule_at text tr nd pr vl r))

-- sgf_size
pub tree-size-once : (m : Memory) (r : ℕ) → Once (λ (s : SgfSize). s ≡ tree_size_in_c m r)
tree-size-once m r = once_is (tree_size_in_c m r)
