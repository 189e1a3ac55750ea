-- No second answer: two answers that meet the contract of a public function are equal; of the two tests of `edit_answer` that the check calls, too. Assumes nothing.
use Rattle.lists.proofs.Prelude.{ℕ, ◌≡◌, List}
use Rattle.lists.specs.Once.{Once}
use Rattle.lists.specs.Same.{same}
use Rattle.lists.proofs.Once.{once_is}
use Rattle.lexer.specs.Closed.{closed}
use Rattle.tables.specs.Memory.{Memory}
use Rattle.parser.specs.Game.{GM}
use Rattle.feed_check.specs.Check.{feed_number, feed_checked}
use Rattle.feed_check.specs.declared.FeedRefusal.{FeedRefusal}

pub is-closed-once : (v : List ℕ) → Once (λ r. r ≡ closed v)
is-closed-once v = once_is (closed v)

pub is-gm-once : (s : List ℕ) → Once (λ r. r ≡ same s GM)
is-gm-once s = once_is (same s GM)

pub feed-number-once : (f : FeedRefusal) → Once (λ r. r ≡ feed_number f)
feed-number-once f = once_is (feed_number f)

pub check-feed-once : (m : Memory) (w : List ℕ) → Once (λ r. r ≡ feed_checked m w)
check-feed-once m w = once_is (feed_checked m w)
