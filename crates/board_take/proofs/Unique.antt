-- No second answer: two boards and numbers that meet the contract of a public function are equal. Assumes nothing.
use Rattle.lists.proofs.Prelude.{ℕ, ◌≡◌, sym, ◌∙◌, List}
use Rattle.lists.proofs.Tests.{same_or}
use Rattle.board_groups.specs.Groups.{Joined, Touches, TakesGroup, TakesBeside}
use Rattle.board_groups.proofs.Once.{takes-once, taken-once, takes-of-once}
use Rattle.board_take.specs.Take.{Taken, TakesAll, TakesOne, TakesNear}

taken-both : {P Q : Type 0} (c : ℕ) (b x y : List ℕ) (m n : ℕ) → Taken c b x m P → Taken c b y n Q → (P → Q → (x ≡ y) × (m ≡ n)) → (x ≡ y) × (m ≡ n)
taken-both c b x y m n f g k =
    same_or c 0 (λ e. ((f.none e).0 ∙ sym (g.none e).0, (f.none e).1 ∙ sym (g.none e).1)) (λ e. k (f.some e) (g.some e))

pub take-all-once : (w h c : ℕ) (b x y : List ℕ) (m n : ℕ) → TakesAll w h c b x m → TakesAll w h c b y n → (x ≡ y) × (m ≡ n)
take-all-once w h c b x y m n f g =
    taken-both c b x y m n f g (λ s t. (takes-once w h c b x y m n s t, taken-once w h c b x y m n s t))

pub take-point-once : (w h c p : ℕ) (b x y : List ℕ) (m n : ℕ) → TakesGroup w h c p b x m → TakesGroup w h c p b y n → (x ≡ y) × (m ≡ n)
take-point-once w h c p b x y m n f g = takes-of-once (Joined w h b c p) w h c b x y m n f g

pub take-sides-once : (w h c p : ℕ) (b x y : List ℕ) (m n : ℕ) → TakesBeside w h c p b x m → TakesBeside w h c p b y n → (x ≡ y) × (m ≡ n)
take-sides-once w h c p b x y m n f g = takes-of-once (Touches w h b c p) w h c b x y m n f g

pub take-group-once : (w h c p : ℕ) (b x y : List ℕ) (m n : ℕ) → TakesOne w h c p b x m → TakesOne w h c p b y n → (x ≡ y) × (m ≡ n)
take-group-once w h c p b x y m n f g = taken-both c b x y m n f g (take-point-once w h c p b x y m n)

pub take-beside-once : (w h c p : ℕ) (b x y : List ℕ) (m n : ℕ) → TakesNear w h c p b x m → TakesNear w h c p b y n → (x ≡ y) × (m ≡ n)
take-beside-once w h c p b x y m n f g = taken-both c b x y m n f g (take-sides-once w h c p b x y m n)
