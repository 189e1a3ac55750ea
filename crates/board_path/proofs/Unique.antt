-- No second answer of a public function. Assumes nothing.
use Rattle.lists.proofs.Prelude.{ℕ, Bool, true, false, true≢false, ◌&&◌, ◌≡◌, refl, sym, ◌∙◌, List}
use Rattle.tables.specs.Columns.{child_at}
use Rattle.board_path.specs.LocalsNext.{is_row, Along, stays, goes, NextIs}

along_once : {nd : List ℕ} {k c x y : ℕ} → Along nd k c x → Along nd k c y → x ≡ y
along_once (stays e) (stays f) = refl
along_once (stays e) (goes f y) = absurd (true≢false (sym f ∙ e))
along_once (goes e x) (stays f) = absurd (true≢false (sym e ∙ f))
along_once (goes e x) (goes f y) = along_once x y

pub next-on-once : (nd : List ℕ) (at k x y : ℕ) → NextIs nd at k x → NextIs nd at k y → x ≡ y
next-on-once nd at k x y f g = go (is_row nd at && is_row nd (child_at nd at)) refl
  where
    go : (t : Bool) → is_row nd at && is_row nd (child_at nd at) ≡ t → x ≡ y
    go true e = along_once (f.child e) (g.child e)
    go false e = f.childless e ∙ sym (g.childless e)
