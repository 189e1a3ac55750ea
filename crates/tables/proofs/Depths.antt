-- Depths, as the parents say: 0 at a root, one more than the parent's. Assumes nothing.
use Rattle.lists.proofs.Prelude.{ℕ, zero, suc, ◌+◌, ◌≤◌, ◌<◌, ◌≡◌, refl, sym, ap, ◌∙◌, subst, List, [], ◌∷◌, ◌++◌, arith, ltb, lt-ltb, le-ltb, length, get_or, length-append, get_or-append, get_or_at, pick}
use Rattle.tables.specs.Rows.{depth_behind, depths_from, depths}
use Rattle.tables.proofs.Cases.{below_or}

-- those before stay
from-stays : (ds ps : List ℕ) (i : ℕ) → i < length ds → get_or (depths_from ds ps) i 0 ≡ get_or ds i 0
from-stays ds [] i h = refl
from-stays ds (p ∷ ps) i h =
    let ds' : List ℕ = ds ++ (depth_behind ds p ∷ []) in
    from-stays ds' ps i (omega (arith, length-append ds (depth_behind ds p ∷ []))) ∙ get_or-append ds (depth_behind ds p ∷ []) 0 i h

-- the first behind them, of depth d
from_first : (ds ps : List ℕ) (p d : ℕ) → d ≡ depth_behind ds p
    → get_or (depths_from (ds ++ (d ∷ [])) ps) (length ds) 0 ≡ pick (ltb p (length ds)) (suc (get_or (depths_from (ds ++ (d ∷ [])) ps) p 0)) 0
from_first ds ps p d e =
    let l = length-append ds (d ∷ []) in
    from-stays (ds ++ (d ∷ [])) ps (length ds) (omega arith)
    ∙ get_or_at ds d [] 0 (length ds) refl
    ∙ e
    ∙ below_or p (length ds)
    (λ b. rw (lt-ltb p (length ds) b) (ap suc (sym (from-stays (ds ++ (d ∷ [])) ps p (omega arith) ∙ get_or-append ds (d ∷ []) 0 p b))))
    (λ b. rw (le-ltb p (length ds) b))

-- each is as its parent's says
from_at : (ds ps : List ℕ) (j : ℕ) → j < length ps
    → get_or (depths_from ds ps) (length ds + j) 0 ≡ pick (ltb (get_or ps j 0) (length ds + j)) (suc (get_or (depths_from ds ps) (get_or ps j 0) 0)) 0
from_at ds [] j h = absurd (omega arith)
from_at ds (p ∷ ps) zero h =
    let e : length ds + 0 ≡ length ds = omega arith in
    rw e (from_first ds ps p (depth_behind ds p) refl)
from_at ds (p ∷ ps) (suc j) h =
    let e : length (ds ++ (depth_behind ds p ∷ [])) + j ≡ length ds + suc j = omega (arith, length-append ds (depth_behind ds p ∷ [])) in
    rw (← e) (from_at (ds ++ (depth_behind ds p ∷ [])) ps j (omega arith))

pub depths-at : (ps : List ℕ) (k : ℕ) → k < length ps → get_or (depths ps) k 0 ≡ pick (ltb (get_or ps k 0) k) (suc (get_or (depths ps) (get_or ps k 0) 0)) 0
depths-at ps k h =
    let e : 0 + k ≡ k = omega arith in
    subst (λ (z : ℕ). get_or (depths ps) z 0 ≡ pick (ltb (get_or ps k 0) z) (suc (get_or (depths ps) (get_or ps k 0) 0)) 0) e (from_at [] ps k h)

-- of a root
pub depths-root : (ps : List ℕ) (k : ℕ) → k < length ps → k ≤ get_or ps k 0 → get_or (depths ps) k 0 ≡ 0
depths-root ps k h l = depths-at ps k h ∙ rw (le-ltb (get_or ps k 0) k l)

-- of a node whose parent stands before it
pub depths-child : (ps : List ℕ) (k : ℕ) → k < length ps → get_or ps k 0 < k → get_or (depths ps) k 0 ≡ suc (get_or (depths ps) (get_or ps k 0) 0)
depths-child ps k h l = depths-at ps k h ∙ rw (lt-ltb (get_or ps k 0) k l)
