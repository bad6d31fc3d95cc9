-- What a search of an interval answers where only one side is searched: what that side answers, since no median passes there. Assumes
-- nothing.
use mathlib.Core.Path.{◌≡◌, refl, sym, ◌∙◌, subst}
use mathlib.Core.Bool.{Bool, true, false, ◌&&◌, true≢false}
use mathlib.Core.List.{List}
use Prim.Native.Nat.{ℕ, ◌+◌, ◌-◌, ◌<◌}
use lib.Ieee.{Float}
use Rattle.std.proofs.lemmas.List.{append-nil}
use Rattle.kdsort.specs.Cols.{key}
use Rattle.kdsort.specs.Shape.{shape, mid}
use Rattle.kdslots.specs.declared.Query.{Query}
use Rattle.kdslots.specs.Query.{goes_left, goes_right}
use Rattle.kdslots.specs.Slots.{Search, slots, over}
use Rattle.kdslots.specs.laws.Bounds.{both_true}
use Rattle.kdslots.specs.laws.Reaches.{on-axis}
use Rattle.kdslots.proofs.Complete.{median-reached}
use Rattle.kdslots.specs.laws.Intervals.{slots-node}

module _ (s : Search) (ax most lo hi : ℕ) (h : most < hi - lo) (no : s.test (mid lo hi) ≡ false) where
  pub only-right : s.right ax (mid lo hi) ≡ true → s.left ax (mid lo hi) ≡ false
      → slots s ax (shape most lo hi) ≡ slots s (1 - ax) (shape most (mid lo hi + 1) hi)
  only-right r l = rw (slots-node s ax most lo hi h, no, r, l) (append-nil (slots s (1 - ax) (shape most (mid lo hi + 1) hi)))

  pub only-left : s.right ax (mid lo hi) ≡ false → s.left ax (mid lo hi) ≡ true
      → slots s ax (shape most lo hi) ≡ slots s (1 - ax) (shape most lo (mid lo hi))
  only-left r l = rw (slots-node s ax most lo hi h, no, r, l)

-- ---- where a side is skipped, the median does not pass

pub unanswered : (q : Query) (cs : List Float) (ax m : ℕ) → ax < 2 → ((over q cs).right ax m && (over q cs).left ax m) ≡ false
    → (over q cs).test m ≡ false
unanswered q cs ax m h e = go ((over q cs).test m) refl
  where
    go : (b : Bool) → (over q cs).test m ≡ b → b ≡ false
    go false f = refl
    go true f =
        let w = median-reached (key 0 cs m) (key 1 cs m) q ax h f in
        let r : (over q cs).right ax m ≡ true = subst (λ (z : Float). goes_right q ax z ≡ true) (on-axis cs m ax h) w.0 in
        let l : (over q cs).left ax m ≡ true = subst (λ (z : Float). goes_left q ax z ≡ true) (on-axis cs m ax h) w.1 in
        absurd (true≢false (sym (both_true r l) ∙ e))
