-- Each place of a table that is unseen by the zoom is in exactly one of its groups, once, and no other number is. So where all of them
-- are unseen, the places of the groups are those of the table in another order. Assumes nothing.
use Rattle.std.specs.Prelude.{◌≡◌, refl, true, false, ℕ, ◌≤◌, ◌<◌, length, Float}
use Rattle.std.proofs.Common.{ap, ◌∙◌, ⊎_elim, arith}
use mathlib.Core.List.{List, Permᴰ}
use Rattle.kdslots.specs.laws.Members.{In, Distinct}
use Rattle.build_tables.specs.Entries.{Table, entry, unseen}
use Rattle.law_groups.specs.laws.Sums.{pick, below, range-in}
use Rattle.law_groups.specs.Sums.{one_if, count, range}
use Rattle.law_groups.specs.laws.Counts.{permutes}
use Rattle.law_groups.specs.Groups.{froms, unseen_at, around, groups_of, groups_from}
use Rattle.law_groups.specs.laws.Sweeps.{inside}
use Rattle.law_groups.specs.laws.Run.{Answers, Run, run, tally, covered}
use Rattle.law_groups.specs.laws.Literal.{answers}

-- past the end nothing is unseen
unseen-past : (z : ℕ) (t : Table) (k : ℕ) → length t ≤ k → unseen_at z t k ≡ false
unseen-past z t k h = ⊎_elim (λ e. absurd (let w = inside z t k e in omega arith)) (λ e. e) (pick (unseen_at z t k))

pub places_count : (n least z : ℕ) (near : ℕ → List ℕ) (t : Table) → Answers (length t) near → (k : ℕ) →
    count k (froms (groups_from n least z near (range 0 (length t)) t).1) ≡ one_if (unseen_at z t k)
places_count n least z near t A k = ⊎_elim here past (below k (length t))
  where
    r : Run n least z near (range 0 (length t)) t (groups_from n least z near (range 0 (length t)) t).0
        (groups_from n least z near (range 0 (length t)) t).1
    r = run n least z near (range 0 (length t)) t

    here : k < length t → count k (froms (groups_from n least z near (range 0 (length t)) t).1) ≡ one_if (unseen_at z t k)
    here h =
        let a = tally n least z (length t) near A r refl k in
        let c = range-in 0 (length t) k (omega arith) (omega arith) in
        let b : one_if (unseen_at z (groups_from n least z near (range 0 (length t)) t).0 k) ≡ 0 =
        ap one_if (covered n least z (length t) near A r refl k (omega arith)) in
        omega arith

    past : length t ≤ k → count k (froms (groups_from n least z near (range 0 (length t)) t).1) ≡ one_if (unseen_at z t k)
    past h =
        let a = tally n least z (length t) near A r refl k in
        let c : one_if (unseen_at z t k) ≡ 0 = ap one_if (unseen-past z t k h) in
        omega arith

module _ (n least z : ℕ) (near : Float → Float → List ℕ) (t : Table) (once : (x y : Float) → Distinct (near x y))
    (own : (i : ℕ) → i < length t → In i (around near t i)) where
  -- a place is in the groups once if it is unseen, and not otherwise
  pub groups-count : (k : ℕ) → count k (froms (groups_of n least z near t).1) ≡ one_if (unseen z (entry t k))
  groups-count k = places_count n least z (around near t) t (answers near t once own) k

  pub groups_none : (k : ℕ) → length t ≤ k → count k (froms (groups_of n least z near t).1) ≡ 0
  groups_none k h = groups-count k ∙ ap one_if (unseen-past z t k h)

  module _ (ready : (k : ℕ) → k < length t → unseen z (entry t k) ≡ true) where
    -- each place is in one group, once
    pub groups-once : (k : ℕ) → k < length t → count k (froms (groups_of n least z near t).1) ≡ 1
    groups-once k h = groups-count k ∙ ap one_if (ready k h)

    -- the places of the groups are those of the table, in another order
    pub groups-permute : Permᴰ (froms (groups_of n least z near t).1) (range 0 (length t))
    groups-permute = permutes (length t) (froms (groups_of n least z near t).1) groups-once groups_none
