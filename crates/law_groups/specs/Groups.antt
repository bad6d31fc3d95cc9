-- The next table of a zoom as groups: each of its entries, with the places of the table that it stands for. n is the number of points,
-- least is min_points, z the zoom; `near i` are the places answered around the place i. That these groups are what the zoom makes is
-- shown in Literal. Definitions only.
use Rattle.std.specs.Prelude.{List, [], ◌∷◌, ◌++◌, map, Bool, true, false, not, ℕ, ◌+◌, eqb, length, set, Float}
use Rattle.std.specs.Float.{binary64}
use Rattle.std.specs.Float.Ieee.{add, mul, div}
use Rattle.floats.specs.Numbers.{float}
use Rattle.kdslots.specs.Keep.{keep}
use Rattle.build_tables.specs.declared.Entry.{Entry}
use Rattle.build_tables.specs.Entries.{Table, entry, unseen, marked, under}
use Rattle.build_tables.specs.Ids.{cluster_id}
use Rattle.build_one_zoom.specs.Zoom.{num_of, energy_of, absorbed, centre, enough}
use Rattle.law_groups.specs.Sums.{sum, range}

-- ---- groups

-- an entry of the next table: the copy of the entry at one place, or the cluster made at a place, with its members in the order of the
-- answers
pub data Group : Type 0 where
  copied : ℕ → Entry → Group
  joined_group : ℕ → List ℕ → Entry → Group

-- the entry
abbrev pub entry_of : Group → Entry
entry_of (copied k e) = e
entry_of (joined_group i ks e) = e

-- the places that it stands for
abbrev pub from : Group → List ℕ
from (copied k e) = k ∷ []
from (joined_group i ks e) = ks

-- the places of all the groups, in order
abbrev pub froms : List Group → List ℕ
froms [] = []
froms (g ∷ gs) = from g ++ froms gs

-- ---- a table while it is scanned

-- the entry at k is unseen
abbrev pub unseen_at : ℕ → Table → ℕ → Bool
unseen_at z d k = unseen z (entry d k)

-- the table with the entry at i marked
abbrev pub marked_at : ℕ → ℕ → Table → Table
marked_at z i d = set d i (marked z (entry d i))

-- marked, and under the cluster p
abbrev pub took : ℕ → ℕ → Entry → Entry
took z p e = under p (marked z e)

-- what a member becomes, where a cluster p is made and where none is
abbrev pub turn : Bool → ℕ → ℕ → Entry → Entry
turn true z p = took z p
turn false z p = marked z

-- the entry at k is changed by f, where a test is true
abbrev pub change : Bool → (Entry → Entry) → Table → ℕ → Table
change true f d k = set d k (f (entry d k))
change false f d k = d

-- each place in order that is unseen when it is reached is changed by f
abbrev pub sweep : ℕ → (Entry → Entry) → List ℕ → Table → Table
sweep z f [] d = d
sweep z f (k ∷ ks) d = sweep z f ks (change (unseen_at z d k) f d k)

-- a sum of coordinates times nums, gone on with over ks
unfoldable pub weighed_sum : (Entry → Float) → Table → Float → List ℕ → Float
weighed_sum c d w [] = w
weighed_sum c d w (k ∷ ks) = weighed_sum c d (add binary64 w (mul binary64 (c (entry d k)) (float (entry d k).num))) ks

-- the list without i
abbrev pub without : ℕ → List ℕ → List ℕ
without i ks = keep (λ k. not (eqb k i)) ks

-- the mean of the coordinates of i and then of ks, each times its num, over t
abbrev pub mean_of : (Entry → Float) → Table → ℕ → List ℕ → ℕ → Float
mean_of c d i ks t = div binary64 (weighed_sum c d (mul binary64 (c (entry d i)) (float (entry d i).num)) ks) (float t)

-- ---- one place

-- the unseen answers around i once it is marked, so without it
abbrev pub others : ℕ → (ℕ → List ℕ) → Table → ℕ → List ℕ
others z near d i = keep (unseen_at z (marked_at z i d)) (near i)

-- the unseen answers before that, so with it
abbrev pub members : ℕ → (ℕ → List ℕ) → Table → ℕ → List ℕ
members z near d i = keep (unseen_at z d) (near i)

-- what f is of it, and of the others
abbrev pub sum_at : (Entry → ℕ) → ℕ → (ℕ → List ℕ) → Table → ℕ → ℕ
sum_at f z near d i = f (entry d i) + sum (λ k. f (entry d k)) (others z near d i)

-- the total of their nums
abbrev pub group_total : ℕ → (ℕ → List ℕ) → Table → ℕ → ℕ
group_total z near d i = sum_at num_of z near d i

-- a cluster is made
abbrev pub joins : ℕ → ℕ → (ℕ → List ℕ) → Table → ℕ → Bool
joins least z near d i = enough (entry d i).num (group_total z near d i) least

-- the coordinates times nums, from i on over the others
abbrev pub weighed_at : ℕ → (ℕ → List ℕ) → Table → ℕ → (Entry → Float) → Float
weighed_at z near d i c = weighed_sum c d (mul binary64 (c (entry d i)) (float (entry d i).num)) (others z near d i)

-- the cluster's entry
abbrev pub centre_at : ℕ → ℕ → (ℕ → List ℕ) → Table → ℕ → Entry
centre_at n z near d i =
    centre (absorbed d (weighed_at z near d i (λ e. e.x)) (weighed_at z near d i (λ e. e.y)) (sum_at energy_of z near d i))
    (cluster_id n z i) (group_total z near d i)

-- the groups that it gives: one cluster, or a copy of it and of each other
abbrev pub groups_at : ℕ → ℕ → (ℕ → List ℕ) → Bool → Table → ℕ → List Group
groups_at n z near true d i = joined_group i (members z near d i) (centre_at n z near d i) ∷ []
groups_at n z near false d i = map (λ k. copied k (marked z (entry d k))) (i ∷ others z near d i)

-- the table afterwards
abbrev pub after_group : ℕ → ℕ → (ℕ → List ℕ) → Bool → Table → ℕ → Table
after_group n z near b d i = sweep z (turn b z (cluster_id n z i)) (i ∷ near i) d

-- ---- the places in turn

module _ (n least z : ℕ) (near : ℕ → List ℕ) where
  -- the groups of i, where b says whether they are joined, and then those of the rest
  abbrev pub acting : Bool → Table → ℕ → (Table → Table × List Group) → Table × List Group
  acting b d i go = let r = go (after_group n z near b d i) in (r.0, groups_at n z near b d i ++ r.1)

  -- the place i, where b says whether it is unseen, and then the rest
  abbrev pub turning : Bool → Table → ℕ → (Table → Table × List Group) → Table × List Group
  turning true d i go = acting (joins least z near d i) d i go
  turning false d i go = go d

  -- the places in turn, from the table d on: the table afterwards, and the groups
  abbrev pub groups_from : List ℕ → Table → Table × List Group
  groups_from [] d = (d, [])
  groups_from (i ∷ is) d = turning (unseen_at z d i) d i (λ e. groups_from is e)

-- the places answered around the place i of the table t, where `near x y` are those answered at (x, y)
abbrev pub around : (Float → Float → List ℕ) → Table → ℕ → List ℕ
around near t i = near (entry t i).x (entry t i).y

-- one zoom of the table t: the table afterwards, and the groups of the next one
abbrev pub groups_of : ℕ → ℕ → ℕ → (Float → Float → List ℕ) → Table → Table × List Group
groups_of n least z near t = groups_from n least z (around near t) (range 0 (length t)) t
