-- What the private functions of the walk over lamps say: what becomes of a child, and, of the lent column, that behind it stand the lamps
-- of the definition's walk, as far as they fit. Assumes nothing.
use Rattle.std.specs.Prelude.{Bool, false, cond, ◌≡◌, refl, List, ℕ, ◌+◌, ◌≤◌, ltb, leb, length, Result, Ok, Err}
use Rattle.std.proofs.Common.{subst}
use Rattle.kdbush.specs.Run.{filled}
use Rattle.build_tables.specs.declared.State.{State}
use Rattle.build_tables.specs.Room.{Columns}
use Rattle.ask_base.specs.Ids.{onward}
use Rattle.ask_child_walk.specs.Kids.{childless}
use Rattle.ask_cluster.specs.declared.Fate.{Fate}
use Rattle.ask_cluster.specs.declared.Fate.TheVariants.{Skipped, Entered, Listed}
use Rattle.ask_cluster.specs.declared.Sofar.{Sofar}
use Rattle.refusals.specs.declared.Refusal.{Refusal}
use Rattle.refusals.specs.declared.Refusal.TheVariants.{NoCluster, Spoiled}
use Rattle.ask_cluster.specs.Leaves.{Trip, broke, went, enter, leaf_walk}

-- what becomes of a child: so many are then skipped; or it is entered; or it is listed
abbrev pub fate_of : ℕ → ℕ → ℕ → Fate
fate_of offset skipped num =
    cond (ltb 1 num)
    (cond (leb (skipped + num) offset) (Skipped (skipped + num)) Entered)
    (cond (ltb skipped offset) (Skipped (skipped + 1)) Listed)

-- the code's walk: how far it went; or refusal 11, where it broke, or 6, where it met no children
abbrev pub Walk : Type 0
Walk = Result Sofar Refusal

-- as a trip, with the lamps l listed; and that so many are, where it says how many
abbrev pub trip_of : Walk → List ℕ → Trip
trip_of (Ok so) l = went so.skipped l
trip_of (Err e) l = broke l

abbrev pub Counts : Walk → List ℕ → Type 0
Counts (Ok so) l = so.listed ≡ length l
Counts (Err e) l = Unit {0}

-- a walk that is refused is refused 6 where there are no children, and 11 otherwise; and where there are none it is refused
abbrev pub BrokeBy : Bool → Walk → Type 0
BrokeBy empty (Ok so) = empty ≡ false
BrokeBy empty (Err e) = e ≡ cond empty NoCluster Spoiled

-- behind a column that held base, and holds out, stand the lamps l, which are k
pub record Behind (base l : List ℕ) (k : ℕ) (out : List ℕ) : Type 0 where
  pub count : k ≡ length l
  pub left : out ≡ filled l base

-- the walk r, which leaves out where base was, is the trip x
pub record TellsColumn (base out : List ℕ) (r : Walk) (x : Trip) : Type 0 where
  pub lamps : List ℕ
  pub trip : x ≡ trip_of r lamps
  pub count : Counts r lamps
  pub left : out ≡ filled lamps base

-- with k lamps listed, and out left by them, the walk r leaves out', and does with any lamps behind the column what the definition does
abbrev pub Does : ℕ → List ℕ → Walk → List ℕ → (List ℕ → Trip) → Type 0
Does k out r out' trip = (base l : List ℕ) → Behind base l k out → TellsColumn base out' r (trip l)

-- to enter the child cluster id from zoom t's table, with n skipped, whatever bounds the definition
abbrev pub Opened : State → Columns → ℕ → ℕ → ℕ → ℕ → ℕ → ℕ → List ℕ → Walk → List ℕ → Type 0
Opened s c limit offset t id n k out r out' =
    (f : ℕ) → 32 ≤ f + 1 + t → Does k out r out' (enter (leaf_walk s c limit offset f) (onward s t id) id n)

-- a walk into the cluster id, whose origin is the entry o of zoom t's table, with n skipped
pub record Walked (s : State) (c : Columns) (limit offset id t o n k : ℕ) (out : List ℕ) (r : Walk) (out' : List ℕ) : Type 0 where
  pub trip : (f : ℕ) → 32 ≤ f + t → Does k out r out' (leaf_walk s c limit offset f id t o n)
  pub empty : BrokeBy (childless s c id t o) r

-- ---- laws

-- the same by another name
pub does-same : (k : ℕ) (out : List ℕ) (r : Walk) (out' : List ℕ) (f g : List ℕ → Trip) → ((l : List ℕ) → f l ≡ g l)
    → Does k out r out' f → Does k out r out' g
does-same k out r out' f g e d base l b = subst (λ (x : Trip). TellsColumn base out' r x) (e l) (d base l b)

-- nothing is listed
pub does-nothing : (k : ℕ) (out : List ℕ) (r : Walk) → ((l : List ℕ) → k ≡ length l → Counts r l) → Does k out r out (trip_of r)
does-nothing k out r e base l b = record { lamps = l; trip = refl; count = e l b.count; left = b.left }
