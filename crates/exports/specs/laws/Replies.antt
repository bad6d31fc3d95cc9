-- Any two replies of a C name that meet its contract are equal: its number, what is carried, and all that it leaves in what was lent.
-- Of the index each is a fact by itself, of a build and its questions one fact of a record of them. The options and the state of a
-- question are any, and so those that it is given. Assumes nothing.
use Rattle.std.specs.Prelude.{◌≡◌, List, ℕ, ℤ, length, Float}
use Rattle.floats.specs.laws.Replies.{same-reply}
use Rattle.kdsort.specs.Cols.{IndexCols}
use Rattle.kdslots.specs.declared.Query.{Query}
use Rattle.refusals.specs.Refusals.{number, carried, refusal_carried}
use Rattle.kdbush.specs.Reply.{built, index_checked, searched, column_after}
use Rattle.kdwalk.specs.Reply.{Step, first_step, after_step, step_carried}
use Rattle.range.specs.declared.DataRange.{DataRange}
use Rattle.range.specs.Range.{normalized, denormalized}
use Rattle.build_tables.specs.declared.Options.{Options}
use Rattle.build_tables.specs.declared.State.{State}
use Rattle.build_tables.specs.declared.Entry.{Entry}
use Rattle.build_tables.specs.Options.{zoom_used}
use Rattle.supercluster.specs.Build.{BuildColumns}
use Rattle.owners.specs.LoadedWith.{loaded_with}
use Rattle.build_tables.specs.Room.{Columns}
use Rattle.ask_box.specs.Lists.{box_asked, ring_asked}
use Rattle.ask_effort.specs.Effort.{effort_asked}
use Rattle.ask_cluster.specs.Children.{children_of}
use Rattle.ask_cluster.specs.Leaves.{leaves_of}
use Rattle.ask_cluster.specs.Expansion.{zoom_of}
use Rattle.ask_tile.specs.Asked.{tiled}
use Rattle.ask_tile.specs.Tallied.{tallied}
use Rattle.ask_owner.specs.Asked.{owner_asked}
use Rattle.posting.specs.Post.{posted}
use Rattle.exports.specs.Told.{Said, number_said, tally_said, Told, told_of, EffortTold, effort_told_of, TileTold, tile_of}
use Rattle.exports.specs.Told.{PostTold, post_told_of}
use Rattle.exports.specs.Laid.{Laid, laid_of}
use Rattle.exports.specs.Read.{entry_asked, ReadAs, read_of}

-- the law: where a number, what is carried and a column are each said to be something, any two of each are equal
same-told : {A : Type 0} (n k : ℕ) (a : A) (r s c d : ℕ) (u v : A) → (r ≡ n) × (c ≡ k) × (u ≡ a) → (s ≡ n) × (d ≡ k) × (v ≡ a)
    → (r ≡ s) × (c ≡ d) × (u ≡ v)
same-told n k a r s c d u v e f = (same-reply e.0 f.0, same-reply e.1 f.1, same-reply e.2 f.2)

-- and of a step its number and its slot
same_step : (x : Step) (r s i j : ℕ) → (r ≡ number x) × (i ≡ step_carried x) → (s ≡ number x) × (j ≡ step_carried x) → (r ≡ s)
    × (i ≡ j)
same_step x r s i j e f = (same-reply e.0 f.0, same-reply e.1 f.1)

-- ---- the index

-- `kdbush_build`
pub build-replies : (size : ℕ) (xs ys : List Float) (w : IndexCols) (r s c d : ℕ) (u v : IndexCols) → let a = index_checked size xs ys w in
    (r ≡ number a) × (c ≡ refusal_carried a) × (u ≡ built size xs ys w)
    → (s ≡ number a) × (d ≡ refusal_carried a) × (v ≡ built size xs ys w) → (r ≡ s) × (c ≡ d) × (u ≡ v)
build-replies size xs ys w = let a = index_checked size xs ys w in same-told (number a) (refusal_carried a) (built size xs ys w)

module _ (q : Query) (size n : ℕ) (co : List Float) where
  -- `kdbush_range`, `kdbush_within`
  pub search-replies : (ids out : List ℕ) (r s c d : ℕ) (u v : List ℕ) → let a = searched q size n ids co (length out) in
      (r ≡ number a) × (c ≡ carried a) × (u ≡ column_after q size n ids co out)
      → (s ≡ number a) × (d ≡ carried a) × (v ≡ column_after q size n ids co out) → (r ≡ s) × (c ≡ d) × (u ≡ v)
  search-replies ids out =
      let a = searched q size n ids co (length out) in same-told (number a) (carried a) (column_after q size n ids co out)

  -- `kdbush_range_first`, `kdbush_within_first`
  pub first-replies : (r s i j : ℕ) → let x = first_step q size n co in
      (r ≡ number x) × (i ≡ step_carried x) → (s ≡ number x) × (j ≡ step_carried x) → (r ≡ s) × (i ≡ j)
  first-replies = same_step (first_step q size n co)

  -- `kdbush_range_after`, `kdbush_within_after`
  pub after-replies : (slot r s i j : ℕ) → let x = after_step q size n co slot in
      (r ≡ number x) × (i ≡ step_carried x) → (s ≡ number x) × (j ≡ step_carried x) → (r ≡ s) × (i ≡ j)
  after-replies slot = same_step (after_step q size n co slot)

-- ---- the build, and the questions to it

-- `supercluster_load`
pub load-replies : (o : Options) (xs ys : List Float) (ws : List ℕ) (l : BuildColumns) (own starts lens : List ℕ) (r t : Laid)
    → r ≡ laid_of (loaded_with o xs ys ws l own) starts lens → t ≡ laid_of (loaded_with o xs ys ws l own) starts lens → r ≡ t
load-replies o xs ys ws l own starts lens r t = same-reply

-- `supercluster_box`, `supercluster_box_effort`, `supercluster_ring`
module _ (s : State) (ids : List ℕ) (co : List Float) (zoom : ℕ) (out : List ℕ) where
  pub box-replies : (west least east greatest : Float) (r t : Told) → r ≡ told_of (box_asked s ids co zoom west least east greatest) out
      → t ≡ told_of (box_asked s ids co zoom west least east greatest) out → r ≡ t
  box-replies west least east greatest r t = same-reply

  pub effort-replies : (west least east greatest : Float) (a : ℕ) (r t : EffortTold)
      → r ≡ effort_told_of (effort_asked s ids co zoom west least east greatest) a out
      → t ≡ effort_told_of (effort_asked s ids co zoom west least east greatest) a out → r ≡ t
  effort-replies west least east greatest a r t = same-reply

  pub ring-replies : (x y radius : Float) (r t : Told) → r ≡ told_of (ring_asked s ids co zoom x y radius) out
      → t ≡ told_of (ring_asked s ids co zoom x y radius) out → r ≡ t
  ring-replies x y radius r t = same-reply

-- `supercluster_children`, `supercluster_leaves`, `supercluster_expansion_zoom`
module _ (s : State) (c : Columns) (cid : ℕ) where
  pub children-replies : (out : List ℕ) (r t : Told) → r ≡ told_of (children_of s c cid) out → t ≡ told_of (children_of s c cid) out → r ≡ t
  children-replies out r t = same-reply

  pub leaves-replies : (limit skip : ℕ) (out : List ℕ) (r t : Told) → r ≡ told_of (leaves_of s c cid limit skip) out
      → t ≡ told_of (leaves_of s c cid limit skip) out → r ≡ t
  leaves-replies limit skip out r t = same-reply

  pub expansion-replies : (r t : Said) → r ≡ number_said (zoom_of s c cid) → t ≡ number_said (zoom_of s c cid) → r ≡ t
  expansion-replies r t = same-reply

-- `supercluster_tile`, `supercluster_tally`
module _ (s : State) (c : Columns) (z x y : ℕ) where
  pub tile-replies : (places : List ℕ) (xs ys : List ℤ) (r t : TileTold) → r ≡ tile_of (tiled s c z x y places xs ys)
      → t ≡ tile_of (tiled s c z x y places xs ys) → r ≡ t
  tile-replies places xs ys r t = same-reply

  pub tally-replies : (r t : Said) → r ≡ tally_said (tallied s c z x y) → t ≡ tally_said (tallied s c z x y) → r ≡ t
  tally-replies r t = same-reply

-- `supercluster_owner`
pub owner-replies : (s : State) (owners : List ℕ) (lamp zoom : ℕ) (r t : Said) → r ≡ number_said (owner_asked s owners lamp zoom)
    → t ≡ number_said (owner_asked s owners lamp zoom) → r ≡ t
owner-replies s owners lamp zoom r t = same-reply

-- `supercluster_post`
pub post-replies : (s : State) (energy owners : List ℕ) (lamp figure : ℕ) (r t : PostTold)
    → r ≡ post_told_of (posted s energy owners lamp figure) → t ≡ post_told_of (posted s energy owners lamp figure) → r ≡ t
post-replies s energy owners lamp figure r t = same-reply

-- `supercluster_entry`
pub entry-replies : (s : State) (c : Columns) (zoom place : ℕ) (before : Entry) (r t : ReadAs)
    → r ≡ read_of (entry_asked s c zoom place) before → t ≡ read_of (entry_asked s c zoom place) before → r ≡ t
entry-replies s c zoom place before r t = same-reply

-- ---- what needs no build

-- `supercluster_zoom_used`
pub used-replies : (o : Options) (zoom r s : ℕ) → r ≡ zoom_used o zoom → s ≡ zoom_used o zoom → r ≡ s
used-replies o zoom r s = same-reply

-- `supercluster_normalize`, `supercluster_denormalize`
module _ (d : DataRange) (v r s : Float) where
  pub normalize-replies : r ≡ normalized d v → s ≡ normalized d v → r ≡ s
  normalize-replies = same-reply

  pub denormalize-replies : r ≡ denormalized d v → s ≡ denormalized d v → r ≡ s
  denormalize-replies = same-reply
