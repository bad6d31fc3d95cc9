-- SCOPE's P lines on children, leaves, expansion zoom and refusals, over the state and the columns of the worked build (Build), computed
-- from the definitions. Assumes nothing.
use Rattle.std.specs.Prelude.{◌≡◌, Bool, true, cond, not, List, [], ◌∷◌, ℕ, ◌-◌, length, Ok, Err}
use Rattle.std.proofs.Math.Path.{ap}
use Rattle.std.specs.Float.Ieee.{add, sub, mul, div, of_int, of_bits, le, lt, eq}
use Rattle.kdsort.specs.Shape.{shape, split}
use Rattle.kdslots.specs.Slots.{scanned, slots}
use Rattle.kdbush.specs.Run.{places, sound as sound_places, whole}
use Rattle.build_tables.specs.declared.State.{State}
use Rattle.build_tables.specs.Rows.{rows}
use Rattle.build_tables.specs.Radius.{radius_at}
use Rattle.ask_base.specs.Ids.{Target, origin}
use Rattle.refusals.specs.declared.Refusal.TheVariants.{Spoiled, NoTree, NoCluster}
use Rattle.refusals.specs.Refusals.{number}
use Rattle.ask_base.specs.Asked.{told, answer_of, column_of}
use Rattle.build_tables.specs.Room.{Columns, room_of}
use Rattle.ask_base.specs.Ids.{target_of, onward}
use Rattle.ask_child_walk.specs.Kids.{kids_at, clean_at}
use Rattle.ask_cluster.specs.Children.{at_target, children_at, children_of}
use Rattle.ask_cluster.specs.Expansion.{expand, zoom_at, zoom_of}
use Rattle.ask_cluster.specs.Leaves.{visit_child, steps, leaf_walk, leaves_at, leaves_of}
use Rattle.supercluster.specs.Build.{BuildColumns}
use Rattle.law_worked.specs.Tables.{b, options}
use Rattle.law_worked.specs.Build.{state, after_build, worked_held, sound}

-- children, leaves and expansion zoom of this id are refused with SCOPE's number n, whatever limit, offset and column are given, and the
-- column stays as it was
pub record Refused (s : State) (c : Columns) (id n : ℕ) : Type 0 where
  pub children : (out : List ℕ) → (number (answer_of (children_of s c id) (length out)) ≡ n) × (column_of (children_of s c id) out ≡ out)
  pub leaves : (limit offset : ℕ) (out : List ℕ)
      → (number (answer_of (leaves_of s c id limit offset) (length out)) ≡ n) × (column_of (leaves_of s c id limit offset) out ≡ out)
  pub zoom : number (zoom_of s c id) ≡ n

module _ (l : BuildColumns) where
  -- ---- where the ids lead, the state being sound

  leads : Target → Bool → Target
  leads t s = cond (not s) (Err Spoiled) t

  at_5 : target_of state (room_of (worked_held l)) 5 ≡ Ok (origin 1 0)
  unfolding target_of state options leads
  at_5 = ap (leads (Ok (origin 1 0))) (sound l)

  at-6 : target_of state (room_of (worked_held l)) 6 ≡ Ok (origin 2 0)
  unfolding target_of state options leads
  at-6 = ap (leads (Ok (origin 2 0))) (sound l)

  at-3 : target_of state (room_of (worked_held l)) 3 ≡ Err NoCluster
  unfolding target_of state options leads
  at-3 = ap (leads (Err NoCluster)) (sound l)

  at-4 : target_of state (room_of (worked_held l)) 4 ≡ Err NoCluster
  unfolding target_of state options leads
  at-4 = ap (leads (Err NoCluster)) (sound l)

  at_7 : target_of state (room_of (worked_held l)) 7 ≡ Err NoTree
  unfolding target_of state options leads
  at_7 = ap (leads (Err NoTree)) (sound l)

  at-134 : target_of state (room_of (worked_held l)) 134 ≡ Err NoCluster
  unfolding target_of state options leads
  at-134 = ap (leads (Err NoCluster)) (sound l)

  -- ---- children: entries 0 and 1 of table 1

  pub children-5 : children_of state (worked_held l) 5 ≡ told true (0 ∷ 1 ∷ [])
  unfolding children_of children_at kids_at clean_at radius_at rows places sound_places whole slots scanned shape split add
      sub mul div of_int of_bits le lt eq state options after_build b
  children-5 = ap (λ (t : Target). at_target t (λ z o. children_at state (worked_held l) 5 z o)) at_5

  -- ---- leaves, by limit and offset

  leaves_of-5 : (limit offset : ℕ) → leaves_of state (worked_held l) 5 limit offset ≡ leaves_at state (worked_held l) 5 limit offset 1 0
  unfolding leaves_of
  leaves_of-5 limit offset = ap (λ (t : Target). at_target t (λ z o. leaves_at state (worked_held l) 5 limit offset z o)) at_5

  pub leaves-10-0 : leaves_of state (worked_held l) 5 10 0 ≡ told true (0 ∷ 1 ∷ 2 ∷ 3 ∷ [])
  unfolding leaves_at leaf_walk steps visit_child onward kids_at clean_at radius_at rows places sound_places whole slots scanned shape
      split add sub mul div of_int of_bits le lt eq state options after_build b
  leaves-10-0 = leaves_of-5 10 0

  pub leaves-3-1 : leaves_of state (worked_held l) 5 3 1 ≡ told true (1 ∷ 2 ∷ 3 ∷ [])
  unfolding leaves_at leaf_walk steps visit_child onward kids_at clean_at radius_at rows places sound_places whole slots scanned shape
      split add sub mul div of_int of_bits le lt eq state options after_build b
  leaves-3-1 = leaves_of-5 3 1

  pub leaves-0-0 : leaves_of state (worked_held l) 5 0 0 ≡ told true []
  unfolding leaves_at leaf_walk steps visit_child onward kids_at clean_at radius_at rows places sound_places whole slots scanned shape
      split add sub mul div of_int of_bits le lt eq state options after_build b
  leaves-0-0 = leaves_of-5 0 0

  pub leaves-0-1 : leaves_of state (worked_held l) 5 0 1 ≡ told true []
  unfolding leaves_at leaf_walk steps visit_child onward kids_at clean_at radius_at rows places sound_places whole slots scanned shape
      split add sub mul div of_int of_bits le lt eq state options after_build b
  leaves-0-1 = leaves_of-5 0 1

  -- ---- expansion zooms

  pub zoom-5 : zoom_of state (worked_held l) 5 ≡ Ok 1
  unfolding zoom_of expand onward kids_at clean_at radius_at rows places sound_places whole slots scanned shape
      split add sub mul div of_int of_bits le lt eq state options after_build b
  zoom-5 = ap (λ (t : Target). zoom_at t (λ z o. expand state (worked_held l) (2 - (z - 1)) (Ok (origin z o)) 5 (z - 1) true)) at_5

  pub zoom-6 : zoom_of state (worked_held l) 6 ≡ Ok 2
  unfolding zoom_of expand onward kids_at clean_at radius_at rows places sound_places whole slots scanned shape
      split add sub mul div of_int of_bits le lt eq state options after_build b
  zoom-6 = ap (λ (t : Target). zoom_at t (λ z o. expand state (worked_held l) (2 - (z - 1)) (Ok (origin z o)) 6 (z - 1) true)) at-6

  -- ---- refusals

  module _ (id : ℕ) where
    no-cluster : target_of state (room_of (worked_held l)) id ≡ Err NoCluster → Refused state (worked_held l) id 6
    unfolding children_of leaves_of zoom_of
    no-cluster e = record { children = λ out. (rw e, rw e); leaves = λ limit offset out. (rw e, rw e); zoom = rw e }

    no-tree : target_of state (room_of (worked_held l)) id ≡ Err NoTree → Refused state (worked_held l) id 5
    unfolding children_of leaves_of zoom_of
    no-tree e = record { children = λ out. (rw e, rw e); leaves = λ limit offset out. (rw e, rw e); zoom = rw e }

  pub refused-3 : Refused state (worked_held l) 3 6
  refused-3 = no-cluster 3 at-3

  pub refused-4 : Refused state (worked_held l) 4 6
  refused-4 = no-cluster 4 at-4

  pub refused-7 : Refused state (worked_held l) 7 5
  refused-7 = no-tree 7 at_7

  pub refused-134 : Refused state (worked_held l) 134 6
  refused-134 = no-cluster 134 at-134
