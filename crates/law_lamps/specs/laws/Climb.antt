-- Of every such build: a lamp's owner in table z is the entry whose id is the parent of its owner in table z + 1, or that owner's own id
-- where its parent is unset; and no other entry of table z has that id. So owners are read off the columns. Assumes nothing.
use Rattle.std.specs.Prelude.{◌≡◌, ◌↔◌, Bool, cond, ℕ, suc, ◌≤◌, ◌<◌, length}
use Rattle.std.proofs.Common.{sym, ap, ◌∙◌, arith, eq-eqb, ne_eqb}
use Rattle.build_tables.specs.laws.Bounds.{options-are}
use Rattle.build_tables.specs.declared.Entry.{Entry}
use Rattle.build_tables.specs.Entries.{entry, unset}
use Rattle.build_tables.specs.Ids.{cluster_id}
use Rattle.build_tables.specs.laws.Ids.{id-small}
use Rattle.build_one_zoom.specs.laws.Keeps.{all-at}
use Rattle.law_groups.specs.Sums.{count}
use Rattle.law_groups.specs.Groups.{Group, copied, joined_group, entry_of, from}
use Rattle.law_groups.specs.laws.OneZoom.{FitsZoom}
use Rattle.law_builds.specs.Given.{Given, AcceptedBuild, points, min_z, max_z, plan}
use Rattle.law_builds.specs.Came.{came, table_of_zoom}
use Rattle.law_builds.specs.GroupsOfBuild.{groups_by, near_by, came-coming}
use Rattle.law_builds.specs.Identities.{ids-distinct}
use Rattle.law_builds.specs.Places.{group_at}
use Rattle.law_builds.specs.Steps.{Coming, Lone}
use Rattle.law_lamps.specs.Owner.{owner_up, place_in, owner}
use Rattle.law_lamps.specs.laws.PlaceIn.{place-in, place-has, copy_is}
use Rattle.law_lamps.specs.laws.Owners.{owner-next, owner-in, group-id, group-fits, groups-long, place-once}

-- an entry with no parent, and one with a parent
pub up-lone : (e : Entry) → e.parent ≡ unset → owner_up e ≡ e.id
up-lone e h = ap (λ (b : Bool). cond b e.id e.parent) (eq-eqb e.parent unset h)

pub up-under : (e : Entry) → e.parent < unset → owner_up e ≡ e.parent
up-under e h = ap (λ (b : Bool). cond b e.id e.parent) (ne_eqb e.parent unset (λ q. omega arith))

module _ (G : Given) (a : AcceptedBuild G) where
  -- the entry of table z whose group has the place i of table z + 1
  pub place_up : (z : ℕ) → min_z G ≤ z → z ≤ max_z G → (i : ℕ) → i < length (table_of_zoom G (suc z)) →
      (entry (table_of_zoom G z) (place_in (groups_by G z) i)).id ≡ owner_up (entry (table_of_zoom G (suc z)) i)
  place_up z h k i l = group-id G a z h k j there ∙ by (group_at (groups_by G z) j) (group-fits G a z h k j there) has
    where
      j : ℕ
      j = place_in (groups_by G z) i

      there : place_in (groups_by G z) i < length (table_of_zoom G z)
      there =
          let n = groups-long G a z h k in
          let p = place-in i (groups_by G z) (place-once G a z h k i l) in
          omega arith

      has : count i (from (group_at (groups_by G z) (place_in (groups_by G z) i))) ≡ 1
      has = place-has i (groups_by G z) (place-once G a z h k i l)

      c : Coming (plan G) (suc z) (came G (suc z))
      c = came-coming G a (suc z) (omega arith) (omega arith)

      by : (g : Group) → FitsZoom (points G) G.options.min_points z (near_by G z) (came G (suc z)) (table_of_zoom G (suc z)) g →
          count i (from g) ≡ 1 →
          (entry_of g).id ≡ owner_up (entry (table_of_zoom G (suc z)) i)
      by (copied m e) w q =
          let T = table_of_zoom G (suc z) in
          let s : i ≡ m = copy_is i m (omega arith) in
          let p : (entry T m).parent ≡ unset = ap (λ (x : Entry). x.parent) w.finer
          ∙ all-at Lone (came G (suc z)) m c.lone w.place in
          let d : e.id ≡ (entry T m).id = ap (λ (x : Entry). x.id) (w.same ∙ sym w.finer) in
          d ∙ sym (up-lone (entry T m) p) ∙ ap (λ (x : ℕ). owner_up (entry T x)) (sym s)
      by (joined_group x ks e) w q =
          let T = table_of_zoom G (suc z) in
          let p : (entry T i).parent ≡ cluster_id (points G) z x = ap (λ (x : Entry). x.parent) (w.finer i (omega arith)) in
          let few = c.few in
          let most = a.few in
          let r = w.place in
          let top = (options-are G.options a.options).zoom-to in
          let u = id-small (points G) z x (omega arith) most (omega arith) in
          w.made-id ∙ sym p ∙ sym (up-under (entry T i) (omega arith))

  -- the owner one table up
  pub owner-up : (z : ℕ) → min_z G ≤ z → z ≤ max_z G → (l : ℕ) → l < points G →
      (entry (table_of_zoom G z) (owner G z l)).id ≡ owner_up (entry (table_of_zoom G (suc z)) (owner G (suc z) l))
  owner-up z h k l w =
      ap (λ (j : ℕ). (entry (table_of_zoom G z) j).id) (owner-next G z k l)
      ∙ place_up z h k (owner G (suc z) l) (owner-in G a (suc z) (omega arith) (omega arith) l w)

  -- the entry with that id is the owner, and no other
  pub owner-climbs : (z : ℕ) → min_z G ≤ z → z ≤ max_z G → (l : ℕ) → l < points G → (q : ℕ) → q < length (table_of_zoom G z) →
      ((entry (table_of_zoom G z) q).id ≡ owner_up (entry (table_of_zoom G (suc z)) (owner G (suc z) l))) ↔ (q ≡ owner G z l)
  owner-climbs z h k l w q m = (
    (λ e. ids-distinct G a z h (omega arith) q (owner G z l) m (owner-in G a z h (omega arith) l w) (e ∙ sym (owner-up z h k l w))),
    (λ e. ap (λ (j : ℕ). (entry (table_of_zoom G z) j).id) e ∙ owner-up z h k l w),
  )
