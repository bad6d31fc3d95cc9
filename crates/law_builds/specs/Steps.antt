-- One zoom of a build. What holds of a table as it comes to a zoom: its entries lie from 0 to 1, are unseen by the zoom, have no parent,
-- and count the lamps once each. Then the zoom is one zoom of the groups, and the same holds of the table that it makes. Assumes nothing.
use Rattle.std.specs.Prelude.{◌≡◌, true, ℕ, suc, ◌≤◌, ◌<◌, length, Float}
use Rattle.std.proofs.Common.{sym, ap, ◌∙◌, subst, arith, le_trans, lt-ltb, lit≤}
use mathlib.Core.List.{List, [], ◌∷◌, map}
use Rattle.kdslots.specs.declared.Query.TheVariants.{Within}
use Rattle.kdslots.specs.laws.All.{All, all_map}
use Rattle.kdslots.specs.laws.Members.{In, Distinct}
use Rattle.build_tables.specs.declared.Entry.{Entry}
use Rattle.build_tables.specs.Entries.{Table, entry, unset, unseen}
use Rattle.build_tables.specs.Radius.{radius_at}
use Rattle.build_tables.specs.laws.Radius.{radius-fine}
use Rattle.build_one_zoom.specs.laws.Keeps.{all-at}
use Rattle.build_one_zoom.specs.laws.Lamps.{lamp_total}
use Rattle.build_one_zoom.specs.laws.Sound.{Body, Next, Sound, cluster-sound}
use Rattle.build_one_zoom.specs.Zoom.{Scan}
use Rattle.law_groups.specs.Groups.{Group, copied, joined_group, entry_of, around, groups_of}
use Rattle.law_groups.specs.laws.Literal.{cluster-groups}
use Rattle.law_groups.specs.laws.OneZoom.{Copied, Joined, FitsZoom, OneZoom}
use Rattle.law_groups.specs.laws.Fits.{one-zoom}
use Rattle.build_all_zooms.specs.Zooms.{Plan, near_in, zoomed}
use Rattle.build_all_zooms.specs.laws.Running.{Able, total-some, slots-promised}
use Rattle.build_all_zooms.specs.laws.OwnPlace.{own-answered}

-- what the zoom z answers around a place of the table t
abbrev pub near_at : Plan → ℕ → Table → Float → Float → List ℕ
near_at p z t = near_in p.options.node_size (radius_at p.options.radius p.options.extent z) t

-- the groups that the zoom z makes of the table t
abbrev pub groups_on : Plan → ℕ → Table → List Group
groups_on p z t = (groups_of p.count p.options.min_points z (near_at p z t) t).1

-- an entry with no parent
abbrev pub Lone : Entry → Type 0
Lone e = e.parent ≡ unset

-- table z as it comes: seen by no zoom below z
pub record Coming (p : Plan) (z : ℕ) (t : Table) : Type 0 where
  pub fine : All (Next z) t
  pub lamps : lamp_total t ≡ p.count
  pub few : length t ≤ p.count
  pub lone : All Lone t

-- what the zoom z is on the table t: the own place of each entry is answered around it, no place is answered twice, each place is in one
-- group, each group is a copy or a cluster by SCOPE, and the next table is the groups' entries
pub record Grouped (p : Plan) (z : ℕ) (t : Table) : Type 0 where
  pub own : (i : ℕ) → i < length t → In i (near_at p z t (entry t i).x (entry t i).y)
  pub once : (x y : Float) → Distinct (near_at p z t x y)
  pub groups : OneZoom p.count p.options.min_points z (around (near_at p z t) t) t (zoomed p z t).table (groups_on p z t)
  pub next : (zoomed p z t).next ≡ map entry_of (groups_on p z t)

-- ---- a property of entries that the next table has: copies keep it, clusters get it

module _ (n least z : ℕ) (near : ℕ → List ℕ) (T T' : Table) (P : Entry → Type 0)
    (keeps : (k : ℕ) (e : Entry) → Copied n least z near T T' k e → P e)
    (gets : (i : ℕ) (ks : List ℕ) (e : Entry) → Joined n least z near T T' i ks e → P e) where
  pub all-next : (gs : List Group) → All (FitsZoom n least z near T T') gs → All P (map entry_of gs)
  unfolding All
  all-next [] w = tt
  all-next (copied k e ∷ gs) w = (keeps k e w.0, all-next gs w.1)
  all-next (joined_group i ks e ∷ gs) w = (gets i ks e w.0, all-next gs w.1)

-- ---- one zoom

module _ (p : Plan) (a : Able p) (z : ℕ) (t : Table) (hz : z ≤ 30) (c : Coming p (suc z) t) where
  some : 1 ≤ length t
  some = total-some t (let e = c.lamps in let s = a.some in omega arith)

  body : All Body t
  body = all_map (Next (suc z)) Body (λ e q. q.0) t c.fine

  once : (x y : Float) → Distinct (near_at p z t x y)
  once x y =
      (slots-promised p.options.node_size t a.size-from a.size-to some (omega (arith, c.few, a.few)) body).once
      (Within x y (radius_at p.options.radius p.options.extent z))

  own : (i : ℕ) → i < length t → In i (near_at p z t (entry t i).x (entry t i).y)
  own =
      let r = radius-fine p.options.radius p.options.extent z (omega arith) a.radius-from a.radius-to a.extent-from
      a.extent-to in
      own-answered p.options.node_size t a.size-from some body (radius_at p.options.radius p.options.extent z) r.0

  ready : (k : ℕ) → k < length t → unseen z (entry t k) ≡ true
  ready k h = lt-ltb z (entry t k).seen (let w = (all-at (Next (suc z)) t k c.fine h).1 in omega arith)

  sound : Sound z t (zoomed p z t)
  sound =
      let few : lamp_total t ≤ 1048576 = omega (arith, c.lamps, a.few) in
      cluster-sound p.count p.options.min_points z (near_at p z t) once t c.fine (le_trans few (lit≤ tt)) (omega arith)

  -- the zoom is one zoom of the groups
  pub zoom-grouped : Grouped p z t
  zoom-grouped =
      record {
        own = own;
        once = once;
        groups = one-zoom p.count p.options.min_points z (near_at p z t) t once own hz a.few c.few ready
            (λ k h. all-at Lone t k c.lone h);
        next = ap (λ (s : Scan). s.next) (cluster-groups p.count p.options.min_points z (near_at p z t) t once own);
      }

  -- what holds of the table holds of the next
  pub coming-next : Coming p z (zoomed p z t).next
  coming-next =
      let s = sound in
      record {
        fine = s.next;
        lamps = s.lamps ∙ c.lamps;
        few = omega (arith, s.shorter, c.few);
        lone =
            passes Lone lone-copy lone-made;
      }
    where
      N : ℕ
      N = p.count

      L : ℕ
      L = p.options.min_points

      near : ℕ → List ℕ
      near = around (near_at p z t) t

      T' : Table
      T' = (zoomed p z t).table

      passes : (P : Entry → Type 0) → ((k : ℕ) (e : Entry) → Copied N L z near t T' k e → P e)
          → ((i : ℕ) (ks : List ℕ) (e : Entry) → Joined N L z near t T' i ks e → P e) →
          All P (zoomed p z t).next
      passes P f g = subst (λ (q : Table). All P q) (sym zoom-grouped.next)
          (all-next N L z near t T' P f g (groups_on p z t) zoom-grouped.groups.fit)

      lone-copy : (k : ℕ) (e : Entry) → Copied N L z near t T' k e → Lone e
      lone-copy k e w = ap (λ (q : Entry). q.parent) w.same ∙ all-at Lone t k c.lone w.place

      lone-made : (i : ℕ) (ks : List ℕ) (e : Entry) → Joined N L z near t T' i ks e → Lone e
      lone-made i ks e w = w.made-parent
