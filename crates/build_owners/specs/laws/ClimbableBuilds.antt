-- Of every accepted build, in columns that hold it: its owner column can be filled from table to table, `climbable`, and each owner that
-- is kept so is the lamp's owner, `owner-kept`. Assumes nothing.
use Rattle.std.specs.Prelude.{◌≡◌, ◌⊎◌, List, [], ◌∷◌, ℕ, suc, ◌+◌, ◌-◌, ◌≤◌, ◌<◌, length, get_or, drop}
use Rattle.std.proofs.Common.{sym, ap, ap₂, ◌∙◌, subst, inl, inr, ⊎_elim, arith, length-append, get_or-take, get_or-drop}
use Rattle.build_tables.specs.laws.Bounds.{options-are}
use Rattle.build_tables.specs.declared.Entry.{Entry}
use Rattle.build_tables.specs.declared.State.{State}
use Rattle.build_tables.specs.Columns.{part}
use Rattle.build_tables.specs.Entries.{Table, entry, none, unset}
use Rattle.build_tables.specs.Ids.{cluster_id, origin_of}
use Rattle.build_tables.specs.laws.Ids.{id-origin, id-from}
use Rattle.build_tables.specs.State.{start_of, len_of}
use Rattle.build_all_zooms.specs.Zooms.{joined}
use Rattle.supercluster.specs.Build.{BuildColumns, written, need}
use Rattle.supercluster.specs.laws.Held.{LaidOut, built-laid, built-held, built-within}
use Rattle.supercluster.specs.laws.Load.{Holds, rows_in}
use Rattle.supercluster.specs.laws.Ready.{need-few}
use Rattle.supercluster.specs.laws.Right.{tables-count, tables-room}
use Rattle.law_groups.specs.laws.Sums.{below}
use Rattle.law_builds.specs.Given.{Given, AcceptedBuild, points, min_z, max_z, tables_of_build}
use Rattle.law_builds.specs.RightAt.{right-at}
use Rattle.law_builds.specs.Came.{table_of_zoom}
use Rattle.law_builds.specs.Identities.{id-table-suc}
use Rattle.law_builds.specs.Parents.{Alone, Under, parents}
use Rattle.law_lamps.specs.Owner.{owner_up, owner}
use Rattle.law_lamps.specs.laws.Owners.{owner-in}
use Rattle.law_lamps.specs.laws.Climb.{up-lone, up-under, owner-up}
use Rattle.law_answers.specs.laws.Stored.{state_by, long-is, table_is}
use Rattle.build_owners.specs.OwnerColumn.{owner_in}
use Rattle.build_owners.specs.laws.Climbs.{origin_id, lead_of, Chain, seat_of, owner_on, entry_at, lead_at, finer, Climbs, Climbable}
use Rattle.build_owners.specs.laws.Steps.{seat-self, seat-origin}
use Rattle.build_owners.specs.laws.Leads.{Standing, lead-cluster, leads, lead-below, lead-owner}
pub use Rattle.build_owners.specs.laws.OwnersAre.{owner-is as owner-kept}

-- ---- of any table, and of any tables that are recorded one after the other

-- the entry at j of a part
part_at : (at n : ℕ) (t : Table) (j : ℕ) → j < n → entry t (at + j) ≡ entry (part at n t) j
part_at at n t j h = sym (get_or-take n (drop at t) j none h ∙ get_or-drop at t j none)

-- each starts where the tables before it end
laid-small : (ss ll : List ℕ) (low : ℕ) (ts : List Table) (at : ℕ) → LaidOut ss ll low at ts → (k : ℕ) → k < length ts →
    get_or ss (low + k) 0 ≤ at + length (joined ts)
unfolding LaidOut joined
laid-small ss ll low [] at d k h = absurd (omega arith)
laid-small ss ll low (t ∷ ts) at d k h =
    ⊎_elim
    (λ l. let r = laid-small ss ll low ts (at + length t) d.2 k l in omega (arith, length-append t (joined ts)))
    (λ l.
    let e : length ts ≡ k = omega arith in
    subst (λ (i : ℕ). get_or ss (low + i) 0 ≤ at + length (joined (t ∷ ts))) e (let q = d.0 in omega arith))
    (below k (length ts))

-- ---- of a build

-- the rows that it leaves
abbrev pub rows_by : Given → BuildColumns → Table
rows_by G l = rows_in (written G.options.node_size (points G) (tables_of_build G) l)

module _ (G : Given) (a : AcceptedBuild G) (l : BuildColumns) (r : Holds (need G.options (points G)) l) where
  abbrev S : State
  S = state_by G

  abbrev R : Table
  R = rows_by G l

  zooms : min_z G ≤ max_z G
  zooms = (options-are G.options a.options).zooms

  high : max_z G ≤ 30
  high = (options-are G.options a.options).zoom-to

  -- its tables stand in them
  pub standing : Standing G (state_by G).starts (rows_by G l)
  standing =
      record {
        same = λ z h k j q.
            let w = long-is G a z h k in
            part_at (start_of S z) (len_of S z) R j (omega arith) ∙ ap (λ (t : Table). entry t j) (table_is G a l r z h k);
        inside = λ z h k.
            let w = long-is G a z h k in
            let b = built-within G.options G.xs G.ys G.energies a l z h (omega arith) in
            omega arith;
      }

  -- the owners among the rows are the build's
  pub owner-held : (z : ℕ) → min_z G ≤ z → z ≤ max_z G + 1 → (k : ℕ) → k < points G → owner_on (state_by G) (rows_by G l) z k ≡ owner G z k
  owner-held z h w k q =
      ap (λ (ts : List Table). owner_in ts (max_z G + 1 - z) k) (built-held G.options G.xs G.ys G.energies a l)
      ∙ owner-kept G a z h w k q

  -- each table starts within what a column has to hold
  small : (z : ℕ) → min_z G ≤ z → z ≤ max_z G + 1 → start_of (state_by G) z ≤ 67108864
  small z h k =
      let o = G.options in
      let e : min_z G + (z - min_z G) ≡ z = omega arith in
      let c = tables-count o G.xs G.ys G.energies in
      let w = zooms in
      let d = built-laid o G.xs G.ys G.energies a in
      let b = laid-small S.starts S.lens (min_z G) (tables_of_build G) 0 d (z - min_z G) (omega arith) in
      let m = tables-room o G.xs G.ys G.energies a in
      let f = need-few o G.xs G.ys G.energies a in
      let s : get_or S.starts (min_z G + (z - min_z G)) 0 ≤ 67108864 = omega arith in
      subst (λ (i : ℕ). get_or S.starts i 0 ≤ 67108864) e s

  -- ---- from table z + 1 to table z

  module _ (z : ℕ) (h : min_z G ≤ z) (k : z ≤ max_z G) where
    -- the two tables
    abbrev U : Table
    U = table_of_zoom G z

    abbrev T : Table
    T = table_of_zoom G (suc z)

    long : len_of S z ≡ length U
    long = long-is G a z h (omega arith)

    finer-long : len_of S (suc z) ≡ length T
    finer-long = long-is G a (suc z) (omega arith) (omega arith)

    few : length T ≤ points G
    few = (right-at G a (suc z) (omega arith) (omega arith)).few

    -- owners, and the entries at them
    owner_here : (m : ℕ) → m < points G → owner_on S R z m ≡ owner G z m
    owner_here m w = owner-held z h (omega arith) m w

    finer-is : (m : ℕ) → m < points G → finer S R z m ≡ owner G (suc z) m
    finer-is m w = owner-held (suc z) (omega arith) (omega arith) m w

    here : (m : ℕ) → m < points G → owner G z m < length U
    here m w = owner-in G a z h (omega arith) m w

    finer-here : (m : ℕ) → m < points G → owner G (suc z) m < length T
    finer-here m w = owner-in G a (suc z) (omega arith) (omega arith) m w

    finer-entry : (m : ℕ) → m < points G → entry_at S R (suc z) (finer S R z m) ≡ entry T (owner G (suc z) m)
    finer-entry m w =
        ap (entry_at S R (suc z)) (finer-is m w) ∙ standing.same (suc z) (omega arith) (omega arith) (owner G (suc z) m) (finer-here m w)

    -- the lamp come to from an id, and from an entry of table z
    abbrev lead_by : ℕ → ℕ → ℕ
    lead_by f c = lead_of (points G) S.starts R f c

    lead_is : (j : ℕ) → j < length U → lead_at S R z j ≡ lead_by 32 (entry U j).id
    lead_is j q = ap (λ (e : Entry). lead_by 32 e.id) (standing.same z h (omega arith) j q)

    steps : max_z G + 1 - z ≤ 32
    steps = let b = high in omega arith

    lead-few : (j : ℕ) → j < length U → lead_at S R z j < points G
    lead-few j q =
        subst (λ (m : ℕ). m < points G) (sym (lead_is j q)) (lead-below G a S.starts R standing 32 z h (omega arith) steps j q)

    -- where the entry at i of table z + 1 goes with: what the entry that it goes to began with
    seat : (i : ℕ) → i < length T → seat_of (points G) (entry T i) i ≡ owner G (suc z) (lead_by 32 (owner_up (entry T i)))
    seat i q = by (parents G a z h k i q)
      where
        by : Alone T U i ⊎ Under (points G) z T U i → seat_of (points G) (entry T i) i ≡ owner G (suc z) (lead_by 32 (owner_up (entry T i)))
        by (inl w) =
            sym (seat-self (points G) i (entry T i) w.parent)
            ∙ sym (ap (λ (c : ℕ). owner G (suc z) (lead_by 32 c)) (up-lone (entry T i) w.parent)
            ∙ lead-owner G a S.starts R standing 32 (suc z) (omega arith) (omega arith) (let b = high in omega arith) i q)
        by (inr w) =
            let c = cluster_id (points G) z w.origin in
            let b = high in
            let p = w.parent in
            let s = w.small in
            let o = id-origin (points G) z w.origin (omega arith) in
            let d : origin_id (points G) S.starts R c ≡ (entry T w.origin).id =
            ap₂ (λ (t v : ℕ). (entry R (get_or S.starts t 0 + v)).id) (id-table-suc (points G) z w.origin (omega arith)) o
            ∙ ap (λ (e : Entry). e.id) (standing.same (suc z) (omega arith) (omega arith) w.origin w.inside) in
            sym (seat-origin (points G) i (entry T i) (λ q. omega arith)) ∙ ap (origin_of (points G)) p ∙ o
            ∙ sym (ap (λ (c : ℕ). owner G (suc z) (lead_by 32 c)) (up-under (entry T i) (omega arith) ∙ p)
            ∙ ap (owner G (suc z)) (lead-cluster (points G) S.starts R 31 c (id-from (points G) z w.origin) ∙ ap (lead_by 31) d)
            ∙ lead-owner G a S.starts R standing 31 (suc z) (omega arith) (omega arith) (omega arith) w.origin w.inside)

    climbs : Climbs S R z
    climbs =
        let e = long in
        let f = finer-long in
        let m = few in
        let in_table : (d : ℕ) → d < len_of S z → d < length U = λ d q. (omega arith) in
        record {
          inside = let w = standing.inside z h (omega arith) in omega arith;
          finer-inside = let w = standing.inside (suc z) (omega arith) (omega arith) in omega arith;
          few = let b = (right-at G a z h (omega arith)).few in omega arith;
          finer-few = omega arith;
          chained = λ d q. subst (λ (x : Entry). Chain (points G) S.starts R 32 x.id)
              (sym (standing.same z h (omega arith) d (in_table d q)))
              (leads G a S.starts R standing 32 z h (omega arith) steps d (in_table d q)).chain;
          led = λ d q. lead-few d (in_table d q);
          owned = λ d q. owner_here (lead_at S R z d) (lead-few d (in_table d q)) ∙ ap (owner G z) (lead_is d (in_table d q))
              ∙ lead-owner G a S.starts R standing 32 z h (omega arith) steps d (in_table d q);
          there = λ j w. (let p = owner_here j w in let q = here j w in omega arith);
          finer-there = λ j w. (let p = finer-is j w in let q = finer-here j w in omega arith);
          parent-set = λ j w. set-by j w (parents G a z h k (owner G (suc z) j) (finer-here j w));
          seated = seated-by;
        }
      where
        set-by : (j : ℕ) → j < points G → Alone T U (owner G (suc z) j) ⊎ Under (points G) z T U (owner G (suc z) j)
            → ((entry_at S R (suc z) (finer S R z j)).parent ≡ unset) ⊎ (points G ≤ (entry_at S R (suc z) (finer S R z j)).parent)
        set-by j w (inl p) = inl (ap (λ (e : Entry). e.parent) (finer-entry j w) ∙ p.parent)
        set-by j w (inr p) =
            let e = ap (λ (e : Entry). e.parent) (finer-entry j w) ∙ p.parent in
            let b = id-from (points G) z p.origin in
            inr (omega arith)

        seated-by : (j : ℕ) → j < points G
            → seat_of (points G) (entry_at S R (suc z) (finer S R z j)) (finer S R z j) ≡ finer S R z (lead_at S R z (owner_on S R z j))
        seated-by j w =
            let q = here j w in
            let x = lead_at S R z (owner G z j) in
            let i = owner G (suc z) j in
            let e : x ≡ lead_by 32 (owner_up (entry T i)) = lead_is (owner G z j) q ∙ ap (lead_by 32) (owner-up G a z h k j w) in
            ap₂ (λ (v : Entry) (i : ℕ). seat_of (points G) v i) (finer-entry j w) (finer-is j w)
            ∙ seat (owner G (suc z) j) (finer-here j w)
            ∙ ap (owner G (suc z)) (sym e)
            ∙ sym (ap (λ (i : ℕ). finer S R z (lead_at S R z i)) (owner_here j w) ∙ finer-is x (lead-few (owner G z j) q))

  -- ---- all of them

  pub climbable : Climbable (state_by G) (rows_in (written G.options.node_size (points G) (tables_of_build G) l))
  climbable = record { few = a.few; zooms = zooms; zoom-to = high; starts-small = small; climbs = climbs }
