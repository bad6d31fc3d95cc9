-- Of a build that is accepted, in columns that hold it: the state passes its check, and the table of each zoom and its index stand where
-- the state says. Assumes nothing.
use Rattle.std.specs.Prelude.{◌≡◌, take, Float, Ok}
use Rattle.std.proofs.Math.Path.{refl, ap, sym, subst}
use Rattle.std.proofs.Common.{ap₂, ◌∙◌, drop-drop}
use Rattle.std.proofs.Math.Logic.{⊎_elim}
use Rattle.std.proofs.Math.Bool.{true}
use mathlib.Core.List.{List, [], ◌∷◌, ◌++◌, append_assoc}
use Prim.Native.Nat.{ℕ, zero, suc, ◌+◌, ◌-◌, ◌*◌, ◌/◌, ◌<◌, ◌≤◌}
use native.Mathlib.Omega.{arith}
use borrow.Author.Tests.{le-leb, eq-eqb}
use Rattle.std.proofs.Math.ListN.{length, get_or, drop, length-append}
use Rattle.std.proofs.Math.Seq.{drop-append_seam, take-append_seam}
use Rattle.kdslots.specs.laws.All.{All, all_map}
use Rattle.build_tables.specs.declared.State.{State}
use Rattle.build_tables.specs.laws.Bounds.{options-are}
use Rattle.build_tables.specs.Columns.{part, held_at}
use Rattle.build_tables.specs.Entries.{Table}
use Rattle.build_tables.specs.Options.{table_count}
use Rattle.build_tables.specs.State.{start_of, len_of}
use Rattle.build_tables.specs.Sound.{packed, state_ok}
use Rattle.build_one_zoom.specs.laws.Keeps.{cluster-long}
use Rattle.law_groups.specs.laws.Sums.{below}
use Rattle.build_tables.specs.Room.{Columns, columns, room_of}
use Rattle.build_tables.specs.laws.Roomy.{both, roomy-room}
use Rattle.ask_base.specs.Columns.{table_at, ids_at, coords_at}
use Rattle.build_all_zooms.specs.Zooms.{Plan, run_zooms, index_of_table, zooms_of, joined, joined_ids, joined_co}
use Rattle.build_all_zooms.specs.laws.Running.{slots-ids, slots-co}
use Rattle.supercluster.specs.Build.{tables_of, built_state, BuildColumns, Outcome, written, need, checked, by_reply, loaded}
use Rattle.supercluster.specs.laws.Held.{LaidOut, held, built-laid, built-held}
use Rattle.supercluster.specs.laws.Load.{Holds, accepted, holds, replies, rows_in, verdict_of}
use Rattle.supercluster.specs.laws.Over.{over-length}
use Rattle.supercluster.specs.laws.Right.{Right, tables-right, tables-count, tables-room, roomy-written}
use Rattle.law_builds.specs.Given.{Given, AcceptedBuild, points, min_z, max_z, plan, tables_of_build, lamps_in, energy_in, lamps_in-length}
use Rattle.law_builds.specs.Came.{table_of_zoom as built}
use Rattle.law_answers.specs.Stored.{columns_of}

-- the state that a build replies, and the columns that it leaves
abbrev pub state_by : Given → State
state_by G = built_state G.options (points G) (tables_of_build G)

abbrev pub columns_by : Given → BuildColumns → Columns
columns_by G l = columns_of (written G.options.node_size (points G) (tables_of_build G) l)

-- what `load` replies and leaves
abbrev pub loaded_of : Given → BuildColumns → Outcome
loaded_of G l = loaded G.options G.xs G.ys G.energies l

-- ---- tables that are recorded one after the other

-- a piece of each, one after the other
pieces : {A : Type 0} → (Table → List A) → List Table → List A
pieces g [] = []
pieces g (t ∷ ts) = g t ++ pieces g ts

ids-pieces : (size : ℕ) (ts : List Table) → joined_ids size ts ≡ pieces (λ t. (index_of_table size t).ids) ts
unfolding joined_ids pieces
ids-pieces size [] = refl
ids-pieces size (t ∷ ts) = ap (λ (q : List ℕ). (index_of_table size t).ids ++ q) (ids-pieces size ts)

co-pieces : (size : ℕ) (ts : List Table) → joined_co size ts ≡ pieces (λ t. (index_of_table size t).co) ts
unfolding joined_co pieces
co-pieces size [] = refl
co-pieces size (t ∷ ts) = ap (λ (q : List Float). (index_of_table size t).co ++ q) (co-pieces size ts)

module _ (ss ll : List ℕ) (low : ℕ) where
  shift : (t : Table) (ts : List Table) (k : ℕ) → k < length ts
      → get_or ts (length ts - 1 - k) [] ≡ get_or (t ∷ ts) (length (t ∷ ts) - 1 - k) []
  shift t ts k h =
      let e : suc (length ts - 1 - k) ≡ length (t ∷ ts) - 1 - k = omega arith in
      ap (λ (i : ℕ). get_or (t ∷ ts) i []) e

  first : (t : Table) (ts : List Table) → get_or (t ∷ ts) (length (t ∷ ts) - 1 - length ts) [] ≡ t
  first t ts = let e : length (t ∷ ts) - 1 - length ts ≡ 0 = omega arith in ap (λ (i : ℕ). get_or (t ∷ ts) i []) e

  -- the length of each
  laid-long : (ts : List Table) (at : ℕ) → LaidOut ss ll low at ts → (k : ℕ) → k < length ts
      → get_or ll (low + k) 0 ≡ length (get_or ts (length ts - 1 - k) [])
  unfolding LaidOut
  laid-long [] at d k h = absurd (omega arith)
  laid-long (t ∷ ts) at d k h = ⊎_elim (λ l. laid-long ts (at + length t) d.2 k l ∙ ap length (shift t ts k l)) here
      (below k (length ts))
    where
      here : length ts ≤ k → get_or ll (low + k) 0 ≡ length (get_or (t ∷ ts) (length (t ∷ ts) - 1 - k) [])
      here l =
          let e : length ts ≡ k = omega arith in
          subst (λ (i : ℕ). get_or ll (low + i) 0 ≡ length (get_or (t ∷ ts) (length (t ∷ ts) - 1 - i) [])) e
          (d.1 ∙ sym (ap length (first t ts)))

  -- a column that holds a piece g of each, of m times its length
  module _ {A : Type 0} (g : Table → List A) (m : ℕ → ℕ) (madd : (a b : ℕ) → m (a + b) ≡ m a + m b) where
    laid-piece : (ts : List Table) (at : ℕ) (C rest : List A) → LaidOut ss ll low at ts → All (λ t. length (g t) ≡ m (length t)) ts
        → drop (m at) C ≡ pieces g ts ++ rest
        → (k : ℕ) → k < length ts → part (m (get_or ss (low + k) 0)) (m (get_or ll (low + k) 0)) C ≡ g (get_or ts (length ts - 1 - k) [])
    unfolding LaidOut All pieces
    laid-piece [] at C rest d w e k h = absurd (omega arith)
    laid-piece (t ∷ ts) at C rest d w e k h =
        ⊎_elim (λ l. laid-piece ts (at + length t) C rest d.2 w.1 after k l ∙ ap g (shift t ts k l)) here (below k (length ts))
      where
        e' : drop (m at) C ≡ g t ++ (pieces g ts ++ rest)
        e' = e ∙ append_assoc (g t) (pieces g ts) rest

        after : drop (m (at + length t)) C ≡ pieces g ts ++ rest
        after =
            ap (λ (n : ℕ). drop n C) (madd at (length t) ∙ ap (λ (n : ℕ). m at + n) (sym w.0))
            ∙ sym (drop-drop (length (g t)) (m at) C) ∙ ap (drop (length (g t))) e' ∙ drop-append_seam (g t) (pieces g ts ++ rest)

        whole : part (m (get_or ss (low + length ts) 0)) (m (get_or ll (low + length ts) 0)) C ≡ g t
        whole =
            ap₂ (λ (a n : ℕ). part (m a) n C) d.0 (ap m d.1 ∙ sym w.0)
            ∙ ap (take (length (g t))) e' ∙ take-append_seam (g t) (pieces g ts ++ rest)

        here : length ts ≤ k → part (m (get_or ss (low + k) 0)) (m (get_or ll (low + k) 0)) C ≡ g (get_or (t ∷ ts) (length (t ∷ ts) - 1 - k) [])
        here l =
            let e : length ts ≡ k = omega arith in
            subst (λ (i : ℕ). part (m (get_or ss (low + i) 0)) (m (get_or ll (low + i) 0)) C ≡ g (get_or (t ∷ ts) (length (t ∷ ts) - 1 - i) [])) e
            (whole ∙ sym (ap g (first t ts)))

-- the tables that are held, by their places
held-at : (ss ll : List ℕ) (t : Table) (low k i : ℕ) → i < k → get_or (held ss ll t low k) i [] ≡ held_at ss ll t (low + (k - 1 - i))
unfolding held
held-at ss ll t low zero i h = absurd (omega arith)
held-at ss ll t low (suc k) zero h = let e : k ≡ suc k - 1 - 0 = omega arith in ap (λ (j : ℕ). held_at ss ll t (low + j)) e
held-at ss ll t low (suc k) (suc i) h =
    let e : k - 1 - i ≡ suc k - 1 - suc i = omega arith in
    held-at ss ll t low k i (omega arith) ∙ ap (λ (j : ℕ). held_at ss ll t (low + j)) e

-- ---- the check of the state

laid-packed : (s : State) (cap e : ℕ) (ts : List Table) (at : ℕ) → LaidOut s.starts s.lens s.options.min_zoom at ts
    → All (Right s.count e) ts → at + length (joined ts) ≤ cap → packed s cap (length ts) at ≡ true
unfolding LaidOut All joined packed
laid-packed s cap e [] at d w h = le-leb at cap (omega arith)
laid-packed s cap e (t ∷ ts) at d w h =
    let z = s.options.min_zoom + length ts in
    let l = d.1 in
    let a = w.0.some in
    let b = w.0.few in
    let r = laid-packed s cap e ts (at + length t) d.2 w.1 (omega (arith, length-append t (joined ts))) in
    let n : packed s cap (length ts) (at + len_of s z) ≡ true = ap (λ (k : ℕ). packed s cap (length ts) (at + k)) l ∙ r in
    rw (eq-eqb (start_of s z) at d.0, le-leb 1 (len_of s z) (omega arith), le-leb (len_of s z) s.count (omega arith), n)

-- ---- of a build

half : (m h : ℕ) → m * 2 ≤ h → m ≤ h / 2
half m h p = omega arith

module _ (G : Given) (a : AcceptedBuild G) where
  abbrev S : State
  S = state_by G

  abbrev Ts : List Table
  Ts = tables_of_build G

  abbrev size : ℕ
  size = G.options.node_size

  -- what supercluster says of them
  rights : All (Right (points G) (energy_in G)) Ts
  rights = tables-right G.options G.xs G.ys G.energies a

  how-many : length Ts ≡ suc (zooms_of G.options)
  how-many = tables-count G.options G.xs G.ys G.energies

  recorded : LaidOut S.starts S.lens (min_z G) 0 Ts
  recorded = built-laid G.options G.xs G.ys G.energies a

  -- the index of each table is as long as the table
  record Slots (t : Table) : Type 0 where
    ids : length (index_of_table G.options.node_size t).ids ≡ length t
    co : length (index_of_table G.options.node_size t).co ≡ 2 * length t

  slots-long : All Slots Ts
  slots-long =
      let b = options-are G.options a.options in
      all_map (Right (points G) (energy_in G)) Slots
      (λ t r.
      let m : length t ≤ 1048576 = omega (arith, r.few, a.few) in
      record {
        ids = slots-ids size t b.size-from b.size-to r.some m r.unit;
        co =
            slots-co size t b.size-from b.size-to r.some m r.unit ∙ (omega arith);
      })
      Ts rights

  ids-joined : (ts : List Table) → All Slots ts → length (joined_ids size ts) ≡ length (joined ts)
  unfolding All joined_ids joined
  ids-joined [] w = refl
  ids-joined (t ∷ ts) w =
      omega (
        arith,
        length-append (index_of_table size t).ids (joined_ids size ts),
        length-append t (joined ts),
        w.0.ids,
        ids-joined ts w.1,
      )

  co-joined : (ts : List Table) → All Slots ts → length (joined_co size ts) ≡ 2 * length (joined ts)
  unfolding All joined_co joined
  co-joined [] w = refl
  co-joined (t ∷ ts) w =
      omega (arith, length-append (index_of_table size t).co (joined_co size ts), length-append t (joined ts), w.0.co, co-joined ts w.1)

  -- the first table has the N lamps
  first-long : (p : Plan) (k : ℕ) (t : Table) → length (get_or (run_zooms p k t) 0 []) ≡ length t
  unfolding run_zooms
  first-long p zero t = refl
  first-long p (suc k) t = cluster-long p.count p.options.min_points (p.options.min_zoom + k) _ t

  finest-long : length (built G (max_z G + 1)) ≡ points G
  unfolding built tables_of
  finest-long =
      let e : max_z G + 1 - (max_z G + 1) ≡ 0 = omega arith in
      ap (λ (i : ℕ). length (get_or Ts i [])) e ∙ first-long (plan G) (zooms_of G.options) (lamps_in G) ∙ lamps_in-length G a

  -- which of the tables is that of a zoom
  place : (z : ℕ) → min_z G ≤ z → z ≤ max_z G + 1 → (z - min_z G < length Ts) × (min_z G + (z - min_z G) ≡ z)
  place z h k = let n = how-many in let b = (options-are G.options a.options).zooms in (omega arith, omega arith)

  which : (z : ℕ) → min_z G ≤ z → z ≤ max_z G + 1 → get_or Ts (length Ts - 1 - (z - min_z G)) [] ≡ built G z
  unfolding built
  which z h k =
      let n = how-many in
      let b = (options-are G.options a.options).zooms in
      let e : length Ts - 1 - (z - min_z G) ≡ max_z G + 1 - z = omega arith in
      ap (λ (i : ℕ). get_or Ts i []) e

  -- the length that the state records of each table
  pub long-is : (z : ℕ) → min_z G ≤ z → z ≤ max_z G + 1 → len_of (state_by G) z ≡ length (built G z)
  long-is z h k =
      let p = place z h k in
      ap (λ (i : ℕ). len_of S i) (sym p.1)
      ∙ laid-long S.starts S.lens (min_z G) Ts 0 recorded (z - min_z G) p.0
      ∙ ap length (which z h k)

  -- the tables fit in columns that hold the build
  pub fits : length (joined (tables_of_build G)) ≤ need G.options (points G)
  fits = tables-room G.options G.xs G.ys G.energies a

  -- the state passes its check over columns that they fit in
  pub sound-in : (cap : ℕ) → length (joined (tables_of_build G)) ≤ cap → state_ok (state_by G) cap ≡ true
  unfolding state_ok
  sound-in cap h =
      let b = options-are G.options a.options in
      let n : table_count G.options ≡ length Ts = omega (arith, b.zooms, how-many) in
      let f : len_of S (max_z G + 1) ≡ points G = long-is (max_z G + 1) (omega (arith, b.zooms)) (omega arith) ∙ finest-long in
      let p : packed S cap (table_count G.options) 0 ≡ true =
      ap (λ (k : ℕ). packed S cap k 0) n ∙ laid-packed S cap (energy_in G) Ts 0 recorded rights (omega (arith, h)) in
      rw (a.options, le-leb 1 (points G) a.some, le-leb (points G) 1048576 a.few, eq-eqb _ _ f, p)

  -- in columns that hold the build
  module _ (l : BuildColumns) (r : Holds (need G.options (points G)) l) where
    abbrev C : Columns
    C = columns_by G l

    room : need G.options (points G) ≤ room_of (columns_by G l)
    unfolding written
    room =
        let n = need G.options (points G) in
        let f = fits in
        let i = ids-joined Ts slots-long in
        let c = co-joined Ts slots-long in
        let k : n ≤ length C.ids = omega (arith, over-length (joined_ids size Ts) l.ids (omega (arith, f, i, r.hd)), r.hd) in
        let t : n * 2 ≤ length C.coords =
        omega (arith, over-length (joined_co size Ts) l.coords (omega (arith, f, c, r.hc)), r.hc) in
        roomy-room C n (roomy-written G.options G.xs G.ys G.energies l a r.table)
        (both n _ _ k (half n (length C.coords) t))

    -- the state passes its check
    pub state-sound : state_ok (state_by G) (room_of (columns_by G l)) ≡ true
    state-sound = sound-in (room_of C) (omega (arith, fits, room))

    -- the table of each zoom
    pub table_is : (z : ℕ) → min_z G ≤ z → z ≤ max_z G + 1 → table_at (state_by G) (columns_by G l) z ≡ built G z
    table_is z h k =
        let b = (options-are G.options a.options).zooms in
        let m = max_z G + 2 - min_z G in
        let i = max_z G + 1 - z in
        let e : min_z G + (m - 1 - i) ≡ z = omega arith in
        ap (held_at S.starts S.lens R) (sym e) ∙ sym (held-at S.starts S.lens R (min_z G) m i (omega arith))
        ∙ ap (λ (ts : List Table). get_or ts i []) (built-held G.options G.xs G.ys G.energies a l) ∙ of
      where
        R : Table
        R = rows_in (written G.options.node_size (points G) (tables_of_build G) l)

        of : get_or (tables_of_build G) (max_z G + 1 - z) [] ≡ built G z
        of = unfold built in refl

    -- and its index
    pub ids-are : (z : ℕ) → min_z G ≤ z → z ≤ max_z G + 1 →
        ids_at (state_by G) (columns_by G l).ids z ≡ (index_of_table G.options.node_size (built G z)).ids
    unfolding written
    ids-are z h k =
        let p = place z h k in
        let rest = drop (length (joined_ids size Ts)) l.ids in
        ap (ids_at S C.ids) (sym p.1)
        ∙ laid-piece S.starts S.lens (min_z G) (λ t. (index_of_table size t).ids) (λ n. n) (λ a b. refl) Ts 0 C.ids rest recorded
        (all_map Slots (λ t. length (index_of_table size t).ids ≡ length t) (λ t w. w.ids) Ts slots-long)
        (ap (λ (q : List ℕ). q ++ rest) (ids-pieces size Ts)) (z - min_z G) p.0
        ∙ ap (λ (t : Table). (index_of_table size t).ids) (which z h k)

    pub coords-are : (z : ℕ) → min_z G ≤ z → z ≤ max_z G + 1 →
        coords_at (state_by G) (columns_by G l).coords z ≡ (index_of_table G.options.node_size (built G z)).co
    unfolding written
    coords-are z h k =
        let p = place z h k in
        let rest = drop (length (joined_co size Ts)) l.coords in
        ap (coords_at S C.coords) (sym p.1)
        ∙ laid-piece S.starts S.lens (min_z G) (λ t. (index_of_table size t).co) (λ n. 2 * n) (λ a b. omega arith) Ts 0 C.coords rest
        recorded
        (all_map Slots (λ t. length (index_of_table size t).co ≡ 2 * length t) (λ t w. w.co) Ts slots-long)
        (ap (λ (q : List Float). q ++ rest) (co-pieces size Ts)) (z - min_z G) p.0
        ∙ ap (λ (t : Table). (index_of_table size t).co) (which z h k)

-- what holds of every build that is accepted, in columns that hold it, holds of what `load` replies and leaves where it refuses nothing
pub of-load : (P : State → Columns → Type 0) (G : Given) (l : BuildColumns)
    → (AcceptedBuild G → Holds (need G.options (points G)) l → P (state_by G) (columns_by G l))
    → (s : State) → (loaded_of G l).reply ≡ Ok s → P s (columns_of (loaded_of G l).columns)
unfolding loaded
of-load P G l f s e =
    let o = G.options in
    let r = checked o G.xs G.ys G.energies l in
    let d : r ≡ Ok tt = sym (replies o G.xs G.ys G.energies l r) ∙ ap verdict_of e in
    let a = accepted o G.xs G.ys G.energies l d in
    let same = sym (ap (by_reply o G.xs G.ys G.energies l) d) in
    let w : Ok (state_by G) ≡ Ok s = ap (λ (x : Outcome). x.reply) same ∙ e in
    let q : state_by G ≡ s = cc in
    subst (λ (x : Outcome). P s (columns_of x.columns)) same
    (subst (λ (t : State). P t (columns_by G l)) q (f a.0 (holds (need o (points G)) l a.1)))
