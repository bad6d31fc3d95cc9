-- What `load` leaves, from what `supercluster::load` and `build_owners::fill` leave: the first is lent a front of `near`, the second fills
-- the
-- owners from the fronts of the columns. Assumes nothing.
use Rattle.std.specs.Prelude.{◌≡◌, Float, take, Result, Ok, Err}
use Rattle.std.proofs.Math.Path.{refl, sym, ap, ap₂, subst}
use Rattle.std.proofs.Common.{◌∙◌, leb-true, length-take, take-append-drop}
use mathlib.Core.List.{List, ◌++◌, append_assoc}
use Prim.Native.Nat.{ℕ, zero, suc, ◌+◌, ◌*◌, ◌<◌, ◌≤◌, min}
use native.Mathlib.Omega.{arith}
use Rattle.std.proofs.Math.ListN.{length, drop, replicate, length-append, length-replicate}
use Rattle.std.proofs.lemmas.List.{replicate-append-replicate}
use Rattle.std.proofs.Math.Seq.{length-take-le, drop-append_seam}
use Rattle.build_tables.specs.declared.Options.{Options}
use Rattle.build_tables.specs.Options.{table_count}
use Rattle.build_tables.specs.Entries.{Table}
use Rattle.build_tables.specs.Room.{columns, room_of}
use Rattle.build_tables.specs.Rows.{Cols, rows}
use Rattle.build_tables.specs.laws.Roomy.{Roomy, front_cols}
use Rattle.build_tables.specs.laws.Bounds.{options-are}
use Rattle.build_all_zooms.specs.Zooms.{laid_over}
use Rattle.refusals.specs.declared.Refusal.{Refusal}
use Rattle.refusals.specs.declared.Refusal.TheVariants.{Options as No-as-Options, Count, Point, Tables, NoTree, NoCluster, Tile, EmptyTile, Box, NoRoom, Spoiled, Text, Energy, Lamp}
use Rattle.refusals.specs.Refusals.{number_of, number}
use Rattle.build_tables.specs.declared.State.{State}
use Rattle.supercluster.specs.Build.{BuildColumns, build_columns, Outcome, outcome, written, built_state, tables_of, need, room_in}
use Rattle.supercluster.specs.Build.{checked_in, checked, unless_refused, by_reply, loaded}
use Rattle.supercluster.specs.laws.Held.{held_by}
use Rattle.supercluster.specs.laws.Load.{accepted, Holds, holds, replies, verdict_of}
use Rattle.supercluster.specs.laws.Over.{cut-over, over-length}
use Rattle.supercluster.specs.laws.Ready.{Accepted, need-two}
use Rattle.supercluster.specs.laws.Right.{roomy-written}
use Rattle.law_builds.specs.Given.{given_build, AcceptedBuild}
use Rattle.build_owners.specs.OwnerColumn.{owner_column}
use Rattle.build_owners.specs.laws.Climbs.{Climbable}
use Rattle.owners.specs.laws.Fronted.{front-climbable, front-held}
use Rattle.owners.specs.LoadedWith.{room_with, owned_outcome, loaded_with}

-- ---- numbers and replies

-- a refusal leaves the owners
left-refused : (n : ℕ) (column own : List ℕ) → 0 < n → unless_refused n column own ≡ own
left-refused zero column own h = absurd (omega (arith, h))
left-refused (suc n) column own h = refl

-- the number of a refusal is not 0
number-some : (e : Refusal) → 0 < number_of e
number-some No-as-Options = omega arith
number-some Count = omega arith
number-some (Point i) = omega arith
number-some Tables = omega arith
number-some NoTree = omega arith
number-some NoCluster = omega arith
number-some Tile = omega arith
number-some EmptyTile = omega arith
number-some Box = omega arith
number-some (NoRoom k) = omega arith
number-some Spoiled = omega arith
number-some Text = omega arith
number-some (Energy i) = omega arith
number-some Lamp = omega arith

-- ---- a front of `near`

-- the columns with the first m of `near`
abbrev pub cut_near : ℕ → BuildColumns → BuildColumns
cut_near m l = build_columns l.table l.ids l.coords (take m l.near)

-- an outcome in these, with what follows the front
abbrev pub rejoin_near : ℕ → List ℕ → Outcome → Outcome
rejoin_near m near x =
    outcome x.reply (build_columns x.columns.table x.columns.ids x.columns.coords (x.columns.near ++ drop m near))

least-three : (a b c m : ℕ) → m ≡ min b c → min a (min m b) ≡ min (min a b) c
least-three a b c m e = omega arith

least : (n a b c : ℕ) → n ≤ a → a ≡ min b c → n ≤ c
least n a b c h q = omega arith

room_cut : (l : BuildColumns) (own : List ℕ) (m : ℕ) → m ≡ min (length l.near) (length own) → room_in (cut_near m l) ≡ room_with l own
room_cut l own m e =
    ap (min (room_of (columns l.table l.ids l.coords))) (length-take m l.near)
    ∙ least-three (room_of (columns l.table l.ids l.coords)) (length l.near) (length own) m e

-- zeros over more zeros
zeros-over : (n : ℕ) (d : List ℕ) → laid_over (replicate n 0) (laid_over (replicate (n + n) 0) d) ≡ laid_over (replicate (n + n) 0) d
zeros-over n d =
    let z : List ℕ = replicate n 0 in
    let rest = drop (length (replicate {A = ℕ} (n + n) 0)) d in
    let e : laid_over (replicate (n + n) 0) d ≡ z ++ (z ++ rest) =
    ap (λ (q : List ℕ). q ++ rest) (sym (replicate-append-replicate n n 0)) ∙ append_assoc z z rest in
    ap (laid_over z) e ∙ ap (λ (q : List ℕ). z ++ q) (drop-append_seam z (z ++ rest)) ∙ sym e

module _ (o : Options) (xs ys : List Float) (ws : List ℕ) (l : BuildColumns) where
  near-some : length xs ≤ length (written o.node_size (length xs) (tables_of o xs ys ws) l).near
  unfolding written
  near-some =
      let z : List ℕ = replicate (length xs + length xs) 0 in
      let k : length z ≡ length xs + length xs = length-replicate {A = ℕ} (length xs + length xs) 0 in
      let w = length-append z (drop (length z) l.near) in
      omega arith

  near-zeros : laid_over (replicate (length xs) 0) (written o.node_size (length xs) (tables_of o xs ys ws) l).near
      ≡ (written o.node_size (length xs) (tables_of o xs ys ws) l).near
  unfolding written
  near-zeros = zeros-over (length xs) l.near

module _ (o : Options) (xs ys : List Float) (ws : List ℕ) (l : BuildColumns) (own : List ℕ) (m : ℕ)
    (e : m ≡ min (length l.near) (length own)) where
  checked-cut : checked o xs ys ws (cut_near m l) ≡ checked_in o xs ys ws (room_with l own)
  unfolding checked
  checked-cut = ap (checked_in o xs ys ws) (room_cut l own m e)

  -- a build that is not refused is accepted, and its columns hold it
  pub done-accepted : checked_in o xs ys ws (room_with l own) ≡ Ok tt → Accepted o xs ys ws × Holds (need o (length xs)) (cut_near m l)
      × (need o (length xs) ≤ length own)
  done-accepted d =
      let a = accepted o xs ys ws (cut_near m l) (checked-cut ∙ d) in
      let r : need o (length xs) ≤ room_in (cut_near m l) = leb-true (need o (length xs)) (room_in (cut_near m l)) a.1 in
      let k = room_cut l own m e in
      (a.0, holds (need o (length xs)) (cut_near m l) a.1, least (need o (length xs)) (room_in (cut_near m l)) (room_in l) (length own) r k)

  pub done_full : checked_in o xs ys ws (room_with l own) ≡ Ok tt → Holds (need o (length xs)) l
  done_full d =
      let h = (done-accepted d).1 in
      let k = length-take m l.near in
      record {
        table = h.table;
        hd = h.hd;
        hc = h.hc;
        hr = least (need o (length xs)) (length (take m l.near)) m (length l.near) h.hr k;
      }

  front-in : m ≤ length l.near
  front-in = omega arith

  -- a refusal leaves the front, and so the column
  near-kept : (e : Refusal) → rejoin_near m l.near (outcome (Err e) (cut_near m l)) ≡ outcome (Err e) l
  near-kept e = ap (λ (q : List ℕ). outcome (Err e) (build_columns l.table l.ids l.coords q)) (take-append-drop m l.near)

  -- what a build leaves in the front, with what follows it, is what it leaves
  near-back : (r : Result (Unit {0}) Refusal) → checked_in o xs ys ws (room_with l own) ≡ r
      → rejoin_near m l.near (by_reply o xs ys ws (cut_near m l) r) ≡ by_reply o xs ys ws l r
  unfolding written
  near-back (Ok u) d =
      let a = done-accepted d in
      let b = options-are o a.0.options in
      let t = need-two o (length xs) b.zooms in
      let k = length-take-le m l.near front-in in
      let h = a.1.hr in
      let z : List ℕ = replicate (length xs + length xs) 0 in
      let n : length z ≡ length xs + length xs = length-replicate {A = ℕ} (length xs + length xs) 0 in
      let c : laid_over z (take m l.near) ++ drop m l.near ≡ laid_over z l.near =
      cut-over z l.near (laid_over z (take m l.near)) m front-in refl (over-length z (take m l.near) (omega arith) ∙ k) in
      λ i. outcome (Ok (built_state o (length xs) (tables_of o xs ys ws)))
      (record {
        table = (written o.node_size (length xs) (tables_of o xs ys ws) l).table;
        ids = (written o.node_size (length xs) (tables_of o xs ys ws) l).ids;
        coords = (written o.node_size (length xs) (tables_of o xs ys ws) l).coords;
        near = c i;
      })
  near-back (Err x) d = near-kept x

  -- ---- what `supercluster::load` left, in q and these columns; of `near` the front was lent

  module _ (q : Result State Refusal) (T : Cols) (ids : List ℕ) (co : List Float) (front : List ℕ)
      (E : outcome q (build_columns T ids co front) ≡ loaded o xs ys ws (cut_near m l)) where
    abbrev reply : Result (Unit {0}) Refusal
    reply = checked_in o xs ys ws (room_with l own)

    abbrev left : List ℕ → Outcome
    left near = outcome q (build_columns T ids co near)

    back-told : left (front ++ drop m l.near) ≡ by_reply o xs ys ws l reply
    unfolding loaded
    back-told = ap (rejoin_near m l.near) (E ∙ ap (by_reply o xs ys ws (cut_near m l)) checked-cut) ∙ near-back reply refl

    reply-is : verdict_of q ≡ reply
    reply-is = ap (λ (x : Outcome). verdict_of x.reply) back-told ∙ replies o xs ys ws l reply

    -- a refusal
    pub refused-told : (e : Refusal) → q ≡ Err e → owned_outcome (left (front ++ drop m l.near)) own ≡ loaded_with o xs ys ws l own
    unfolding loaded_with
    refused-told e h =
        let k : 0 < number reply =
        subst (λ (r : Result (Unit {0}) Refusal). 0 < number r) (sym (ap verdict_of h) ∙ reply-is) (number-some e) in
        ap₂ owned_outcome back-told (sym
        (left-refused (number reply) (laid_over (owner_column (length xs) (tables_of o xs ys ws)) own) own k))

    -- ---- no refusal

    module _ (s : State) (d : q ≡ Ok s) where
      done : reply ≡ Ok tt
      done = sym reply-is ∙ ap verdict_of d

      a : AcceptedBuild (given_build o xs ys ws)
      a = (done-accepted done).0

      full : Holds (need o (length xs)) l
      full = done_full done

      built : left (front ++ drop m l.near) ≡ by_reply o xs ys ws l (Ok tt)
      built = back-told ∙ ap (by_reply o xs ys ws l) done

      -- the state is that of the build's tables
      state-is : s ≡ built_state o (length xs) (tables_of o xs ys ws)
      state-is =
          let w : Ok s ≡ Ok (built_state o (length xs) (tables_of o xs ys ws)) = sym d ∙ ap (λ (x : Outcome). x.reply) built in cc

      abbrev Ready : State → Outcome → Type 0
      Ready s x =
          let k = table_count s.options * s.count in
          Roomy k x.columns.table × Climbable s (rows (front_cols k x.columns.table)) × (s.count ≤ length x.columns.near)
          × (k ≤ length own)

      ready-built : Ready (built_state o (length xs) (tables_of o xs ys ws)) (by_reply o xs ys ws l (Ok tt))
      ready-built =
          (roomy-written o xs ys ws l a full.table, front-climbable o xs ys ws a l full, near-some o xs ys ws l, (done-accepted done).2)

      -- what `build_owners::fill` is asked
      pub fill-ready : let k = table_count s.options * s.count in
          Roomy k T × Climbable s (rows (front_cols k T)) × (s.count ≤ length (front ++ drop m l.near)) × (k ≤ length own)
      fill-ready = subst (Ready s) (sym built) (subst (λ (t : State). Ready t (by_reply o xs ys ws l (Ok tt))) (sym state-is) ready-built)

      -- what it leaves: the zeros of `near` stay, and the column is the owners'
      abbrev Fills : State → List ℕ → List ℕ → Outcome → Type 0
      Fills s near own' x =
          let R = rows (front_cols (table_count s.options * s.count) x.columns.table) in
          (near ≡ laid_over (replicate s.count 0) x.columns.near) × (own' ≡ laid_over (owner_column s.count (held_by s R)) own)

      pub done-told : (near own' : List ℕ) → Fills s near own' (left (front ++ drop m l.near))
          → owned_outcome (left near) own' ≡ loaded_with o xs ys ws l own
      unfolding loaded_with
      done-told near own' f =
          let g : Fills (built_state o (length xs) (tables_of o xs ys ws)) near own' (by_reply o xs ys ws l (Ok tt)) =
          subst (λ (t : State). Fills t near own' (by_reply o xs ys ws l (Ok tt))) state-is (subst (Fills s near own') built f) in
          let e : near ≡ front ++ drop m l.near = g.0 ∙ near-zeros o xs ys ws l ∙ sym (ap (λ (x : Outcome). x.columns.near) built) in
          let c : own' ≡ laid_over (owner_column (length xs) (tables_of o xs ys ws)) own =
          g.1 ∙ ap (λ (t : List Table). laid_over (owner_column (length xs) t) own) (front-held o xs ys ws a l full) in
          let filled = laid_over (owner_column (length xs) (tables_of o xs ys ws)) own in
          ap₂ owned_outcome (ap left e ∙ back-told)
          (c ∙ sym (ap (λ (r : Result (Unit {0}) Refusal). unless_refused (number r) filled own) done))
