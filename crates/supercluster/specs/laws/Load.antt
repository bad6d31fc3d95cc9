-- A build that is not refused: its points lie within [0,1] and its columns are long enough; and what it leaves in columns that were cut
-- from longer ones. And the state beside a reply, that of a refused build too. Assumes nothing.
use Rattle.std.specs.Prelude.{◌≡◌, Bool, true, false, List, ◌++◌, map, ℕ, ◌+◌, ◌*◌, ◌≤◌, min, leb, eqb, take, drop, replicate, Float}
use Rattle.std.proofs.Math.Path.{refl}
use Rattle.std.proofs.Common.{ap, sym, ◌∙◌, arith, leb-true, eqb-true, length-take-le}
use Rattle.std.proofs.Math.ListN.{length}
use Rattle.std.proofs.lemmas.List.{length-map}
use Rattle.kdslots.specs.laws.Bounds.{and_both, count-is}
use Rattle.kdslots.specs.Bounds.{count_ok}
use Rattle.kdbush.specs.laws.Built.{none-outside}
use Rattle.kdbush.specs.Reply.{pair_ok, first_outside}
use Rattle.std.specs.Prelude.{Option, Some, None, Result, Ok, Err}
use Rattle.refusals.specs.declared.Refusal.{Refusal}
use Rattle.refusals.specs.declared.Refusal.TheVariants.{Options as No-as-Options, Count, Point, Tables, NoTree, NoCluster, Tile, EmptyTile, Box, NoRoom, Spoiled, Text, Energy, Lamp}
use Rattle.refusals.specs.Refusals.{number_of, number}
use Rattle.build_tables.specs.laws.Columns.{xs-rows, ys-rows, seen-rows, id-rows, parent-rows, num-rows, energy-rows}
use Rattle.build_tables.specs.Entries.{Table}
use Rattle.build_tables.specs.Options.{options_ok}
use Rattle.build_tables.specs.Room.{columns, room_of}
use Rattle.build_tables.specs.State.{new_state}
use Rattle.build_tables.specs.Sound.{state_ok}
use Rattle.build_tables.specs.laws.Sound.{none-sound}
use Rattle.build_tables.specs.laws.Roomy.{Roomy, low, high, each-roomy, room-index, index-roomy, front_cols, front-roomy}
use Rattle.build_tables.specs.Rows.{rows, each2}
use Rattle.build_tables.specs.laws.Rows.{Even}
use Rattle.build_tables.specs.declared.Entry.{Entry}
use Rattle.build_tables.specs.declared.Options.{Options}
use Rattle.build_tables.specs.declared.State.{State}
use Rattle.build_all_zooms.specs.Zooms.{joined, joined_ids, joined_co, laid_over}
use Rattle.supercluster.specs.Build.{converted_all, tables_of, BuildColumns, build_columns, written, need, room_in, triple_ok, ordered}
use Rattle.supercluster.specs.Build.{first_over}
use Rattle.supercluster.specs.Build.{checked, by_reply, loaded, Outcome, outcome, state_left, built_state}
use Rattle.supercluster.specs.laws.Fill.{pxs, pys, none_over}
use Rattle.supercluster.specs.laws.Over.{over-map, cut-over, zeros-front}
use Rattle.supercluster.specs.laws.Ready.{Accepted, Made}

-- the lent columns hold m entries each
abbrev pub roomy : ℕ → BuildColumns → Bool
roomy m l = leb m (room_in l)

-- every test of a build that is not refused
pub done-by : (a b : Bool) (p q : Option ℕ) (r : Bool) → ordered a b p q r ≡ Ok tt → (a ≡ true) × (b ≡ true) × (p ≡ None) × (q ≡ None)
    × (r ≡ true)
done-by true true None None true e = (refl, refl, refl, refl, refl)
done-by true true None None false e = let z : ◌≡◌ {A = ℕ} 0 1 = cc in absurd (omega arith)
done-by true true None (Some i) r e = let z : ◌≡◌ {A = ℕ} 0 1 = cc in absurd (omega arith)
done-by true true (Some i) q r e = let z : ◌≡◌ {A = ℕ} 0 1 = cc in absurd (omega arith)
done-by true false p q r e = let z : ◌≡◌ {A = ℕ} 0 1 = cc in absurd (omega arith)
done-by false b p q r e = let z : ◌≡◌ {A = ℕ} 0 1 = cc in absurd (omega arith)

-- the points of an accepted build, and that its columns are long enough
pub accepted : (o : Options) (xs ys : List Float) (ws : List ℕ) (l : BuildColumns) → checked o xs ys ws l ≡ Ok tt → Accepted o xs ys ws
    × (roomy (need o (length xs)) l ≡ true)
unfolding checked
accepted o xs ys ws l e =
    let ps = converted_all o.coordinate_system xs ys in
    let w = done-by (options_ok o) (triple_ok xs ys ws) (first_outside (pxs ps) (pys ps) 0) (first_over ws 0)
    (roomy (need o (length xs)) l) e in
    let u = and_both (pair_ok xs ys) (eqb (length ws) (length xs)) w.1 in
    let v = and_both (count_ok (length xs)) (eqb (length ys) (length xs)) u.0 in
    let c = count-is (length xs) v.0 in
    let q = eqb-true (length ys) (length xs) v.1 in
    let both : length (pys ps) ≡ length (pxs ps) = length-map ps (λ p. p.y) ∙ sym (length-map ps (λ p. p.x)) in (
      record {
        options = w.0;
        same = q;
        weighed = eqb-true (length ws) (length xs) u.1;
        some = c.0;
        few = c.1;
        inside =
            none-outside (pxs ps) (pys ps) 0 w.2 both;
        light = none_over ws 0 w.3;
      },
      w.4,
    )

-- a reply without what it gives: done, or its refusal
abbrev pub verdict_of : {A : Type 0} → Result A Refusal → Result (Unit {0}) Refusal
verdict_of (Ok a) = Ok tt
verdict_of (Err e) = Err e

-- a build replies what was checked of it
pub replies : (o : Options) (xs ys : List Float) (ws : List ℕ) (l : BuildColumns) (r : Result (Unit {0}) Refusal)
    → verdict_of (by_reply o xs ys ws l r).reply ≡ r
replies o xs ys ws l (Ok d) = refl
replies o xs ys ws l (Err e) = refl

-- only a build that is not refused has the number 0
pub number-done : {A : Type 0} (r : Result A Refusal) → number r ≤ 0 → (a : A) × (r ≡ Ok a)
number-done (Ok a) e = (a, refl)
number-done (Err x) e = absurd (no-refusal x e)
  where
    no-refusal : (x : Refusal) → number_of x ≤ 0 → ⊥
    no-refusal No-as-Options h = omega (arith, h)
    no-refusal Count h = omega (arith, h)
    no-refusal (Point i) h = omega (arith, h)
    no-refusal Tables h = omega (arith, h)
    no-refusal NoTree h = omega (arith, h)
    no-refusal NoCluster h = omega (arith, h)
    no-refusal Tile h = omega (arith, h)
    no-refusal EmptyTile h = omega (arith, h)
    no-refusal Box h = omega (arith, h)
    no-refusal (NoRoom k) h = omega (arith, h)
    no-refusal Spoiled h = omega (arith, h)
    no-refusal Text h = omega (arith, h)
    no-refusal (Energy i) h = omega (arith, h)
    no-refusal Lamp h = omega (arith, h)

-- each column holds that much
pub record Holds (m : ℕ) (l : BuildColumns) : Type 0 where
  pub table : Roomy m l.table
  pub hd : m ≤ length l.ids
  pub hc : m * 2 ≤ length l.coords
  pub hr : m ≤ length l.near

pub holds : (m : ℕ) (l : BuildColumns) → roomy m l ≡ true → Holds m l
holds m l e =
    let c = columns l.table l.ids l.coords in
    let w : m ≤ min (room_of c) (length l.near) = leb-true m _ e in
    let a = low (room_of c) (length l.near) m w in
    let k = index-roomy l.ids l.coords m (room-index c m a) in
    record { table = each-roomy c m a; hd = k.0; hc = omega (arith, k.1); hr = high (room_of c) (length l.near) m w }

-- one column, from the rows
col : {B : Type 0} (f : Entry → B) (T R R' : Table) (c c' d : List B) (m : ℕ) → R' ≡ laid_over T R → map f R' ≡ c' → map f R ≡ c
    → c ≡ take m d → m ≤ length d → length c' ≡ m
    → c' ++ drop m d ≡ laid_over (map f T) d
col f T R R' c c' d m e a b k h l =
    cut-over (map f T) d c' m h (sym a ∙ ap (map f) e ∙ over-map f T R ∙ ap (laid_over (map f T)) (b ∙ k)) l

abbrev pub fronts : ℕ → ℕ → BuildColumns → BuildColumns
fronts m n l = build_columns (front_cols m l.table) (take m l.ids) (take (m * 2) l.coords) (take n l.near)

pub fronts-hold : (m : ℕ) (l : BuildColumns) → Holds m l → Holds m (fronts m m l)
fronts-hold m l h =
    record {
      table = front-roomy m l.table h.table;
      hd = omega (arith, length-take-le m l.ids h.hd);
      hc = omega (arith, length-take-le (m * 2) l.coords h.hc);
      hr = omega (arith, length-take-le m l.near h.hr);
    }

abbrev pub rows_in : BuildColumns → Table
rows_in l = rows l.table

-- the fronts of the columns as they came back, and what follows them
abbrev pub rejoined : ℕ → ℕ → BuildColumns → BuildColumns → BuildColumns
rejoined m n l' l =
    build_columns (each2 (λ A p q. p ++ drop m q) l'.table l.table) (l'.ids ++ drop m l.ids)
    (l'.coords ++ drop (m * 2) l.coords) (l'.near ++ drop n l.near)

abbrev pub EvenIn : BuildColumns → Type 0
EvenIn l = Even l.table

module _ (o : Options) (xs ys : List Float) (ws : List ℕ) (m : ℕ) (l l' : BuildColumns) (s : State) (h : Holds m l)
    (v : EvenIn (fronts m (length xs + length xs) l)) (v' : EvenIn l') (k : length l'.table.x ≡ m) (kd : length l'.ids ≡ m)
    (kc : length l'.coords ≡ m * 2)
    (g : Made o xs ys ws s (rows_in (fronts m (length xs + length xs) l)) (rows_in l') (take m l.ids) l'.ids (take (m * 2) l.coords)
    l'.coords l'.near) where
  pub whole : rejoined m (length xs + length xs) l' l ≡ written o.node_size (length xs) (tables_of o xs ys ws) l
  unfolding written
  whole =
      let c = (fronts m (length xs + length xs) l).table in
      let c' = l'.table in
      let d = l.table in
      let T = joined (tables_of o xs ys ws) in
      let ex = col (λ e. e.x) T (rows c) (rows c') c.x c'.x d.x m g.of-rows (xs-rows c') (xs-rows c) refl h.table.hx k in
      let ey = col (λ e. e.y) T (rows c) (rows c') c.y c'.y d.y m g.of-rows (ys-rows c' v'.ey) (ys-rows c v.ey) refl
      h.table.hy (v'.ey ∙ k) in
      let es = col (λ e. e.seen) T (rows c) (rows c') c.seen c'.seen d.seen m g.of-rows (seen-rows c' v'.es)
      (seen-rows c v.es) refl h.table.hs (v'.es ∙ k) in
      let ei = col (λ e. e.id) T (rows c) (rows c') c.id c'.id d.id m g.of-rows (id-rows c' v'.ei) (id-rows c v.ei) refl
      h.table.hi (v'.ei ∙ k) in
      let ep = col (λ e. e.parent) T (rows c) (rows c') c.parent c'.parent d.parent m g.of-rows (parent-rows c' v'.ep)
      (parent-rows c v.ep) refl h.table.hp (v'.ep ∙ k) in
      let en = col (λ e. e.num) T (rows c) (rows c') c.num c'.num d.num m g.of-rows (num-rows c' v'.en)
      (num-rows c v.en) refl h.table.hn (v'.en ∙ k) in
      let ew = col (λ e. e.energy) T (rows c) (rows c') c.energy c'.energy d.energy m g.of-rows (energy-rows c' v'.ew)
      (energy-rows c v.ew) refl h.table.hw (v'.ew ∙ k) in
      let ed = cut-over (joined_ids o.node_size (tables_of o xs ys ws)) l.ids l'.ids m h.hd g.of-ids kd in
      let ec = cut-over (joined_co o.node_size (tables_of o xs ys ws)) l.coords l'.coords (m * 2) h.hc g.of-co kc in
      let two = length xs + length xs in
      let er = zeros-front two l'.near l.near g.of-near in
      λ i. record {
        table = record { x = ex i; y = ey i; seen = es i; id = ei i; parent = ep i; num = en i; energy = ew i };
        ids = ed i;
        coords = ec i;
        near = er i;
      }

-- ---- what `load` leaves, by its reply

pub by-reply : (o : Options) (xs ys : List Float) (ws : List ℕ) (l : BuildColumns) (r r' : Result (Unit {0}) Refusal)
    → r ≡ checked o xs ys ws l → r ≡ r'
    → loaded o xs ys ws l ≡ by_reply o xs ys ws l r'
unfolding loaded
by-reply o xs ys ws l r r' e f = ap (by_reply o xs ys ws l) (sym e ∙ f)

module _ (o : Options) (xs ys : List Float) (ws : List ℕ) (l : BuildColumns) where
  -- the reply is what is checked, where the room that was counted is that of the ten columns
  pub checked-by : (room : ℕ) (r : Result (Unit {0}) Refusal)
      → room ≡ room_in l
      → (let ps = converted_all o.coordinate_system xs ys in
      r ≡ ordered (options_ok o) (triple_ok xs ys ws) (first_outside (pxs ps) (pys ps) 0) (first_over ws 0) (leb (need o (length xs)) room))
      → r ≡ checked o xs ys ws l
  unfolding checked
  checked-by room r h e = rw (sym h) e

  -- all tables, where it is no refusal
  pub tables-told : (r : Result (Unit {0}) Refusal) (s : State) (c : BuildColumns) → r ≡ checked o xs ys ws l → r ≡ Ok tt
      → s ≡ built_state o (length xs) (tables_of o xs ys ws)
      → c ≡ written o.node_size (length xs) (tables_of o xs ys ws) l
      → outcome (Ok s) c ≡ loaded o xs ys ws l
  tables-told r s c e f p q =
      let t : outcome (Ok s) c ≡ by_reply o xs ys ws l (Ok tt) = λ i. record { reply = Ok (p i); columns = q i } in
      t ∙ sym (by-reply o xs ys ws l r (Ok tt) e f)

  -- and no column written beside a refusal
  pub refusal-told : (r : Result (Unit {0}) Refusal) (e : Refusal) → r ≡ checked o xs ys ws l → r ≡ Err e
      → outcome (Err e) l ≡ loaded o xs ys ws l
  refusal-told r e q f = sym (by-reply o xs ys ws l r (Err e) q f)

-- ---- the state that is left beside a reply, whatever build it is of

pub left-done : (o : Options) (s : State) → state_left o (Ok s) ≡ s
left-done o s = refl

-- a refusal leaves these options, no points and no tables
pub left-refused : (o : Options) (e : Refusal) → state_left o (Err e) ≡ new_state o 0
left-refused o e = refl

-- what `load` leaves by a refusal, for every input: such a state, which no question goes by, and the columns as they were
pub record RefusedBuild (o : Options) (e : Refusal) (l : BuildColumns) (b : Outcome) : Type 0 where
  pub reply : b.reply ≡ Err e
  pub options : (state_left o b.reply).options ≡ o
  pub count : (state_left o b.reply).count ≡ 0
  pub starts : (state_left o b.reply).starts ≡ replicate 32 0
  pub lens : (state_left o b.reply).lens ≡ replicate 32 0
  pub unsound : (cap : ℕ) → state_ok (state_left o b.reply) cap ≡ false
  pub columns : b.columns ≡ l

module _ (o : Options) (xs ys : List Float) (ws : List ℕ) (l : BuildColumns) where
  pub refused-build : (e : Refusal) → (loaded o xs ys ws l).reply ≡ Err e → RefusedBuild o e l (loaded o xs ys ws l)
  unfolding loaded
  refused-build e h = by (checked o xs ys ws l) e h
    where
      by : (r : Result (Unit {0}) Refusal) (e : Refusal) → (by_reply o xs ys ws l r).reply ≡ Err e
          → RefusedBuild o e l (by_reply o xs ys ws l r)
      by (Ok d) e h = absurd (let z : ◌≡◌ {A = ℕ} 0 1 = cc in omega arith)
      by (Err f) e h =
          record {
            reply = h;
            options = refl;
            count = refl;
            starts = refl;
            lens = refl;
            unsound = λ cap. none-sound o cap;
            columns = refl;
          }

  -- and where it is not refused, the state of the build
  pub done-build : (s : State) → (loaded o xs ys ws l).reply ≡ Ok s → state_left o (loaded o xs ys ws l).reply ≡ s
  done-build s h = ap (state_left o) h
