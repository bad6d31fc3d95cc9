-- The fronts of the columns that an accepted build leaves: they hold its tables, and its owner column can be filled from them. Assumes
-- nothing.
use Rattle.std.specs.Prelude.{◌≡◌, refl, List, map, ℕ, ◌≤◌, Float, length, take, drop}
use Rattle.std.proofs.Common.{sym, ap, ◌∙◌, subst, arith, length-take-le, take_at}
use Rattle.std.proofs.lemmas.List.{length-map}
use Rattle.build_tables.specs.declared.Entry.{Entry}
use Rattle.build_tables.specs.declared.Options.{Options}
use Rattle.build_tables.specs.Entries.{Table}
use Rattle.build_tables.specs.Rows.{rows}
use Rattle.build_tables.specs.laws.Roomy.{front_cols}
use Rattle.build_all_zooms.specs.Zooms.{laid_over, joined}
use Rattle.supercluster.specs.Build.{BuildColumns, written, built_state, tables_of, need}
use Rattle.supercluster.specs.laws.Held.{held_by, built-held}
use Rattle.supercluster.specs.laws.Load.{Holds, fronts, fronts-hold, rows_in}
use Rattle.supercluster.specs.laws.Over.{cut-over, over-length}
use Rattle.supercluster.specs.laws.Ready.{Accepted}
use Rattle.supercluster.specs.laws.Right.{tables-room}
use Rattle.law_builds.specs.Given.{given_build}
use Rattle.build_owners.specs.laws.Climbs.{Climbable}
use Rattle.build_owners.specs.laws.ClimbableBuilds.{climbable}

-- a front of a column that a shorter list was laid over
front-over : {A : Type 0} (n : ℕ) (p d : List A) → length p ≤ n → n ≤ length d → take n (laid_over p d) ≡ laid_over p (take n d)
front-over n p d h k =
    let t = length-take-le n d k in
    let e : length (laid_over p (take n d)) ≡ n = over-length p (take n d) (omega arith) ∙ t in
    ap (take n) (sym (cut-over p d (laid_over p (take n d)) n k refl e)) ∙ take_at (laid_over p (take n d)) (drop n d) n e

module _ (o : Options) (xs ys : List Float) (ws : List ℕ) (a : Accepted o xs ys ws) (l : BuildColumns)
    (r : Holds (need o (length xs)) l) where
  abbrev n : ℕ
  n = need o (length xs)

  abbrev ts : List Table
  ts = tables_of o xs ys ws

  -- each column holds the tables
  few : {A : Type 0} (f : Entry → A) → length (map f (joined (tables_of o xs ys ws))) ≤ need o (length xs)
  few f = omega (arith, tables-room o xs ys ws a, length-map (joined ts) f)

  front-written : front_cols (need o (length xs)) (written o.node_size (length xs) (tables_of o xs ys ws) l).table
      ≡ (written o.node_size (length xs) (tables_of o xs ys ws) (fronts (need o (length xs)) (need o (length xs)) l)).table
  unfolding written
  front-written =
      let c = l.table in
      let ex = front-over n (map (λ e. e.x) (joined ts)) c.x (few (λ e. e.x)) r.table.hx in
      let ey = front-over n (map (λ e. e.y) (joined ts)) c.y (few (λ e. e.y)) r.table.hy in
      let es = front-over n (map (λ e. e.seen) (joined ts)) c.seen (few (λ e. e.seen)) r.table.hs in
      let ei = front-over n (map (λ e. e.id) (joined ts)) c.id (few (λ e. e.id)) r.table.hi in
      let ep = front-over n (map (λ e. e.parent) (joined ts)) c.parent (few (λ e. e.parent)) r.table.hp in
      let en = front-over n (map (λ e. e.num) (joined ts)) c.num (few (λ e. e.num)) r.table.hn in
      let ew = front-over n (map (λ e. e.energy) (joined ts)) c.energy (few (λ e. e.energy)) r.table.hw in
      λ i. record { x = ex i; y = ey i; seen = es i; id = ei i; parent = ep i; num = en i; energy = ew i }

  rows-front : rows (front_cols (need o (length xs)) (written o.node_size (length xs) (tables_of o xs ys ws) l).table)
      ≡ rows_in (written o.node_size (length xs) (tables_of o xs ys ws) (fronts (need o (length xs)) (need o (length xs)) l))
  rows-front = ap rows front-written

  -- the owner column can be filled from them
  pub front-climbable : Climbable (built_state o (length xs) (tables_of o xs ys ws))
      (rows (front_cols (need o (length xs)) (written o.node_size (length xs) (tables_of o xs ys ws) l).table))
  front-climbable =
      subst (λ (R : Table). Climbable (built_state o (length xs) ts) R) (sym rows-front)
      (climbable (given_build o xs ys ws) a (fronts n n l) (fronts-hold n l r))

  -- and the tables that they hold are those of the build
  pub front-held : held_by (built_state o (length xs) (tables_of o xs ys ws))
      (rows (front_cols (need o (length xs)) (written o.node_size (length xs) (tables_of o xs ys ws) l).table)) ≡ tables_of o xs ys ws
  front-held = ap (held_by (built_state o (length xs) ts)) rows-front ∙ built-held o xs ys ws a (fronts n n l)
