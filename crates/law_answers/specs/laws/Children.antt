-- Of a build that is accepted: the search for the children of a cluster answers what `within` answered around its origin, so none of its
-- slots is past the table, and the children are the members of the cluster in the order of the answers. Assumes nothing.
use Rattle.std.specs.Prelude.{◌≡◌, true, ℕ, ◌+◌, ◌-◌, ◌<◌, ◌≤◌, eqb, length, Float}
use Rattle.std.proofs.Math.Path.{ap, ap₂}
use Rattle.std.proofs.Common.{◌∙◌, arith}
use mathlib.Core.List.{List}
use Rattle.kdslots.specs.declared.Query.{Query}
use Rattle.kdslots.specs.declared.Query.TheVariants.{Within}
use Rattle.kdslots.specs.laws.All.{AllBelow}
use Rattle.kdbush.specs.laws.Promise.{Promised, all_whole, all_sound}
use Rattle.kdslots.specs.Keep.{keep}
use Rattle.kdbush.specs.Run.{sound, whole}
use Rattle.kdbush.specs.Reply.{found}
use Rattle.build_tables.specs.declared.State.{State}
use Rattle.build_tables.specs.laws.Bounds.{options-are}
use Rattle.build_tables.specs.Entries.{Table, entry}
use Rattle.build_tables.specs.Radius.{radius_at}
use Rattle.build_tables.specs.State.{len_of}
use Rattle.build_tables.specs.Room.{Columns}
use Rattle.ask_base.specs.Columns.{ids_at, coords_at}
use Rattle.ask_child_walk.specs.Kids.{kids_of, places_around, kids_at, clean_at}
use Rattle.build_all_zooms.specs.Zooms.{index_of_table}
use Rattle.build_all_zooms.specs.laws.Running.{slots-promised}
use Rattle.supercluster.specs.Build.{BuildColumns, need}
use Rattle.supercluster.specs.laws.Load.{Holds}
use Rattle.supercluster.specs.laws.Right.{Right}
use Rattle.law_builds.specs.Given.{Given, AcceptedBuild, points, min_z, max_z, energy_in}
use Rattle.law_builds.specs.Came.{table_of_zoom as built}
use Rattle.law_builds.specs.RightAt.{right-at}
use Rattle.law_lamps.specs.Owner.{answers_at}
use Rattle.law_answers.specs.laws.Stored.{state_by, columns_by, long-is, table_is, ids-are, coords-are}

module _ (G : Given) (a : AcceptedBuild G) (l : BuildColumns) (r : Holds (need G.options (points G)) l) where
  abbrev S : State
  S = state_by G

  abbrev C : Columns
  C = columns_by G l

  -- around the place i of table t, a table above that of min_zoom
  module _ (t i : ℕ) (h : min_z G < t) (k : t ≤ max_z G + 1) where
    abbrev size : ℕ
    size = G.options.node_size

    r-t : Right (points G) (energy_in G) (built G t)
    r-t = right-at G a t (omega arith) k

    promised : Promised size (length (built G t)) (index_of_table size (built G t)).ids (index_of_table size (built G t)).co
    promised =
        let b = options-are G.options a.options in
        slots-promised size (built G t) b.size-from b.size-to r-t.some (omega (arith, r-t.few, a.few)) r-t.unit

    -- what is asked around it, of the table v
    abbrev Q : Table → Query
    Q v = Within (entry v i).x (entry v i).y (radius_at G.options.radius G.options.extent (t - 1))

    -- what is answered is what was answered in the build
    around-is : places_around (state_by G) (columns_by G l) t i ≡ answers_at G t i
    around-is =
        ap (λ (v : Table). found (Q v) size (len_of S t) (ids_at S C.ids t) (coords_at S C.coords t))
        (table_is G a l r t (omega arith) k)
        ∙ ap (λ (v : List ℕ). found (Q (built G t)) size (len_of S t) v (coords_at S C.coords t)) (ids-are G a l r t (omega arith) k)
        ∙ ap₂ (λ (n : ℕ) (v : List Float). found (Q (built G t)) size n (index_of_table size (built G t)).ids v)
        (long-is G a t (omega arith) k) (coords-are G a l r t (omega arith) k)

    pub around-below : AllBelow (length (built G t)) (answers_at G t i)
    around-below = promised.below (Q (built G t))

    -- none is past the table
    pub clean : clean_at (state_by G) (columns_by G l) t i ≡ true
    unfolding clean_at
    clean =
        ap₂ (λ (n : ℕ) (p : List ℕ). whole n p) (long-is G a t (omega arith) k) around-is
        ∙ all_whole (length (built G t)) (answers_at G t i) around-below

    -- and the children of any id are those of them whose parent it is
    pub kids-at : (id : ℕ) → kids_at (state_by G) (columns_by G l) id t i ≡ keep (λ k. eqb (entry (built G t) k).parent id) (answers_at G t i)
    unfolding kids_at
    kids-at id =
        ap (λ (v : Table). kids_of v id (sound (len_of S t) (places_around S C t i))) (table_is G a l r t (omega arith) k)
        ∙ ap₂ (λ (n : ℕ) (p : List ℕ). kids_of (built G t) id (sound n p)) (long-is G a t (omega arith) k) around-is
        ∙ ap (kids_of (built G t) id) (all_sound (length (built G t)) (answers_at G t i) around-below)
