-- Energies decide nothing: with any two lists of energies, the tables of a build of the same options and points are the same but for the
-- energies. So places, marks, ids, parents and nums do not depend on them. Assumes nothing.
use Rattle.std.specs.Prelude.{◌≡◌, refl, List, [], ◌∷◌, map, ℕ, zero, suc, ◌+◌, length, Float}
use Rattle.std.proofs.Common.{sym, ap, ap₂, ◌∙◌}
use Rattle.std.proofs.lemmas.List.{length-map}
use Rattle.range.specs.declared.Point.{Point}
use Rattle.kdsort.specs.Cols.{IndexCols}
use Rattle.build_tables.specs.declared.Entry.{Entry}
use Rattle.build_tables.specs.declared.Options.{Options}
use Rattle.build_tables.specs.Entries.{Table, xs_of, ys_of}
use Rattle.build_tables.specs.Radius.{radius_at}
use Rattle.build_one_zoom.specs.laws.Bare.{bare, bares, bare_s, cluster-bare}
use Rattle.build_one_zoom.specs.Near.{near_of}
use Rattle.build_one_zoom.specs.Zoom.{Scan, cluster}
use Rattle.kdbush.specs.Reply.{index_of}
use Rattle.build_all_zooms.specs.Zooms.{Plan, zoom_plan, index_of_table, near_in, zoomed, run_zooms, zooms_of}
use Rattle.supercluster.specs.Build.{converted_all, lamp, finest, tables_of}

-- what has no energy is as it was
pub field-bare : {A : Type 0} (f : Entry → A) → ((e : Entry) → f (bare e) ≡ f e) → (t : Table) → map f (bares t) ≡ map f t
field-bare f g [] = refl
field-bare {A} f g (e ∷ t) = ap₂ (λ (a : A) (l : List A). a ∷ l) (g e) (field-bare f g t)

-- so the index, and what it answers
near-bare : (size : ℕ) (r : Float) (t : Table) → near_in size r (bares t) ≡ near_in size r t
unfolding index_of_table
near-bare size r t =
    let x : xs_of (bares t) ≡ xs_of t = field-bare (λ e. e.x) (λ e. refl) t in
    let y : ys_of (bares t) ≡ ys_of t = field-bare (λ e. e.y) (λ e. refl) t in
    ap₂ (λ (n : ℕ) (k : IndexCols). near_of size n k.ids k.co r) (length-map t bare) (ap₂ (index_of size) x y)

-- ---- zoom by zoom

zoomed-bare : (p : Plan) (z : ℕ) (t : Table) → zoomed p z (bares t) ≡ bare_s (zoomed p z t)
zoomed-bare p z t =
    let near = near_in p.options.node_size (radius_at p.options.radius p.options.extent z) t in
    ap (λ (f : Float → Float → List ℕ). cluster p.count p.options.min_points z f (bares t))
    (near-bare p.options.node_size (radius_at p.options.radius p.options.extent z) t)
    ∙ cluster-bare p.count p.options.min_points z near t

run-bare : (p : Plan) (k : ℕ) (t : Table) → run_zooms p k (bares t) ≡ map bares (run_zooms p k t)
unfolding run_zooms
run-bare p zero t = refl
run-bare p (suc k) t =
    let z = p.options.min_zoom + k in
    let s = zoomed-bare p z t in
    ap₂ (λ (a : Table) (l : List Table). a ∷ l) (ap (λ (q : Scan). q.table) s)
    (ap (λ (q : Scan). run_zooms p k q.next) s ∙ run-bare p k (zoomed p z t).next)

finest-bare : (ps : List Point) (ws : List ℕ) (i : ℕ) → bares (finest ps ws i) ≡ finest ps [] i
unfolding finest
finest-bare [] ws i = refl
finest-bare (p ∷ ps) ws i = ap (λ (t : Table). lamp p 0 i ∷ t) (finest-bare ps ws (suc i))

-- ---- of a build

tables-bare : (o : Options) (xs ys : List Float) (ws : List ℕ) → map bares (tables_of o xs ys ws) ≡ tables_of o xs ys []
unfolding tables_of
tables-bare o xs ys ws =
    let ps = converted_all o.coordinate_system xs ys in
    let p = zoom_plan o (length xs) in
    sym (run-bare p (zooms_of o) (finest ps ws 0)) ∙ ap (run_zooms p (zooms_of o)) (finest-bare ps ws 0)

-- the same tables, without their energies
pub same-but-energy : (o : Options) (xs ys : List Float) (ws vs : List ℕ)
    → map bares (tables_of o xs ys ws) ≡ map bares (tables_of o xs ys vs)
same-but-energy o xs ys ws vs = tables-bare o xs ys ws ∙ sym (tables-bare o xs ys vs)
