-- Of every such build: each table is as long as it came, and each of its entries has the place, the id and the num with which it came.
-- Where its places went and where they are from, by table number. Assumes nothing.
use Rattle.std.specs.Prelude.{◌≡◌, refl, map, ℕ, zero, suc, ◌+◌, ◌≤◌, ◌<◌, length, Float}
use Rattle.std.proofs.Common.{sym, ap, ap₂, ◌∙◌, subst, ⊎_elim, arith, eq-or-lt_of_le, ext_get_or}
use Rattle.std.proofs.lemmas.List.{length-map}
use Rattle.std.proofs.Math.ListN.{get_or-map}
use Rattle.kdsort.specs.Cols.{IndexCols}
use Rattle.build_tables.specs.laws.Bounds.{options-are}
use Rattle.build_tables.specs.declared.Entry.{Entry}
use Rattle.build_tables.specs.Entries.{Table, entry, none, marked, xs_of, ys_of}
use Rattle.build_one_zoom.specs.laws.Lamps.{Carried}
use Rattle.build_one_zoom.specs.Near.{near_of}
use Rattle.law_groups.specs.Groups.{took}
use Rattle.kdbush.specs.Reply.{index_of}
use Rattle.build_all_zooms.specs.Zooms.{index_of_table, near_in}
use Rattle.law_builds.specs.Given.{Given, AcceptedBuild, points, min_z, max_z}
use Rattle.law_builds.specs.Came.{came, table_of_zoom, table-last}
use Rattle.law_builds.specs.GroupsOfBuild.{groups_by, near_by, groups-of-build}
use Rattle.law_builds.specs.Places.{WentOn, Arose, went, arose}

-- an entry whatever its seen and its parent are
abbrev pub plain_entry : Entry → Entry
plain_entry e = took 0 0 e

-- two entries that differ in seen and parent at most. So what a mark and a parent leave is the same of both: `ap id_of s`
abbrev pub SameBuild : Entry → Entry → Type 0
SameBuild a b = plain_entry a ≡ plain_entry b

abbrev pub id_of : Entry → ℕ
id_of e = e.id

-- and each number that entries carry
pub same-carried : (f : Entry → ℕ) → Carried f → (a b : Entry) → SameBuild a b → f a ≡ f b
same-carried f C a b s = sym (of a) ∙ ap f s ∙ of b
  where
    of : (e : Entry) → f (plain_entry e) ≡ f e
    of e = C.hangs (marked 0 e) 0 ∙ C.marks e 0

-- two tables that differ in seen and parent at most
pub record Alike (s t : Table) : Type 0 where
  pub long : length s ≡ length t
  pub each : (i : ℕ) → i < length t → SameBuild (entry s i) (entry t i)

alike_self : (s t : Table) → s ≡ t → Alike s t
alike_self s t q = subst (λ (u : Table). Alike u t) (sym q) (record { long = refl; each = λ i h. refl })

-- ---- the index of a table is that of each table that is like it, and so are its answers

columns-alike : (c : Entry → Float) → (s t : Table) → length s ≡ length t → ((i : ℕ) → i < length t → c (entry s i) ≡ c (entry t i))
    → map c s ≡ map c t
columns-alike c s t l h =
    ext_get_or (c none) (map c s) (map c t) (length-map s c ∙ l ∙ sym (length-map t c))
    (λ i k. get_or-map c s i none ∙ h i (let w = length-map s c in omega arith) ∙ sym (get_or-map c t i none))

pub near-alike : (size : ℕ) (r : Float) (s t : Table) → Alike s t → near_in size r s ≡ near_in size r t
unfolding index_of_table
near-alike size r s t w =
    let ex : xs_of s ≡ xs_of t = columns-alike (λ e. e.x) s t w.long (λ i h. ap (λ (e : Entry). e.x) (w.each i h)) in
    let ey : ys_of s ≡ ys_of t = columns-alike (λ e. e.y) s t w.long (λ i h. ap (λ (e : Entry). e.y) (w.each i h)) in
    let es : index_of size (xs_of s) (ys_of s) ≡ index_of size (xs_of t) (ys_of t) = ap₂ (index_of size) ex ey in
    ap₂ (λ (n : ℕ) (k : IndexCols). near_of size n k.ids k.co r) w.long es

module _ (G : Given) (a : AcceptedBuild G) where
  -- where the place k of table z + 1 went
  pub went-by : (z : ℕ) → min_z G ≤ z → z ≤ max_z G → (k : ℕ) → k < length (came G (suc z)) →
      WentOn (points G) z (came G (suc z)) (table_of_zoom G (suc z)) (came G z) (groups_by G z) k
  went-by z h l k =
      let g = groups-of-build G a z h l in
      went (points G) G.options.min_points z (near_by G z) (came G (suc z)) (table_of_zoom G (suc z)) (came G z) (groups_by G z)
      g.groups
      g.next k

  -- where the place j of table z is from
  pub arose-by : (z : ℕ) → min_z G ≤ z → z ≤ max_z G → (j : ℕ) → j < length (came G z) →
      Arose (points G) z (came G (suc z)) (table_of_zoom G (suc z)) (came G z) (groups_by G z) j
  arose-by z h l j =
      let g = groups-of-build G a z h l in
      arose (points G) G.options.min_points z (near_by G z) (came G (suc z)) (table_of_zoom G (suc z)) (came G z) (groups_by G z)
      g.groups
      g.next j

  marked-alike : (z : ℕ) → min_z G ≤ z → z ≤ max_z G → Alike (table_of_zoom G (suc z)) (came G (suc z))
  marked-alike z h l = record { long = (groups-of-build G a z h l).groups.long; each = λ i k. by i (went-by z h l i k) }
    where
      by : (i : ℕ) → WentOn (points G) z (came G (suc z)) (table_of_zoom G (suc z)) (came G z) (groups_by G z) i →
          SameBuild (entry (table_of_zoom G (suc z)) i) (entry (came G (suc z)) i)
      by i w = ⊎_elim (λ s. ap plain_entry s.1.finer) (λ s. ap plain_entry s.2.finer) w

  -- each table is as it came, but for seen and parent
  pub table_same : (z : ℕ) → min_z G ≤ z → z ≤ max_z G + 1 → Alike (table_of_zoom G z) (came G z)
  table_same z h l = ⊎_elim last (inner z l) (eq-or-lt_of_le h)
    where
      last : min_z G ≡ z → Alike (table_of_zoom G z) (came G z)
      last e =
          subst (λ (w : ℕ). Alike (table_of_zoom G w) (came G w)) e
          (alike_self _ _ (table-last G (options-are G.options a.options).zooms))

      inner : (w : ℕ) → w ≤ max_z G + 1 → min_z G < w → Alike (table_of_zoom G w) (came G w)
      inner zero l q = absurd (omega arith)
      inner (suc w) l q = marked-alike w (omega arith) (omega arith)

  -- so what is answered of a table of the build is answered of it as it came
  pub near_same : (z : ℕ) → min_z G ≤ z → z ≤ max_z G + 1 → (size : ℕ) (r : Float)
      → near_in size r (table_of_zoom G z) ≡ near_in size r (came G z)
  near_same z h l size r = near-alike size r (table_of_zoom G z) (came G z) (table_same z h l)
