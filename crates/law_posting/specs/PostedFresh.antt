-- A posting to an accepted build (#110): it is taken, and leaves reply, state and all eleven columns as a fresh build with the new figure
-- does; and two postings to different lamps leave the same in either order. Assumes nothing.
use Rattle.std.specs.Prelude.{◌≡◌, refl, Bool, ◌&&◌, eqb, leb, set, drop, Float, Option, Result, Ok}
use Rattle.std.proofs.Math.Path.{sym, ap, subst}
use Rattle.std.proofs.Common.{ap₂, ◌∙◌, arith, length-set}
use Rattle.std.proofs.Math.Bool.{true}
use mathlib.Core.List.{List, [], ◌++◌, map}
use Prim.Native.Nat.{ℕ, suc, ◌+◌, ◌-◌, ◌^◌, ◌<◌, ◌≤◌, min}
use borrow.Author.Tests.{lt-ltb, le-leb, eq-eqb}
use Rattle.std.proofs.Math.ListN.{length, get_or, replicate}
use Rattle.std.proofs.lemmas.List.{length-map, set_comm}
use Rattle.refusals.specs.declared.Refusal.{Refusal}
use Rattle.refusals.specs.Refusals.{number}
use Rattle.kdbush.specs.Reply.{pair_ok, first_outside}
use Rattle.build_tables.specs.declared.Entry.{Entry}
use Rattle.build_tables.specs.declared.Options.{Options}
use Rattle.build_tables.specs.declared.State.{State}
use Rattle.build_tables.specs.Options.{options_ok, table_count}
use Rattle.build_tables.specs.Entries.{Table, entry, energies_of}
use Rattle.build_tables.specs.Rows.{cols}
use Rattle.build_tables.specs.laws.Bounds.{options-are}
use Rattle.build_one_zoom.specs.laws.Bare.{bare, bares}
use Rattle.build_all_zooms.specs.Zooms.{joined, joined_ids, joined_co, laid_over, starts, lens}
use Rattle.supercluster.specs.Build.{BuildColumns, build_columns, outcome, written, need, most_energy, first_over}
use Rattle.supercluster.specs.Build.{triple_ok}
use Rattle.supercluster.specs.Build.{ordered, converted_all, checked_in, unless_refused, by_reply}
use Rattle.supercluster.specs.laws.Fill.{all-light}
use Rattle.supercluster.specs.laws.Held.{LaidOut, built-laid}
use Rattle.supercluster.specs.laws.Load.{done-by, replies, verdict_of}
use Rattle.supercluster.specs.laws.Over.{over-length}
use Rattle.supercluster.specs.laws.Right.{tables-count}
use Rattle.law_builds.specs.Given.{Given, given_build, AcceptedBuild, points, min_z, max_z, tables_of_build, energy_at}
use Rattle.law_builds.specs.Came.{table_of_zoom}
use Rattle.law_lamps.specs.Owner.{owner}
use Rattle.law_lamps.specs.laws.Owners.{owner-first, first-long}
use Rattle.law_lamps.specs.laws.Carries.{lamp-energy}
use Rattle.law_answers.specs.Stored.{columns_of}
use Rattle.law_answers.specs.laws.Stored.{state_by, fits, sound-in}
use Rattle.build_owners.specs.OwnerColumn.{owner_column}
use Rattle.ask_owner.specs.Asked.{owners_reach}
use Rattle.posting.specs.Post.{owner_by, figure_of, replaced, mendable, mended, all_mend, post_asked, Posted, posting, posted}
use Rattle.owners.specs.LoadedWith.{room_with, OwnedOutcome, owned_outcome, loaded_with}
use Rattle.owners.specs.laws.Keeping.{done-accepted}
use Rattle.owners.specs.Owners.{Owners}
use Rattle.owners.specs.KeptOwners.{KeptOwners}
use Rattle.owners.specs.laws.KeptProved.{kept-long, stored_at, loaded-owners}
use Rattle.law_posting.specs.Bare.{column-bare, ids-bare, co-bare, starts-bare, lens-bare, owners-bare}
use Rattle.law_posting.specs.OneFigure.{with_figure, by_bare, light, owner-place, owner-has, owner-after, owner-fits}
use Rattle.law_posting.specs.OneFigure.{energies-after, energy-at}
use Rattle.law_posting.specs.Tables.{MendedTable, Mended, all-mended, mendable-column, mended-column, finest-reads}

-- ---- what is said

-- what a posting to the outcome of a build comes to, where s is the state that the build replies
abbrev pub post_to : State → OwnedOutcome → ℕ → ℕ → Posted
post_to s x lamp figure = posted s x.build.columns.table.energy x.owners lamp figure

-- the outcome with another energy column
abbrev pub with_energy : OwnedOutcome → List ℕ → OwnedOutcome
with_energy x e =
    let c = x.build.columns in
    let t = c.table in
    owned_outcome (outcome x.build.reply (build_columns (cols t.x t.y t.seen t.id t.parent t.num e) c.ids c.coords
    c.near)) x.owners

-- the outcome once a posting is made
abbrev pub after : State → OwnedOutcome → ℕ → ℕ → OwnedOutcome
after s x lamp figure = with_energy x (post_to s x lamp figure).energy

-- ---- the energy column

module _ (G : Given) (a : AcceptedBuild G) (lamp figure : ℕ) (h : lamp < points G) (f : figure ≤ most_energy) (d own : List ℕ)
    (r : need G.options (points G) ≤ length own) (room : need G.options (points G) ≤ length d) where
  abbrev H : Given
  H = with_figure G lamp figure

  abbrev kept : List ℕ
  kept = laid_over (owner_column (points G) (tables_of_build G)) own

  abbrev column : List ℕ
  column = laid_over (energies_of (joined (tables_of_build G))) d

  abbrev rest : List ℕ
  rest = drop (length (energies_of (joined (tables_of_build G)))) d

  abbrev s : State
  s = state_by G

  abbrev before : ℕ
  before = energy_at G lamp

  low : min_z G ≤ max_z G
  low = (options-are G.options a.options).zooms

  many : length (tables_of_build G) ≡ table_count G.options
  many = omega (arith, tables-count G.options G.xs G.ys G.energies, low)

  -- each table can be mended
  one : (z : ℕ) (lo : min_z G ≤ z) (hi : z ≤ max_z G + 1)
      → MendedTable (state_by G) (laid_over (owner_column (points G) (tables_of_build G)) own) lamp (energy_at G lamp) figure z (table_of_zoom G z)
      (table_of_zoom (with_figure G lamp figure) z)
  one z lo hi =
      let p = stored_at G a own r z lamp lo hi h in
      let t = table_of_zoom G z in
      let e = energy-at t (owner G z lamp) in
      let n = owner-after G a lamp figure h f z lo hi in
      record {
        place = subst (λ (q : ℕ). q < length t) (sym p) (owner-place G a lamp figure h f z lo hi);
        has = subst (λ (q : ℕ). before ≤ get_or (energies_of t) q 0) (sym p) (omega (arith, owner-has G a lamp figure h f z lo hi, e));
        fits = subst (λ (q : ℕ). replaced before figure (get_or (energies_of t) q 0) < 2 ^ 64) (sym p)
            (omega (arith, owner-fits G a lamp figure h f z lo hi, n, e, owner-has G a lamp figure h f z lo hi));
        is = subst (λ (q : ℕ). energies_of (table_of_zoom H z) ≡ set (energies_of t) q (replaced before figure (get_or (energies_of t) q 0)))
            (sym p) (energies-after G a lamp figure h f z lo hi);
      }

  all : Mended (state_by G) (laid_over (owner_column (points G) (tables_of_build G)) own) lamp (energy_at G lamp) figure (tables_of_build G)
      (tables_of_build (with_figure G lamp figure))
  unfolding table_of_zoom
  all =
      let ts = tables_of_build G in
      let us = tables_of_build H in
      let n = tables-count G.options G.xs G.ys H.energies in
      all-mended s kept lamp before figure ts us (omega (arith, n, many, low)) (λ i w. at i w)
    where
      at : (i : ℕ) → i < length (tables_of_build G)
          → MendedTable s kept lamp before figure (min_z G + (length (tables_of_build G) - 1 - i)) (get_or (tables_of_build G) i [])
          (get_or (tables_of_build (with_figure G lamp figure)) i [])
      at i w =
          let z = min_z G + (length (tables_of_build G) - 1 - i) in
          let k : max_z G + 1 - z ≡ i = omega (arith, many, low, w) in
          let m = one z (omega arith) (omega (arith, many, low, w)) in
          subst (λ (j : ℕ). MendedTable s kept lamp before figure z (get_or (tables_of_build G) j []) (get_or (tables_of_build H) j [])) k m

  laid : LaidOut (state_by G).starts (state_by G).lens (min_z G) 0 (tables_of_build G)
  laid = built-laid G.options G.xs G.ys G.energies a

  -- the column has them behind each other
  able : mendable (state_by G) (laid_over (owner_column (points G) (tables_of_build G)) own) lamp (energy_at G lamp) figure
      (laid_over (energies_of (joined (tables_of_build G))) d) (table_count G.options) ≡ true
  able =
      ap (mendable s kept lamp before figure column) (sym many)
      ∙ mendable-column s kept lamp before figure (tables_of_build G) (tables_of_build H) [] rest laid all

  long_same : length (energies_of (joined (tables_of_build G))) ≡ length (energies_of (joined (tables_of_build (with_figure G lamp figure))))
  long_same = by_bare (λ ts. length (energies_of (joined ts))) long G lamp figure
    where
      long : (ts : List Table) → length (energies_of (joined (map bares ts))) ≡ length (energies_of (joined ts))
      long ts =
          length-map (joined (map bares ts)) (λ e. e.energy) ∙ sym (length-map (joined (map bares ts)) (λ e. e.id))
          ∙ ap length (column-bare (λ e. e.id) (λ e. refl) ts) ∙ length-map (joined ts) (λ e. e.id)
          ∙ sym (length-map (joined ts) (λ e. e.energy))

  fresh : mended (state_by G) (laid_over (owner_column (points G) (tables_of_build G)) own) lamp (energy_at G lamp) figure
      (laid_over (energies_of (joined (tables_of_build G))) d) (table_count G.options)
      ≡ laid_over (energies_of (joined (tables_of_build (with_figure G lamp figure)))) d
  fresh =
      ap (mended s kept lamp before figure column) (sym many)
      ∙ mended-column s kept lamp before figure (tables_of_build G) (tables_of_build H) [] rest laid all
      ∙ ap (λ (k : ℕ). energies_of (joined (tables_of_build H)) ++ drop k d) long_same

  -- the lamp's figure so far, and its own place
  top : min_z G + length (tables_of_build G) ≡ suc (max_z G + 1)
  top = omega (arith, many, low)

  figure-is : figure_of (state_by G) (laid_over (energies_of (joined (tables_of_build G))) d) lamp ≡ energy_at G lamp
  unfolding table_of_zoom
  figure-is =
      let e : get_or (tables_of_build G) 0 [] ≡ table_of_zoom G (max_z G + 1) = ap (λ (k : ℕ). get_or (tables_of_build G) k []) (omega arith) in
      let w : lamp < length (get_or (tables_of_build G) 0 []) = omega (arith, ap length e, first-long G a, h) in
      finest-reads s (tables_of_build G) [] rest (max_z G + 1) laid top lamp w
      ∙ energy-at (get_or (tables_of_build G) 0 []) lamp ∙ ap (λ (t : Table). (entry t lamp).energy) e ∙ lamp-energy G a lamp h

  itself : owner_by (state_by G) (laid_over (owner_column (points G) (tables_of_build G)) own) lamp (max_z G + 1) ≡ lamp
  itself = stored_at G a own r (max_z G + 1) lamp (omega (arith, low)) (omega arith) h ∙ owner-first G lamp

  reached : owners_reach (state_by G) (length (laid_over (energies_of (joined (tables_of_build G))) d))
      (length (laid_over (owner_column (points G) (tables_of_build G)) own)) ≡ true
  reached =
      let n = kept-long G a own r in
      let j = length-map (joined (tables_of_build G)) (λ e. e.energy) in
      let m = over-length (energies_of (joined (tables_of_build G))) d (omega (arith, j, fits G a, room)) in
      rw (
        sound-in G a (length column) (omega (arith, fits G a, room, m)),
        le-leb (need G.options (points G)) (length kept) (omega (arith, r, n)),
      ) refl

  -- the posting
  pub posted-column : posted (state_by G) (laid_over (energies_of (joined (tables_of_build G))) d)
      (laid_over (owner_column (points G) (tables_of_build G)) own) lamp figure
      ≡ posting (Ok tt) (laid_over (energies_of (joined (tables_of_build (with_figure G lamp figure)))) d)
  unfolding posted post_asked
  posted-column =
      let m : all_mend s kept lamp figure column ≡ true =
      rw (eq-eqb _ _ itself) (ap (λ (b : ℕ). mendable s kept lamp b figure column (table_count G.options)) figure-is ∙ able) in
      rw (reached, lt-ltb lamp (points G) h, le-leb figure most_energy f, m)
      (ap (posting (Ok tt)) (ap (λ (b : ℕ). mended s kept lamp b figure column (table_count G.options)) figure-is ∙ fresh))

-- ---- of `load`

-- the check of a build with the new figure
checked-too : (o : Options) (xs ys : List Float) (ws vs : List ℕ) (room : ℕ) → length vs ≡ length ws
    → ((k : ℕ) → get_or vs k 0 ≤ most_energy) → checked_in o xs ys ws room ≡ Ok tt → checked_in o xs ys vs room ≡ Ok tt
checked-too o xs ys ws vs room n l c =
    let ps = converted_all o.coordinate_system xs ys in
    let p = first_outside (map (λ p. p.x) ps) (map (λ p. p.y) ps) 0 in
    let q = leb (need o (length xs)) room in
    let e = done-by (options_ok o) (triple_ok xs ys ws) p (first_over ws 0) q c in
    ap₂ (λ (b : Bool) (i : Option ℕ). ordered (options_ok o) b p i q) (ap (λ (k : ℕ). pair_ok xs ys && eqb k (length xs)) n)
    (all-light vs 0 l ∙ sym e.3) ∙ c

-- what `load` leaves, where it refuses nothing
taken : (o : Options) (xs ys : List Float) (ws : List ℕ) (l : BuildColumns) (own : List ℕ) → checked_in o xs ys ws (room_with l own) ≡ Ok tt
    → loaded_with o xs ys ws l own
    ≡ owned_outcome (by_reply o xs ys ws l (Ok tt)) (laid_over (owner_column (length xs) (tables_of_build (given_build o xs ys ws))) own)
unfolding loaded_with
taken o xs ys ws l own c =
    let column = owner_column (length xs) (tables_of_build (given_build o xs ys ws)) in
    ap (λ (r : Result (Unit {0}) Refusal). owned_outcome (by_reply o xs ys ws l r) (unless_refused (number r) (laid_over column own) own)) c

module _ (o : Options) (xs ys : List Float) (ws : List ℕ) (l : BuildColumns) (own : List ℕ) (told : State)
    (done : (loaded_with o xs ys ws l own).build.reply ≡ Ok told) (lamp figure : ℕ) (h : lamp < length xs)
    (f : figure ≤ most_energy) where
  abbrev G : Given
  G = given_build o xs ys ws

  abbrev K : Given
  K = with_figure (given_build o xs ys ws) lamp figure

  pub checked-done : checked_in o xs ys ws (room_with l own) ≡ Ok tt
  unfolding loaded_with
  checked-done = sym (replies o xs ys ws l (checked_in o xs ys ws (room_with l own))) ∙ ap verdict_of done

  -- the state that is replied is that of the tables
  told-is : state_by (given_build o xs ys ws) ≡ told
  told-is =
      let q : Ok (state_by (given_build o xs ys ws)) ≡ Ok told =
      sym (ap (λ (y : OwnedOutcome). y.build.reply) (taken o xs ys ws l own checked-done)) ∙ done in
      cc

  holds-all : AcceptedBuild (given_build o xs ys ws) × (need o (length xs) ≤ length l.table.energy) × (need o (length xs) ≤ length own)
  holds-all =
      let g = done-accepted o xs ys ws l own (min (length l.near) (length own)) refl checked-done in
      (g.0, g.1.table.hw, g.2)

  checked-after : checked_in o xs ys (set ws lamp figure) (room_with l own) ≡ Ok tt
  checked-after =
      checked-too o xs ys ws (set ws lamp figure) (room_with l own) (length-set ws lamp figure)
      (light (given_build o xs ys ws) holds-all.0 lamp figure h f) checked-done

  energy-after : posted (state_by (given_build o xs ys ws))
      (written o.node_size (length xs) (tables_of_build (given_build o xs ys ws)) l).table.energy
      (laid_over (owner_column (length xs) (tables_of_build (given_build o xs ys ws))) own) lamp figure
      ≡ posting (Ok tt) (written o.node_size (length xs) (tables_of_build (with_figure (given_build o xs ys ws) lamp figure))
      l).table.energy
  unfolding written
  energy-after = let g = holds-all in posted-column G g.0 lamp figure h f l.table.energy own g.2 g.1

  -- a field that is not the energy, over the column that was lent
  field : {A : Type 0} (g : Entry → A) → ((e : Entry) → g (bare e) ≡ g e) → (d : List A)
      → laid_over (map g (joined (tables_of_build (given_build o xs ys ws)))) d
      ≡ laid_over (map g (joined (tables_of_build (with_figure (given_build o xs ys ws) lamp figure)))) d
  field g e d = by_bare (λ ts. laid_over (map g (joined ts)) d) (λ ts. ap (λ (q : List _). laid_over q d) (column-bare g e ts)) G lamp figure

  -- reply, state and columns but for the energies are the same
  same-but : with_energy (owned_outcome (by_reply o xs ys ws l (Ok tt))
      (laid_over (owner_column (length xs) (tables_of_build (given_build o xs ys ws))) own))
      (written o.node_size (length xs) (tables_of_build (with_figure (given_build o xs ys ws) lamp figure)) l).table.energy
      ≡ owned_outcome (by_reply o xs ys (set ws lamp figure) l (Ok tt))
      (laid_over (owner_column (length xs) (tables_of_build (with_figure (given_build o xs ys ws) lamp figure))) own)
  unfolding written
  same-but =
      let t = l.table in
      let size = o.node_size in
      let zeros : List ℕ = replicate 32 0 in
      let top = o.max_zoom + 1 in
      let ex = field (λ e. e.x) (λ e. refl) t.x in
      let ey = field (λ e. e.y) (λ e. refl) t.y in
      let es = field (λ e. e.seen) (λ e. refl) t.seen in
      let ei = field (λ e. e.id) (λ e. refl) t.id in
      let ep = field (λ e. e.parent) (λ e. refl) t.parent in
      let en = field (λ e. e.num) (λ e. refl) t.num in
      let ed = by_bare (λ ts. laid_over (joined_ids size ts) l.ids) (λ ts. ap (λ (q : List ℕ). laid_over q l.ids) (ids-bare size ts)) G
      lamp
      figure in
      let ec = by_bare (λ ts. laid_over (joined_co size ts) l.coords)
      (λ ts. ap (λ (q : List Float). laid_over q l.coords) (co-bare size ts))
      G lamp figure in
      let at = by_bare (λ ts. starts top 0 ts zeros) (λ ts. starts-bare top 0 ts zeros) G lamp figure in
      let el = by_bare (λ ts. lens top ts zeros) (λ ts. lens-bare top ts zeros) G lamp figure in
      let eo = by_bare (λ ts. laid_over (owner_column (length xs) ts) own)
      (λ ts. ap (λ (q : List ℕ). laid_over q own) (owners-bare (length xs) ts)) G lamp figure in
      let w = written size (length xs) (tables_of_build K) l in
      λ i. owned_outcome
      (outcome (Ok (record { options = o; count = length xs; starts = at i; lens = el i }))
      (build_columns (cols (ex i) (ey i) (es i) (ei i) (ep i) (en i) w.table.energy) (ed i) (ec i) w.near)) (eo i)

  -- a posting is taken, and what it leaves is a fresh build with the new figure
  pub posted-fresh : ((post_to told (loaded_with o xs ys ws l own) lamp figure).reply ≡ Ok tt)
      × (after told (loaded_with o xs ys ws l own) lamp figure ≡ loaded_with o xs ys (set ws lamp figure) l own)
  posted-fresh =
      let e = taken o xs ys ws l own checked-done in
      let x = owned_outcome (by_reply o xs ys ws l (Ok tt)) (laid_over (owner_column (length xs) (tables_of_build G)) own) in
      let p : post_to told (loaded_with o xs ys ws l own) lamp figure
      ≡ posting (Ok tt) (written o.node_size (length xs) (tables_of_build K) l).table.energy =
      ap₂ (λ (t : State) (y : OwnedOutcome). post_to t y lamp figure) (sym told-is) e ∙ energy-after in (
        ap (λ (q : Posted). q.reply) p,
        ap₂ (λ (y : OwnedOutcome) (q : Posted). with_energy y q.energy) e p ∙ same-but
            ∙ sym (taken o xs ys (set ws lamp figure) l own checked-after),
      )

-- two postings to different lamps leave the same in either order
pub posts-commute : (o : Options) (xs ys : List Float) (ws : List ℕ) (l : BuildColumns) (own : List ℕ) (s : State)
    → (loaded_with o xs ys ws l own).build.reply ≡ Ok s → (i j v w : ℕ) → i < length xs → j < length xs → v ≤ most_energy
    → w ≤ most_energy → (i ≡ j → ⊥)
    → after s (after s (loaded_with o xs ys ws l own) i v) j w ≡ after s (after s (loaded_with o xs ys ws l own) j w) i v
posts-commute o xs ys ws l own s done i j v w hi hj hv hw n =
    both i j v w hi hj hv hw ∙ ap (λ (q : List ℕ). loaded_with o xs ys q l own) (set_comm ws i j v w n) ∙ sym (both j i w v hj hi hw hv)
  where
    both : (i j v w : ℕ) → i < length xs → j < length xs → v ≤ most_energy → w ≤ most_energy
        → after s (after s (loaded_with o xs ys ws l own) i v) j w ≡ loaded_with o xs ys (set (set ws i v) j w) l own
    both i j v w hi hj hv hw =
        let a = (posted-fresh o xs ys ws l own s done i v hi hv).1 in
        let d : (loaded_with o xs ys (set ws i v) l own).build.reply ≡ Ok s = ap (λ (y : OwnedOutcome). y.build.reply) (sym a) ∙ done in
        ap (λ (y : OwnedOutcome). after s y j w) a ∙ (posted-fresh o xs ys (set ws i v) l own s d j w hj hw).1

-- so what a posting leaves has the same state, and demand 3 holds of it as of every accepted build, and the owner column has each lamp's
-- owner
pub posted-owners : (o : Options) (xs ys : List Float) (ws : List ℕ) (l : BuildColumns) (own : List ℕ) (s : State)
    → (loaded_with o xs ys ws l own).build.reply ≡ Ok s → (lamp figure : ℕ) → lamp < length xs → figure ≤ most_energy
    → let x = after s (loaded_with o xs ys ws l own) lamp figure in
    (x.build.reply ≡ Ok s)
    × ((own : ℕ → ℕ → ℕ) × Owners s (columns_of x.build.columns) (set ws lamp figure) own × KeptOwners s x.owners own)
posted-owners o xs ys ws l own s done lamp figure h f =
    let K = with_figure (given_build o xs ys ws) lamp figure in
    let x = after s (loaded_with o xs ys ws l own) lamp figure in
    let g = loaded-owners K l own x (posted-fresh o xs ys ws l own s done lamp figure h f).1 s done in (done, (owner K, g.0, g.1))
