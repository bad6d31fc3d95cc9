-- Every build that `load` accepts has one owner for every lamp: `one-owner`. Nothing is asked besides. Assumes nothing.
use Rattle.std.specs.Prelude.{◌≡◌, ◌↔◌, true, List, [], ◌++◌, ℕ, suc, ◌+◌, ◌-◌, ◌*◌, ◌<◌, ◌≤◌, min, eqb, length, take, drop}
use Rattle.std.proofs.Common.{ap, sym, ◌∙◌, subst, inl, inr, ⊎_elim, arith, le-leb, eq-eqb, ne_eqb, length-take, length-drop, drop_of_length-le, take_all, take-take}
use Rattle.std.proofs.Math.Seq.{take-nil}
use Rattle.std.specs.Prelude.{Ok}
use Rattle.build_tables.specs.declared.State.{State}
use Rattle.build_tables.specs.Entries.{Table, entry}
use Rattle.law_groups.specs.Sums.{one_if, sum, count, range, gate}
use Rattle.law_groups.specs.laws.Sums.{below}
use Rattle.ask_base.specs.Asked.{Asked, told, answer_of, column_of}
use Rattle.build_tables.specs.Room.{Columns}
use Rattle.ask_base.specs.Columns.{table_at}
use Rattle.ask_cluster.specs.Leaves.{leaves_of}
use Rattle.supercluster.specs.Build.{BuildColumns, need}
use Rattle.supercluster.specs.laws.Load.{Holds}
use Rattle.law_builds.specs.Given.{Given, AcceptedBuild, points, min_z, max_z, energy_at}
use Rattle.law_builds.specs.Came.{table_of_zoom as built}
use Rattle.law_builds.specs.Identities.{Known, identities}
use Rattle.law_lamps.specs.Owner.{owner_up, owner, lamps_of}
use Rattle.law_lamps.specs.laws.Owners.{owner-first, owner-in, owns, owns_none, owners-share}
use Rattle.law_lamps.specs.laws.Carries.{lamps-long, num-owned, nums-together, energy-owned, energies-together, energies-few}
use Rattle.law_lamps.specs.laws.Climb.{owner-climbs}
use Rattle.law_lamps.specs.laws.Gather.{gather_ext}
use Rattle.law_answers.specs.Stored.{columns_of}
use Rattle.law_answers.specs.laws.Stored.{state_by, columns_by, loaded_of, table_is, of-load}
use Rattle.law_answers.specs.laws.Leaves.{leaves-page, ones-few}
use Rattle.owners.specs.LeafPages.{page_items, num_at, page_asked, lamps_of_cluster, all_leaves, page as leaf_page, OnPage, LeafPages}
use Rattle.owners.specs.laws.Paging.{page_of, page-length, pages-joined, none-on, one-page}
use Rattle.owners.specs.Owners.{Between, IsCluster, Owned, Leaves, Owners}

-- given room: an answer that goes to its end is the number of its items, and they stand at the front of the column, before what it held
pub given-room : (q : Asked) (ls out : List ℕ) → q ≡ told true ls → length ls ≤ length out
    → (answer_of q (length out) ≡ Ok (length ls)) × (column_of q out ≡ ls ++ drop (length ls) out)
given-room q ls out e h = (
  ap (λ (x : Asked). answer_of x (length out)) e ∙ rw (le-leb (length ls) (length out) h),
  ap (λ (x : Asked). column_of x out) e ∙ ap (λ (x : List ℕ). x ++ drop (length ls) out) (take_all (length out) ls h),
)

module _ (G : Given) (a : AcceptedBuild G) (l : BuildColumns) (r : Holds (need G.options (points G)) l) where
  abbrev S : State
  S = state_by G

  abbrev C : Columns
  C = columns_by G l

  is : (z : ℕ) → Between (state_by G) z → built G z ≡ table_at (state_by G) (columns_by G l) z
  is z b = sym (table_is G a l r z b.low b.high)

  in-built : (z j : ℕ) → Between (state_by G) z → j < length (table_at (state_by G) (columns_by G l) z) → j < length (built G z)
  in-built z j b h = subst (λ (t : Table). j < length t) (sym (is z b)) h

  -- a cluster of the columns is one of the build
  module _ (z j : ℕ) (w : IsCluster (state_by G) (columns_by G l) z j) where
    place : j < length (built G z)
    place = in-built z j w.between w.place

    above : points G ≤ (entry (built G z) j).id
    above = by (identities G a z w.between.low w.between.high j place)
      where
        many : 1 < (entry (built G z) j).num
        many = subst (λ (t : Table). 1 < (entry t j).num) (sym (is z w.between)) w.many

        by : Known G z (entry (built G z) j) → points G ≤ (entry (built G z) j).id
        by (inl v) = absurd (let e = v.num in let m = many in omega arith)
        by (inr v) = v.above

    page : (limit offset : ℕ) →
        leaves_of (state_by G) (columns_by G l) (entry (table_at (state_by G) (columns_by G l) z) j).id limit offset ≡ told true
        (take limit (drop offset (lamps_of G z j)))
    page limit offset =
        subst (λ (t : Table). leaves_of S C (entry t j).id limit offset ≡ told true (take limit (drop offset (lamps_of G z j))))
        (is z w.between)
        (leaves-page G a l r z j w.between.low w.between.high place above limit offset)

    long : (entry (table_at (state_by G) (columns_by G l) z) j).num ≡ length (lamps_of G z j)
    long =
        subst (λ (t : Table). (entry t j).num ≡ length (lamps_of G z j)) (is z w.between)
        (lamps-long G a z w.between.low w.between.high j place)

  -- each lamp is listed once where j owns it
  owned : (z j : ℕ) → IsCluster (state_by G) (columns_by G l) z j → Owned (points G) (λ k. owner G z k) j (lamps_of G z j)
  owned z j w =
      record {
        each = λ k h. owns G a z w.between.low w.between.high k h j (place z j w);
        only = λ k h. owns_none G a z w.between.low w.between.high k h j (place z j w);
      }

  all-leaves : (z j limit : ℕ) → IsCluster (state_by G) (columns_by G l) z j → num_at (state_by G) (columns_by G l) z j ≤ limit
      → Leaves (state_by G) (columns_by G l) (λ k. owner G z k) z j limit
  all-leaves z j limit w h =
      let e = long z j w in
      let L = lamps_of G z j in
      let p : page_asked S C z j limit 0 ≡ told true L = page z j w limit 0 ∙ ap (told true) (take_all limit L (omega arith)) in
      record { lamps = L; given = p; long = sym e; owned = owned z j w; room = λ out n. fits e p out n }
    where
      fits : num_at S C z j ≡ length (lamps_of G z j) → page_asked S C z j limit 0 ≡ told true (lamps_of G z j) → (out : List ℕ)
          → num_at S C z j ≤ length out
          → (answer_of (page_asked S C z j limit 0) (length out) ≡ Ok (num_at S C z j))
          × (column_of (page_asked S C z j limit 0) out ≡ lamps_of G z j ++ drop (num_at S C z j) out)
      fits e p out n =
          let g = given-room _ (lamps_of G z j) out p (omega arith) in
          (g.0 ∙ ap (λ (m : ℕ). Ok m) (sym e), g.1 ∙ ap (λ (m : ℕ). lamps_of G z j ++ drop m out) (sym e))

  fewer : (z j m n offset : ℕ) → IsCluster (state_by G) (columns_by G l) z j → m ≤ n
      → (ls : List ℕ) × (page_asked (state_by G) (columns_by G l) z j n offset ≡ told true ls)
      × (page_asked (state_by G) (columns_by G l) z j m offset ≡ told true (take m ls))
  fewer z j m n offset w k =
      let L = drop offset (lamps_of G z j) in
      (take n L, page z j w n offset, page z j w m offset ∙ ap (told true) (sym (take-take m n L k)))

  -- the pages of a size, of a cluster
  module _ (z j size : ℕ) (w : IsCluster (state_by G) (columns_by G l) z j) where
    abbrev L : List ℕ
    L = lamps_of G z j

    at : (offset : ℕ) → lamps_of_cluster (state_by G) (columns_by G l) z j size offset ≡ take size (drop offset (lamps_of G z j))
    at offset = ap page_items (page z j w size offset)

    whole : all_leaves (state_by G) (columns_by G l) z j ≡ lamps_of G z j
    whole = ap page_items (page z j w (num_at S C z j) 0) ∙ take_all (num_at S C z j) L (let e = long z j w in omega arith)

    page-long : (k : ℕ) →
        length (leaf_page (state_by G) (columns_by G l) z j size k) ≡ min size (num_at (state_by G) (columns_by G l) z j - k * size)
    page-long k = ap length (at (k * size)) ∙ page-length size k L ∙ ap (λ (x : ℕ). min size (x - k * size)) (sym (long z j w))

    rest-long : (k rest : ℕ) → num_at (state_by G) (columns_by G l) z j ≡ k * size + rest → rest < size →
        length (leaf_page (state_by G) (columns_by G l) z j size k) ≡ rest
    rest-long k rest e h = page-long k ∙ ap (λ (x : ℕ). min size (x - k * size)) e ∙ short size (k * size) rest h
      where
        short : (n m r : ℕ) → r < n → min n (m + r - m) ≡ r
        short n m r h = omega arith

    past_end : (offset : ℕ) → num_at (state_by G) (columns_by G l) z j ≤ offset →
        page_asked (state_by G) (columns_by G l) z j size offset ≡ told true []
    past_end offset h =
        let d : drop offset L ≡ [] = drop_of_length-le L {i = offset} (let e = long z j w in omega arith) in
        page z j w size offset ∙ ap (λ (q : List ℕ). told true (take size q)) d ∙ ap (told true) (take-nil size)

    -- a page fits a column of the size, or of the count
    room : (offset : ℕ) (out : List ℕ) → min size (num_at (state_by G) (columns_by G l) z j) ≤ length out
        → length (lamps_of_cluster (state_by G) (columns_by G l) z j size offset) ≤ length out
    room offset out h =
        let e = ap length (at offset) in
        let d = length-take size (drop offset L) in
        let c = length-drop offset L in
        let n = long z j w in
        fewer-than size (num_at S C z j) offset (length out) (length L) (length (drop offset L)) _ n c (e ∙ d) h
      where
        fewer-than : (size num offset room all left got : ℕ) → num ≡ all → left ≡ all - offset → got ≡ min size left
            → min size num ≤ room → got ≤ room
        fewer-than size num offset room all left got n c d h = omega arith

    few : num_at (state_by G) (columns_by G l) z j ≤ 1048576
    few =
        let e = long z j w in
        let d = lamps-long G a z w.between.low w.between.high j (place z j w) in
        let n = num-owned G a z w.between.low w.between.high j (place z j w) in
        let v = ones-few (λ k. eqb (owner G z k) j) 0 (points G) in
        let u = a.few in
        omega arith

    on_one : (n k : ℕ) → num_at (state_by G) (columns_by G l) z j ≤ n * size → k < points G → owner G z k ≡ j
        → (i : ℕ) × (i < n) × OnPage k (λ m. leaf_page (state_by G) (columns_by G l) z j size m) i
    on_one n k h b u =
        lift (one-page k size n L (let e = long z j w in omega arith) ((owned z j w).each k b ∙ ap one_if (eq-eqb (owner G z k) j u)))
      where
        lift : ((i : ℕ) × (i < n) × OnPage k (λ m. page_of size m L) i) → (i : ℕ) × (i < n) × OnPage k (λ m. leaf_page S C z j size m) i
        lift (i, v, p) =
            let on : OnPage k (λ m. leaf_page S C z j size m) i = record {
              here = ap (count k) (at (i * size)) ∙ p.here;
              nowhere-else = λ m q. ap (count k) (at (m * size)) ∙ p.nowhere-else m q;
            } in
            (i, v, on)

    strangers : (k m : ℕ) → (m < points G → owner G z m ≡ j → ⊥) → count m (leaf_page (state_by G) (columns_by G l) z j size k) ≡ 0
    strangers k m h = ap (count m) (at (k * size)) ∙ none-on m size k L (⊎_elim within past (below m (points G)))
      where
        within : m < points G → count m L ≡ 0
        within b = (owned z j w).each m b ∙ ap one_if (ne_eqb (owner G z m) j (h b))

        past : points G ≤ m → count m L ≡ 0
        past b = (owned z j w).only m b

    turned : 1 ≤ size → LeafPages (state_by G) (columns_by G l) (λ k. owner G z k) z j size
    turned m =
        record {
          given = λ offset. page z j w size offset ∙ ap (told true) (sym (at offset));
          joined = λ n h. gather_ext _ _ (range 0 n) (λ k v. at (k * size))
              ∙ pages-joined size n L (let e = long z j w in omega arith) ∙ sym whole;
          long = page-long;
          last = rest-long;
          past = past_end;
          fits = λ k h. (let e = few in omega arith);
          stands = λ offset out h. given-room _ _ out (page z j w size offset ∙ ap (told true) (sym (at offset))) (room offset out h);
          once = on_one;
          no_other = strangers;
        }

  -- demand 3 of a build
  pub owners : Owners (state_by G) (columns_by G l) G.energies (owner G)
  owners =
      record {
        first = owner-first G;
        there = λ z k b h. subst (λ (t : Table). owner G z k < length t) (is z b) (owner-in G a z b.low b.high k h);
        climbs = climbing;
        counts = λ z j b h. subst (λ (t : Table). (entry t j).num ≡ sum (λ k. one_if (eqb (owner G z k) j)) (range 0 (points G))) (is z b)
            (num-owned G a z b.low b.high j (in-built z j b h));
        together = λ z b. subst (λ (t : Table). sum (λ j. (entry t j).num) (range 0 (length t)) ≡ points G) (is z b)
            (nums-together G a z b.low b.high);
        energy = λ z j b h. subst (λ (t : Table). (entry t j).energy ≡ sum (λ k. gate (eqb (owner G z k) j) (energy_at G k))
            (range 0 (points G))) (is z b) (energy-owned G a z b.low b.high j (in-built z j b h));
        energies = λ z b. subst (λ (t : Table). sum (λ j. (entry t j).energy) (range 0 (length t)) ≡ sum (energy_at G) (range 0 (points G)))
            (is z b) (energies-together G a z b.low b.high);
        light = energies-few G a;
        shares = λ z w k m b h e. owners-share G z w b.high h k m e;
        leaves = all-leaves;
        prefix = fewer;
        pages = λ z j size w h. turned z j size w h;
      }
    where
      climbing : (z k q : ℕ) → min_z G ≤ z → z ≤ max_z G → k < points G → q < length (table_at S C z)
          → ((entry (table_at S C z) q).id ≡ owner_up (entry (table_at S C (suc z)) (owner G (suc z) k))) ↔ (q ≡ owner G z k)
      climbing z k q h m n w =
          let b : Between S z = record { low = h; high = omega arith } in
          let d : Between S (suc z) = record { low = omega arith; high = omega arith } in
          subst (λ (t : Table). ((entry t q).id ≡ owner_up (entry (table_at S C (suc z)) (owner G (suc z) k))) ↔ (q ≡ owner G z k)) (is z b)
          (subst (λ (t : Table). ((entry (built G z) q).id ≡ owner_up (entry t (owner G (suc z) k))) ↔ (q ≡ owner G z k)) (is (suc z) d)
          (owner-climbs G a z h m k n q (in-built z q b w)))

-- ---- of every build that `load` accepts

-- what `load` replies and leaves has one owner for every lamp, where it replies no refusal
pub one-owner : (G : Given) (l : BuildColumns) (s : State) → (loaded_of G l).reply ≡ Ok s
    → Owners s (columns_of (loaded_of G l).columns) G.energies (owner G)
one-owner G l s e = of-load (λ s c. Owners s c G.energies (owner G)) G l (λ a r. owners G a l r) s e
