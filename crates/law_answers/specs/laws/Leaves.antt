-- Of a build that is accepted, of each of its clusters: its leaves are its lamps after the first `offset`, as many as the limit, with
-- limit 0 none. So a larger limit never changes what a smaller one listed. Assumes nothing.
use Rattle.std.specs.Prelude.{◌≡◌, Bool, true, false, List, [], ◌∷◌, ◌++◌, ℕ, zero, suc, ◌+◌, ◌-◌, ◌<◌, ◌≤◌, eqb, length, take, drop}
use Rattle.std.proofs.Math.Path.{ap}
use Rattle.std.proofs.Common.{ap₂, sym, ◌∙◌, subst, append-nil, arith, drop_of_length-le}
use borrow.Author.Tests.{ne_eqb}
use Rattle.std.proofs.Math.Seq.{take-nil}
use Rattle.build_tables.specs.declared.State.{State}
use Rattle.build_tables.specs.Entries.{entry}
use Rattle.build_tables.specs.Ids.{origin_of, table_of}
use Rattle.law_groups.specs.Sums.{one_if, sum, range}
use Rattle.ask_base.specs.Asked.{told}
use Rattle.build_tables.specs.Room.{Columns}
use Rattle.ask_base.specs.Ids.{Target}
use Rattle.ask_cluster.specs.Children.{at_target}
use Rattle.ask_cluster.specs.Leaves.{Trip, went, leaf_walk, leaves_listed, leaves_at, leaves_of}
use Rattle.supercluster.specs.Build.{BuildColumns, need}
use Rattle.supercluster.specs.laws.Load.{Holds}
use Rattle.law_builds.specs.Given.{Given, AcceptedBuild, points, min_z, max_z}
use Rattle.law_builds.specs.Came.{table_of_zoom as built}
use Rattle.law_lamps.specs.Owner.{lamps_of, owner}
use Rattle.law_lamps.specs.laws.Carries.{lamps-long, num-owned}
use Rattle.law_answers.specs.laws.Stored.{state_by, columns_by}
use Rattle.law_answers.specs.laws.Clusters.{target_is, no-spoiled-slot, not-childless}
use Rattle.law_answers.specs.laws.Page.{skipped_by, listed_by, paged, Going, listed-most, paged-none, paged-more, paged-full}
use Rattle.law_answers.specs.laws.Page.{paged-going}
use Rattle.law_answers.specs.laws.Walks.{Rules, walks}

-- ---- what a walk comes to, by its limit and offset

-- two trips that went the same way
same-n : (m n : ℕ) (p q : List ℕ) → went m p ≡ went n q → m ≡ n
same-n m n p q e = cc e

same_out : (m n : ℕ) (p q : List ℕ) → went m p ≡ went n q → p ≡ q
same_out m n p q e = cc e

-- of a walk, which has a limit of 1 or more: the page
module _ (limit offset : ℕ) where
  abbrev Pages : ℕ → List ℕ → List ℕ → Trip → Type 0
  Pages n out ls t = t ≡ paged limit offset n out ls

  skips : (n : ℕ) (out ls : List ℕ) → n + length ls ≤ offset → went (n + length ls) out ≡ paged limit offset n out ls
  skips n out ls h =
      let e : n + length ls ≡ skipped_by limit offset n ls = omega arith in
      let d : drop (offset - n) ls ≡ [] = drop_of_length-le ls {i = offset - n} (omega arith) in
      ap₂ went e (sym (ap (λ (q : List ℕ). out ++ take (limit - length out) q) d
      ∙ ap (λ (q : List ℕ). out ++ q) (take-nil (limit - length out)) ∙ append-nil out))

  lists : (n : ℕ) (out : List ℕ) (id : ℕ) → Going limit offset n out → offset ≤ n
      → went n (out ++ (id ∷ [])) ≡ paged limit offset n out (id ∷ [])
  lists n out id g h =
      let v = g.few in
      let u = g.most in
      let e : n ≡ skipped_by limit offset n (id ∷ []) = omega arith in
      let z : offset - n ≡ 0 = omega arith in
      let m : limit - length out ≡ suc (limit - length out - 1) = omega arith in
      ap₂ went e (sym (ap₂ (λ (p s : ℕ). out ++ take p (drop s (id ∷ []))) m z
      ∙ ap (λ (t : List ℕ). out ++ (id ∷ t)) (take-nil (limit - length out - 1))))

  page-rules : Rules limit offset (Going limit offset) Pages
  page-rules =
      record {
        whole = λ n out ls t e. (skipped_by limit offset n ls, listed_by limit offset n out ls, e);
        none = λ n out g. sym (paged-none limit offset n out g.most);
        skip = λ n out ls g s h. skips n out ls h;
        list = lists;
        stop = λ n out ls ms m p g s e f. e ∙ paged-full limit offset n out ls ms g (ap length (sym (same_out _ _ _ _ e)) ∙ f);
        go = λ n out ls m p g s e f. (
          subst (λ (x : ℕ). Going limit offset x p) (sym (same-n _ _ _ _ e))
              (subst (λ (x : List ℕ). Going limit offset (skipped_by limit offset n ls) x) (sym (same_out _ _ _ _ e))
              (paged-going limit offset n out ls g (λ w. f (ap length (same_out _ _ _ _ e) ∙ w)))),
          (let w = ap length (same_out _ _ _ _ e) in let v = listed-most limit offset n out ls in omega arith),
        );
        more = λ n out ls ms m p t g s e f w. w
            ∙ ap₂ (λ (x : ℕ) (y : List ℕ). paged limit offset x y ms) (same-n _ _ _ _ e) (same_out _ _ _ _ e)
            ∙ paged-more limit offset n out ls ms g.most;
      }

-- ---- the leaves of a cluster

pub ones-few : (p : ℕ → Bool) (lo n : ℕ) → sum (λ k. one_if (p k)) (range lo n) ≤ n
ones-few p lo zero = omega arith
ones-few p lo (suc n) = let a = ones-few p (suc lo) n in let b = few (p lo) in omega arith
  where
    few : (b : Bool) → one_if b ≤ 1
    few true = omega arith
    few false = omega arith

module _ (G : Given) (a : AcceptedBuild G) (l : BuildColumns) (r : Holds (need G.options (points G)) l)
    (z j : ℕ) (h : min_z G ≤ z) (k : z ≤ max_z G + 1) (q : j < length (built G z)) (b : points G ≤ (entry (built G z) j).id) where
  abbrev S : State
  S = state_by G

  abbrev C : Columns
  C = columns_by G l

  abbrev Id : ℕ
  Id = (entry (built G z) j).id

  abbrev Ls : List ℕ
  Ls = lamps_of G z j

  -- not more than there are lamps
  few : 0 + length (lamps_of G z j) ≤ points G
  few =
      let e = lamps-long G a z h k j q in
      let d = num-owned G a z h k j q in
      let w = ones-few (λ i. eqb (owner G z i) j) 0 (points G) in
      omega arith

  deep : 32 ≤ 32 + table_of (points G) (entry (built G z) j).id
  deep = omega arith

  module _ (limit offset : ℕ) where
    abbrev walked : Trip
    walked = leaf_walk (state_by G) (columns_by G l) limit offset 32 Id (table_of (points G) Id) (origin_of (points G) Id) 0 []

    leaves_by : (limit ≡ 0 → ⊥) → leaves_of (state_by G) (columns_by G l) (entry (built G z) j).id limit offset ≡ leaves_listed walked
    unfolding leaves_of leaves_at
    leaves_by m =
        ap (λ (t : Target). at_target t (λ u i. leaves_at S C Id limit offset u i)) (target_is G a l r z j h k q b)
        ∙ rw (not-childless G a l r z j h k q b, ne_eqb limit 0 m)

  -- limit 0: nothing
  leaves_none : (offset : ℕ) → leaves_of (state_by G) (columns_by G l) (entry (built G z) j).id 0 offset ≡ told true []
  unfolding leaves_of leaves_at
  leaves_none offset =
      ap (λ (t : Target). at_target t (λ u i. leaves_at S C Id 0 offset u i)) (target_is G a l r z j h k q b)
      ∙ rw (not-childless G a l r z j h k q b) (ap (λ (c : Bool). told c []) (no-spoiled-slot G a l r z j h k q b))

  leaves-some : (limit offset : ℕ) → 1 ≤ limit
      → leaves_of (state_by G) (columns_by G l) (entry (built G z) j).id limit offset ≡ told true (take limit (drop offset (lamps_of G z j)))
  leaves-some limit offset m =
      let w = walks G a l r limit offset (Going limit offset) (Pages limit offset) (page-rules limit offset) 32 z j h k q b deep 0 []
      (record { few = m; most = omega arith; begun = λ v. absurd (omega arith) }) few in
      let e : limit - 0 ≡ limit = omega arith in
      let d : offset - 0 ≡ offset = omega arith in
      leaves_by limit offset (λ n. omega arith) ∙ ap leaves_listed w ∙ ap (told true) (ap₂ (λ (x y : ℕ). take x (drop y Ls)) e d)

  -- every limit: after the first `offset`, up to the limit
  pub leaves-page : (limit offset : ℕ) →
      leaves_of (state_by G) (columns_by G l) (entry (built G z) j).id limit offset ≡ told true (take limit (drop offset (lamps_of G z j)))
  leaves-page zero offset = leaves_none offset
  leaves-page (suc m) offset = leaves-some (suc m) offset (omega arith)
