-- Where the places of a table go in one zoom, and where those of the next table are from. A place is copied to one place of the next
-- table, or joined with others into a cluster there; a place of the next table is the copy of one place, or the cluster made at one. No
-- place goes to two. Assumes nothing.
use Rattle.std.specs.Prelude.{◌≡◌, refl, ◌⊎◌, List, [], ◌∷◌, map, ℕ, zero, suc, ◌≤◌, ◌<◌, eqb, length, get_or}
use Rattle.std.proofs.Common.{sym, ap, ◌∙◌, subst, inl, inr, ⊎_elim, arith}
use Rattle.std.proofs.lemmas.List.{length-map}
use Rattle.kdslots.specs.laws.All.{all_get_d}
use Rattle.build_tables.specs.declared.Entry.{Entry}
use Rattle.build_tables.specs.Entries.{Table, entry, none, never, unset, marked}
use Rattle.build_tables.specs.Ids.{cluster_id}
use Rattle.law_groups.specs.Sums.{one_if, count}
use Rattle.law_groups.specs.laws.Sums.{hit, below, count_head, sum-append}
use Rattle.law_groups.specs.Groups.{Group, copied, joined_group, entry_of, from, froms, took}
use Rattle.law_groups.specs.laws.Literal.{next-entry}
use Rattle.law_groups.specs.laws.OneZoom.{Copied, Joined, FitsZoom, OneZoom}

-- the group at j
abbrev pub group_at : List Group → ℕ → Group
group_at gs j = get_or gs j (copied 0 none)

-- ---- a place in a list of groups

-- a place of the groups is in one of them
find : (k : ℕ) (gs : List Group) → 0 < count k (froms gs) → (j : ℕ) × (j < length gs) × (0 < count k (from (group_at gs j)))
find k [] h = absurd (omega arith)
find k (g ∷ gs) h = ⊎_elim (λ a. (0, omega arith, a)) (λ a. later a (find k gs)) (below 0 (count k (from g)))
  where
    later : count k (from g) ≤ 0 → (0 < count k (froms gs) → (j : ℕ) × (j < length gs) × (0 < count k (from (group_at gs j)))) →
        (j : ℕ) × (j < length (g ∷ gs)) × (0 < count k (from (group_at (g ∷ gs) j)))
    later a ih = let s = sum-append (λ x. one_if (eqb k x)) (from g) (froms gs) in let w = ih (omega arith) in
        (suc w.0, (let l = w.1 in omega arith), w.2)

-- what is in one of them is in the groups
inside : (k : ℕ) (gs : List Group) (j : ℕ) → j < length gs → count k (from (group_at gs j)) ≤ count k (froms gs)
inside k [] j h = absurd (omega arith)
inside k (g ∷ gs) zero h = let s = sum-append (λ x. one_if (eqb k x)) (from g) (froms gs) in omega arith
inside k (g ∷ gs) (suc j) h = let s = sum-append (λ x. one_if (eqb k x)) (from g) (froms gs) in let w = inside k gs j (omega arith) in
    omega arith

-- and where it is in the groups once, in no other
sole-at : (k : ℕ) (gs : List Group) → count k (froms gs) ≤ 1 → (a b : ℕ) → a < length gs → b < length gs → 0 < count k (from (group_at gs a))
    → 0 < count k (from (group_at gs b)) → a ≡ b
sole-at k [] c a b h l p q = absurd (omega arith)
sole-at k (g ∷ gs) c zero zero h l p q = refl
sole-at k (g ∷ gs) c zero (suc b) h l p q =
    absurd (let s = sum-append (λ x. one_if (eqb k x)) (from g) (froms gs) in let w = inside k gs b (omega arith) in omega arith)
sole-at k (g ∷ gs) c (suc a) zero h l p q =
    absurd (let s = sum-append (λ x. one_if (eqb k x)) (from g) (froms gs) in let w = inside k gs a (omega arith) in omega arith)
sole-at k (g ∷ gs) c (suc a) (suc b) h l p q =
    let s = sum-append (λ x. one_if (eqb k x)) (from g) (froms gs) in
    ap suc (sole-at k gs (omega arith) a b (omega arith) (omega arith) p q)

-- ---- one zoom z of a build of n points: T came to it, T' is what it left of T, U is the next table, the entries of the groups gs

module _ (n z : ℕ) (T T' U : Table) (gs : List Group) where
  -- the place k is copied to the place j
  pub record Stays (k j : ℕ) : Type 0 where
    pub to : j < length U
    pub finer : entry T' k ≡ marked z (entry T k)
    pub copy : entry U j ≡ marked z (entry T k)

  -- the place k goes into the cluster made at the place i, which stands at j; so does i itself
  pub record Goes (k i j : ℕ) : Type 0 where
    pub to : j < length U
    pub origin : i < length T
    pub finer : entry T' k ≡ took z (cluster_id n z i) (entry T k)
    pub origin-finer : entry T' i ≡ took z (cluster_id n z i) (entry T i)
    pub id : (entry U j).id ≡ cluster_id n z i

  -- where the place k goes
  abbrev pub WentOn : ℕ → Type 0
  WentOn k = ((j : ℕ) × Stays k j) ⊎ ((i : ℕ) × (j : ℕ) × Goes k i j)

  -- the place j of the next table is the copy of the place k
  pub record KeptPlace (j k : ℕ) : Type 0 where
    pub place : k < length T
    pub has : 0 < count k (from (group_at gs j))
    pub copy : entry U j ≡ marked z (entry T k)

  -- it is the cluster made at the place i
  pub record MadePlace (j i : ℕ) : Type 0 where
    pub place : i < length T
    pub has : 0 < count i (from (group_at gs j))
    pub id : (entry U j).id ≡ cluster_id n z i
    pub seen : (entry U j).seen ≡ never
    pub parent : (entry U j).parent ≡ unset
    pub beyond : (entry T i).num < (entry U j).num
    pub origin-finer : entry T' i ≡ took z (cluster_id n z i) (entry T i)

  -- where the place j of the next table is from
  abbrev pub Arose : ℕ → Type 0
  Arose j = ((k : ℕ) × KeptPlace j k) ⊎ ((i : ℕ) × MadePlace j i)

module _ (n least z : ℕ) (near : ℕ → List ℕ) (T T' U : Table) (gs : List Group) (Z : OneZoom n least z near T T' gs)
    (u : U ≡ map entry_of gs) where
  at-most-once : (k : ℕ) → count k (froms gs) ≤ 1
  at-most-once k = ⊎_elim (λ h. let a = Z.once k h in omega arith) (λ h. let a = Z.none k h in omega arith) (below k (length T))

  long : length U ≡ length gs
  long = ap length u ∙ length-map gs entry_of

  -- no place is in two groups
  pub sole : (k a b : ℕ) → a < length U → b < length U → 0 < count k (from (group_at gs a)) → 0 < count k (from (group_at gs b)) → a ≡ b
  sole k a b h l = let w = long in sole-at k gs (at-most-once k) a b (omega arith) (omega arith)

  fit_at : (j : ℕ) → j < length U → FitsZoom n least z near T T' (group_at gs j)
  fit_at j h = all_get_d (FitsZoom n least z near T T') gs j (copied 0 none) Z.fit (let w = long in omega arith)

  is-entry : (j : ℕ) → j < length U → entry U j ≡ entry_of (group_at gs j)
  is-entry j h = ap (λ (q : Table). entry q j) u ∙ next-entry gs (copied 0 none) j (let w = long in omega arith)

  self : (k x : ℕ) → 0 < count k (x ∷ []) → x ≡ k
  self k x h = ⊎_elim (λ e. sym e.0) (λ e. absurd (let w = e.1 in omega arith)) (hit k x)

  pub went : (k : ℕ) → k < length T → WentOn n z T T' U gs k
  went k h = let w = find k gs (let a = Z.once k h in omega arith) in by w.0 (let a = w.1 in let b = long in omega arith) w.2
      (group_at gs w.0) refl
    where
      by : (j : ℕ) → j < length U → 0 < count k (from (group_at gs j)) → (g : Group) → group_at gs j ≡ g → WentOn n z T T' U gs k
      by j l c (copied x e) q =
          let f : Copied n least z near T T' x e = subst (λ (g : Group). FitsZoom n least z near T T' g) q (fit_at j l) in
          let s : x ≡ k = self k x (subst (λ (g : Group). 0 < count k (from g)) q c) in
          let m = is-entry j l ∙ ap entry_of q ∙ f.same in
          inl (
            j,
            record {
              to = l;
              finer = subst (λ (y : ℕ). entry T' y ≡ marked z (entry T y)) s f.finer;
              copy = m ∙ ap (λ (y : ℕ). marked z (entry T y)) s;
            },
          )
      by j l c (joined_group i ks e) q =
          let f : Joined n least z near T T' i ks e = subst (λ (g : Group). FitsZoom n least z near T T' g) q (fit_at j l) in
          let s : 0 < count k ks = subst (λ (g : Group). 0 < count k (from g)) q c in
          inr (
            i,
            j,
            record {
              to = l;
              origin = f.place;
              finer = f.finer k s;
              origin-finer = f.finer i (let w = f.has in omega arith);
              id = ap (λ (x : Entry). x.id) (is-entry j l ∙ ap entry_of q) ∙ f.made-id;
            },
          )

  pub arose : (j : ℕ) → j < length U → Arose n z T T' U gs j
  arose j l = by (group_at gs j) refl
    where
      by : (g : Group) → group_at gs j ≡ g → Arose n z T T' U gs j
      by (copied k e) q =
          let f : Copied n least z near T T' k e = subst (λ (g : Group). FitsZoom n least z near T T' g) q (fit_at j l) in
          let h : 0 < count k (k ∷ []) = count_head k [] in
          inl (
            k,
            record {
              place = f.place;
              has = subst (λ (g : Group). 0 < count k (from g)) (sym q) h;
              copy = is-entry j l ∙ ap entry_of q
                  ∙ f.same;
            },
          )
      by (joined_group i ks e) q =
          let f : Joined n least z near T T' i ks e = subst (λ (g : Group). FitsZoom n least z near T T' g) q (fit_at j l) in
          let m : entry U j ≡ e = is-entry j l ∙ ap entry_of q in
          let h : 0 < count i ks = let w = f.has in omega arith in
          inr (
            i,
            record {
              place = f.place;
              has = subst (λ (g : Group). 0 < count i (from g)) (sym q) h;
              id = ap (λ (x : Entry). x.id) m ∙ f.made-id;
              seen = ap (λ (x : Entry). x.seen) m ∙ f.made-seen;
              parent = ap (λ (x : Entry). x.parent) m ∙ f.made-parent;
              beyond = subst (λ (x : Entry). (entry T i).num < x.num) (sym m) f.beyond;
              origin-finer = f.finer i h;
            },
          )
