-- Tables that stand behind each other in a column of energies: if each can be mended, the column can, and is then that of the mended
-- tables.
-- Assumes nothing.
use Rattle.std.specs.Prelude.{◌≡◌, Bool, ◌&&◌, get_or, set}
use Rattle.std.proofs.Math.Path.{refl, sym, ap, ap₂, subst}
use Rattle.std.proofs.Common.{◌∙◌, zero-add, suc-add, length-append, get_or-append-add}
use Rattle.std.proofs.Math.Bool.{true}
use mathlib.Core.List.{List, [], ◌∷◌, ◌++◌, append_assoc}
use Prim.Native.Nat.{ℕ, suc, ◌+◌, ◌-◌, ◌^◌, ◌<◌, ◌≤◌}
use native.Mathlib.Omega.{arith}
use borrow.Author.Tests.{lt-ltb, le-leb}
use Rattle.std.proofs.Math.ListN.{length, length-set, length-map, get_or-append}
use Rattle.std.proofs.lemmas.List.{set-append_left}
use Rattle.build_tables.specs.declared.State.{State}
use Rattle.build_tables.specs.State.{start_of, len_of}
use Rattle.build_tables.specs.Entries.{Table, energies_of}
use Rattle.build_all_zooms.specs.Zooms.{joined}
use Rattle.supercluster.specs.laws.Held.{LaidOut}
use Rattle.supercluster.specs.laws.Over.{map-append}
use Rattle.posting.specs.Post.{owner_by, sum_spot, replaced, mends, mendable, mended_at, mended}

-- what stands in the first of the tables
pub finest-reads : (s : State) (ts : List Table) (A R : List ℕ) (top : ℕ)
    → LaidOut s.starts s.lens s.options.min_zoom (length A) ts → s.options.min_zoom + length ts ≡ suc top
    → (p : ℕ) → p < length (get_or ts 0 [])
    → get_or (A ++ (energies_of (joined ts) ++ R)) (start_of s top + p) 0 ≡ get_or (energies_of (get_or ts 0 [])) p 0
unfolding LaidOut joined
finest-reads s [] A R top d e p h = absurd (omega arith)
finest-reads s (t ∷ ts) A R top d e p h =
    let n : top ≡ s.options.min_zoom + length ts = omega arith in
    let m = length-map t (λ e. e.energy) in
    ap (λ (k : ℕ). get_or (A ++ (energies_of (t ++ joined ts) ++ R)) (start_of s k + p) 0) n
    ∙ ap (λ (k : ℕ). get_or (A ++ (energies_of (t ++ joined ts) ++ R)) (k + p) 0) d.0
    ∙ get_or-append-add A (energies_of (t ++ joined ts) ++ R) p 0
    ∙ ap (λ (q : List ℕ). get_or q p 0) (ap (λ (q : List ℕ). q ++ R) (map-append (λ e. e.energy) t (joined ts))
    ∙ append_assoc (energies_of t) (energies_of (joined ts)) R)
    ∙ get_or-append (energies_of t) (energies_of (joined ts) ++ R) 0 p (omega (arith, h, m))

-- a store behind the first list
set-behind : {A : Type 0} (xs ys : List A) (n : ℕ) (a : A) → set (xs ++ ys) (length xs + n) a ≡ xs ++ set ys n a
set-behind [] ys n a = ap (λ (k : ℕ). set ys k a) (zero-add n)
set-behind {A} (x ∷ xs) ys n a =
    ap (λ (k : ℕ). set (x ∷ (xs ++ ys)) k a) (suc-add (length xs) n) ∙ ap (λ (r : List A). x ∷ r) (set-behind xs ys n a)

module _ (s : State) (owners : List ℕ) (lamp before figure : ℕ) where
  -- the energies of u are those of t, the table of zoom z, with the sum of the lamp's owner mended, which takes the figure
  pub record MendedTable (z : ℕ) (t u : Table) : Type 0 where
    pub place : owner_by s owners lamp z < length t
    pub has : before ≤ get_or (energies_of t) (owner_by s owners lamp z) 0
    pub fits : replaced before figure (get_or (energies_of t) (owner_by s owners lamp z) 0) < 2 ^ 64
    pub is : energies_of u
        ≡ set (energies_of t) (owner_by s owners lamp z) (replaced before figure (get_or (energies_of t) (owner_by s owners lamp z) 0))

  -- each of the tables, the last that of min_zoom
  unfoldable pub Mended : List Table → List Table → Type 0
  Mended [] [] = Unit
  Mended [] (u ∷ us) = ⊥
  Mended (t ∷ ts) [] = ⊥
  Mended (t ∷ ts) (u ∷ us) = MendedTable (s.options.min_zoom + length ts) t u × Mended ts us

  -- from one table to all
  pub all-mended : (ts us : List Table) → length us ≡ length ts
      → ((i : ℕ) → i < length ts → MendedTable (s.options.min_zoom + (length ts - 1 - i)) (get_or ts i []) (get_or us i []))
      → Mended ts us
  unfolding Mended
  all-mended [] [] e h = tt
  all-mended [] (u ∷ us) e h = absurd (omega arith)
  all-mended (t ∷ ts) [] e h = absurd (omega arith)
  all-mended (t ∷ ts) (u ∷ us) e h =
      let low = s.options.min_zoom in
      let n : low + (length (t ∷ ts) - 1 - 0) ≡ low + length ts = omega arith in
      (subst (λ (z : ℕ). MendedTable z t u) n (h 0 (omega arith)), all-mended ts us (omega arith) (λ i k. rest i k))
    where
      rest : (i : ℕ) → i < length ts → MendedTable (s.options.min_zoom + (length ts - 1 - i)) (get_or ts i []) (get_or us i [])
      rest i k =
          let low = s.options.min_zoom in
          let n : low + (length (t ∷ ts) - 1 - suc i) ≡ low + (length ts - 1 - i) = omega arith in
          subst (λ (z : ℕ). MendedTable z (get_or ts i []) (get_or us i [])) n (h (suc i) (omega arith))

  -- ---- the column, A in front of the tables and R behind them

  joined-energies : (t : Table) (ts : List Table) (R : List ℕ)
      → energies_of (joined (t ∷ ts)) ++ R ≡ energies_of t ++ (energies_of (joined ts) ++ R)
  unfolding joined
  joined-energies t ts R =
      ap (λ (q : List ℕ). q ++ R) (map-append (λ e. e.energy) t (joined ts)) ∙ append_assoc (energies_of t) (energies_of (joined ts)) R

  -- what stands at the spot of a table that starts behind A
  spot-reads : (z : ℕ) (t : Table) (A X : List ℕ) → start_of s z ≡ length A → owner_by s owners lamp z < length t
      → get_or (A ++ (energies_of t ++ X)) (sum_spot s owners lamp z) 0 ≡ get_or (energies_of t) (owner_by s owners lamp z) 0
  spot-reads z t A X e h =
      let p = owner_by s owners lamp z in
      ap (λ (k : ℕ). get_or (A ++ (energies_of t ++ X)) (k + p) 0) e ∙ get_or-append-add A (energies_of t ++ X) p 0
      ∙ get_or-append (energies_of t) X 0 p (omega (arith, h, length-map t (λ e. e.energy)))

  pub mendable-column : (ts us : List Table) (A R : List ℕ)
      → LaidOut s.starts s.lens s.options.min_zoom (length A) ts → Mended ts us
      → mendable s owners lamp before figure (A ++ (energies_of (joined ts) ++ R)) (length ts) ≡ true
  unfolding mendable Mended LaidOut
  mendable-column [] [] A R d m = refl
  mendable-column [] (u ∷ us) A R d m = absurd m
  mendable-column (t ∷ ts) [] A R d m = absurd m
  mendable-column (t ∷ ts) (u ∷ us) A R d m =
      let z = s.options.min_zoom + length ts in
      let X = energies_of (joined ts) ++ R in
      let w = m.0 in
      let n = length-map t (λ e. e.energy) in
      let v = spot-reads z t A X d.0 w.place in
      let here : mends s owners lamp before figure (A ++ (energies_of t ++ X)) z ≡ true =
      rw (lt-ltb (owner_by s owners lamp z) (len_of s z) (omega (arith, w.place, d.1)), v, le-leb _ _ w.has, lt-ltb _ _ w.fits)
      refl in
      let next = subst (λ (k : ℕ). LaidOut s.starts s.lens s.options.min_zoom k ts)
      (sym (length-append A (energies_of t) ∙ ap (λ (k : ℕ). length A + k) n)) d.2 in
      let rest = mendable-column ts us (A ++ energies_of t) R next m.1 in
      ap (λ (e : List ℕ). mendable s owners lamp before figure (A ++ e) (length (t ∷ ts))) (joined-energies t ts R)
      ∙ ap₂ (λ (b c : Bool). b && c) here
      (ap (λ (e : List ℕ). mendable s owners lamp before figure e (length ts)) (sym (append_assoc A (energies_of t) X)) ∙ rest)

  -- one table mended
  mended-spot : (z : ℕ) (t u : Table) (A X : List ℕ) → start_of s z ≡ length A → MendedTable z t u
      → mended_at s owners lamp before figure (A ++ (energies_of t ++ X)) z ≡ A ++ (energies_of u ++ X)
  mended-spot z t u A X e m =
      let p = owner_by s owners lamp z in
      let E = A ++ (energies_of t ++ X) in
      let v = replaced before figure (get_or (energies_of t) p 0) in
      ap (λ (x : ℕ). set E (sum_spot s owners lamp z) (replaced before figure x)) (spot-reads z t A X e m.place)
      ∙ ap (λ (k : ℕ). set E (k + p) v) e ∙ set-behind A (energies_of t ++ X) p v
      ∙ ap (λ (q : List ℕ). A ++ q) (set-append_left (energies_of t) X p v (omega (arith, m.place, length-map t (λ e. e.energy)))
      ∙ ap (λ (q : List ℕ). q ++ X) (sym m.is))

  pub mended-column : (ts us : List Table) (A R : List ℕ)
      → LaidOut s.starts s.lens s.options.min_zoom (length A) ts → Mended ts us
      → mended s owners lamp before figure (A ++ (energies_of (joined ts) ++ R)) (length ts) ≡ A ++ (energies_of (joined us) ++ R)
  unfolding mended Mended LaidOut
  mended-column [] [] A R d m = refl
  mended-column [] (u ∷ us) A R d m = absurd m
  mended-column (t ∷ ts) [] A R d m = absurd m
  mended-column (t ∷ ts) (u ∷ us) A R d m =
      let z = s.options.min_zoom + length ts in
      let X = energies_of (joined ts) ++ R in
      let w = m.0 in
      let n : length (energies_of u) ≡ length t = ap length w.is ∙ length-set (energies_of t) _ _ ∙ length-map t (λ e. e.energy) in
      let next = subst (λ (k : ℕ). LaidOut s.starts s.lens s.options.min_zoom k ts)
      (sym (length-append A (energies_of u) ∙ ap (λ (k : ℕ). length A + k) n)) d.2 in
      ap (λ (e : List ℕ). mended s owners lamp before figure (A ++ e) (length (t ∷ ts))) (joined-energies t ts R)
      ∙ ap (λ (e : List ℕ). mended s owners lamp before figure e (length ts))
      (mended-spot z t u A X d.0 w ∙ sym (append_assoc A (energies_of u) X))
      ∙ mended-column ts us (A ++ energies_of u) R next m.1
      ∙ append_assoc A (energies_of u) (energies_of (joined us) ++ R)
      ∙ ap (λ (e : List ℕ). A ++ e) (sym (joined-energies u us R))
