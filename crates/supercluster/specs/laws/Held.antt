-- The tables that a state says stand in the rows. Of a build these are its tables, each within the rows: `built-held`. Assumes nothing.
use Rattle.std.specs.Prelude.{Bool, true, false, ◌≡◌, refl, ℕ, zero, suc, ◌+◌, ◌-◌, ◌<◌, ◌≤◌, ltb, get_or, set, take, drop, replicate, Float}
use mathlib.Core.List.{List, [], ◌∷◌, ◌++◌, append_assoc}
use Rattle.std.proofs.Math.Path.{ap}
use Rattle.std.proofs.Common.{sym, ◌∙◌, subst, arith, ltb-true, ltb-false, length-append, length-drop, length-set, get_or-set_same, get_or-set_other, drop-drop}
use Rattle.std.proofs.Math.ListN.{length}
use Rattle.std.proofs.lemmas.List.{length-replicate}
use Rattle.std.proofs.Math.Seq.{drop-append_seam, take-append_seam}
use Rattle.build_tables.specs.Columns.{part, held_at}
use Rattle.build_tables.specs.Entries.{Table}
use Rattle.build_tables.specs.laws.Bounds.{options-are}
use Rattle.build_tables.specs.declared.Options.{Options}
use Rattle.build_tables.specs.declared.State.{State}
use Rattle.build_all_zooms.specs.Zooms.{joined, laid_over, starts, lens}
use Rattle.supercluster.specs.Build.{tables_of, built_state, BuildColumns, written}
use Rattle.supercluster.specs.laws.Over.{rows-over}
use Rattle.supercluster.specs.laws.Ready.{Accepted}
use Rattle.supercluster.specs.laws.Load.{rows_in}
use Rattle.supercluster.specs.laws.Right.{tables-count}

-- ---- definitions

-- the tables of k zooms, low the smallest, from the finest down
unfoldable pub held : List ℕ → List ℕ → Table → ℕ → ℕ → List Table
held ss ll t low zero = []
held ss ll t low (suc k) = held_at ss ll t (low + k) ∷ held ss ll t low k

-- all tables of a state
abbrev pub held_by : State → Table → List Table
held_by s t = held s.starts s.lens t s.options.min_zoom (s.options.max_zoom + 2 - s.options.min_zoom)

-- ---- a start and a length that are recorded stay so

starts-keep : (ts : List Table) (y at z : ℕ) (l : List ℕ) → y < z → get_or (starts y at ts l) z 0 ≡ get_or l z 0
unfolding starts
starts-keep [] y at z l h = refl
starts-keep (t ∷ ts) y at z l h = starts-keep ts (y - 1) (at + length t) z (set l y at) (omega arith)
    ∙ get_or-set_other l y z at 0 (λ e. omega arith)

lens-keep : (ts : List Table) (y z : ℕ) (l : List ℕ) → y < z → get_or (lens y ts l) z 0 ≡ get_or l z 0
unfolding lens
lens-keep [] y z l h = refl
lens-keep (t ∷ ts) y z l h = lens-keep ts (y - 1) z (set l y (length t)) (omega arith)
    ∙ get_or-set_other l y z (length t) 0 (λ e. omega arith)

-- what the table above these has
starts-above : (ts : List Table) (low at : ℕ) (l : List ℕ) → get_or (starts (low + length ts - 1) at ts l) (low + length ts) 0
    ≡ get_or l (low + length ts) 0
unfolding starts
starts-above [] low at l = refl
starts-above (t ∷ ts) low at l = starts-keep (t ∷ ts) (low + length (t ∷ ts) - 1) at (low + length (t ∷ ts)) l (omega arith)

lens-above : (ts : List Table) (low : ℕ) (l : List ℕ) → get_or (lens (low + length ts - 1) ts l) (low + length ts) 0
    ≡ get_or l (low + length ts) 0
unfolding lens
lens-above [] low l = refl
lens-above (t ∷ ts) low l = lens-keep (t ∷ ts) (low + length (t ∷ ts) - 1) (low + length (t ∷ ts)) l (omega arith)

-- ---- the tables, each in its place

-- ss and ll record the tables ts, low the smallest zoom: the first starts at `at`, and each where the one before ends
unfoldable pub LaidOut : List ℕ → List ℕ → ℕ → ℕ → List Table → Type 0
LaidOut ss ll low at [] = Unit
LaidOut ss ll low at (t ∷ ts) = (get_or ss (low + length ts) 0 ≡ at) × (get_or ll (low + length ts) 0 ≡ length t)
    × LaidOut ss ll low (at + length t) ts

laid : (ts : List Table) (low at : ℕ) (ss ll : List ℕ) → low + length ts ≤ length ss → low + length ts ≤ length ll
    → LaidOut (starts (low + length ts - 1) at ts ss) (lens (low + length ts - 1) ts ll) low at ts
unfolding starts lens LaidOut
laid [] low at ss ll hs hl = tt
laid (t ∷ ts) low at ss ll hs hl =
    let z = low + length ts in
    let top : z ≡ low + length (t ∷ ts) - 1 = omega arith in
    let ss' = set ss z at in
    let ll' = set ll z (length t) in
    let g = laid ts low (at + length t) ss' ll' (omega (arith, length-set ss z at)) (omega (arith, length-set ll z (length t))) in
    let s : get_or (starts (z - 1) (at + length t) ts ss') z 0 ≡ at = starts-above ts low (at + length t) ss'
    ∙ get_or-set_same ss z at 0 (omega arith) in
    let l : get_or (lens (z - 1) ts ll') z 0 ≡ length t = lens-above ts low ll' ∙ get_or-set_same ll z (length t) 0 (omega arith) in
    subst (λ (y : ℕ). LaidOut (starts y at (t ∷ ts) ss) (lens y (t ∷ ts) ll) low at (t ∷ ts)) top (s, l, g)

-- ss and ll give the tables ts back, low the smallest zoom, each within the rows R
pub record StandsBuilt (ss ll : List ℕ) (R : Table) (low : ℕ) (ts : List Table) : Type 0 where
  pub is : held ss ll R low (length ts) ≡ ts
  pub within : (z : ℕ) → low ≤ z → z < low + length ts → get_or ss z 0 + get_or ll z 0 ≤ length R

module _ (t : Table) (ts : List Table) (low at : ℕ) (ss ll : List ℕ) (R : Table) (s : get_or ss (low + length ts) 0 ≡ at)
    (l : get_or ll (low + length ts) 0 ≡ length t)
    (e : take (length t) (drop at R) ≡ t) (w : at + length t ≤ length R) (g : StandsBuilt ss ll R low ts) where
  within_by : (z : ℕ) → low ≤ z → z < low + length (t ∷ ts) → (b : Bool) → ltb z (low + length ts) ≡ b
      → get_or ss z 0 + get_or ll z 0 ≤ length R
  within_by z h k true q = g.within z h (ltb-true z (low + length ts) q)
  within_by z h k false q =
      let same : low + length ts ≡ z = omega (arith, ltb-false z (low + length ts) q) in
      subst (λ (y : ℕ). get_or ss y 0 + get_or ll y 0 ≤ length R) same (omega (arith, s, l))

  one_more : StandsBuilt ss ll R low (t ∷ ts)
  unfolding held
  one_more =
      let here : held_at ss ll R (low + length ts) ≡ t = ap (λ (k : ℕ). part k (get_or ll (low + length ts) 0) R) s
      ∙ ap (λ (k : ℕ). part at k R) l ∙ e in
      record {
        is = ap (λ (q : Table). q ∷ held ss ll R low (length ts)) here ∙ ap (λ (q : List Table). t ∷ q) g.is;
        within = λ z h k. within_by z h k (ltb z (low + length ts)) refl;
      }

stands : (ts : List Table) (low at : ℕ) (ss ll : List ℕ) (R rest : Table) → LaidOut ss ll low at ts → at ≤ length R
    → drop at R ≡ joined ts ++ rest → StandsBuilt ss ll R low ts
unfolding LaidOut joined held
stands [] low at ss ll R rest d h e = record { is = refl; within = λ z a b. absurd (omega arith) }
stands (t ∷ ts) low at ss ll R rest d h e =
    let e' : drop at R ≡ t ++ (joined ts ++ rest) = e ∙ append_assoc t (joined ts) rest in
    let long : length R - at ≡ length t + length (joined ts ++ rest) = sym (length-drop at R) ∙ ap length e'
    ∙ length-append t (joined ts ++ rest) in
    let after : drop (at + length t) R ≡ joined ts ++ rest = sym (drop-drop (length t) at R) ∙ ap (drop (length t)) e'
    ∙ drop-append_seam t (joined ts ++ rest) in
    one_more t ts low at ss ll R d.0 d.1 (ap (take (length t)) e' ∙ take-append_seam t (joined ts ++ rest)) (omega arith)
    (stands ts low (at + length t) ss ll R rest d.2 (omega arith) after)

-- ---- the tables of a build

module _ (o : Options) (xs ys : List Float) (ws : List ℕ) (a : Accepted o xs ys ws) where
  abbrev tables : List Table
  tables = tables_of o xs ys ws

  -- its state records them
  pub built-laid : LaidOut (built_state o (length xs) tables).starts (built_state o (length xs) tables).lens o.min_zoom 0 tables
  built-laid =
      let z = options-are o a.options in
      let n = tables-count o xs ys ws in
      let top : o.min_zoom + length tables - 1 ≡ o.max_zoom + 1 = omega (arith, z.zooms, n) in
      let room : o.min_zoom + length tables ≤ 32 = omega (arith, z.zooms, z.zoom-to, n) in
      let r = length-replicate {A = ℕ} 32 0 in
      subst (λ (y : ℕ). LaidOut (starts y 0 tables (replicate 32 0)) (lens y tables (replicate 32 0)) o.min_zoom 0 tables) top
      (laid tables o.min_zoom 0 (replicate 32 0) (replicate 32 0) (omega (arith, r)) (omega (arith, r)))

  module _ (l : BuildColumns) where
    rows_are : rows_in (written o.node_size (length xs) tables l) ≡ laid_over (joined tables) (rows_in l)
    unfolding written
    rows_are = rows-over (joined tables) l.table

    pub built-stands : (R : Table) → R ≡ laid_over (joined tables) (rows_in l)
        → StandsBuilt (built_state o (length xs) tables).starts (built_state o (length xs) tables).lens R o.min_zoom tables
    built-stands R e =
        stands tables o.min_zoom 0 (built_state o (length xs) tables).starts (built_state o (length xs) tables).lens R
        (drop (length (joined tables)) (rows_in l)) built-laid (omega arith) e

    -- all of them, and each within the rows
    pub built-held : held_by (built_state o (length xs) tables) (rows_in (written o.node_size (length xs) tables l)) ≡ tables
    built-held =
        let z = options-are o a.options in
        let n : length tables ≡ o.max_zoom + 2 - o.min_zoom = omega (arith, z.zooms, tables-count o xs ys ws) in
        let R = rows_in (written o.node_size (length xs) tables l) in
        ap (held (built_state o (length xs) tables).starts (built_state o (length xs) tables).lens R o.min_zoom) (sym n)
        ∙ (built-stands R rows_are).is

    pub built-within : (z : ℕ) → o.min_zoom ≤ z → z < o.max_zoom + 2
        → get_or (built_state o (length xs) tables).starts z 0 + get_or (built_state o (length xs) tables).lens z 0
        ≤ length (rows_in (written o.node_size (length xs) tables l))
    built-within z h k =
        let b = options-are o a.options in
        (built-stands (rows_in (written o.node_size (length xs) tables l)) rows_are).within z h
        (omega (arith, b.zooms, tables-count o xs ys ws))
